-- The definitions of lower crates that this crate's definitions use.
pub use Rattle.geos_flow.specs.Edges.{end_of, end_in}
pub use Rattle.geos_flow.specs.Flow.{step_by, Leads as IsLedFrom, Leads}
pub use Rattle.geos_flow.specs.Graphs.{IsInto}
pub use Rattle.geos_flow.specs.Marks.{is_marked}
pub use Rattle.geos_flow.specs.Waiting.{Has}
pub use Rattle.geos_flow.specs.declared.edge.Edge.{Edge}
pub use Rattle.geos_flow.specs.declared.search.Heading.{Heading}
pub use Rattle.geos_flow.specs.declared.search.Heading.TheVariants.{Back, Ahead}
pub use Rattle.geos_image.specs.Fields.{FieldsFit, CalleeFits}
pub use Rattle.geos_image.specs.Keys.{falls_through, branches}
pub use Rattle.geos_image.specs.Legal.{is_shaped, is_image, is_own}
pub use Rattle.geos_image.specs.Open.{open_row}
pub use Rattle.geos_image.specs.Parts.{Parts, start_of}
pub use Rattle.geos_image.specs.declared.instr.Instr.{Instr}
pub use Rattle.geos_image.specs.declared.point.Point.{Point}
pub use Rattle.geos_image.specs.declared.potential.Potential.{Potential}
pub use Rattle.geos_image.specs.declared.routine.Routine.{Routine}
pub use Rattle.geos_image.specs.declared.row.Pointer.{Pointer}
pub use Rattle.geos_image.specs.declared.row.Row.{Row}
pub use Rattle.geos_image.specs.declared.row.SlotState.{SlotState}
pub use Rattle.geos_image.specs.declared.row.SlotState.TheVariants.{Empty, Vm}
pub use Rattle.geos_listing.specs.Instrs.{KeepsLimits}
pub use Rattle.geos_opcodes.specs.Facts.{operands_of, uses_of, facts}
pub use Rattle.geos_opcodes.specs.declared.facts.CounterUse.{CounterUse}
pub use Rattle.geos_opcodes.specs.declared.facts.CounterUse.TheVariants.{SetTo, SetToWord, CountsDown}
pub use Rattle.geos_opcodes.specs.declared.opcode.Opcode.{Opcode}
pub use Rattle.geos_opcodes.specs.declared.opcode.Opcode.TheVariants.{Add, Sub, Muli, Ldcb, Ldcw, Stcb, Stcw, Call}
pub use Rattle.geos_opcodes.specs.declared.uses.Offset.{Offset}
pub use Rattle.geos_opcodes.specs.declared.uses.Offset.TheVariants.{Indexed}
pub use Rattle.geos_opcodes.specs.declared.uses.PointerUse.{PointerUse}
pub use Rattle.geos_opcodes.specs.declared.uses.PointerUse.TheVariants.{Loads, Stores, Copies, Sets}
pub use Rattle.geos_opcodes.specs.declared.uses.SlotUse.{SlotUse}
pub use Rattle.geos_opcodes.specs.declared.uses.SlotUse.TheVariants.{LocksNew, Locks, Unlocks}
pub use Rattle.geos_opcodes.specs.declared.uses.Width.{Width}
pub use Rattle.geos_opcodes.specs.declared.uses.Width.TheVariants.{Byte, Both}
pub use Rattle.geos_verify.specs.Lists.{zip2}
pub use Rattle.geos_verify.specs.Pairs.{slot_pairs, each_pair}
pub use Rattle.geos_verify.specs.Places.{places}
pub use Rattle.geos_verify.specs.Potentials.{asked_along, asked_branching}
pub use Rattle.geos_verify.specs.Refused.{AreRefusals}
pub use Rattle.geos_verify.specs.Rows.{bound, is_empty, are_alike, pointer_at, slot_state, after, has_edge, pointer_fits, slot_fits, pair_fits, fits, is_stale, marked_state, may_enter, may_leave, leads_nowhere}
pub use Rattle.geos_verify.specs.Rules.{call_misfits, has_place, Accepted, FirstRefusal, is_of_file, reach, least_at, refusal, HasPoint}
pub use Rattle.geos_verify.specs.Touched.{calls, points_of}
pub use Rattle.geos_verify.specs.Uses.{bytes_in}
pub use Rattle.geos_verify.specs.declared.asked.Asked.{Asked}
pub use Rattle.geos_verify.specs.declared.place.Place.{Place as KnownPlace}
pub use Rattle.geos_verify.specs.declared.rule.Reject.{Reject}
pub use Rattle.geos_verify.specs.declared.rule.Rule.{Rule}
pub use Rattle.geos_verify.specs.declared.rule.Rule.TheVariants.{OverBudget, NamesEmptySlot}
pub use Rattle.std.specs.List.{list_any, list_all}
pub use Rattle.std.specs.Option.{option_map_or, option_or}
