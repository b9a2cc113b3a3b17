-- The lemmas of lower crates that the proofs use.
pub use Rattle.geos_flow.proofs.Choices.{elim_both}
pub use Rattle.geos_flow.proofs.Deciding.{IsDecided, leads-or-not, below-or-not}
pub use Rattle.geos_flow.proofs.Into.{replicate-at}
pub use Rattle.geos_flow.proofs.Marked.{has-marked, is-marked, mark-there, mark-was, none-full, none-marked, marked-here, marked-keeps, marked-low, mark-grows}
pub use Rattle.geos_flow.proofs.Steps.{end-is, end-there}
pub use Rattle.geos_flow.specs.Edges.{end_of, end_in}
pub use Rattle.geos_flow.specs.Flow.{step_by, Lead, Leads, MarksWhatIsLed}
pub use Rattle.geos_flow.specs.Graphs.{IsFirstInto, IsInto}
pub use Rattle.geos_flow.specs.Marks.{no_marks, marked, is_marked, Marking}
pub use Rattle.geos_flow.specs.Waiting.{Has}
pub use Rattle.geos_flow.specs.declared.edge.Edge.{Edge}
pub use Rattle.geos_flow.specs.declared.search.Heading.{Heading}
pub use Rattle.geos_flow.specs.declared.search.Heading.TheVariants.{Back, Ahead}
pub use Rattle.geos_image.proofs.Instrs.{image_parts}
pub use Rattle.geos_image.proofs.Starts.{start_of-end}
pub use Rattle.geos_image.specs.Keys.{branches, falls_through}
pub use Rattle.geos_image.specs.Legal.{is_shaped, is_image}
pub use Rattle.geos_image.specs.Open.{open_row}
pub use Rattle.geos_image.specs.Parts.{start_of, Parts}
pub use Rattle.geos_image.specs.declared.instr.Instr.{Instr}
pub use Rattle.geos_image.specs.declared.point.Point.{Point}
pub use Rattle.geos_image.specs.declared.row.Pointer.{Pointer}
pub use Rattle.geos_image.specs.declared.row.Row.{Row}
pub use Rattle.geos_image.specs.declared.row.SlotState.{SlotState}
pub use Rattle.geos_image.specs.declared.row.SlotState.TheVariants.{Empty, Mem, Vm, Db}
pub use Rattle.geos_listing.proofs.Limits.{KeepsLimits-at}
pub use Rattle.geos_opcodes.specs.Facts.{facts}
pub use Rattle.geos_verify.proofs.Known.{at_place-is, by-parts}
pub use Rattle.geos_verify.proofs.Places.{point-of, found-within, places-length}
pub use Rattle.geos_verify.proofs.RowsFit.{fits-trans}
pub use Rattle.geos_verify.specs.Lists.{zip2, all2}
pub use Rattle.geos_verify.specs.Pairs.{slot_pairs, each_pair}
pub use Rattle.geos_verify.specs.Places.{places, at_place}
pub use Rattle.geos_verify.specs.Rows.{pointer_at, after, has_edge, slot_fits, pointer_fits, pair_fits, is_empty, is_stale, may_be_given, may_be_one, may_enter, is_left, may_leave, fits, at_point, HasEdge}
pub use Rattle.geos_verify.specs.Touched.{calls}
pub use Rattle.geos_verify.specs.declared.place.Place.{Place as KnownPlace}
pub use Rattle.geos_verify.specs.declared.rule.Rule.{Rule}
pub use Rattle.std.proofs.Math.ListN.{drop_of_length-le}
pub use Rattle.std.proofs.Math.Seq.{get_or-append_seam, drop-cons}
pub use Rattle.std.proofs.lemmas.Bool.{cases_eq, cases_lt, cond_both, and_parts, eqb-true, not-true, and_from, or_cases, or_left, or_right, not_from_false, le-leb, leb-true, lt-ltb, ltb-true}
pub use Rattle.std.proofs.lemmas.Bool.Decides.{nat_tests}
pub use Rattle.std.proofs.lemmas.List.{get_or-set_same, get_or-set_other, set_past, get_or_append_left, get_or-map, take_rest}
pub use Rattle.std.proofs.lemmas.Option.{same_Some, slice_get_within, slice_get_past}
pub use Rattle.std.specs.List.{list_all}
pub use Rattle.std.specs.Option.{option_or}
