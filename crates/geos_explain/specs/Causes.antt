-- Which instruction can be refused, if one of the paths that meet at a join comes from its refusal.
use Rattle.std.specs.Prelude.{ℕ, Bool, false, List, Some, None, slice_get}
use Rattle.geos_explain.specs.Below.{operands_of, Instr}

-- the instruction at a pc can be refused, and then jumps to its label
abbrev pub is_refusable : List Instr → ℕ → Bool
is_refusable instrs from = elim (slice_get instrs from) [ None ↦ false | Some i ↦ (operands_of i.opcode).refusable ]
