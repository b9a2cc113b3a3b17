-- Which instruction is refused on a way.
use Rattle.std.specs.Prelude.{ℕ, Bool, false, ◌&&◌, if◌then◌else◌, Option, Some, None, slice_get}
use Rattle.geos_explain.specs.Below.{Parts, operands_of}
use Rattle.geos_explain.specs.declared.ways.Way.{Way}
use Rattle.geos_explain.specs.declared.ways.Way.TheVariants.{Entry, Along}

-- the instruction at a pc can be refused, and goes to its label then
unfoldable pub is_refusable : Parts → ℕ → Bool
is_refusable image from = elim (slice_get image.points from) [ None ↦ false | Some point ↦ (operands_of point.instr.opcode).refusable ]

-- the pc of the instruction whose refusal a way is, if it is one
abbrev pub refused_on : Parts → Way → Option ℕ
refused_on image Entry = None
refused_on image (Along edge) = if edge.branch && is_refusable image edge.from then Some edge.from else None
