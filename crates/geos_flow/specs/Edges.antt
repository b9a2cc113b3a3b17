-- The edges along which control goes from an instruction.
use Rattle.std.specs.Prelude.{ℕ, ◌+◌, ◌*◌, ◌&&◌, nat_lt, if◌then◌else◌, Option, Some, None, length, slice_get}
use Rattle.geos_image.specs.declared.instr.Instr.{Instr}
use Rattle.geos_image.specs.Parts.{Parts}
use Rattle.geos_verify.specs.Rows.{has_edge}
use Rattle.geos_flow.specs.declared.edge.Edge.{Edge}

-- the pc that an edge of an instruction leads to
abbrev pub end_of : Edge → Instr → ℕ
end_of edge i = if edge.branch then i.target else edge.from + 1

-- the same, if the instruction has the edge, and it leads to a pc below `count`
abbrev pub end_below : ℕ → Edge → Instr → Option ℕ
end_below count edge i = if has_edge i edge.branch && nat_lt (end_of edge i) count then Some (end_of edge i) else None

-- the pc to which an edge of an image leads
abbrev pub end_in : Parts → Edge → Option ℕ
end_in image edge = elim (slice_get image.points edge.from) [ None ↦ None | Some point ↦ end_below (length image.points) edge point.instr ]

-- the place of an edge in a table
abbrev pub number_of : Edge → ℕ
number_of edge = 2 * edge.from + (if edge.branch then 1 else 0)
