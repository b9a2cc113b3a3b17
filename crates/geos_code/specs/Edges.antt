-- The control-flow edges of an instruction, within its routine.
use Rattle.std.specs.Prelude.{◌≡◌, ◌<◌, ℕ, Bool, ◌&&◌, nat_le, nat_lt, if◌then◌else◌, Option, Some, None, true, slice_get}
use Rattle.geos_image.specs.declared.instr.Instr.{Instr}
use Rattle.geos_image.specs.declared.point.Point.{Point}
use Rattle.geos_image.specs.Parts.{Parts}
use Rattle.geos_verify.specs.Rows.{HasEdge, has_edge}
use Rattle.geos_code.specs.declared.edges.Lead.{Lead}
use Rattle.geos_code.specs.Code.{edge_end}

-- the instruction has the edge, and it leads ahead and before the limit
abbrev pub leads_ahead : ℕ → ℕ → Instr → Bool → Bool
leads_ahead limit pc i branch = has_edge i branch && nat_lt pc (edge_end pc i branch) && nat_lt (edge_end pc i branch) limit

-- the edge of the instruction at a pc, and where it leads
abbrev pub lead_of : ℕ → Instr → Bool → Lead
lead_of pc i branch = record { edge = record { from = pc; branch = branch }; to = edge_end pc i branch }

-- the same, if it leads ahead and before the limit
abbrev pub edge_ahead : ℕ → ℕ → Instr → Bool → Option Lead
edge_ahead limit pc i branch = if leads_ahead limit pc i branch then Some (lead_of pc i branch) else None

-- the same, if it leads to a place from one on and before the limit
abbrev pub edge_within : ℕ → ℕ → ℕ → Instr → Bool → Option Lead
edge_within start limit pc i branch =
    if has_edge i branch && nat_le start (edge_end pc i branch) && nat_lt (edge_end pc i branch) limit then Some (lead_of pc i branch) else None

-- it is this edge of the instruction at the pc, and leads before the limit
pub record IsInside (image : Parts) (limit pc : ℕ) (branch : Bool) (lead : Lead) : Type 0 where
  pub from : lead.edge.from ≡ pc
  pub before : lead.edge.from < limit
  pub way : lead.edge.branch ≡ branch
  pub has : HasEdge image lead.edge.from lead.edge.branch
  pub inside : lead.to < limit

-- the instruction at a pc has an edge to another
pub record LeadsTo (image : Parts) (pc : ℕ) (branch : Bool) (to : ℕ) : Type 0 where
  pub point : Point
  pub there : slice_get image.points pc ≡ Some point
  pub has : has_edge point.instr branch ≡ true
  pub leads : edge_end pc point.instr branch ≡ to
