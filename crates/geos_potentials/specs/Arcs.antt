-- The edges of a routine, with what they cost and what they do to counters.
use Rattle.std.specs.Prelude.{◌≡◌, ◌≤◌, ℕ, ◌+◌, ◌*◌, Bool, true, false, List, [], Option, Some, None, slice_index, slice_index_or}
use Rattle.geos_opcodes.specs.declared.opcode.Opcode.{Opcode}
use Rattle.geos_opcodes.specs.declared.opcode.Opcode.TheVariants.{Setk, Setkw, Loop, Call}
use Rattle.geos_image.specs.declared.instr.Instr.{Instr}
use Rattle.geos_image.specs.declared.row.Row.{Row}
use Rattle.geos_image.specs.Parts.{Parts}
use Rattle.geos_verify.specs.Rows.{bound}
use Rattle.control_graph.specs.declared.arcs.Arc.{Arc}
use Rattle.control_graph.specs.declared.arcs.Counting.{Counting}
use Rattle.control_graph.specs.declared.arcs.Counting.TheVariants.{Nothing, Sets, Takes, Forgets}
use Rattle.geos_potentials.specs.declared.lengths.Link.{Link}
use Rattle.geos_code.specs.Code.{IsPcOf}
use Rattle.geos_code.specs.Known.{row_of, known_at}
use Rattle.geos_counters.specs.Steps.{taken_at}
use Rattle.geos_counters.specs.Counters.{touched_by}
use Rattle.geos_code.specs.Edges.{LeadsTo}
use Rattle.control_graph.specs.Arcs.{arc_at}

-- what an edge of an instruction does to the counters: SETK sets its counter to a constant, and SETKW to at most the
-- bound of the word. A LOOP takes one from its counter on the edge to its target, and leaves 0 on the other edge.
-- After a CALL nothing is known of the counters that the routine touches.
abbrev pub counting_of : Row → List (List Bool) → Instr → Opcode → Bool → Counting
counting_of row table i Setk false = Sets i.a i.imm
counting_of row table i Setkw false = Sets i.a (bound row i.b)
counting_of row table i Loop false = Sets i.a 0
counting_of row table i Loop true = Takes i.a
counting_of row table i Call false = Forgets (touched_by table i.imm)
counting_of row table i _ branch = Nothing

-- the arc describes the edge of the instruction at a pc, which stays in routine r, with the rows that are known
pub record IsArc (image : Parts) (r : ℕ) (known : List (Option Row)) (table : List (List Bool)) (pc : ℕ) (branch : Bool) (arc : Arc) : Type 0 where
  pub leads : LeadsTo image pc branch arc.to
  pub stays : IsPcOf image r arc.to
  pub steps : 1 + arc.called ≡ taken_at image pc
  pub counting : arc.counting ≡ counting_of (row_of (known_at known pc)) table leads.point.instr leads.point.instr.opcode branch

-- the arc describes that edge, or there is neither edge nor arc
abbrev pub IsArcIf : Parts → ℕ → List (Option Row) → List (List Bool) → ℕ → Bool → Option Arc → Type 0
IsArcIf image r known table pc branch None = (to : ℕ) → LeadsTo image pc branch to → IsPcOf image r to → ⊥
IsArcIf image r known table pc branch (Some arc) = IsArc image r known table pc branch arc

-- the arcs describe all edges of routine r that stay in it
abbrev pub AreArcs : Parts → ℕ → List (Option Row) → List (List Bool) → List (List (Option Arc)) → Type 0
AreArcs image r known table arcs = (pc : ℕ) (branch : Bool) → IsPcOf image r pc → IsArcIf image r known table pc branch (arc_at arcs pc branch)

-- What an edge costs

-- the price of a unit of counter k at a pc: how many steps it pays for
abbrev pub unit_at : List (List ℕ) → ℕ → ℕ → ℕ
unit_at pay pc k = slice_index (slice_index_or pay pc []) k

-- the price of setting a counter: its new value times the price of one unit at the pc to which the edge leads
abbrev pub price_of : List (List ℕ) → ℕ → Counting → ℕ
price_of pay to (Sets k n) = unit_at pay to k * n
price_of pay to _ = 0

-- what the edge of a LOOP takes from its counter: the price of one unit
abbrev pub paid_by : List (List ℕ) → ℕ → Counting → ℕ
paid_by pay pc (Takes k) = unit_at pay pc k
paid_by pay pc _ = 0

-- the link has the cost of an edge, and what a counter pays of it, at these prices
pub record IsLink (pay : List (List ℕ)) (pc : ℕ) (arc : Arc) (link : Link) : Type 0 where
  pub to : link.to ≡ arc.to
  pub costs : link.costs ≡ 1 + arc.called + price_of pay arc.to arc.counting
  pub paid : link.paid ≡ paid_by pay pc arc.counting
  pub small : link.paid ≤ 4294967295
