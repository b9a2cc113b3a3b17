-- The places to which paths are known, and the first edge by which each was reached.
use Rattle.std.specs.Prelude.{◌≡◌, ◌<◌, ◌+◌, ℕ, zero, suc, Bool, true, false, if◌then◌else◌, None, Some, List, Option, slice_get, slice_index_or}
use Rattle.geos_image.specs.Parts.{Parts}
use Rattle.geos_code.specs.Code.{is_loop}
use Rattle.control_graph.specs.Waits.{Waits}
use Rattle.control_graph.specs.Arcs.{arc_at, keeps}
use Rattle.control_graph.specs.declared.arcs.Arc.{Arc}
use Rattle.control_graph.specs.declared.arcs.Counting.TheVariants.{Sets}
use Rattle.control_graph.specs.declared.pieces.Order.{Order}
use Rattle.control_graph.specs.declared.pieces.Piece.{Piece}
use Rattle.control_graph.specs.Orders.{HasPlace}
use Rattle.loop_causes.specs.declared.trails.Came.{Came}
use Rattle.loop_causes.specs.declared.trails.Trails.{Trails}

-- the number of LOOPs among n instructions from a pc on
abbrev pub loops_in : Parts → ℕ → ℕ → ℕ
loops_in image start zero = 0
loops_in image start (suc n) = loops_in image start n
    + elim (slice_get image.points (start + n)) [ None ↦ 0 | Some point ↦ if is_loop point.instr.opcode then 1 else 0 ]

-- a path to a place is known
abbrev pub comes_to : Trails → ℕ → Bool
comes_to trails pc = slice_index_or trails.seen pc false

-- the first edge by which the place was reached, if it is noted
abbrev pub came_at : Trails → ℕ → Option Came
came_at trails pc = slice_index_or trails.came pc None

-- no place is reached
pub record NoTrails (trails : Trails) : Type 0 where
  pub seen : (pc : ℕ) → comes_to trails pc ≡ false
  pub came : (pc : ℕ) → came_at trails pc ≡ None
  pub waits : (pc : ℕ) → Waits trails.waits pc → ⊥

-- each place that was reached still is
abbrev pub StayTrails : Trails → Trails → Type 0
StayTrails old next = (pc : ℕ) → comes_to old pc ≡ true → comes_to next pc ≡ true

-- an edge does not change the counter, if one is given
abbrev pub KeepsIt : Option ℕ → Arc → Type 0
KeepsIt None arc = Unit {0}
KeepsIt (Some k) arc = keeps arc.counting k ≡ true

-- the edge of a pc to the next instruction sets a counter to more than 0, and leads to a place of a piece
pub record SetsIn (arcs : List (List (Option Arc))) (order : Order) (piece : Piece) (k pc : ℕ) (arc : Arc) : Type 0 where
  pub read : arc_at arcs pc false ≡ Some arc
  pub stays : HasPlace order piece arc.to
  pub n : ℕ
  pub sets : arc.counting ≡ Sets k n
  pub some : 0 < n
