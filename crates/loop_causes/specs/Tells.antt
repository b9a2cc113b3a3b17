-- The part of a routine that a cause is about.
use Rattle.std.specs.Prelude.{◌≡◌, ℕ, Bool, true, false}
use Rattle.control_graph.specs.Orders.{HasPlace}
use Rattle.control_graph.specs.declared.pieces.Order.{Order}
use Rattle.control_graph.specs.declared.pieces.Piece.{Piece}
use Rattle.geos_flow.specs.declared.cause.Cause.{Cause}
use Rattle.geos_flow.specs.declared.cause.Cause.TheVariants as cause

-- the cause is about the LOOP at this pc: about what changes its counter before it
abbrev pub IsOfLoop : ℕ → Cause → Type 0
IsOfLoop pc (cause.SetWithin within) = within.back.from ≡ pc
IsOfLoop pc (cause.SetAgain within) = within.back.from ≡ pc
IsOfLoop pc (cause.TouchedWithin within) = within.back.from ≡ pc
IsOfLoop pc (cause.TouchedBefore within) = within.back.from ≡ pc
IsOfLoop pc _ = ⊥

-- the cause is about a LOOP that belongs to the piece
pub record IsOfPiece (order : Order) (piece : Piece) (told : Cause) : Type 0 where
  pub pc : ℕ
  pub there : HasPlace order piece pc
  pub loop : IsOfLoop pc told

-- the cause is about loops that wait for each other, or about a LOOP whose counter is set within its own loop
abbrev pub tells_of_waiting : Cause → Bool
tells_of_waiting (cause.SetWithin within) = true
tells_of_waiting (cause.InTurn both) = true
tells_of_waiting (cause.InRing ring) = true
tells_of_waiting _ = false

-- the cause is about the value to which a counter is set
abbrev pub tells_of_setting : Cause → Bool
tells_of_setting (cause.WordUnbounded by_word) = true
tells_of_setting (cause.NumberHigh by_number) = true
tells_of_setting (cause.WordDear by_word) = true
tells_of_setting (cause.NumberDear by_number) = true
tells_of_setting _ = false

-- the cause is that the search was given up
abbrev pub tells_of_looks : Cause → Bool
tells_of_looks (cause.GivenUp back) = true
tells_of_looks _ = false

-- the cause is about no place of the search: a LOOP may not pay in a cycle in which none may, some path has too many
-- steps, or no other cause was found
abbrev pub tells_of_ways : Cause → Bool
tells_of_ways (cause.TouchedWithin within) = true
tells_of_ways (cause.TouchedBefore within) = true
tells_of_ways (cause.NotSet own) = true
tells_of_ways cause.StepsPass = true
tells_of_ways cause.StepsMayPass = true
tells_of_ways (cause.NoSteps back) = true
tells_of_ways (cause.Unfound back) = true
tells_of_ways cause.Unknown = true
tells_of_ways _ = false
