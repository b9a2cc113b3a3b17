-- Which refusals the explanation reports at an instruction.
use Rattle.std.specs.Prelude.{◌≡◌, ◌↔◌, ℕ, ◌+◌, Bool, false, ◌&&◌, nat_le, ◌==◌, List, Option, Some}
use Rattle.geos_explain.specs.Below.{Routine, Parts, start_of, KnownPlace, Rule, AreRefusals, refusal, HasPoint}
use Rattle.geos_explain.specs.Repeated.{IsRepeated, TellsOnce}
use Rattle.geos_explain.specs.Told.{is_of_budget, rule_at}

-- a pc is that of the last instruction of a routine, which begins at another
abbrev pub is_last : ℕ → Routine → ℕ → Bool
is_last start routine pc = nat_le start pc && pc + 1 == start + routine.count

-- the explanation reports at a pc the lowest rule that refuses it. It does not report the rule on the budget there,
-- nor the rule on empty slots if it has reported the same pointers before
abbrev pub ToldWhereRefused : Type 0
ToldWhereRefused =
    (image : Parts) (refused told : List (Option Rule)) → AreRefusals image refused → TellsOnce image refused told
    → (r pc : ℕ) (routine : Routine) (place : KnownPlace) (rule : Rule) → HasPoint image r routine pc place
    → (rule_at told pc ≡ Some rule)
    ↔ ((refusal image r routine (start_of image.routines r) pc place ≡ Some rule) × (is_of_budget rule ≡ false) × (IsRepeated image refused pc → ⊥))
