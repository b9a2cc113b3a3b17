use Rattle.std.proofs.Common.{◌≡◌, ℕ, true, ◌<◌, ◌≤◌, Some, slice_get}
use Rattle.std.specs.Prelude.{option_copied}
use Rattle.geos_image.specs.declared.routine.Routine.{Routine}
use Rattle.geos_texts.specs.Budgets.{is_meant}
use Rattle.geos_texts.proofs.budgets.first_over.Given as goal

-- the public routines before r that may be called have budgets within the limit
abbrev pub invariant-loop-r : goal.invariant-loop-r
invariant-loop-r l = (q : ℕ) (routine : Routine) → q < l.r → slice_get l.image.routines q ≡ Some routine → routine.public ≡ true
    → is_meant (option_copied l.called) routine ≡ true → routine.budget ≤ l.most
