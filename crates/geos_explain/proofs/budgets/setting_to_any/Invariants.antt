use Rattle.std.specs.Prelude.{◌≡◌}
use Rattle.geos_explain.specs.Places.{first_of, place_of}
use Rattle.geos_explain.specs.Budgets.{sets_to_any_at}
use Rattle.geos_explain.proofs.budgets.setting_to_any.Given as goal

abbrev pub invariant-loop-n : goal.invariant-loop-n
invariant-loop-n l = l.first ≡ first_of (place_of l.place) (sets_to_any_at (place_of l.place)) l.n
