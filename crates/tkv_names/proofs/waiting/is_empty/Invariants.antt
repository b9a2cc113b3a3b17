use Rattle.std.proofs.Common.{◌≡◌, ◌<◌, ℕ, Some}
use Rattle.std.specs.Prelude.{slice_get}
use Rattle.tkv_names.specs.declared.seen.Seen.{Seen}
use Rattle.tkv_names.proofs.waiting.is_empty.Given as goal

abbrev pub invariant-loop-place : goal.invariant-loop-place
invariant-loop-place l = (k : ℕ) (seen : Seen) → k < l.place → slice_get l.fn.waiting k ≡ Some (Some seen) → ⊥
