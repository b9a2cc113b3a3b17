use Rattle.std.proofs.Common.{ℕ, ◌<◌, slice_get}
use Rattle.std.specs.Prelude.{IfSome}
use Rattle.takhvoi.specs.Images.{IsNamed}
use Rattle.takhvoi.proofs.images.routine_named.Given as goal

-- no routine so far has the name
abbrev pub invariant-loop-r : goal.invariant-loop-r
invariant-loop-r l = (k : ℕ) → k < l.r → IfSome (slice_get l.image.routines k) (λ routine. IsNamed l.name routine → ⊥)
