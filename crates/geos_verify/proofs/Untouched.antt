-- Code that names no counter and calls no routine.
use Rattle.std.proofs.Common.{◌≡◌, ℕ, Bool, true, false, List, [], ◌∷◌, refl}
use Rattle.std.specs.Prelude.{◌&&◌, ◌||◌, ◌==◌}
use Rattle.std.specs.List.{list_any}
use Rattle.std.proofs.lemmas.Bool.{or_parts}
use Rattle.geos_image.specs.declared.point.Point.{Point}
use Rattle.geos_verify.specs.Touched.{calls, counts, touches_here}

neither : (a b c d : Bool) → (a || b) ≡ false → ((a && c) || (b && d)) ≡ false
neither false false c d none = refl
neither false true c d none = absurd cc
neither true b c d none = absurd cc

both-false : (a b : Bool) → a ≡ false → b ≡ false → (a || b) ≡ false
both-false false false p q = refl
both-false false true p q = absurd cc
both-false true b p q = absurd cc

-- it touches none, whatever other routines touch
pub none-touches : (f : ℕ → Bool) (k : ℕ) (points : List Point)
    → list_any (λ point. counts point.instr.opcode || calls point.instr.opcode) points ≡ false
    → list_any (λ point. touches_here f k point.instr) points ≡ false
none-touches f k [] none = refl
none-touches f k (point ∷ points) none =
    let i = point.instr in
    let parts = or_parts (counts i.opcode || calls i.opcode) (list_any (λ p. counts p.instr.opcode || calls p.instr.opcode) points) none in
    both-false (touches_here f k i) (list_any (λ p. touches_here f k p.instr) points)
    (neither (counts i.opcode) (calls i.opcode) (i.a == k) (f i.imm) parts.0) (none-touches f k points parts.1)
