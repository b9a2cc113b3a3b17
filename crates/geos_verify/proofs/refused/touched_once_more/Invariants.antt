use Rattle.std.specs.Prelude.{◌≡◌, ◌<◌, ◌≤◌, ℕ, false, length}
use Rattle.geos_verify.specs.Touched.{noted, touches_by}
use Rattle.geos_verify.proofs.refused.touched_once_more.Given as goal

-- the routines below r are noted, and nothing is of the others
abbrev pub invariant-loop-r : goal.invariant-loop-r
invariant-loop-r l =
    ((c k : ℕ) → c < l.r → k < 4 → noted l.next k c ≡ touches_by l.image l.table k c)
    × ((c k : ℕ) → l.r ≤ c → noted l.next k c ≡ false)
    × (length l.next ≡ 32)
