-- The steps that are reserved for the routines that will be returned to, and how many such routines there may be.
use Rattle.std.proofs.Common.{◌≡◌, ℕ, zero, suc, ◌+◌, ◌*◌, ◌≤◌, ◌<◌, true, Some, List, [], ◌∷◌, ◌++◌, length, slice_get, refl, sym, ap, arith, set, get_or}
use Rattle.geos_verify.specs.declared.place.Place.{Place}
use Rattle.geos_verify.specs.Places.{places}
use Rattle.geos_verify.proofs.Places.{point-of}
use Rattle.geos_image.specs.declared.potential.Potential.{Potential}
use Rattle.geos_image.specs.Parts.{Parts}
use Rattle.geos_verify.specs.Touched.{touches}
use Rattle.geos_verify.specs.Potentials.{dot, value}
use Rattle.geos_semantics.specs.State.{Frame}
use Rattle.geos_semantics.specs.Theorem.{value_at, kept, Chain}

-- a counter on which nothing is counted may be anything
dot-spent : (cs ks : List ℕ) (i v : ℕ) → get_or cs i 0 ≡ 0 → dot cs (set ks i v) ≡ dot cs ks
dot-spent [] ks i v e = refl
dot-spent (c ∷ cs) [] i v e = refl
dot-spent (c ∷ cs) (k ∷ ks) zero v e = rw e (let a : 0 * v + dot cs ks ≡ 0 * k + dot cs ks = omega arith in a)
dot-spent (c ∷ cs) (k ∷ ks) (suc i) v e = ap (λ n. c * k + n) (dot-spent cs ks i v e)

-- what the potential at a point is
pub value_at-is : (image : Parts) (pc : ℕ) (counters : List ℕ) (place : Place) → slice_get (places image) pc ≡ Some place
    → value_at image pc counters ≡ value place.potential counters
value_at-is image pc counters place e =
    let found = point-of image pc place e in
    rw (found.1, value_at) (ap (λ (p : Potential). value p counters) (sym found.2.potential))

-- a counter that routine r touches is counted on by none of those that it returns to
pub kept-set : (image : Parts) (root r : ℕ) (frames : List Frame) (counters : List ℕ) (k v : ℕ) → Chain image root r frames
    → k < 4 → touches image k r ≡ true
    → kept image frames (set counters k v) ≡ kept image frames counters
kept-set image root r [] counters k v chain few touched = refl
kept-set image root r (frame ∷ frames) counters k v chain few touched =
    let back = chain.0 in
    let same : value_at image frame.pc (set counters k v) ≡ value_at image frame.pc counters =
    rw (value_at-is image frame.pc (set counters k v) back.point back.has.read, value_at-is image frame.pc counters back.point back.has.read)
    (ap (λ n. back.point.potential.constant + n) (dot-spent back.point.potential.coefficients counters k v (back.spent k few touched))) in
    omega (arith, same, kept-set image root frame.routine frames counters k v chain.1 few (back.told k few touched))

-- each call goes to a lower routine, so no more are under way than there are below the root
pub chain-depth : (image : Parts) (root r : ℕ) (frames : List Frame) → Chain image root r frames → r + length frames ≤ root
chain-depth image root r [] chain = omega (arith, chain)
chain-depth image root r (frame ∷ frames) chain = omega (arith, chain.0.lower, chain-depth image root frame.routine frames chain.1)

-- the stack has at least the returns from below the run
pub within-run : (frames below : List Frame) → length below ≤ length (frames ++ below)
within-run [] below = omega arith
within-run (frame ∷ frames) below = omega (arith, within-run frames below)

pub length-stack : (frames below : List Frame) → length (frames ++ below) ≡ length frames + length below
length-stack [] below = omega arith
length-stack (frame ∷ frames) below = omega (arith, length-stack frames below)
