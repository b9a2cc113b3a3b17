-- Where the routines of an image start: each where the one before it ends.
use Rattle.std.proofs.Common.{◌≡◌, ◌≤◌, ◌+◌, ℕ, zero, suc, true, List, [], ◌∷◌, Option, Some, None, length, take, slice_get, refl, ap, arith}
use Rattle.std.specs.Prelude.{IfSome}
use Rattle.std.proofs.lemmas.List.Sums.{sum_by-cons}
use Rattle.geos_image.specs.declared.routine.Routine.{Routine}
use Rattle.geos_image.specs.Parts.{Parts, total_count, start_of}
use Rattle.geos_image.specs.Legal.{is_image}
use Rattle.geos_image.proofs.Instrs.{image_parts}

pub some_routine : (x y : Routine) → Some x ≡ Some y → x ≡ y
some_routine x y e = cc

-- a routine ends where the next one starts
pub start_of-next : (routines : List Routine) (r : ℕ) (routine : Routine) → slice_get routines r ≡ Some routine
    → start_of routines (suc r) ≡ start_of routines r + routine.count
start_of-next [] r routine e = absurd cc
start_of-next (x ∷ routines) zero routine e = let same = ap (λ (y : Routine). y.count) (some_routine x routine e) in omega arith
start_of-next (x ∷ routines) (suc r) routine e =
    let ih = start_of-next routines r routine e in
    let a = sum_by-cons (λ (y : Routine). y.count) x (take (suc r) routines) in
    let b = sum_by-cons (λ (y : Routine). y.count) x (take r routines) in
    omega (arith, a, b, ih)

-- a later routine starts later
pub start_of-le : (routines : List Routine) (a b : ℕ) → a ≤ b → start_of routines a ≤ start_of routines b
start_of-le [] zero zero h = omega arith
start_of-le [] zero (suc b) h = omega arith
start_of-le [] (suc a) zero h = absurd (omega arith)
start_of-le [] (suc a) (suc b) h = omega arith
start_of-le (x ∷ routines) zero b h = omega arith
start_of-le (x ∷ routines) (suc a) zero h = absurd (omega arith)
start_of-le (x ∷ routines) (suc a) (suc b) h =
    let ih = start_of-le routines a b (omega arith) in
    let p = sum_by-cons (λ (y : Routine). y.count) x (take a routines) in
    let q = sum_by-cons (λ (y : Routine). y.count) x (take b routines) in
    omega (arith, p, q, ih)

-- the routines before one that there is, with it, are no more than all
pub start_of-end : (routines : List Routine) (r : ℕ) (routine : Routine) → slice_get routines r ≡ Some routine
    → start_of routines r + routine.count ≤ total_count routines
start_of-end [] r routine e = absurd cc
start_of-end (x ∷ routines) zero routine e =
    let same = ap (λ (y : Routine). y.count) (some_routine x routine e) in
    let p = sum_by-cons (λ (y : Routine). y.count) x routines in
    omega (arith, same, p)
start_of-end (x ∷ routines) (suc r) routine e =
    let ih = start_of-end routines r routine e in
    let p = sum_by-cons (λ (y : Routine). y.count) x (take r routines) in
    let q = sum_by-cons (λ (y : Routine). y.count) x routines in
    omega (arith, p, q, ih)

pub start_of-all : (routines : List Routine) (r : ℕ) → length routines ≤ r → start_of routines r ≡ total_count routines
start_of-all [] zero h = refl
start_of-all [] (suc r) h = refl
start_of-all (x ∷ routines) zero h = absurd (omega arith)
start_of-all (x ∷ routines) (suc r) h =
    let ih = start_of-all routines r (omega arith) in
    let p = sum_by-cons (λ (y : Routine). y.count) x (take r routines) in
    let q = sum_by-cons (λ (y : Routine). y.count) x routines in
    omega (arith, p, q, ih)

-- a routine's instructions are some of the image's
pub start_of-room : (image : Parts) (r : ℕ) → is_image image ≡ true → IfSome (slice_get image.routines r)
    (λ routine. start_of image.routines r + routine.count ≤ length image.points)
start_of-room image r legal = go (slice_get image.routines r) refl
  where
    go : (o : Option Routine) → slice_get image.routines r ≡ o → IfSome o (λ routine. start_of image.routines r + routine.count ≤ length image.points)
    go None e = tt
    go (Some routine) e =
        let end = start_of-end image.routines r routine e in
        let counts = (image_parts image legal).counts in
        omega (arith, end, counts)
