-- The routines of an image lie one after another, so each pc is in one of them.
use Rattle.std.proofs.Common.{◌≡◌, ◌<◌, ◌≤◌, ◌+◌, ℕ, zero, suc, true, List, [], ◌∷◌, Option, Some, None, length, slice_get, refl, sym, ap, subst, ◌∙◌, arith, inl, inr, ◌⊎◌}
use Rattle.std.specs.Prelude.{nat_lt, nat_le, IfSome}
use Rattle.std.proofs.lemmas.Bool.{and_parts, ltb-true, leb-true, lt-ltb, le-leb, cases_lt}
use Rattle.geos_image.specs.declared.instr.Instr.{Instr}
use Rattle.geos_image.specs.declared.potential.Potential.{Potential}
use Rattle.geos_image.specs.declared.routine.Routine.{Routine}
use Rattle.geos_image.specs.declared.point.Point.{Point}
use Rattle.geos_image.specs.declared.row.Row.{Row}
use Rattle.geos_verify.specs.Rows.{row_along}
use Rattle.geos_verify.specs.declared.place.Place.{Place}
use Rattle.geos_verify.specs.Places.{or_row, place_of, places_from, places}
use Rattle.geos_image.specs.Parts.{Parts, start_of}
use Rattle.geos_image.specs.Open.{open_row}
use Rattle.geos_image.proofs.Starts.{some_routine, start_of-next, start_of-le, start_of-end, start_of-all}
use Rattle.geos_verify.specs.declared.rule.Reject.{Reject}
use Rattle.geos_verify.specs.Rules.{has_place, refusal, RefusesNone, Refuses, Accepted, AcceptedBelow, FirstRefusal}

pub place_bounds : (start count pc : ℕ) → has_place start count pc ≡ true → (start ≤ pc) × (pc < start + count)
place_bounds start count pc h =
    let p = and_parts (nat_le start pc) (nat_lt pc (start + count)) h in
    (leb-true start pc p.0, ltb-true pc (start + count) p.1)

pub place_true : (start count pc : ℕ) → start ≤ pc → pc < start + count → has_place start count pc ≡ true
place_true start count pc h k = rw (le-leb start pc h, lt-ltb pc (start + count) k) refl

-- a pc is in one routine
pub one_routine : (routines : List Routine) (q r pc : ℕ) (before after : Routine) → slice_get routines q ≡ Some before
    → slice_get routines r ≡ Some after
    → has_place (start_of routines q) before.count pc ≡ true → has_place (start_of routines r) after.count pc ≡ true → q ≡ r
one_routine routines q r pc before after e f h k =
    elim (cases_lt q r) [
      | inl lt ↦ absurd (apart q r _ before lt e hq hr)
      | inr le ↦ elim (cases_lt r q) [
        | inl lt ↦ absurd (apart r q _ after lt f hr hq)
        | inr ge ↦ omega arith
      ]
    ]
  where
    hq : (start_of routines q ≤ pc) × (pc < start_of routines q + before.count)
    hq = place_bounds (start_of routines q) before.count pc h

    hr : (start_of routines r ≤ pc) × (pc < start_of routines r + after.count)
    hr = place_bounds (start_of routines r) after.count pc k

    apart : (a b m : ℕ) (first : Routine) → a < b → slice_get routines a ≡ Some first → (start_of routines a ≤ pc)
        × (pc < start_of routines a + first.count) → (start_of routines b ≤ pc) × (pc < m) → ⊥
    apart a b m first lt there x y =
        let next = start_of-next routines a first there in
        let later = start_of-le routines (suc a) b (omega arith) in
        omega (arith, next, later, x.1, y.0)

module _ (image : Parts) (r start : ℕ) (routine : Routine) (there : slice_get image.routines r ≡ Some routine)
    (start_is : start ≡ start_of image.routines r) where
  -- nothing is refused before the routine, nor in it before a limit
  pub accepted-before : (limit : ℕ) → limit ≤ start + routine.count → AcceptedBelow image start
      → RefusesNone image r routine start limit → AcceptedBelow image limit
  accepted-before limit within earlier here q pc other point lt has =
      elim (cases_lt pc start) [
        | inl below ↦ earlier q pc other point below has
        | inr above ↦ at_this above
      ]
    where
      at_this : start ≤ pc → refusal image q other (start_of image.routines q) pc point ≡ None
      at_this above =
          let in_this : has_place (start_of image.routines r) routine.count pc ≡ true =
          rw (← start_is) (place_true start routine.count pc above (omega arith)) in
          let same = one_routine image.routines q r pc other routine has.there there has.within in_this in
          let same_routine = some_routine other routine (sym has.there ∙ ap (slice_get image.routines) same ∙ there) in
          let same_start : start_of image.routines q ≡ start = ap (start_of image.routines) same ∙ sym start_is in
          rw (same_routine, same_start, same) (here pc point above lt has.read)

-- what there is at an index below the length
pub item_at : {A : Type 0} (xs : List A) (k : ℕ) → k < length xs → (x : A) × (slice_get xs k ≡ Some x)
item_at [] k lt = absurd (omega arith)
item_at (x ∷ xs) zero lt = (x, refl)
item_at (x ∷ xs) (suc k) lt = item_at xs k (omega arith)

pub if_some : {A : Type 0} (P : A → Type 0) (o : Option A) (x : A) → o ≡ Some x → IfSome o P → P x
if_some P None x e h = absurd cc
if_some P (Some y) x e h = let same : y ≡ x = cc in subst P same h

places_from-length : (image : Parts) (before : Row) (points : List Point) → length (places_from image before points) ≡ length points
places_from-length image before [] = refl
places_from-length image before (point ∷ points) =
    ap suc (places_from-length image (row_along image point.instr point.instr.opcode (or_row point.row before)) points)

-- there are as many places as points
pub places-length : (image : Parts) → length (places image) ≡ length image.points
places-length image = places_from-length image open_row image.points

-- a place is that of a point
pub record IsPlaceOf (place : Place) (point : Point) : Type 0 where
  pub instr : place.instr ≡ point.instr
  pub potential : place.potential ≡ point.potential
  pub row : (r : Row) → point.row ≡ Some r → place.row ≡ r

place_of-is : (point : Point) (before : Row) → IsPlaceOf (place_of point before) point
place_of-is point before = record { instr = refl; potential = refl; row = λ r e. rw e refl }

from-point : (image : Parts) (before : Row) (points : List Point) (pc : ℕ) (point : Point) → slice_get points pc ≡ Some point
    → (place : Place) × (slice_get (places_from image before points) pc ≡ Some place) × IsPlaceOf place point
from-point image before [] pc point e = absurd cc
from-point image before (x ∷ points) zero point e =
    let same : x ≡ point = cc in
    (place_of x before, refl, subst (IsPlaceOf (place_of x before)) same (place_of-is x before))
from-point image before (x ∷ points) (suc pc) point e = from-point image (row_along image x.instr x.instr.opcode (or_row x.row before))
    points pc point e

-- each point has its place
pub place-at : (image : Parts) (pc : ℕ) (point : Point) → slice_get image.points pc ≡ Some point → (place : Place)
    × (slice_get (places image) pc ≡ Some place) × IsPlaceOf place point
place-at image pc point e = from-point image open_row image.points pc point e

-- a row that is given is what is known there
pub given-place : (image : Parts) (pc : ℕ) (i : Instr) (row : Row) (potential : Potential)
    → slice_get image.points pc ≡ Some (record { instr = i; row = Some row; potential = potential })
    → slice_get (places image) pc ≡ Some (record { instr = i; row = row; potential = potential })
given-place image pc i row potential e =
    let found = place-at image pc (record { instr = i; row = Some row; potential = potential }) e in
    let A : Instr → Place = λ j. record { instr = j; row = found.0.row; potential = found.0.potential } in
    let B : Row → Place = λ r. record { instr = i; row = r; potential = found.0.potential } in
    let C : Potential → Place = λ q. record { instr = i; row = row; potential = q } in
    found.1 ∙ ap (λ (p : Place). Some p) (ap A found.2.instr ∙ ap B (found.2.row row refl) ∙ ap C found.2.potential)

from-next : (image : Parts) (before : Row) (points : List Point) (pc : ℕ) (place : Place) (next : Point)
    → slice_get (places_from image before points) pc ≡ Some place → slice_get points (suc pc) ≡ Some next
    → slice_get (places_from image before points) (suc pc) ≡ Some (place_of next (row_along image place.instr place.instr.opcode place.row))
from-next image before [] pc place next e f = absurd cc
from-next image before (x ∷ []) zero place next e f = absurd cc
from-next image before (x ∷ y ∷ points) zero place next e f =
    let same : place_of x before ≡ place = cc in
    let same_next : y ≡ next = cc in
    ap (λ (q : Place). Some (place_of y (row_along image q.instr q.instr.opcode q.row))) same
    ∙ ap (λ (z : Point). Some (place_of z (row_along image place.instr place.instr.opcode place.row))) same_next
from-next image before (x ∷ points) (suc pc) place next e f = from-next image (row_along image x.instr x.instr.opcode (or_row x.row before))
    points pc place next e f

-- a place without a row of its own has the row after the previous instruction
pub place-next : (image : Parts) (pc : ℕ) (place : Place) (next : Point) → slice_get (places image) pc ≡ Some place
    → slice_get image.points (suc pc) ≡ Some next
    → slice_get (places image) (suc pc) ≡ Some (place_of next (row_along image place.instr place.instr.opcode place.row))
place-next image pc place next e f = from-next image open_row image.points pc place next e f

-- what a lookup finds is there
pub found-within : {A : Type 0} (xs : List A) (k : ℕ) (x : A) → slice_get xs k ≡ Some x → k < length xs
found-within [] k x e = absurd cc
found-within (y ∷ xs) zero x e = omega arith
found-within (y ∷ xs) (suc k) x e = let ih = found-within xs k x e in omega (arith, ih)

-- each place has its point
pub point-of : (image : Parts) (pc : ℕ) (place : Place) → slice_get (places image) pc ≡ Some place → (point : Point)
    × (slice_get image.points pc ≡ Some point) × IsPlaceOf place point
point-of image pc place e =
    let found = item_at image.points pc (omega (arith, found-within (places image) pc place e, places-length image)) in
    let there = place-at image pc found.0 found.1 in
    let both : Some there.0 ≡ Some place = sym there.1 ∙ e in
    let same : there.0 ≡ place = cc in
    (found.0, found.1, subst (λ (q : Place). IsPlaceOf q found.0) same there.2)

-- a refusal in a routine before which nothing is refused is the first one
pub is_first : (image : Parts) (r start : ℕ) (routine : Routine) (reject : Reject) → slice_get image.routines r ≡ Some routine
    → start ≡ start_of image.routines r → AcceptedBelow image start
    → start + routine.count ≤ length image.points → (start ≤ reject.pc) × (reject.pc < start + routine.count)
    → Refuses image r routine start reject → RefusesNone image r routine start reject.pc → FirstRefusal image reject
is_first image r start routine reject there start_is earlier end within refuses first =
    let read = item_at (places image) reject.pc (omega (arith, within.1, places-length image)) in made read.0 read.1
  where
    made : (point : Place) → slice_get (places image) reject.pc ≡ Some point → FirstRefusal image reject
    made point read =
        let P : ℕ → Type 0 = λ n. refusal image r routine n reject.pc point ≡ Some reject.rule in
        record {
          r = r;
          routine = routine;
          place = point;
          has = record { there = there; within = rw (← start_is) (place_true start routine.count reject.pc within.0 within.1); read = read };
          refuses = subst P start_is (if_some (λ x. refusal image r routine start reject.pc x ≡ Some reject.rule)
              (slice_get (places image) reject.pc) point read refuses);
          before = accepted-before image r start routine there start_is reject.pc (omega (arith, within.1)) earlier first;
        }

-- where nothing is refused up to the last routine's end, nothing is refused
pub all_accepted : (image : Parts) (r start : ℕ) → length image.routines ≤ r → start ≡ start_of image.routines r
    → AcceptedBelow image start → Accepted image
all_accepted image r start past start_is earlier q pc routine point has =
    let end = start_of-end image.routines q routine has.there in
    let all = start_of-all image.routines r past in
    let place = place_bounds (start_of image.routines q) routine.count pc has.within in
    earlier q pc routine point (omega (arith, end, all, place.1)) has

-- where nothing is refused up to a pc, and nothing at it, nothing is refused up to the next one
pub refuses_none-next : (image : Parts) (r start pc : ℕ) (routine : Routine) → RefusesNone image r routine start pc
    → IfSome (slice_get (places image) pc) (λ point. None ≡ refusal image r routine start pc point) → RefusesNone image r routine start (pc + 1)
refuses_none-next image r start pc routine before here q point above below read = by_order (cases_lt q pc)
  where
    by_order : (q < pc) ⊎ (pc ≤ q) → refusal image r routine start q point ≡ None
    by_order (inl lt) = before q point above lt read
    by_order (inr ge) =
        let same : q ≡ pc = omega (arith, ge, below) in
        let there : slice_get (places image) pc ≡ Some point = rw same at read in
        rw same (sym (if_some (λ x. None ≡ refusal image r routine start pc x) (slice_get (places image) pc) point there here))
