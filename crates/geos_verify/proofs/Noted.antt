-- What is noted in a table of touched counters, where calls go to lower routines.
use Rattle.std.proofs.Common.{◌≡◌, ◌<◌, ◌≤◌, ◌+◌, ◌-◌, ℕ, zero, suc, Bool, true, false, List, [], ◌∷◌, Option, Some, None, length, slice_get, take, drop, set, refl, sym, ap, subst, ◌∙◌, arith, inl, inr, ◌⊎◌}
use Rattle.std.specs.Prelude.{◌&&◌, ◌||◌, not, nat_lt, slice_index_or}
use Rattle.std.specs.List.{list_any}
use Rattle.std.proofs.lemmas.List.{get_or-set_other, get_or-set_same}
use Rattle.std.proofs.lemmas.Bool.{or_parts, not-false, ltb-true, cases_lt, eq-eqb}
use Rattle.std.proofs.lemmas.Option.{slice_get_within}
use Rattle.geos_image.specs.declared.instr.Instr.{Instr}
use Rattle.geos_image.specs.declared.routine.Routine.{Routine}
use Rattle.geos_image.specs.declared.point.Point.{Point}
use Rattle.geos_verify.specs.declared.place.Place.{Place}
use Rattle.geos_image.specs.Parts.{Parts, start_of}
use Rattle.geos_image.proofs.Starts.{start_of-next, start_of-le}
use Rattle.geos_verify.specs.Rules.{HasPoint, AcceptedBelow, call_misfits}
use Rattle.geos_verify.specs.Touched.{calls, points_of, touches_here, touches_within, touches, touched_by, counts, noted, NotesBelow, touches_by, noted_by}
use Rattle.geos_verify.proofs.Passed.{none-refuses}
use Rattle.geos_verify.proofs.Places.{place_true, place_bounds, place-at, point-of}

-- tests that agree on each element find alike
pub list_any-same : {A : Type 0} (f g : A → Bool) (xs : List A) → ((j : ℕ) (x : A) → slice_get xs j ≡ Some x → f x ≡ g x)
    → list_any f xs ≡ list_any g xs
list_any-same f g [] same = refl
list_any-same f g (x ∷ xs) same = rw (same 0 x refl, list_any-same f g xs (λ j y e. same (suc j) y e)) refl

slice_get-take : {A : Type 0} (xs : List A) (n j : ℕ) (x : A) → slice_get (take n xs) j ≡ Some x → (j < n) × (slice_get xs j ≡ Some x)
slice_get-take xs zero j x e = absurd cc
slice_get-take [] (suc n) j x e = absurd cc
slice_get-take (y ∷ xs) (suc n) zero x e = (omega arith, e)
slice_get-take (y ∷ xs) (suc n) (suc j) x e = let p = slice_get-take xs n j x e in (omega (arith, p.0), p.1)

slice_get-drop : {A : Type 0} (xs : List A) (n j : ℕ) → slice_get (drop n xs) j ≡ slice_get xs (n + j)
slice_get-drop xs zero j = let e : 0 + j ≡ j = omega arith in rw e refl
slice_get-drop [] (suc n) j = refl
slice_get-drop (y ∷ xs) (suc n) j = let e : suc n + j ≡ suc (n + j) = omega arith in rw e (slice_get-drop xs n j)

and-same : (b x y : Bool) → (b ≡ true → x ≡ y) → (b && x) ≡ (b && y)
and-same true x y h = h refl
and-same false x y h = refl

pub and-false : (b x : Bool) → (b && x) ≡ false → b ≡ true → x ≡ false
and-false true x e h = e
and-false false x e h = absurd cc

-- a point among those of a routine has a place there
points_of-has : (image : Parts) (r j : ℕ) (routine : Routine) (point : Point) → slice_get image.routines r ≡ Some routine
    → slice_get (points_of image r) j ≡ Some point
    → (place : Place) × HasPoint image r routine (start_of image.routines r + j) place × (place.instr ≡ point.instr)
points_of-has image r j routine point there e =
    let start = start_of image.routines r in
    let here : slice_get (take routine.count (drop start image.points)) j ≡ Some point = rw (there, points_of) at e in
    let p = slice_get-take (drop start image.points) routine.count j point here in
    let found = place-at image (start + j) point (sym (slice_get-drop image.points start j) ∙ p.1) in (
      found.0,
      record {
        there = there;
        within = place_true start routine.count (start + j) (omega arith) (omega (arith, p.0));
        read = found.1;
      },
      found.2.instr,
    )

-- the calls of the routines below a limit go to lower routines
abbrev pub CallsGoDown : Parts → ℕ → Type 0
CallsGoDown image limit = (c pc : ℕ) (routine : Routine) (place : Place) → c < limit → HasPoint image c routine pc place
    → calls place.instr.opcode ≡ true → place.instr.imm < c

-- so do those of each point among those of a routine
goes-down : (image : Parts) (limit : ℕ) → CallsGoDown image limit → (c j : ℕ) (point : Point) → c < limit
    → slice_get (points_of image c) j ≡ Some point → calls point.instr.opcode ≡ true → point.instr.imm < c
goes-down image limit down c j point lt e is = by_routine (slice_get image.routines c) refl
  where
    by_routine : (o : Option Routine) → slice_get image.routines c ≡ o → point.instr.imm < c
    by_routine None there = (let none : slice_get [] j ≡ Some point = rw (there, points_of) at e in absurd cc)
    by_routine (Some routine) there =
        let has = points_of-has image c j routine point there e in
        let calls_there : calls has.0.instr.opcode ≡ true = ap (λ (i : Instr). calls i.opcode) has.2 ∙ is in
        subst (λ (i : Instr). i.imm < c) has.2 (down c (start_of image.routines c + j) routine has.0 lt has.1 calls_there)

touches_here-same : (f g : ℕ → Bool) (k : ℕ) (i : Instr) → (calls i.opcode ≡ true → f i.imm ≡ g i.imm) → touches_here f k i ≡ touches_here g k i
touches_here-same f g k i same = rw (and-same (calls i.opcode) (f i.imm) (g i.imm) same) refl

module _ (image : Parts) (limit : ℕ) (down : CallsGoDown image limit) (k : ℕ) where
  -- where calls go down, no chain of them from routine c is longer than c
  stable : (d e c : ℕ) → c < limit → c < d → c < e → touches_within d image k c ≡ touches_within e image k c
  stable zero e c lt ld le = absurd (omega arith)
  stable (suc d) zero c lt ld le = absurd (omega arith)
  stable (suc d) (suc e) c lt ld le = each c lt (λ b low. stable d e b (omega arith) (omega (arith, low)) (omega (arith, low)))
    where
      each : (c : ℕ) → c < limit → ((b : ℕ) → b < c → touches_within d image k b ≡ touches_within e image k b)
          → touches_within (suc d) image k c ≡ touches_within (suc e) image k c
      each c lt below =
          list_any-same (λ point. touches_here (touches_within d image k) k point.instr)
          (λ point. touches_here (touches_within e image k) k point.instr) (points_of image c)
          (λ j point there.
          touches_here-same (touches_within d image k) (touches_within e image k) k point.instr
          (λ is. below point.instr.imm (goes-down image limit down c j point lt there is)))

  -- what a routine touches, by what the routines that it calls do
  pub touches-step : (r : ℕ) → r < limit → r < length image.routines
      → touches image k r ≡ list_any (λ point. touches_here (touches image k) k point.instr) (points_of image r)
  touches-step r lt within = by_depth (length image.routines) within refl
    where
      by_depth : (n : ℕ) → r < n → length image.routines ≡ n → touches_within n image k r ≡ list_any
          (λ point. touches_here (touches_within n image k) k point.instr) (points_of image r)
      by_depth zero le is = absurd (omega arith)
      by_depth (suc n) le is =
          list_any-same (λ point. touches_here (touches_within n image k) k point.instr)
          (λ point. touches_here (touches_within (suc n) image k) k point.instr) (points_of image r) at_point
        where
          at_point : (j : ℕ) (point : Point) → slice_get (points_of image r) j ≡ Some point
              → touches_here (touches_within n image k) k point.instr ≡ touches_here (touches_within (suc n) image k) k point.instr
          at_point j point there =
              touches_here-same (touches_within n image k) (touches_within (suc n) image k) k point.instr
              (λ is. let lower = goes-down image limit down r j point lt there is in
              stable n (suc n) point.instr.imm (omega (arith, lower)) (omega (arith, lower)) (omega (arith, lower)))

-- where nothing is refused, calls go down
pub calls-go_down : (image : Parts) (r limit : ℕ) → AcceptedBelow image limit
    → ((c : ℕ) (routine : Routine) → c < r → slice_get image.routines c ≡ Some routine → start_of image.routines c + routine.count ≤ limit)
    → CallsGoDown image r
unfolding call_misfits
calls-go_down image r limit accepted ends c pc routine point lt has is =
    let place = place_bounds (start_of image.routines c) routine.count pc has.within in
    let end = ends c routine lt has.there in
    let pass = none-refuses image c routine (start_of image.routines c) pc point (accepted c pc routine point (omega (arith, place.1, end)) has) in
    let misfit = and-false (calls point.instr.opcode) (not (nat_lt point.instr.imm c) || _) pass.call is in
    ltb-true point.instr.imm c (not-false (nat_lt point.instr.imm c) (or_parts (not (nat_lt point.instr.imm c)) _ misfit).0)

-- a table that says what the routines below r touch says it of r too, once r's own is noted by it
pub notes-more : (image : Parts) (table : List (List Bool)) (r : ℕ) → CallsGoDown image (suc r) → r < length image.routines → NotesBelow image table r
    → (k : ℕ) → k < 4 → touches_by image table k r ≡ touches image k r
notes-more image table r down within notes k few =
    list_any-same (λ point. touches_here (noted table k) k point.instr) (λ point. touches_here (touches image k) k point.instr)
    (points_of image r) at_point
    ∙ sym (touches-step image (suc r) down k r (omega arith) within)
  where
    at_point : (j : ℕ) (point : Point) → slice_get (points_of image r) j ≡ Some point
        → touches_here (noted table k) k point.instr ≡ touches_here (touches image k) k point.instr
    at_point j point there =
        touches_here-same (noted table k) (touches image k) k point.instr
        (λ is. notes point.instr.imm k (goes-down image (suc r) down r j point (omega arith) there is) few)

-- what is noted of a routine, as a list
pub noted-all : (image : Parts) (table : List (List Bool)) (r c : ℕ) → NotesBelow image table r → c < r
    → noted table 0 c ∷ noted table 1 c ∷ noted table 2 c ∷ noted table 3 c ∷ [] ≡ touched_by image c
noted-all image table r c notes lt = rw (
  notes c 0 lt (omega arith),
  notes c 1 lt (omega arith),
  notes c 2 lt (omega arith),
  notes c 3 lt (omega arith),
) refl

-- a table says of the routines below r what it said before the entry of r was written
pub notes-kept : (image : Parts) (table : List (List Bool)) (r : ℕ) (touched : List Bool) → NotesBelow image table r
    → NotesBelow image (set table r touched) r
notes-kept image table r touched notes c k lt few = rw (get_or-set_other table r c touched [] (omega arith)) (notes c k lt few)

-- where nothing is refused up to the end of routine r, the table that its own touched counters were written into
-- says what the routines up to it touch
pub notes-next : (image : Parts) (table : List (List Bool)) (r : ℕ) (touched : List Bool)
    → AcceptedBelow image (start_of image.routines (r + 1)) → NotesBelow image table r
    → (r < length table) × (r < length image.routines) → touched ≡ noted_by image table r → NotesBelow image (set table r touched) (r + 1)
notes-next image table r touched accepted notes within is c k lt few = by_order (cases_lt c r)
  where
    down : CallsGoDown image (suc r)
    down = calls-go_down image (suc r) (start_of image.routines (r + 1)) accepted
        (λ b routine le there. let next = start_of-next image.routines b routine there in
        let later = start_of-le image.routines (suc b) (r + 1) (omega (arith, le)) in omega (arith, next, later))

    own : (k : ℕ) → k < 4 → slice_index_or (noted_by image table r) k false ≡ touches_by image table k r
    own zero few = refl
    own (suc zero) few = refl
    own (suc (suc zero)) few = refl
    own (suc (suc (suc zero))) few = refl
    own (suc (suc (suc (suc k)))) few = absurd (omega arith)

    at_r : noted (set table r touched) k r ≡ touches image k r
    at_r = rw (get_or-set_same table r touched [] within.0, is) (own k few ∙ notes-more image table r down within.1 notes k few)

    by_order : (c < r) ⊎ (r ≤ c) → noted (set table r touched) k c ≡ touches image k c
    by_order (inl below) = notes-kept image table r touched notes c k below few
    by_order (inr above) = let here : c ≡ r = omega (arith, lt, above) in rw here at_r

slice_get-take_within : {A : Type 0} (xs : List A) (n j : ℕ) → j < n → slice_get (take n xs) j ≡ slice_get xs j
slice_get-take_within xs zero j lt = absurd (omega arith)
slice_get-take_within [] (suc n) j lt = refl
slice_get-take_within (y ∷ xs) (suc n) zero lt = refl
slice_get-take_within (y ∷ xs) (suc n) (suc j) lt = slice_get-take_within xs n j (omega arith)

-- a place that a routine has is that of one of its points
has-points_of : (image : Parts) (r pc : ℕ) (routine : Routine) (place : Place) → HasPoint image r routine pc place
    → (point : Point) × (slice_get (points_of image r) (pc - start_of image.routines r) ≡ Some point) × (place.instr ≡ point.instr)
has-points_of image r pc routine place has =
    let start = start_of image.routines r in
    let bounds = place_bounds start routine.count pc has.within in
    let at : start + (pc - start) ≡ pc = omega (arith, bounds.0) in
    let found = point-of image pc place has.read in (
      found.0,
      rw (has.there, points_of)
          (slice_get-take_within (drop start image.points) routine.count (pc - start) (omega (arith, bounds.0, bounds.1))
          ∙ slice_get-drop image.points start (pc - start) ∙ ap (slice_get image.points) at ∙ found.1),
      found.2.instr,
    )

or-true : (b : Bool) → (b || true) ≡ true
or-true true = refl
or-true false = refl

list_any-found : {A : Type 0} (test : A → Bool) (xs : List A) (j : ℕ) (x : A) → slice_get xs j ≡ Some x → test x ≡ true → list_any test xs ≡ true
list_any-found test [] j x e h = absurd cc
list_any-found test (y ∷ xs) zero x e h = let same : y ≡ x = cc in rw (same, h) refl
list_any-found test (y ∷ xs) (suc j) x e h = rw (list_any-found test xs j x e h) (or-true (test y))

-- a routine touches the counters that it names
pub touches-own : (image : Parts) (r pc : ℕ) (routine : Routine) (place : Place) → HasPoint image r routine pc place
    → counts place.instr.opcode ≡ true → touches image place.instr.a r ≡ true
touches-own image r pc routine place has is =
    let found = has-points_of image r pc routine place has in
    let counts_there : counts found.0.instr.opcode ≡ true = ap (λ (i : Instr). counts i.opcode) (sym found.2) ∙ is in
    subst (λ (i : Instr). touches image i.a r ≡ true) (sym found.2)
    (by_depth found.0 found.1 counts_there (length image.routines) (slice_get_within image.routines r routine has.there))
  where
    by_depth : (point : Point) → slice_get (points_of image r) (pc - start_of image.routines r) ≡ Some point
        → counts point.instr.opcode ≡ true → (n : ℕ) → r < n → touches_within n image point.instr.a r ≡ true
    by_depth point there is zero lt = absurd (omega arith)
    by_depth point there is (suc n) lt =
        list_any-found (λ other. touches_here (touches_within n image point.instr.a) point.instr.a other.instr)
        (points_of image r) (pc - start_of image.routines r) point there
        (rw (is, eq-eqb point.instr.a point.instr.a refl) refl)

-- and those that a routine touches that it calls
pub touches-called : (image : Parts) → CallsGoDown image (length image.routines) → (r pc : ℕ) (routine : Routine) (place : Place)
    → HasPoint image r routine pc place → calls place.instr.opcode ≡ true
    → (k : ℕ) → touches image k place.instr.imm ≡ true → touches image k r ≡ true
touches-called image down r pc routine place has is k touched =
    let within = slice_get_within image.routines r routine has.there in
    let found = has-points_of image r pc routine place has in
    let calls_there : calls found.0.instr.opcode ≡ true = ap (λ (i : Instr). calls i.opcode) (sym found.2) ∙ is in
    let touched_there : touches image k found.0.instr.imm ≡ true = ap (λ (i : Instr). touches image k i.imm) (sym found.2) ∙ touched in
    touches-step image (length image.routines) down k r within within
    ∙ list_any-found (λ point. touches_here (touches image k) k point.instr) (points_of image r)
    (pc - start_of image.routines r) found.0 found.1 (rw (calls_there, touched_there) (or-true _))
