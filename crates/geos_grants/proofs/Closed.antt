-- What routines do, where calls go to lower routines.
use Rattle.std.proofs.Common.{◌≡◌, ◌<◌, ◌≤◌, ◌+◌, ◌-◌, ℕ, zero, suc, Bool, true, false, List, [], ◌∷◌, Option, Some, None, length, slice_get, take, drop, set, refl, sym, ap, subst, ◌∙◌, arith, inl, inr, ◌⊎◌}
use Rattle.std.specs.Prelude.{◌&&◌, ◌||◌, IfSome}
use Rattle.std.specs.List.{list_any}
use Rattle.std.proofs.lemmas.List.{get_or-set_other, get_or-set_same}
use Rattle.std.proofs.lemmas.Bool.{cases_lt}
use Rattle.std.proofs.lemmas.Option.{slice_get_within}
use Rattle.geos_image.specs.declared.instr.Instr.{Instr}
use Rattle.geos_image.specs.declared.row.Row.{Row}
use Rattle.geos_image.specs.declared.routine.Routine.{Routine}
use Rattle.geos_image.specs.Parts.{Parts, start_of}
use Rattle.geos_verify.specs.declared.place.Place.{Place}
use Rattle.geos_verify.specs.Places.{places, RowAt}
use Rattle.geos_verify.specs.Rules.{HasPoint, IsChecked}
use Rattle.geos_verify.specs.Touched.{calls}
use Rattle.geos_verify.proofs.Leads.{may_call}
use Rattle.geos_verify.proofs.Noted.{list_any-same}
use Rattle.geos_verify.proofs.Places.{place_true, place_bounds, item_at, if_some, place-at}
use Rattle.geos_grants.specs.declared.effect.Effect.{Effect}
use Rattle.geos_grants.specs.declared.effects.Effects.{Effects}
use Rattle.geos_grants.specs.Effects.{does}
use Rattle.geos_grants.specs.Sets.{has, no_effects}
use Rattle.geos_grants.specs.Routines.{places_of, acts, has_within, has_effect, noted, has_by, NotesBelow, CallsOne, ComesBy}

-- Lists

slice_get-take : {A : Type 0} (xs : List A) (n j : ℕ) (x : A) → slice_get (take n xs) j ≡ Some x → (j < n) × (slice_get xs j ≡ Some x)
slice_get-take xs zero j x e = absurd cc
slice_get-take [] (suc n) j x e = absurd cc
slice_get-take (y ∷ xs) (suc n) zero x e = (omega arith, e)
slice_get-take (y ∷ xs) (suc n) (suc j) x e = let p = slice_get-take xs n j x e in (omega (arith, p.0), p.1)

slice_get-drop : {A : Type 0} (xs : List A) (n j : ℕ) → slice_get (drop n xs) j ≡ slice_get xs (n + j)
slice_get-drop xs zero j = let e : 0 + j ≡ j = omega arith in rw e refl
slice_get-drop [] (suc n) j = refl
slice_get-drop (y ∷ xs) (suc n) j = let e : suc n + j ≡ suc (n + j) = omega arith in rw e (slice_get-drop xs n j)

slice_get-take_within : {A : Type 0} (xs : List A) (n j : ℕ) → j < n → slice_get (take n xs) j ≡ slice_get xs j
slice_get-take_within xs zero j lt = absurd (omega arith)
slice_get-take_within [] (suc n) j lt = refl
slice_get-take_within (y ∷ xs) (suc n) zero lt = refl
slice_get-take_within (y ∷ xs) (suc n) (suc j) lt = slice_get-take_within xs n j (omega arith)

pub or-true : (b : Bool) → (b || true) ≡ true
or-true true = refl
or-true false = refl

or-false : (b : Bool) → (b || false) ≡ b
or-false true = refl
or-false false = refl

or-assoc : (a b c : Bool) → (a || (b || c)) ≡ ((a || b) || c)
or-assoc true b c = refl
or-assoc false b c = refl

and-same : (b x y : Bool) → (b ≡ true → x ≡ y) → (b && x) ≡ (b && y)
and-same true x y same = same refl
and-same false x y same = refl

-- an element that passes
pub list_any-found : {A : Type 0} (test : A → Bool) (xs : List A) (j : ℕ) (x : A) → slice_get xs j ≡ Some x → test x ≡ true → list_any test xs ≡ true
list_any-found test [] j x e h = absurd cc
list_any-found test (y ∷ xs) zero x e h = let same : y ≡ x = cc in rw (same, h) refl
list_any-found test (y ∷ xs) (suc j) x e h = rw (list_any-found test xs j x e h) (or-true (test y))

-- one element more
pub list_any-more : {A : Type 0} (test : A → Bool) (xs : List A) (k : ℕ) (x : A) → slice_get xs k ≡ Some x
    → list_any test (take (suc k) xs) ≡ (list_any test (take k xs) || test x)
list_any-more test [] k x e = absurd cc
list_any-more test (y ∷ xs) zero x e = let same : y ≡ x = cc in rw same (or-false (test x))
list_any-more test (y ∷ xs) (suc k) x e =
    ap (λ b. test y || b) (list_any-more test xs k x e) ∙ or-assoc (test y) (list_any test (take k xs)) (test x)

-- Places

-- a place among those of a routine
pub places_of-at : (image : Parts) (r j : ℕ) (routine : Routine) (place : Place) → slice_get image.routines r ≡ Some routine
    → slice_get (places_of image r) j ≡ Some place → HasPoint image r routine (start_of image.routines r + j) place
places_of-at image r j routine place there e =
    let start = start_of image.routines r in
    let here : slice_get (take routine.count (drop start (places image))) j ≡ Some place = rw (there, places_of) at e in
    let p = slice_get-take (drop start (places image)) routine.count j place here in
    record {
      there = there;
      within = place_true start routine.count (start + j) (omega arith) (omega (arith, p.0));
      read = sym (slice_get-drop (places image) start j) ∙ p.1;
    }

-- a place that a routine has is among them
pub has-places_of : (image : Parts) (r pc : ℕ) (routine : Routine) (place : Place) → HasPoint image r routine pc place
    → slice_get (places_of image r) (pc - start_of image.routines r) ≡ Some place
has-places_of image r pc routine place has =
    let start = start_of image.routines r in
    let bounds = place_bounds start routine.count pc has.within in
    let at : start + (pc - start) ≡ pc = omega (arith, bounds.0) in
    rw (has.there, places_of)
    (slice_get-take_within (drop start (places image)) routine.count (pc - start) (omega (arith, bounds.0, bounds.1))
    ∙ slice_get-drop (places image) start (pc - start) ∙ ap (slice_get (places image)) at ∙ has.read)

-- the place with this instruction and this row
pub place-here : (image : Parts) (pc : ℕ) (i : Instr) (row : Row) → IfSome (slice_get image.points pc) (λ point. i ≡ point.instr)
    → RowAt image pc row → pc < length image.points
    → (place : Place) × (slice_get (places image) pc ≡ Some place) × (place.instr ≡ i) × (place.row ≡ row)
place-here image pc i row here known lt =
    let found = item_at image.points pc lt in
    let at = place-at image pc found.0 found.1 in (
      at.0,
      at.1,
      at.2.instr ∙ sym (if_some (λ point. i ≡ point.instr) (slice_get image.points pc) found.0 found.1 here),
      if_some (λ place. place.row ≡ row) (slice_get (places image) pc) at.0 at.1 known,
    )

-- Calls

-- the calls of an image go to lower routines
abbrev pub GoDown : Parts → Type 0
GoDown image = (c pc : ℕ) (routine : Routine) (place : Place) → HasPoint image c routine pc place → calls place.instr.opcode ≡ true
    → place.instr.imm < c

-- those of an accepted one do
pub go-down : (image : Parts) → IsChecked image → GoDown image
go-down image checked c pc routine place has is = (may_call image.keyed image checked.0 checked.1 c pc routine place has is).2

acts-same : (effect : Effect) (f g : ℕ → Bool) (place : Place) → (calls place.instr.opcode ≡ true → f place.instr.imm ≡ g place.instr.imm)
    → acts effect f place ≡ acts effect g place
acts-same effect f g place same = rw (and-same (calls place.instr.opcode) (f place.instr.imm) (g place.instr.imm) same) refl

module _ (image : Parts) (down : GoDown image) where
  -- so do those among the places of a routine
  places-down : (c j : ℕ) (place : Place) → slice_get (places_of image c) j ≡ Some place → calls place.instr.opcode ≡ true → place.instr.imm < c
  places-down c j place e is = by_routine (slice_get image.routines c) refl
    where
      by_routine : (o : Option Routine) → slice_get image.routines c ≡ o → place.instr.imm < c
      by_routine None there = (let none : slice_get [] j ≡ Some place = rw (there, places_of) at e in absurd cc)
      by_routine (Some routine) there =
          down c (start_of image.routines c + j) routine place (places_of-at image c j routine place there e) is

  module _ (effect : Effect) where
    -- no chain of calls from routine c is longer than c
    stable : (d e c : ℕ) → c < d → c < e → has_within d image effect c ≡ has_within e image effect c
    stable zero e c ld le = absurd (omega arith)
    stable (suc d) zero c ld le = absurd (omega arith)
    stable (suc d) (suc e) c ld le =
        list_any-same (acts effect (has_within d image effect)) (acts effect (has_within e image effect)) (places_of image c)
        (λ j place there. acts-same effect (has_within d image effect) (has_within e image effect) place
        (λ is. let low = places-down c j place there is in stable d e place.instr.imm (omega (arith, low)) (omega (arith, low))))

    -- what a routine does, by what the routines that it calls do
    pub effect-step : (r : ℕ) → r < length image.routines
        → has_effect image effect r ≡ list_any (acts effect (has_effect image effect)) (places_of image r)
    effect-step r within = by_depth (length image.routines) within refl
      where
        by_depth : (n : ℕ) → r < n → length image.routines ≡ n
            → has_within n image effect r ≡ list_any (acts effect (has_within n image effect)) (places_of image r)
        by_depth zero le is = absurd (omega arith)
        by_depth (suc n) le is =
            list_any-same (acts effect (has_within n image effect)) (acts effect (has_within (suc n) image effect)) (places_of image r)
            (λ j place there. acts-same effect (has_within n image effect) (has_within (suc n) image effect) place
            (λ calling. let low = places-down r j place there calling in
            stable n (suc n) place.instr.imm (omega (arith, low)) (omega (arith, low))))

    -- a routine does what its instructions do
    pub effect-own : (r pc : ℕ) (routine : Routine) (place : Place) → HasPoint image r routine pc place
        → does effect place.instr place.row ≡ true → has_effect image effect r ≡ true
    effect-own r pc routine place has is =
        let within = slice_get_within image.routines r routine has.there in
        effect-step r within ∙ list_any-found (acts effect (has_effect image effect)) (places_of image r)
        (pc - start_of image.routines r) place (has-places_of image r pc routine place has) (rw is refl)

    -- and what the routines do that it calls
    pub effect-called : (r pc : ℕ) (routine : Routine) (place : Place) → HasPoint image r routine pc place
        → calls place.instr.opcode ≡ true → has_effect image effect place.instr.imm ≡ true → has_effect image effect r ≡ true
    effect-called r pc routine place has is called =
        let within = slice_get_within image.routines r routine has.there in
        effect-step r within ∙ list_any-found (acts effect (has_effect image effect)) (places_of image r)
        (pc - start_of image.routines r) place (has-places_of image r pc routine place has)
        (rw (is, called) (or-true (does effect place.instr place.row)))

    -- what a table of the routines below says of a routine
    pub by-table : (table : List Effects) (r : ℕ) → r < length image.routines → NotesBelow image table r
        → has_by image table effect r ≡ has_effect image effect r
    by-table table r within notes =
        list_any-same (acts effect (noted table effect)) (acts effect (has_effect image effect)) (places_of image r)
        (λ j place there. acts-same effect (noted table effect) (has_effect image effect) place
        (λ is. notes place.instr.imm effect (places-down r j place there is)))
        ∙ sym (effect-step r within)

  -- a table into which the effects of one more routine were written
  pub notes-next : (table : List Effects) (r : ℕ) (found : Effects) → r < length table → r < length image.routines
      → NotesBelow image table r → ((effect : Effect) → has found effect ≡ has_by image table effect r)
      → NotesBelow image (set table r found) (r + 1)
  notes-next table r found room within notes is c effect lt = by_order (cases_lt c r)
    where
      by_order : (c < r) ⊎ (r ≤ c) → noted (set table r found) effect c ≡ has_effect image effect c
      by_order (inl below) = rw (get_or-set_other table r c found no_effects (omega (arith, below))) (notes c effect below)
      by_order (inr above) =
          let here : c ≡ r = omega (arith, lt, above) in
          rw (here, get_or-set_same table r found no_effects room) (is effect ∙ by-table effect table r within notes)

-- one call more
pub comes-more : (image : Parts) (n r q c : ℕ) → ComesBy n image r q → CallsOne image q c → ComesBy (suc n) image r c
comes-more image zero r q c comes one = (c, subst (λ (x : ℕ). CallsOne image x c) (sym comes) one, refl)
comes-more image (suc n) r q c comes one = (comes.0, comes.1, comes-more image n comes.0 q c comes.2 one)
