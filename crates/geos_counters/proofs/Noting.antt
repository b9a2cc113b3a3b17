-- What is noted in a table of touched counters is touched, wherever calls go.
use Rattle.std.proofs.Common.{◌≡◌, ◌<◌, ℕ, zero, suc, Bool, true, false, List, [], ◌∷◌, length, take, drop, Option, None, Some, slice_get, set, refl, sym, ap, subst, ◌∙◌, inl, inr, arith, ◌≤◌}
use Rattle.std.specs.Prelude.{◌&&◌, ◌||◌, ◌==◌, nat_lt, slice_index_or}
use Rattle.std.specs.List.{list_any}
use Rattle.std.proofs.lemmas.List.{get_or-set_other, get_or-set_same}
use Rattle.std.proofs.lemmas.Bool.{cases_eq, cases_lt, and_parts, ltb-true, false≢true}
use Rattle.std.proofs.lemmas.Option.{slice_get_past}
use Rattle.geos_image.specs.declared.instr.Instr.{Instr}
use Rattle.geos_image.specs.declared.routine.Routine.{Routine}
use Rattle.geos_image.specs.Parts.{Parts, start_of}
use Rattle.geos_verify.specs.Touched.{calls, counts, points_of, touches_here, touches_within, noted, touches, touches_by, noted_by}
use Rattle.geos_counters.specs.Touching.{NotesAllTouched, touches_by_those_before}

or-implied : (a b c : Bool) → (b ≡ true → c ≡ true) → (a || b) ≡ true → (a || c) ≡ true
or-implied true b c h e = refl
or-implied false b c h e = h e

and-implied : (a b c : Bool) → (b ≡ true → c ≡ true) → (a && b) ≡ true → (a && c) ≡ true
and-implied true b c h e = h e
and-implied false b c h e = e

either : (a b c d : Bool) → (a ≡ true → c ≡ true) → (b ≡ true → d ≡ true) → (a || b) ≡ true → (c || d) ≡ true
either true b c d h j e = rw (h refl) refl
either false b true d h j e = refl
either false b false d h j e = j e

-- where one test passes another does, so that it finds as much
list_any-implied : {A : Type 0} (f g : A → Bool) (xs : List A) → ((x : A) → f x ≡ true → g x ≡ true) → list_any f xs ≡ true → list_any g xs ≡ true
list_any-implied f g [] h e = e
list_any-implied f g (x ∷ xs) h e = either (f x) (list_any f xs) (g x) (list_any g xs) (h x) (list_any-implied f g xs h) e

here-implied : (f g : ℕ → Bool) (k : ℕ) (i : Instr) → ((c : ℕ) → f c ≡ true → g c ≡ true) → touches_here f k i ≡ true → touches_here g k i ≡ true
here-implied f g k i h e = or-implied (counts i.opcode && i.a == k) (calls i.opcode && f i.imm) (calls i.opcode && g i.imm)
    (and-implied (calls i.opcode) (f i.imm) (g i.imm) (h i.imm)) e

-- a longer chain of calls touches as much
touches-deeper : (image : Parts) (k depth r : ℕ) → touches_within depth image k r ≡ true → touches_within (suc depth) image k r ≡ true
touches-deeper image k zero r e = absurd cc
touches-deeper image k (suc depth) r e =
    list_any-implied (λ point. touches_here (touches_within depth image k) k point.instr)
    (λ point. touches_here (touches_within (suc depth) image k) k point.instr) (points_of image r)
    (λ point. here-implied (touches_within depth image k) (touches_within (suc depth) image k) k point.instr (touches-deeper image k depth)) e

-- what the table notes is touched by chains of so many routines
abbrev pub NotesWithin : Parts → List (List Bool) → ℕ → Type 0
NotesWithin image table depth = (k c : ℕ) → noted table k c ≡ true → touches_within depth image k c ≡ true

-- also once another routine's counters are noted by the table
pub notes-step : (image : Parts) (table : List (List Bool)) (r : ℕ) (touched : List Bool) → r < length table
    → touched ≡ noted_by image table r → NotesWithin image table r → NotesWithin image (set table r touched) (suc r)
notes-step image table r touched within is notes k c e = elim (cases_eq c r) [
  | inl same ↦
      let at_r : slice_index_or (noted_by image table r) k false ≡ true = ap (λ (l : List Bool). slice_index_or l k false)
      (sym (get_or-set_same table r touched [] within ∙ is)) ∙ ap (λ (n : ℕ). noted (set table r touched) k n) (sym same) ∙ e in
      rw same (list_any-implied (λ point. touches_here (noted table k) k point.instr)
      (λ point. touches_here (touches_within r image k) k point.instr) (points_of image r)
      (λ point. here-implied (noted table k) (touches_within r image k) k point.instr (notes k)) (own k at_r))
  | inr ne ↦ touches-deeper image k r c
      (notes k c (ap (λ (l : List Bool). slice_index_or l k false) (sym (get_or-set_other table r c touched [] ne)) ∙ e))
]
  where
    own : (k : ℕ) → slice_index_or (noted_by image table r) k false ≡ true → touches_by image table k r ≡ true
    own zero e = e
    own (suc zero) e = e
    own (suc (suc zero)) e = e
    own (suc (suc (suc zero))) e = e
    own (suc (suc (suc (suc k)))) e = absurd cc

noted-own : (image : Parts) (table : List (List Bool)) (r k : ℕ) → k < 4 → touches_by image table k r ≡ true
    → slice_index_or (noted_by image table r) k false ≡ true
noted-own image table r zero few e = e
noted-own image table r (suc zero) few e = e
noted-own image table r (suc (suc zero)) few e = e
noted-own image table r (suc (suc (suc zero))) few e = e
noted-own image table r (suc (suc (suc (suc k)))) few e = absurd (omega (arith, few))

-- so it is of those before a routine
abbrev pub NotesOwnBelow : Parts → List (List Bool) → ℕ → Type 0
NotesOwnBelow image table low = (k r : ℕ) → k < 4 → r < low → touches_by_those_before image table k r ≡ true → noted table k r ≡ true

-- also once that one's counters are noted by the table
pub own-step : (image : Parts) (table : List (List Bool)) (r : ℕ) (touched : List Bool) → r < length table
    → touched ≡ noted_by image table r → NotesOwnBelow image table r → NotesOwnBelow image (set table r touched) (suc r)
own-step image table r touched within is own k c few lt e = elim (cases_lt c r) [
  | inl earlier ↦ other k c (omega (arith, earlier)) ∙ own k c few earlier
      (list_any-implied (λ point. touches_here (λ d. nat_lt d c && noted (set table r touched) k d) k point.instr)
      (λ point. touches_here (λ d. nat_lt d c && noted table k d) k point.instr) (points_of image c)
      (λ point. here-implied (λ d. nat_lt d c && noted (set table r touched) k d) (λ d. nat_lt d c && noted table k d) k point.instr
      (λ d. before d c (omega (arith, earlier)))) e)
  | inr late ↦
      let same : c ≡ r = omega (arith, late, lt) in
      let by : touches_by image table k r ≡ true =
      list_any-implied (λ point. touches_here (λ d. nat_lt d r && noted (set table r touched) k d) k point.instr)
      (λ point. touches_here (noted table k) k point.instr) (points_of image r)
      (λ point. here-implied (λ d. nat_lt d r && noted (set table r touched) k d) (noted table k) k point.instr
      (λ d both. (and_parts (nat_lt d r) (noted table k d) (before d r (omega arith) both)).1))
      (subst (λ (n : ℕ). touches_by_those_before image (set table r touched) k n ≡ true) same e) in
      subst (λ (n : ℕ). noted (set table r touched) k n ≡ true) (sym same)
      (ap (λ (l : List Bool). slice_index_or l k false) (get_or-set_same table r touched [] within ∙ is) ∙ noted-own image table r k few by)
]
  where
    other : (k d : ℕ) → (d ≡ r → ⊥) → noted (set table r touched) k d ≡ noted table k d
    other k d ne = ap (λ (l : List Bool). slice_index_or l k false) (get_or-set_other table r d touched [] ne)

    before : (d c : ℕ) → c ≤ r → (nat_lt d c && noted (set table r touched) k d) ≡ true → (nat_lt d c && noted table k d) ≡ true
    before d c le e =
        let parts = and_parts (nat_lt d c) (noted (set table r touched) k d) e in
        let less = ltb-true d c parts.0 in
        rw (parts.0, sym (other k d (omega (arith, less, le))) ∙ parts.1) refl

-- a table in which no counter is noted, of so many routines
abbrev pub blank_rows : ℕ → List (List Bool)
blank_rows zero = []
blank_rows (suc n) = (false ∷ false ∷ false ∷ false ∷ []) ∷ blank_rows n

blank-row : (k : ℕ) → slice_index_or (false ∷ false ∷ false ∷ false ∷ []) k false ≡ false
blank-row zero = refl
blank-row (suc zero) = refl
blank-row (suc (suc zero)) = refl
blank-row (suc (suc (suc zero))) = refl
blank-row (suc (suc (suc (suc k)))) = refl

blank-at : (n k c : ℕ) → noted (blank_rows n) k c ≡ false
blank-at zero k c = refl
blank-at (suc n) k zero = blank-row k
blank-at (suc n) k (suc c) = blank-at n k c

-- so nothing has to be touched
pub notes-blank : (image : Parts) (n : ℕ) → NotesWithin image (blank_rows n) 0
notes-blank image n k c e = sym (blank-at n k c) ∙ e

-- Tables that note all that is touched

-- the counters of so many routines are noted as the table itself says what these call
abbrev pub IsWhole : Parts → List (List Bool) → ℕ → Type 0
IsWhole image table count = (r : ℕ) → r < count → slice_index_or table r [] ≡ noted_by image table r

-- what is no routine touches nothing
no-routine : (image : Parts) (depth k r : ℕ) → slice_get image.routines r ≡ None → touches_within depth image k r ≡ false
no-routine image zero k r none = refl
no-routine image (suc depth) k r none =
    ap (λ (o : Option Routine). list_any (λ point. touches_here (touches_within depth image k) k point.instr)
    (elim o [ None ↦ [] | Some routine ↦ take routine.count (drop (start_of image.routines r) image.points) ])) none

-- so there is a routine that touches something
pub touching-there : (image : Parts) (k r : ℕ) → touches image k r ≡ true → r < length image.routines
touching-there image k r e = elim (cases_lt r (length image.routines)) [
  | inl lt ↦ lt
  | inr le ↦ absurd (false≢true (sym (no-routine image (length image.routines) k r (slice_get_past image.routines r le)) ∙ e))
]

module _ (image : Parts) (table : List (List Bool)) (whole : IsWhole image table (length image.routines)) (k : ℕ) (few : k < 4) where
  whole-within : (depth r : ℕ) → touches_within depth image k r ≡ true → noted table k r ≡ true
  whole-within zero r e = absurd cc
  whole-within (suc depth) r e = elim (cases_lt r (length image.routines)) [
    | inl lt ↦
        let by : touches_by image table k r ≡ true =
        list_any-implied (λ point. touches_here (touches_within depth image k) k point.instr)
        (λ point. touches_here (noted table k) k point.instr) (points_of image r)
        (λ point. here-implied (touches_within depth image k) (noted table k) k point.instr (whole-within depth)) e in
        ap (λ (l : List Bool). slice_index_or l k false) (whole r lt) ∙ noted-own image table r k few by
    | inr le ↦ absurd (false≢true (sym (no-routine image (suc depth) k r (slice_get_past image.routines r le)) ∙ e))
  ]

-- such a table notes all that is touched
pub notes-whole : (image : Parts) (table : List (List Bool)) → IsWhole image table (length image.routines) → NotesAllTouched image table
notes-whole image table whole k r few e = whole-within image table whole k few (length image.routines) r e

-- a table in which each counter is noted, of so many routines
abbrev pub full_rows : ℕ → List (List Bool)
full_rows zero = []
full_rows (suc n) = (true ∷ true ∷ true ∷ true ∷ []) ∷ full_rows n

full-row : (k : ℕ) → k < 4 → slice_index_or (true ∷ true ∷ true ∷ true ∷ []) k false ≡ true
full-row zero few = refl
full-row (suc zero) few = refl
full-row (suc (suc zero)) few = refl
full-row (suc (suc (suc zero))) few = refl
full-row (suc (suc (suc (suc k)))) few = absurd (omega (arith, few))

full-at : (n k r : ℕ) → k < 4 → r < n → noted (full_rows n) k r ≡ true
full-at zero k r few lt = absurd (omega (arith, lt))
full-at (suc n) k zero few lt = full-row k few
full-at (suc n) k (suc r) few lt = full-at n k r few (omega (arith, lt))

-- it notes all that is touched
pub notes-full : (image : Parts) (n : ℕ) → length image.routines ≤ n → NotesAllTouched image (full_rows n)
notes-full image n room k r few e = (let lt = touching-there image k r e in full-at n k r few (omega (arith, lt, room)))
