-- One more element at the end of a list that obeys a rule, or that is written.
use Rattle.std.proofs.Common.{◌≡◌, ◌+◌, Bool, true, false, List, [], ◌∷◌, ◌++◌, ℕ, Option, ◌<◌, ◌≤◌, length, get_or, take, refl, sym, ap, subst, ◌∙◌, append_assoc, arith}
use Rattle.std.specs.Prelude.{◌&&◌}
use Rattle.std.specs.List.{list_all, flat_map, All}
use Rattle.std.proofs.lemmas.Bool.{and_parts}
use Rattle.std.proofs.lemmas.List.{append-nil, map-append, take_more, take_all, flat_map_more}
use Rattle.std.proofs.lemmas.List.Folds.{list_all-append}
use Rattle.std.proofs.lemmas.List.Sums.{sum_by_push}
use Rattle.geos_image.specs.declared.instr.Instr.{Instr}
use Rattle.geos_image.specs.declared.row.Row.{Row}
use Rattle.geos_image.specs.declared.potential.Potential.{Potential}
use Rattle.geos_image.specs.declared.routine.Routine.{Routine}
use Rattle.geos_image.specs.declared.point.Point.{Point}
use Rattle.geos_image.specs.Parts.{total_count, instrs_of}
use Rattle.geos_image.specs.Legal.{is_instr, is_given, is_point, is_routine, are_routines}

pub both : (a b : Bool) → a ≡ true → b ≡ true → (a && b) ≡ true
both true true p q = refl
both true false p q = q
both false b p q = p

pub list_all-push : {A : Type 0} (p : A → Bool) (xs : List A) (x : A) → list_all p xs ≡ true → p x ≡ true → list_all p (xs ++ x ∷ []) ≡ true
list_all-push p xs x h k = list_all-append p xs (x ∷ []) ∙ both (list_all p xs) (list_all p (x ∷ [])) h (both (p x) true k refl)

are_routines-more : (borrows : Bool) (earlier routines : List Routine) (r : Routine) → are_routines borrows earlier routines ≡ true
    → is_routine borrows (earlier ++ routines) r ≡ true → are_routines borrows earlier (routines ++ r ∷ []) ≡ true
are_routines-more borrows earlier [] r h k = both (is_routine borrows earlier r) true
    (ap (λ rs. is_routine borrows rs r) (sym (append-nil earlier)) ∙ k) refl
are_routines-more borrows earlier (first ∷ routines) r h k =
    let parts = and_parts (is_routine borrows earlier first) (are_routines borrows (earlier ++ first ∷ []) routines) h in
    both (is_routine borrows earlier first) _ parts.0
    (are_routines-more borrows (earlier ++ first ∷ []) routines r parts.1
    (ap (λ rs. is_routine borrows rs r) (append_assoc earlier (first ∷ []) routines) ∙ k))

-- a legal routine at the end of legal routines
pub are_routines-push : (borrows : Bool) (routines : List Routine) (r : Routine) → are_routines borrows [] routines ≡ true
    → is_routine borrows routines r ≡ true → are_routines borrows [] (routines ++ r ∷ []) ≡ true
are_routines-push borrows routines r h k = are_routines-more borrows [] routines r h k

pub total_count-push : (routines : List Routine) (r : Routine) → total_count (routines ++ r ∷ []) ≡ total_count routines + r.count
total_count-push routines r = sum_by_push (λ (x : Routine). x.count) routines r

-- one more instruction
pub instrs-push : (code : List Instr) (front : List Point) (k : ℕ) (d : Instr) (row : Option Row) (potential : Potential)
    → k < length code → instrs_of front ≡ take k code
    → instrs_of (front ++ record { instr = get_or code k d; row = row; potential = potential } ∷ []) ≡ take (k + 1) code
instrs-push code front k d row potential lt so_far =
    map-append (λ (point : Point). point.instr) front _ ∙ ap (λ (is : List Instr). is ++ get_or code k d ∷ []) so_far ∙ sym (take_more code k d lt)

-- one more instruction and its entry
pub points-push : (borrows : Bool) (routines instrs : ℕ) (code : List Instr) (front : List Point) (k : ℕ) (d : Instr)
    (row : Option Row) (potential : Potential) → k < length code
    → (list_all (is_instr routines instrs) (take k code) ≡ true → list_all (is_point borrows routines instrs) front ≡ true)
    → is_given borrows row ≡ true
    → list_all (is_instr routines instrs) (take (k + 1) code) ≡ true → list_all (is_point borrows routines instrs)
    (front ++ record { instr = get_or code k d; row = row; potential = potential } ∷ []) ≡ true
points-push borrows routines instrs code front k d row potential lt so_far legal h =
    let p = is_instr routines instrs in
    let parts : (list_all p (take k code) && list_all p (get_or code k d ∷ [])) ≡ true = sym (list_all-append p (take k code) (get_or code k d ∷ []))
    ∙ ap (list_all p) (sym (take_more code k d lt)) ∙ h in
    let two = and_parts (list_all p (take k code)) (list_all p (get_or code k d ∷ [])) parts in
    let here = and_parts (p (get_or code k d)) true two.1 in
    list_all-push (is_point borrows routines instrs) front (record { instr = get_or code k d; row = row; potential = potential })
    (so_far two.0) (both (p (get_or code k d)) (is_given borrows row) here.0 legal)

-- the bytes of one more element follow those of the elements before it
pub puts-more : {A : Type 0} (f : A → List ℕ) (xs : List A) (k : ℕ) (d : A) (start old new : List ℕ) → k < length xs
    → old ≡ start ++ flat_map f (take k xs) → new ≡ old ++ f (get_or xs k d) → new ≡ start ++ flat_map f (take (k + 1) xs)
puts-more f xs k d start old new lt so_far more =
    more ∙ ap (λ front. front ++ f (get_or xs k d)) so_far ∙ flat_map_more f start (take k xs) (get_or xs k d)
    ∙ ap (λ front. start ++ flat_map f front) (sym (take_more xs k d lt))

-- no element is written yet
pub puts-none : {A : Type 0} (f : A → List ℕ) (start : List ℕ) → start ≡ start ++ flat_map f []
puts-none f start = sym (append-nil start)

-- those of all elements do
pub puts-all : {A : Type 0} (f : A → List ℕ) (xs : List A) (k : ℕ) (start new : List ℕ) → length xs ≤ k
    → new ≡ start ++ flat_map f (take k xs) → new ≡ start ++ flat_map f xs
puts-all f xs k start new le so_far = so_far ∙ ap (λ front. start ++ flat_map f front) (take_all k xs le)

-- no element breaks a rule yet
pub All-none : {A : Type 0} (P : A → Type 0) → All P []
All-none P k d lt = absurd (omega arith)

-- none of all does
pub All-all : {A : Type 0} (P : A → Type 0) (xs : List A) (k : ℕ) → length xs ≤ k → All P (take k xs) → All P xs
All-all P xs k le h = subst (All P) (take_all k xs le) h
