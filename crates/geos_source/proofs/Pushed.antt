-- One more routine, and one more name.
use Rattle.std.proofs.Common.{◌≡◌, ◌∙◌, ◌<◌, ◌+◌, ℕ, Bool, true, false, cond, not, ◌&&◌, ◌||◌, List, [], ◌∷◌, ◌++◌, map, Option, Some, None, bytes_eq, refl, ap, subst, lt-ltb}
use Rattle.std.specs.Prelude.{nat_lt}
use Rattle.std.proofs.lemmas.Bool.{and_from, not_from_false}
use Rattle.std.proofs.lemmas.List.{map-append}
use Rattle.std.proofs.lemmas.List.Folds.{list_any-append}
use Rattle.geos_image.specs.declared.routine.Routine.{Routine}
use Rattle.geos_image.specs.Parts.{total_count}
use Rattle.geos_image.specs.Legal.{is_name, is_named, is_row, is_routine}
use Rattle.geos_image.proofs.Pushes.{total_count-push}
use Rattle.geos_source.specs.declared.progress.TextRoutine.{TextRoutine}
use Rattle.geos_source.specs.Skeletons.{routine_of}

pub routines-push : (done : List TextRoutine) (r : TextRoutine) → map routine_of (done ++ r ∷ []) ≡ map routine_of done ++ r.routine ∷ []
routines-push done r = map-append routine_of done (r ∷ [])

pub counts-push : (done : List TextRoutine) (r : TextRoutine) → total_count (map routine_of (done ++ r ∷ [])) ≡ total_count
    (map routine_of done) + r.routine.count
counts-push done r = ap total_count (routines-push done r) ∙ total_count-push (map routine_of done) r.routine

or_nothing : (b : Bool) → (b || false) ≡ b
or_nothing true = refl
or_nothing false = refl

pub is_named-push : (name : List ℕ) (done : List TextRoutine) (r : TextRoutine)
    → is_named name (map routine_of (done ++ r ∷ [])) ≡ (is_named name (map routine_of done) || bytes_eq r.routine.name name)
is_named-push name done r =
    ap (is_named name) (routines-push done r)
    ∙ list_any-append (λ (x : Routine). bytes_eq x.name name) (map routine_of done) (r.routine ∷ [])
    ∙ ap (λ b. is_named name (map routine_of done) || b) (or_nothing (bytes_eq r.routine.name name))

-- what makes a routine legal after others
pub is_routine-from : (earlier : List Routine) (r : Routine) → is_name r.name ≡ true → is_named r.name earlier ≡ false
    → 0 < r.count → is_row true r.entry ≡ true → is_row true r.exit ≡ true → is_routine true earlier r ≡ true
is_routine-from earlier r name new some entry exit =
    let a = is_name r.name in
    let b = not (is_named r.name earlier) in
    let c = nat_lt 0 r.count in
    let d = is_row true r.entry in
    let two = and_from a b name (not_from_false (is_named r.name earlier) new) in
    let three = and_from (a && b) c two (lt-ltb 0 r.count some) in
    let four = and_from (a && b && c) d three entry in
    and_from (a && b && c && d) (is_row true r.exit) four exit

-- what holds of a new value and of the old one holds of what a name stands for
pub named-holds : (P : ℕ → Type 0) (same : Bool) (value v : ℕ) (old : Option ℕ) → P value → (old ≡ Some v → P v)
    → cond same (Some value) old ≡ Some v → P v
named-holds P true value v old p h e = let equal : value ≡ v = cc in subst P equal p
named-holds P false value v old p h e = h e

-- a name that is still unknown is not the new one, and was unknown before
pub named-unknown : (same : Bool) (value : ℕ) (old : Option ℕ) → cond same (Some value) old ≡ None → (same ≡ false) × (old ≡ None)
named-unknown true value old e = absurd cc
named-unknown false value old e = (refl, e)
