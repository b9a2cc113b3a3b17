-- No call fails for lack of room by its own tests.
use Rattle.std.proofs.Common.{◌≡◌, ℕ, Bool, true, false, List, [], ◌∷◌, Option, Some, None, cond, refl, subst}
use Rattle.geos_terms.specs.declared.refusal.Refusal.{Refusal}
use Rattle.geos_terms.specs.declared.refusal.Refusal.TheVariants.{NoRoom}
use Rattle.geos_terms.specs.Refusals.{first_refusal}
use Rattle.geos_terms.specs.Edits.{Edit}
use Rattle.geos_calls.specs.declared.call.Change.{Change}
use Rattle.geos_calls.specs.declared.call.Change.TheVariants as change
use Rattle.geos_calls.specs.declared.call.Make.{Make}
use Rattle.geos_calls.specs.declared.call.Make.TheVariants.{Lalloc, Canew}
use Rattle.geos_calls.specs.ChunkCalls.{change_edit, make_edit}

-- the tests of an edit never report lack of room
abbrev pub AsksNoRoom : {A : Type 0} → (List (Option (List ℕ)) → Edit A) → Type 0
AsksNoRoom edit = (cs : List (Option (List ℕ))) → first_refusal (edit cs).refusals ≡ Some NoRoom → ⊥

is_room : Refusal → Bool
is_room NoRoom = true
is_room _ = false

clean : List (Bool × Refusal) → Bool
clean [] = true
clean (t ∷ rest) = cond (is_room t.1) false (clean rest)

rest-clean : (b c : Bool) → cond b false c ≡ true → c ≡ true
rest-clean false c h = h
rest-clean true c h = absurd cc

never : (tests : List (Bool × Refusal)) → clean tests ≡ true → first_refusal tests ≡ Some NoRoom → ⊥
unfolding is_room clean
never [] h e = absurd (let x : ◌≡◌ {A = Option Refusal} None (Some NoRoom) = e in cc)
never ((true, why) ∷ rest) h e =
    let is : why ≡ NoRoom = (let x : Some why ≡ Some NoRoom = e in cc) in
    let no : false ≡ true = subst (λ w. cond (is_room w) false (clean rest) ≡ true) is h in
    absurd cc
never ((false, why) ∷ rest) h e = never rest (rest-clean (is_room why) (clean rest) h) e

change-clean : (change : Change) (cs : List (Option (List ℕ))) → clean (change_edit change cs).refusals ≡ true
unfolding clean is_room
change-clean change.Lcontract _ = refl
change-clean _ _ = refl

-- no change does
pub change-asks : (change : Change) → AsksNoRoom (change_edit change)
change-asks change cs = never (change_edit change cs).refusals (change-clean change cs)

-- what makes a chunk has no test
pub make-asks : (make : Make) → AsksNoRoom (make_edit make)
make-asks (Lalloc n) cs e = absurd (let x : ◌≡◌ {A = Option Refusal} None (Some NoRoom) = e in cc)
make-asks (Canew k) cs e = absurd (let x : ◌≡◌ {A = Option Refusal} None (Some NoRoom) = e in cc)
