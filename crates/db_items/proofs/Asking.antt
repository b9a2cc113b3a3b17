-- No call on chunks refuses, by its own tests, what is refused from outside.
use Rattle.std.proofs.Common.{◌≡◌, ◌∙◌, ℕ, Bool, true, false, List, [], ◌∷◌, Option, Some, None, cond, refl, ap, inl, inr, subst}
use Rattle.std.specs.Prelude.{◌⊎◌, Err}
use Rattle.geos_terms.specs.declared.name.Name.{Name}
use Rattle.geos_terms.specs.declared.refusal.Refusal.{Refusal}
use Rattle.geos_terms.specs.declared.refusal.Refusal.TheVariants.{Disk, NoRoom}
use Rattle.geos_terms.specs.Edits.{Edit, refer}
use Rattle.geos_terms.specs.Refusals.{first_refusal}
use Rattle.geos_calls.specs.declared.call.Change.{Change}
use Rattle.geos_calls.specs.declared.call.Change.TheVariants as change
use Rattle.geos_calls.specs.declared.call.Make.{Make}
use Rattle.geos_calls.specs.declared.call.Make.TheVariants.{Lalloc, Canew}
use Rattle.geos_calls.specs.ChunkCalls.{change_edit, make_edit}
use Rattle.block_handles.specs.Store.{Store}
use Rattle.vm_blocks.specs.View.{VmState}
use Rattle.chunk_calls.specs.Edits.{Carries}
use Rattle.chunk_calls.specs.Heaps.{CannotHold, chunks_at}

-- room is refused from outside, and the device
abbrev pub is_outside : Refusal → Bool
is_outside NoRoom = true
is_outside Disk = true
is_outside _ = false

-- an edit never refuses these itself
abbrev pub AsksInside : {A : Type 0} → (List (Option (List ℕ)) → Edit A) → Type 0
AsksInside edit = (cs : List (Option (List ℕ))) (why : Refusal) → is_outside why ≡ true → first_refusal (edit cs).refusals ≡ Some why → ⊥

clean : List (Bool × Refusal) → Bool
clean [] = true
clean (t ∷ rest) = cond (is_outside t.1) false (clean rest)

rest-clean : (b c : Bool) → cond b false c ≡ true → c ≡ true
rest-clean false c h = h
rest-clean true c h = absurd cc

never : (tests : List (Bool × Refusal)) → clean tests ≡ true → (why : Refusal) → is_outside why ≡ true → first_refusal tests ≡ Some why → ⊥
unfolding clean
never [] h why out e = absurd (let x : ◌≡◌ {A = Option Refusal} None (Some why) = e in cc)
never ((true, first) ∷ rest) h why out e =
    let is : first ≡ why = (let x : Some first ≡ Some why = e in cc) in
    let other : false ≡ true = subst (λ b. cond b false (clean rest) ≡ true) (ap is_outside is ∙ out) h in
    absurd cc
never ((false, first) ∷ rest) h why out e = never rest (rest-clean (is_outside first) (clean rest) h) why out e

change-clean : (change : Change) (cs : List (Option (List ℕ))) → clean (change_edit change cs).refusals ≡ true
unfolding clean
change-clean change.Lcontract _ = refl
change-clean _ _ = refl

make-clean : (make : Make) (cs : List (Option (List ℕ))) → clean (make_edit make cs).refusals ≡ true
unfolding clean
make-clean (Lalloc n) cs = refl
make-clean (Canew k) cs = refl

refer-clean : (i n : ℕ) (cs : List (Option (List ℕ))) → clean (refer i n cs).refusals ≡ true
unfolding clean
refer-clean i n cs = refl

-- no change does, nor what makes a chunk, nor what refers to one
pub change-inside : (change : Change) → AsksInside (change_edit change)
change-inside change cs = never (change_edit change cs).refusals (change-clean change cs)

pub make-inside : (make : Make) → AsksInside (make_edit make)
make-inside make cs = never (make_edit make cs).refusals (make-clean make cs)

pub refer-inside : (i n : ℕ) → AsksInside (refer i n)
refer-inside i n cs = never (refer i n cs).refusals (refer-clean i n cs)

-- a call that carries an edit out does not refuse for the device
pub carries-no_disk : {D A : Type 0} (edit : List (Option (List ℕ)) → Edit A) (v : VmState D) (s t : Store) (name : Name)
    (grows : Bool) (why : Refusal) → AsksInside edit → Carries grows v edit s t name (Err why) → why ≡ Disk → ⊥
carries-no_disk edit v s t name true why asks c is = on c.grows.0
  where
    on : (first_refusal (edit (chunks_at c.mid name)).refusals ≡ Some why) ⊎
        ((first_refusal (edit (chunks_at c.mid name)).refusals ≡ None) × CannotHold why c.mid name (edit (chunks_at c.mid name)).chunks) → ⊥
    on (inl first) = asks (chunks_at c.mid name) Disk refl (first ∙ ap Some is)
    on (inr room) = subst (λ r. CannotHold r c.mid name (edit (chunks_at c.mid name)).chunks) is room.1
carries-no_disk edit v s t name false why asks c is = asks (chunks_at s name) Disk refl (c.0 ∙ ap Some is)
