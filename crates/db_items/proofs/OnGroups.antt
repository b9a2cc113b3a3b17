-- Calls on the chunks of a group do their rows: the group is brought, its chunks change, it is marked.
use Rattle.std.proofs.Common.{◌≡◌, ◌∙◌, ℕ, List, [], ◌∷◌, Option, Some, None, Bool, true, false, ◌++◌, refl, sym, ap, subst}
use Rattle.std.specs.Prelude.{Ok, Err}
use Rattle.geos_terms.specs.declared.name.Name.{Name}
use Rattle.geos_terms.specs.declared.refusal.Refusal.{Refusal}
use Rattle.geos_terms.specs.declared.refusal.Refusal.TheVariants as refusal
use Rattle.geos_terms.specs.Edits.{Edit}
use Rattle.geos_terms.specs.Refusals.{first_refusal}
use Rattle.geos_calls.specs.Calls.{enlarges}
use Rattle.geos_calls.specs.ChunkCalls.{row_in}
use Rattle.geos_calls.specs.Effects.{Call, Choice, bringing, come_to, unchanged}
use Rattle.geos_calls.specs.Given.{given_memory}
use Rattle.geos_calls.specs.ItemCalls.{no_group, on_group}
use Rattle.geos_calls.specs.Memory.{Memory, is_group, with_mark}
use Rattle.geos_calls.specs.VmCalls.{bring, no_listed}
use Rattle.geos_calls.proofs.Laws.{first_refusal-came}
use Rattle.block_handles.specs.Store.{Store}
use Rattle.vm_file.specs.Device.{Medium}
use Rattle.vm_blocks.specs.DoesRow.{DoesRow, DoesRowAlone, IsChosen}
use Rattle.vm_blocks.specs.FileOf.{IsMemoryOf}
use Rattle.vm_blocks.specs.Tied.{IsTied}
use Rattle.vm_blocks.specs.View.{VmState}
use Rattle.vm_blocks.proofs.BringRows.{chosen}
use Rattle.db_items.specs.Groups.{IsGroup}
use Rattle.db_items.proofs.Fronts.{came-err, came-ok, fronted-err, fronted-ok}
use Rattle.db_items.proofs.Told.{group-listed, group-told, no_group-told}

-- What comes from outside while a group is brought, and then at the call on its chunks

abbrev pub both : Choice → Choice → Choice
both first then = record {
  first_room = first.first_room;
  last_room = then.last_room;
  device = first.device;
  unsure =
      false;
  memory = false;
  given = first.given;
}

-- a call on chunks depends only on the later of two choices, and a refusal leaves memory unchanged
pub record IsOnChunks {A : Type 0} (call : Call A) : Type 0 where
  pub by_room : (first then : Choice) (m : Memory) → call (both first then) m ≡ call then m
  pub left : (choice : Choice) (m : Memory) (why : Refusal) → (call choice m).left why ≡ m

pub enlarges-on_chunks : {A : Type 0} (edit : List (Option (List ℕ)) → Edit A) (name : Name) → IsOnChunks (enlarges edit name)
enlarges-on_chunks edit name = record { by_room = λ first then m. refl; left = λ choice m why. refl }

pub changes-on_chunks : (grows : Bool) (edit : List (Option (List ℕ)) → Edit (Unit {0})) (name : Name) → IsOnChunks (row_in grows edit name)
changes-on_chunks true edit name = enlarges-on_chunks edit name
changes-on_chunks false edit name = record { by_room = λ first then m. refl; left = λ choice m why. refl }

-- The group was brought

-- memory with what was given then, where its tests did not hold
pub record Brings {D : Type 0} (medium : Medium D) (v w : VmState D) (t : Store) (g : ℕ) (m : Memory) : Type 0 where
  pub choice : Choice
  pub chosen : IsChosen medium v.file.device w.file.device choice
  pub is : IsMemoryOf medium w t (given_memory choice.given m)
  pub group : is_group (given_memory choice.given m) g ≡ true
  pub passed : first_refusal (no_group (given_memory choice.given m) g ∷ bringing choice (given_memory choice.given m) g) ≡ None

-- the tests for a group hold where those for a listed block do
same-tests : (choice : Choice) (n : Memory) (g : ℕ) → is_group n g ≡ true
    → first_refusal (no_group n g ∷ bringing choice n g) ≡ first_refusal (no_listed n g ∷ bringing choice n g)
same-tests choice n g group = let listed = group-listed n g group in rw (group, listed) refl

module _ {D : Type 0} (medium : Medium D) (v w : VmState D) (s t : Store) (g : ℕ) (tied : IsTied medium w t) (group : IsGroup w g) where
  pub brings : DoesRow medium (bring g) (Ok tt) v s w t → (m : Memory) → IsMemoryOf medium v s m → Brings medium v w t g m
  brings row m is =
      let b = row m is in
      let n = given_memory b.0.given m in
      let c = came-ok (first_refusal (no_listed n g ∷ bringing b.0 n g)) (unchanged n) tt tt n b.2 b.4 in
      let now : IsMemoryOf medium w t n = subst (IsMemoryOf medium w t) (sym c.2) b.3 in
      let is_one = group-told medium w t tied n now g group in
      record { choice = b.0; chosen = b.1; is = now; group = is_one; passed = same-tests b.0 n g is_one ∙ c.0 }

  module _ {A : Type 0} (call : Call A) (on : IsOnChunks call) where
    -- it was refused
    pub not_brought-row : (why : Refusal) → DoesRow medium (bring g) (Err why) v s w t → DoesRow medium (on_group g call) (Err why) v s w t
    not_brought-row why row m is =
        let b = row m is in
        let n = given_memory b.0.given m in
        let c = came-err (first_refusal (no_listed n g ∷ bringing b.0 n g)) (unchanged n) tt why n b.2 b.4 in
        let now : IsMemoryOf medium w t n = subst (IsMemoryOf medium w t) (sym c.1) b.3 in
        let is_one = group-told medium w t tied n now g group in
        let own = call b.0 n in
        let came : first_refusal ((no_group n g ∷ bringing b.0 n g) ++ own.refusals) ≡ Some why =
        first_refusal-came (no_group n g ∷ bringing b.0 n g) own.refusals why (same-tests b.0 n g is_one ∙ c.0) in
        (b.0, b.1, n, now, ap (λ o. come_to o own.left own.answer (with_mark own.after g true)) came ∙ ap (λ k. (Err why, k)) (on.left b.0 n why))

    -- it came, and its chunks changed, or did not
    module _ (brought : DoesRow medium (bring g) (Ok tt) v s w t) (u : Store) where
      pub on_group-ok : (x : VmState D) (a : A) → x.file.device ≡ w.file.device → DoesRowAlone medium call (Ok a) w t w u
          → ((n : Memory) → IsMemoryOf medium w u n → IsMemoryOf medium x u (with_mark n g true))
          → DoesRow medium (on_group g call) (Ok a) v s x u
      on_group-ok x a device row marks m is =
          let b = brings brought m is in
          let n = given_memory b.choice.given m in
          let c = row n b.is in
          let e = both b.choice c.0 in
          let came = fronted-ok (no_group n g ∷ bringing b.choice n g) b.passed (λ k. with_mark k g true) (call c.0 n) a c.2 c.4 in (
            e,
            subst (λ d. IsChosen medium v.file.device d e) (sym device) (record { given = b.chosen.given; device = b.chosen.device }),
            with_mark c.2 g true,
            marks c.2 c.3,
            ap (λ own. come_to (first_refusal ((no_group n g ∷ bringing b.choice n g) ++ own.refusals)) own.left own.answer
                (with_mark own.after g true)) (on.by_room b.choice c.0 n) ∙ came,
          )

      pub on_group-err : (why : Refusal) → DoesRowAlone medium call (Err why) w t w u → DoesRow medium (on_group g call) (Err why) v s w u
      on_group-err why row m is =
          let b = brings brought m is in
          let n = given_memory b.choice.given m in
          let c = row n b.is in
          let e = both b.choice c.0 in
          let came = fronted-err (no_group n g ∷ bringing b.choice n g) b.passed (λ k. with_mark k g true) (call c.0 n) why c.2 c.4 in (
            e,
            record { given = b.chosen.given; device = b.chosen.device },
            c.2,
            c.3,
            ap (λ own. come_to (first_refusal ((no_group n g ∷ bringing b.choice n g) ++ own.refusals)) own.left own.answer
                (with_mark own.after g true)) (on.by_room b.choice c.0 n) ∙ came,
          )

-- No group has the handle

module _ {D : Type 0} (medium : Medium D) (v : VmState D) (s : Store) (g : ℕ) (tied : IsTied medium v s) (none : IsGroup v g → ⊥) where
  pub no_group-row : {A : Type 0} (call : Call A) → IsOnChunks call → DoesRow medium (on_group g call) (Err refusal.BadHandle) v s v s
  no_group-row call on m is =
      let c = chosen false false [] in
      let test = no_group-told medium v s tied m is g none in (
        c,
        record { given = λ good. refl; device = λ good fails. absurd cc },
        m,
        is,
        rw test (ap (λ k. (Err refusal.BadHandle, k)) (on.left c m refusal.BadHandle)),
      )
