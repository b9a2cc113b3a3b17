-- The calls on groups and items, by what was done below.
use Rattle.std.proofs.Common.{◌≡◌, ℕ, ◌<◌, ◌⊎◌, ◌+◌, Bool, true, false, List, Option, refl, sym, ap, ◌∙◌, arith, subst, inl, inr}
use Rattle.std.specs.Prelude.{Result, Ok, Err, OnErr, OnOk}
use Rattle.std.proofs.lemmas.Bool.{cases_eq}
use Rattle.geos_terms.specs.declared.refusal.Refusal.{Refusal}
use Rattle.geos_terms.specs.declared.refusal.Refusal.TheVariants as refusal
use Rattle.geos_terms.specs.Edits.{Edit, refer}
use Rattle.geos_terms.specs.Names.{vm}
use Rattle.geos_calls.specs.Calls.{in_block}
use Rattle.geos_calls.specs.Effects.{Call, Choice, InBlock, effect_of}
use Rattle.geos_calls.specs.Given.{given_memory}
use Rattle.geos_calls.specs.ItemCalls.{ilock, in_group}
use Rattle.geos_calls.specs.Memory.{is_group}
use Rattle.geos_calls.specs.VmFile.{VmFile}
use Rattle.block_handles.specs.Names.{slot_of}
use Rattle.block_handles.specs.Store.{Store, IsThere, locks_of, place_of}
use Rattle.block_handles.proofs.Laws.{handle_of_there, same-name}
use Rattle.block_handles.proofs.Layouts.{there_of_locks}
use Rattle.vm_file.specs.Device.{Medium}
use Rattle.vm_blocks.specs.Bring.{Keeps, LockedMore}
use Rattle.vm_blocks.specs.Bringing.{ReadsDevice}
use Rattle.vm_blocks.specs.View.{VmState, vm_slot}
use Rattle.chunk_calls.proofs.Changing.{goes-free}
use Rattle.db_items.specs.Groups.{IsGroup}
use Rattle.db_items.specs.Items.{ChangesItem, LocksItem, refers_to}
use Rattle.db_items.proofs.Told.{group-told, is_group-given}
use Rattle.geos_kernel.specs.Kernel.{Calls, IsKernel, NeverFell}
use Rattle.geos_kernel.specs.Spans.{SpansStay, Stands}
use Rattle.geos_kernel.specs.View.{core_of, memory_of, IsFileOf}
use Rattle.geos_kernel.proofs.Listed.{Spares, StaysLocked, calls-beside, keeps-spares, more-locked, same-spares}
use Rattle.geos_kernel.proofs.Looks.{found-stands}
use Rattle.geos_kernel.proofs.Seen.{memory-known, row-answers}
use Rattle.geos_kernel.proofs.Stays.{spans-same, stands-same}
use Rattle.geos_kernel.proofs.VmCalls.{stayed-or-rose}

-- the device refused, or it did not
refused-disk : {A : Type 0} (r : Result A Refusal) → (r ≡ Err refusal.Disk) ⊎ (r ≡ Err refusal.Disk → ⊥)
refused-disk (Err refusal.Disk) = inl refl
refused-disk (Ok answer) = inr (λ e. absurd cc)
refused-disk (Err _) = inr (λ e. absurd cc)

-- a span stands for an item that was found, whose group was locked
pub ilock-stands : {D : Type 0} (medium : Medium D) (v w : VmState D) (s t : Store) (g i n at len : ℕ)
    → LocksItem medium g i n (Ok (at, len)) v w s t → Stands (core_of medium w t) (record { at = place_of t (vm_slot g) + at; len = len })
    (in_block (vm g) (record { chunk = i; start = 0; len = len }))
ilock-stands medium v w s t g i n at len locks =
    let more = locks.ok in
    let locked : 0 < locks_of t (vm_slot g) = omega (arith, more.locks) in
    let place = place_of t (vm_slot g) in
    subst (λ l. Stands (core_of medium w t) (record { at = place + at; len = len }) (in_block (vm g) (record { chunk = i; start = 0; len = l })))
    (sym locks.finds.1)
    (found-stands (core_of medium w t) (vm g) locked (refer i n) at len place refl locks.finds)

module _ {D : Type 0} (medium : Medium D) (v w : VmState D) (s t : Store) (g : ℕ) (k : IsKernel medium v s) where
  -- an medium.honest device has medium.failed more often, or as often
  item-lasts : {A : Type 0} (r : Result A Refusal) → ReadsDevice medium (r ≡ Err refusal.Disk) v.file w.file
      → NeverFell (medium.honest v.file.device) (core_of medium v s) (core_of medium w t)
  item-lasts r device = stayed-or-rose (medium.honest v.file.device) (r ≡ Err refusal.Disk) (medium.failed v.file.device)
      (medium.failed w.file.device) (refused-disk r) device.cause device.counted

  -- spans in other blocks stay
  others-stand : Keeps v s t g → (f : VmFile) → SpansStay (core_of medium v s) (core_of medium w t) f (InBlock (vm g))
  others-stand keeps f span ref stands fresh = elim (cases_eq (slot_of ref.name) (vm_slot g)) [
    | inl same ↦ (
        let there = there_of_locks s (slot_of ref.name) stands.locked in
        absurd (fresh (same-name ref.name (vm g) (handle_of_there s s ref.name refl k.laid there)
        (handle_of_there s s (vm g) refl k.laid (subst (IsThere s) same there)) same))
        )
    | inr apart ↦ (let kept = goes-free v s t g (slot_of ref.name) stands.locked (keeps.each (slot_of ref.name) apart) in
        stands-same (core_of medium v s) (core_of medium w t) span ref kept.0 kept.1 stands)
  ]

  module _ {A : Type 0} (call : Call A) (edit : List (Option (List ℕ)) → Edit A) (r : Result A Refusal)
      (changes : ChangesItem medium call edit g r v w s t) where
    -- in a group they go stale, and where there is none nothing has changed
    item-spans : (f : VmFile) → IsFileOf (medium.honest v.file.device) (core_of medium v s) f → (choice : Choice)
        → SpansStay (core_of medium v s) (core_of medium w t) f (in_group (given_memory choice.given (memory_of (core_of medium v s) f)) g)
    item-spans f tied choice = on (is_group (given_memory choice.given (memory_of (core_of medium v s) f)) g) refl
      where
        on : (is : Bool) → is_group (given_memory choice.given (memory_of (core_of medium v s) f)) g ≡ is
            → SpansStay (core_of medium v s) (core_of medium w t) f (in_group (given_memory choice.given (memory_of (core_of medium v s) f)) g)
        on true e = rw e (others-stand changes.keeps f)
        on false e =
            let none : IsGroup v g → ⊥ = λ group.
            let is : is_group (memory_of (core_of medium v s) f) g ≡ true = group-told medium v s k.tied
            (memory_of (core_of medium v s) f) (memory-known medium v s f tied) g group in
            let given = is_group-given choice.given (memory_of (core_of medium v s) f) g in
            let both : false ≡ true = sym e ∙ given ∙ is in
            absurd cc in
            spans-same (core_of medium v s) (core_of medium w t) f (in_group (given_memory choice.given (memory_of (core_of medium v s) f)) g)
            (changes.no_group none).2

    pub item-calls : ((choice : Choice) (f : VmFile) → (effect_of call choice (memory_of (core_of medium v s) f)).stale ≡ in_group
        (given_memory choice.given (memory_of (core_of medium v s) f)) g)
        → Calls (medium.honest v.file.device) call r (core_of medium v s) (core_of medium w t)
    item-calls stale = record {
      answers = row-answers medium call r v s w t changes.row changes.device.reads.stays (item-lasts r changes.device);
      spans = λ f tied choice. subst (SpansStay (core_of medium v s) (core_of medium w t) f) (sym (stale choice f)) (item-spans f tied choice);
    }

  -- a group that is locked for an item
  module _ (i n : ℕ) (r : Result (ℕ × ℕ) Refusal) (locks : LocksItem medium g i n r v w s t) where
    pub ilock-spares : Spares s t
    ilock-spares = keeps-spares v s t g locks.keeps (on r locks.ok locks.refused)
      where
        on : (r : Result (ℕ × ℕ) Refusal) → OnOk r (LockedMore s t g) → OnErr r (IsThere s (vm_slot g) → t ≡ s) → StaysLocked s t (vm_slot g)
        on (Ok place) ok refused = more-locked s t g ok
        on (Err why) ok refused = λ some. (same-spares s t (refused (there_of_locks s (vm_slot g) some))).locked (vm_slot g) some

    pub ilock-calls : Calls (medium.honest v.file.device) (ilock g i n) (refers_to g i r) (core_of medium v s) (core_of medium w t)
    ilock-calls = calls-beside medium v w s t locks.row locks.device.reads.stays (item-lasts r locks.device) ilock-spares

-- The map item

pub mapped-file : {D A E : Type 0} (v w : VmState D) (item : ℕ × ℕ) (r : Result A E) → OnOk r (w ≡ record v { map_item = item })
    → OnErr r (w ≡ v) → w.file ≡ v.file
mapped-file {D} v w item (Ok done) ok err = ap (λ (x : VmState D). x.file) ok
mapped-file {D} v w item (Err why) ok err = ap (λ (x : VmState D). x.file) err
