-- A block that is brought into memory does its row.
use Rattle.std.proofs.Common.{◌≡◌, ℕ, ◌<◌, List, [], Option, Some, None, Bool, true, false, refl, sym, ap, ◌∙◌, subst, inl, inr}
use Rattle.std.specs.Prelude.{Result, Ok, Err, OnErr, is_none, option_map}
use Rattle.std.proofs.lemmas.List.Elements.{All-nil}
use Rattle.geos_terms.specs.Names.{vm}
use Rattle.geos_terms.specs.declared.refusal.Refusal.TheVariants as refusal
use Rattle.geos_calls.specs.Blocks as model
use Rattle.geos_calls.specs.Directories.{VmBlock, is_held_in}
use Rattle.geos_calls.specs.Effects.{Choice, effect_of, outcome}
use Rattle.geos_calls.specs.Given.{given_memory}
use Rattle.geos_calls.specs.Legal.{AreBytes}
use Rattle.geos_calls.specs.Memory.{Memory, listed_at, size_of}
use Rattle.geos_calls.specs.Tight.{is_tight}
use Rattle.geos_calls.specs.VmCalls.{bring}
use Rattle.block_handles.specs.Names.{IsHandle}
use Rattle.block_handles.specs.Store.{Block, Store, block_at, bytes_in, bytes_of, IsBlock, IsThere, locks_in, locks_of}
use Rattle.vm_file.specs.Device.{Medium, Rose}
use Rattle.vm_file.specs.Outcomes.{ReadsOnly}
use Rattle.vm_file.specs.Contents.{pair_in}
use Rattle.vm_file.specs.Reading.{area_of}
use Rattle.vm_file.specs.State.{bytes_of_block}
use Rattle.vm_blocks.specs.declared.entries.Held.{Held}
use Rattle.vm_blocks.specs.declared.error.BringError.{BringError}
use Rattle.vm_blocks.specs.declared.error.BringError.TheVariants as error
use Rattle.vm_blocks.specs.View.{VmState, bytes_read, held_at, vm_slot, with_device}
use Rattle.vm_blocks.specs.Tied.{IsTied, TiedAt, IsAbsent, IsResident}
use Rattle.vm_blocks.specs.Room.{LacksRoom, StaysOrGoes, Thins}
use Rattle.vm_blocks.specs.Bring.{Keeps}
use Rattle.vm_blocks.specs.Matches.{IsListedAs}
use Rattle.vm_blocks.specs.FileOf.{IsMemoryOf}
use Rattle.vm_blocks.specs.DoesRow.{DoesRow}
use Rattle.vm_blocks.specs.Refused.{of_bring}
use Rattle.vm_blocks.proofs.Changed.{memory-given, memory-device}
use Rattle.vm_blocks.proofs.Gifts.{GivesFile, gives-nothing, gives-came}
use Rattle.vm_blocks.proofs.HeapsRead.{spelled-legal}
use Rattle.vm_blocks.proofs.Tables.{handle-or, table-past}
use Rattle.vm_blocks.proofs.Tightness.{tight-vm}

-- A choice: room is refused at the first test or not, the device fails or not, and this is given
abbrev pub chosen : Bool → Bool → List (Option (List (Option (List ℕ)))) → Choice
chosen room device given = record { first_room = room; last_room = false; device = device; unsure = false; memory = false; given = given }

-- What is listed in the model

some-listed : (good : Type 0) (read : List ℕ) (e : Held) (b : Option Block) (o : Option VmBlock) → IsListedAs good read (Some e) b o
    → is_none o ≡ false
some-listed good read e (Some b) o is = ap is_none is
some-listed good read e None None is = absurd is
some-listed good read e None (Some l) is = refl

-- a block that is not in memory is neither marked nor locked, and has the listed size
away-told : (good : Type 0) (read : List ℕ) (e : Held) (o : Option VmBlock) → IsListedAs good read (Some e) None o
    → (is_held_in o ≡ false) × (model.size_in (option_map (λ (l : VmBlock). l.block) o) ≡ e.len)
away-told good read e None is = absurd is
away-told good read e (Some l) is = (rw (is.marked, is.locks) refl, is.heap.size)

-- The row's outcome by its tests

done_row : (m : Memory) (h : ℕ) (given : List (Option (List (Option (List ℕ))))) → is_none (listed_at (given_memory given m) h) ≡ false
    → outcome (effect_of (bring h) (chosen false false given) m) ≡ (Ok tt, given_memory given m)
done_row m h given there = rw there refl

faulted : (m : Memory) (h : ℕ) (given : List (Option (List (Option (List ℕ))))) → is_none (listed_at (given_memory given m) h) ≡ false
    → outcome (effect_of (bring h) (chosen false true given) m) ≡ (Err refusal.Disk, given_memory given m)
faulted m h given there = rw there refl

crowded : (m : Memory) (h : ℕ) (given : List (Option (List (Option (List ℕ))))) → is_none (listed_at (given_memory given m) h) ≡ false
    → is_held_in (listed_at (given_memory given m) h) ≡ false → is_tight (given_memory given m) (vm h) (size_of (given_memory given m) (vm h)) ≡ true
    → outcome (effect_of (bring h) (chosen true false given) m) ≡ (Err refusal.NoRoom, given_memory given m)
crowded m h given there free tight = rw (there, free, tight) refl

unknown : (m : Memory) (h : ℕ) → is_none (listed_at m h) ≡ true → outcome (effect_of (bring h) (chosen false false []) m) ≡ (Err refusal.BadHandle, m)
unknown m h none = rw none refl

module _ {D : Type 0} (medium : Medium D) (v : VmState D) (s : Store) (h : ℕ) (tied : IsTied medium v s) where
  -- what is not listed is not listed in the model
  pub unlisted-told : held_at v h ≡ None → (m : Memory) → IsMemoryOf medium v s m → listed_at m h ≡ None
  unlisted-told none m is = elim (handle-or {X = ℕ} 0 h) [
    | inl p ↦ subst (λ e. IsListedAs (medium.honest v.file.device) (bytes_read medium.image v.file h) e (block_at s (vm_slot h)) (listed_at m h)) none
        (is.file.cur.each h p)
    | inr past ↦ table-past None m.file.cur.blocks h is.file.cur.handles past
  ]

  -- no block has the handle
  pub bring-unknown : held_at v h ≡ None → DoesRow medium (bring h) (of_bring (Err error.BadHandle)) v s v s
  bring-unknown none m is = (
    chosen false false [],
    record { given = λ g. refl; device = λ g t. absurd cc },
    m,
    is,
    unknown m h (ap is_none (unlisted-told none m is)),
  )

  module _ (p : IsHandle h) (e : Held) (listed : held_at v h ≡ Some e) where
    pub listed-told : (m : Memory) → IsMemoryOf medium v s m → is_none (listed_at m h) ≡ false
    listed-told m is = some-listed (medium.honest v.file.device) (bytes_read medium.image v.file h) e (block_at s (vm_slot h)) (listed_at m h)
        (subst (λ o. IsListedAs (medium.honest v.file.device) (bytes_read medium.image v.file h) o (block_at s (vm_slot h)) (listed_at m h))
        listed (is.file.cur.each h p))

    -- the block is in memory
    pub bring-there : DoesRow medium (bring h) (of_bring (Ok tt)) v s v s
    bring-there m is = (chosen false false [], record { given = λ g. refl; device = λ g t. absurd cc }, m, is, done_row m h [] (listed-told m is))

-- A block that was not in memory

no-block : (o : Option Block) → (IsBlock o → ⊥) → o ≡ None
no-block None absent = refl
no-block (Some b) absent = absurd (absent tt)

module _ {D : Type 0} (medium : Medium D) (v : VmState D) (s t : Store) (h : ℕ) (d : D) (p : IsHandle h) (e : Held)
    (listed : held_at v h ≡ Some e) (absent : block_at s (vm_slot h) ≡ None)
    (tied : IsTied medium v s) (now : IsTied medium (with_device v d) t) (keeps : Keeps v s t h) (free : locks_of t (vm_slot h) ≡ 0)
    (bytes : AreBytes (bytes_of t (vm_slot h)))
    (same : medium.image d ≡ medium.image v.file.device) (stays : medium.honest v.file.device → medium.honest d)
    (was : medium.honest d → medium.honest v.file.device) where
  was-absent : IsAbsent v.file h e
  was-absent = subst (λ o. TiedAt medium v.file h o None) listed (subst (TiedAt medium v.file h (held_at v h)) absent (tied.each h p))

  read-same : bytes_read medium.image (with_device v d).file h ≡ bytes_read medium.image v.file h
  read-same = ap (λ xs. bytes_of_block (pair_in v.file.current v.file.saved (area_of xs v.file.area v.file.second)).cur.blocks h) same

  gives : (m : Memory) (is : IsMemoryOf medium v s m) → GivesFile medium v s t h p m.file tied keeps is.file
  gives m is = on (block_at t (vm_slot h)) refl
    where
      on : (o : Option Block) → block_at t (vm_slot h) ≡ o → GivesFile medium v s t h p m.file tied keeps is.file
      on None there = gives-nothing medium v s t h p m.file tied keeps is.file (there ∙ sym absent)
      on (Some b) there =
          let zero_locks : b.locks ≡ 0 = sym (ap locks_in there) ∙ free in
          let r : IsResident medium (with_device v d).file h e b.bytes =
          subst (λ o. TiedAt medium (with_device v d).file h o (Some b)) listed
          (subst (TiedAt medium (with_device v d).file h (held_at v h)) there (now.each h p)) in
          let clean = r.clean was-absent.clean in
          let are : AreBytes b.bytes = subst (λ o. AreBytes (bytes_in o)) there bytes in
          gives-came medium v s t h p m.file tied keeps is.file e listed absent was-absent.clean b.bytes
          (there ∙ (λ k. Some (record { locks = zero_locks k; bytes = b.bytes }))) clean.long
          (spelled-legal b.bytes r.heap are) (λ good. clean.same (stays good) ∙ read-same)

  -- memory with what the device gave is what is there now
  brought : (m : Memory) (is : IsMemoryOf medium v s m) → IsMemoryOf medium (with_device v d) t (given_memory (gives m is).given m)
  brought m is = memory-device medium v t t (given_memory (gives m is).given m) (memory-given medium v s t m is h p tied keeps (gives m is))
      d same was

  pub fetch-row : (r : Result (Unit {0}) BringError) → (r ≡ Err error.BadHandle → ⊥) → OnErr r (IsThere t (vm_slot h) → ⊥)
      → (r ≡ Err error.NoRoom → LacksRoom v s t (vm h) e.len)
      → (medium.honest v.file.device → r ≡ Err error.Disk → Rose (medium.failed v.file.device) (medium.failed d))
      → DoesRow medium (bring h) (of_bring r) v s (with_device v d) t
  fetch-row (Ok done) known gone no_room cause m is =
      let g = gives m is in
      let n = brought m is in (
        chosen false false g.given,
        record { given = g.nothing; device = λ good x. absurd cc },
        given_memory g.given m,
        n,
        done_row m h g.given (listed-told medium (with_device v d) t h now p e listed (given_memory g.given m) n),
      )
  fetch-row (Err error.BadHandle) known gone no_room cause m is = absurd (known refl)
  fetch-row (Err error.Disk) known gone no_room cause m is =
      let g = gives m is in
      let n = brought m is in (
        chosen false true g.given,
        record { given = g.nothing; device = λ good x. cause good refl },
        given_memory g.given m,
        n,
        faulted m h g.given (listed-told medium (with_device v d) t h now p e listed (given_memory g.given m) n),
      )
  fetch-row (Err error.NoRoom) known gone no_room cause m is =
      let g = gives m is in
      let n = brought m is in
      let lacks = no_room refl in
      let none : block_at t (vm_slot h) ≡ None = no-block (block_at t (vm_slot h)) gone in
      let at_h : IsListedAs (medium.honest d) (bytes_read medium.image (with_device v d).file h) (Some e) None
      (listed_at (given_memory g.given m) h) =
      subst (λ o. IsListedAs (medium.honest d) (bytes_read medium.image (with_device v d).file h) o None (listed_at (given_memory g.given m) h))
      listed
      (subst (λ o. IsListedAs (medium.honest d) (bytes_read medium.image (with_device v d).file h) (held_at v h) o
      (listed_at (given_memory g.given m) h)) none (n.file.cur.each h p)) in
      let away = away-told (medium.honest d) (bytes_read medium.image (with_device v d).file h) e (listed_at (given_memory g.given m) h) at_h in
      let tight : is_tight (given_memory g.given m) (vm h) e.len ≡ true = tight-vm medium (with_device v d) t
      (given_memory g.given m) now n h e.len p lacks.none lacks.no_room.crowded in (
        chosen true false g.given,
        record { given = g.nothing; device = λ good x. absurd cc },
        given_memory g.given m,
        n,
        crowded m h g.given (listed-told medium (with_device v d) t h now p e listed (given_memory g.given m) n) away.0
            (subst (λ k. is_tight (given_memory g.given m) (vm h) k ≡ true) (sym away.1) tight),
      )

-- the same of what a call ensures
pub fetch-does : {D : Type 0} (medium : Medium D) (v w : VmState D) (s t : Store) (h : ℕ) (e : Held) (r : Result (Unit {0}) BringError)
    → IsHandle h → held_at v h ≡ Some e → (IsThere s (vm_slot h) → ⊥) → IsTied medium v s → IsTied medium w t
    → w ≡ with_device v w.file.device → Keeps v s t h → locks_of t (vm_slot h) ≡ 0 → AreBytes (bytes_of t (vm_slot h))
    → ReadsOnly medium v.file.device w.file.device → (r ≡ Err error.BadHandle → ⊥) → OnErr r (IsThere t (vm_slot h) → ⊥)
    → (r ≡ Err error.NoRoom → LacksRoom v s t (vm h) e.len)
    → (medium.honest v.file.device → r ≡ Err error.Disk → Rose (medium.failed v.file.device) (medium.failed w.file.device))
    → DoesRow medium (bring h) (of_bring r) v s w t
fetch-does medium v w s t h e r p listed absent tied now same keeps free bytes reads known gone no_room cause =
    subst (λ x. DoesRow medium (bring h) (of_bring r) v s x t) (sym same)
    (fetch-row medium v s t h w.file.device p e listed (no-block (block_at s (vm_slot h)) absent) tied
    (subst (λ x. IsTied medium x t) same now) keeps free bytes reads.same reads.stays reads.was r known gone no_room cause)

-- Bytes of a block

-- where there is none they are bytes
pub absent-bytes : (o : Option Block) → (IsBlock o → ⊥) → AreBytes (bytes_in o)
absent-bytes None absent = All-nil (λ b. b < 256)
absent-bytes (Some b) absent = absurd (absent tt)

-- where others were discarded it is still not there
pub thins-absent : {D : Type 0} (v : VmState D) (s t : Store) (but slot : ℕ) → Thins v s t but → (IsThere s slot → ⊥) → IsThere t slot → ⊥
thins-absent {D} v s t but slot thins absent there = on (thins.each slot)
  where
    on : StaysOrGoes v s t but slot → ⊥
    on (inl u) = absent (subst IsBlock u.0 there)
    on (inr g) = subst IsBlock g.gone there
