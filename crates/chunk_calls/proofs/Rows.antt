-- Edits of the chunks of a named block do their rows, in each memory that the model may have.
use Rattle.std.proofs.Common.{◌≡◌, ℕ, ◌≤◌, Bool, true, false, List, [], Option, Some, None, refl, sym, ap, ◌∙◌, arith, inl, inr, subst}
use Rattle.std.specs.Prelude.{Result, Ok, Err, OnOk, max}
use Rattle.geos_terms.specs.declared.name.Name.{Name}
use Rattle.geos_terms.specs.declared.name.Owner.{Owner}
use Rattle.geos_terms.specs.declared.name.Owner.TheVariants.{Mem, Vm}
use Rattle.geos_terms.specs.declared.refusal.Refusal.{Refusal}
use Rattle.geos_terms.specs.declared.refusal.Refusal.TheVariants as refusal
use Rattle.geos_terms.specs.Names.{named}
use Rattle.geos_terms.specs.Chunks.{need}
use Rattle.geos_terms.specs.Edits.{Edit, Part}
use Rattle.geos_terms.specs.Heap.{IsHeap}
use Rattle.geos_terms.specs.Refusals.{first_refusal}
use Rattle.geos_calls.specs.Blocks.{rechunked_block}
use Rattle.geos_calls.specs.Calls as table
use Rattle.geos_calls.specs.ChunkCalls.{row_in}
use Rattle.geos_calls.specs.Effects.{Call, Choice, effect_of, outcome}
use Rattle.geos_calls.specs.Given.{given_memory}
use Rattle.geos_calls.specs.Legal.{AreBytes}
use Rattle.geos_calls.specs.Memory as model
use Rattle.geos_calls.specs.Memory.{Memory}
use Rattle.geos_calls.specs.Tight.{is_tight}
use Rattle.geos_calls.proofs.Laws.{willing, cramped, enlarges-ok, enlarges-refused, enlarges-big, enlarges-tight, changes-ok, changes-refused, reads-ok, reads-refused, refers-ok, refers-refused}
use Rattle.block_handles.specs.Names.{IsHandle, slot_of}
use Rattle.block_handles.specs.Stretch.{IsCrowded}
use Rattle.block_handles.specs.Store.{Block, Store, IsBlock, IsThere, block_at, bytes_in, bytes_of, locks_in, locks_of}
use Rattle.block_handles.proofs.Laws.{handle_of_there}
use Rattle.vm_file.specs.Device.{Medium}
use Rattle.vm_blocks.specs.View.{VmState}
use Rattle.vm_blocks.specs.Tied.{IsTied}
use Rattle.vm_blocks.specs.Room.{NoneIdle, own_handle, own_handle_of}
use Rattle.vm_blocks.specs.Spelled.{spelled}
use Rattle.vm_blocks.specs.FileOf.{IsMemoryOf}
use Rattle.vm_blocks.specs.DoesRow.{DoesRow, DoesRowAlone, IsChosen}
use Rattle.vm_blocks.proofs.Changed.{memory-thins}
use Rattle.vm_blocks.proofs.HeapsRead.{spelled-legal}
use Rattle.vm_blocks.proofs.LockRows.{few-locks}
use Rattle.vm_blocks.proofs.Thinning.{tied-thins}
use Rattle.vm_blocks.proofs.Tightness.{tight-mem, tight-vm}
use Rattle.chunk_calls.specs.Edits.{Tells, Changes, Grows, DiscardsAndEdits, Carries}
use Rattle.chunk_calls.specs.Heaps as heaps
use Rattle.chunk_calls.specs.Heaps.{HoldsHeap, chunks_at, size_at}
use Rattle.chunk_calls.proofs.Changing.{rechunked-keeps}
use Rattle.chunk_calls.proofs.Kept.{named-changed}
use Rattle.chunk_calls.proofs.Named.{chunks-known, size-known, slot_of-mem}
use Rattle.chunk_calls.proofs.Regrown.{kept-size, rechunked, regrown-small}

-- what is in a slot, by its parts
pub there-is : (o : Option Block) → IsBlock o → o ≡ Some (record { locks = locks_in o; bytes = bytes_in o })
there-is None there = absurd there
there-is (Some b) there = refl

-- nothing was given, and no device refused
pub willing-chosen : {D : Type 0} (medium : Medium D) (d e : D) → IsChosen medium d e willing
willing-chosen medium d e = record { given = λ good. refl; device = λ good fails. absurd cc }

module _ {D : Type 0} (medium : Medium D) (v : VmState D) (s : Store) (tied : IsTied medium v s) (m : Memory) (is : IsMemoryOf medium v s m) where
  -- a block of the file that is in memory is locked no more often than one can be
  pub few-named : (name : Name) → IsThere s (slot_of name) → name.owner ≡ Vm → locks_of s (slot_of name) ≤ 65535
  few-named name there own = at name.owner name.h there own
    where
      at : (owner : Owner) (h : ℕ) → IsThere s (slot_of (named owner h)) → owner ≡ Vm → locks_of s (slot_of (named owner h)) ≤ 65535
      at Mem h there own = absurd cc
      at Vm h there own = few-locks medium v s h tied m is there 0 (omega arith)

  -- if no stretch has room, and no other block may be evicted, the model may lack room
  pub tight-named : (name : Name) (size : ℕ) → IsHandle name.h → NoneIdle v s (own_handle name) → IsCrowded s (slot_of name) size
      → is_tight m name size ≡ true
  tight-named name size p none crowded = at name.owner none crowded
    where
      at : (owner : Owner) → NoneIdle v s (own_handle_of owner name.h) → IsCrowded s (slot_of (named owner name.h)) size
          → is_tight m (named owner name.h) size ≡ true
      at Mem none crowded = tight-mem medium v s m tied is name.h size p none (subst (λ i. IsCrowded s i size) (slot_of-mem name.h p) crowded)
      at Vm none crowded = tight-vm medium v s m tied is name.h size p none crowded

  -- the block has other chunks
  pub regrown-memory : (t : Store) (name : Name) (cs : List (Option (List ℕ))) → HoldsHeap s name → heaps.Regrows s t name cs
      → AreBytes (bytes_of t (slot_of name)) → IsMemoryOf medium v t (model.with_chunks m name cs)
  regrown-memory t name cs holds r are =
      let slot = slot_of name in
      let b : Block = record { locks = locks_of s slot; bytes = bytes_of s slot } in
      let c : Block = record { locks = locks_of s slot; bytes = r.bytes } in
      let now = rechunked s t slot holds.there cs (max (size_at s name) (need cs)) r in
      let keeps = rechunked-keeps v s t name tied.laid holds cs (max (size_at s name) (need cs)) r in
      let same : rechunked_block cs (spelled b.locks b.bytes) ≡ spelled c.locks c.bytes =
      λ i. record { locks = locks_of s slot; heap = record { chunks = sym r.spells i; size = sym r.long i } } in
      named-changed medium v s t name tied keeps.others m is b c (there-is (block_at s slot) holds.there) now (rechunked_block cs) same
      (λ own. record { heap = spelled-legal r.bytes r.heap (subst (λ o. AreBytes (bytes_in o)) now are); few = few-named name holds.there own })

-- a call that has no part of the device does its row
pub alone-does : {D A : Type 0} (medium : Medium D) (call : Call A) (r : Result A Refusal) (v : VmState D) (s t : Store)
    → DoesRowAlone medium call r v s v t → DoesRow medium call r v s v t
alone-does medium call r v s t row m is =
    let c = row m is in (
      c.0,
      record { given = λ good. c.1.0; device = λ good fails. absurd (let no : true ≡ false = sym fails ∙ c.1.1 in cc) },
      c.2,
      c.3,
      ap (λ given. outcome (call c.0 (given_memory given m))) c.1.0 ∙ c.4,
    )

module _ {D : Type 0} (medium : Medium D) (v : VmState D) where
  -- a row that comes to this where nothing is refused from outside, and to this memory
  willing-alone : {A : Type 0} (call : Call A) (r : Result A Refusal) (s t : Store)
      → ((m : Memory) → IsMemoryOf medium v s m → (n : Memory) × IsMemoryOf medium v t n × (outcome (call willing m) ≡ (r, n)))
      → DoesRowAlone medium call r v s v t
  willing-alone call r s t comes m is = let c = comes m is in (willing, (refl, refl), c.0, c.1, c.2)

  willing-row : {A : Type 0} (call : Call A) (r : Result A Refusal) (s t : Store)
      → ((m : Memory) → IsMemoryOf medium v s m → (n : Memory) × IsMemoryOf medium v t n × (outcome (effect_of call willing m) ≡ (r, n)))
      → DoesRow medium call r v s v t
  willing-row call r s t comes m is = let c = comes m is in (willing, willing-chosen medium v.file.device v.file.device, c.0, c.1, c.2)

  module _ {A : Type 0} (edit : List (Option (List ℕ)) → Edit A) (s : Store) (name : Name) (tied : IsTied medium v s) (holds : HoldsHeap s name) where
    -- what is true of the chunks that the block encodes is true of those that the model has
    known : (m : Memory) → IsMemoryOf medium v s m → edit (chunks_at s name) ≡ edit (model.chunks_at m name)
    known m is = ap edit (sym (chunks-known medium v s tied m is name holds.there))

    passes : (m : Memory) → IsMemoryOf medium v s m → first_refusal (edit (chunks_at s name)).refusals ≡ None
        → first_refusal (edit (model.chunks_at m name)).refusals ≡ None
    passes m is h = subst (λ (e : Edit A). first_refusal e.refusals ≡ None) (known m is) h

    came : (m : Memory) → IsMemoryOf medium v s m → (why : Refusal) → first_refusal (edit (chunks_at s name)).refusals ≡ Some why
        → first_refusal (edit (model.chunks_at m name)).refusals ≡ Some why
    came m is why h = subst (λ (e : Edit A). first_refusal e.refusals ≡ Some why) (known m is) h

    answer-known : (m : Memory) → IsMemoryOf medium v s m → (answer : A) → answer ≡ (edit (chunks_at s name)).answer
        → answer ≡ (edit (model.chunks_at m name)).answer
    answer-known m is answer h = h ∙ ap (λ (e : Edit A). e.answer) (known m is)

    -- a call that tells something of the chunks
    pub tells-row : (r : Result A Refusal) → Tells edit (chunks_at s name) r → DoesRow medium (table.reads edit name) r v s v s
    tells-row (Ok answer) h = willing-row (table.reads edit name) (Ok answer) s s (λ m is.
        (m, is, reads-ok edit name m (passes m is h.1) ∙ ap (λ a. (Ok a, m)) (sym (answer-known m is answer h.0))))
    tells-row (Err why) h = willing-row (table.reads edit name) (Err why) s s (λ m is. (m, is, reads-refused edit name m why (came m is why h)))

    module _ (t : Store) where
      -- a call that changes the chunks of a block that stays as large as it is
      pub changes-alone : (r : Result A Refusal) → Changes edit s t name r → OnOk r (AreBytes (bytes_of t (slot_of name)))
          → DoesRowAlone medium (table.changes edit name) r v s v t
      changes-alone (Ok answer) h are = willing-alone (table.changes edit name) (Ok answer) s t (λ m is.
          let grown : heaps.Regrows s t name (edit (model.chunks_at m name)).chunks =
          subst (λ (e : Edit A). heaps.Regrows s t name e.chunks) (known m is) (kept-size s t name (edit (chunks_at s name)).chunks h.1) in
          let after : Memory = model.with_chunks m name (edit (model.chunks_at m name)).chunks in (
            after,
            regrown-memory medium v s tied m is t name (edit (model.chunks_at m name)).chunks holds grown are,
            changes-ok edit name m (passes m is h.0.1) ∙ ap (λ a. (Ok a, after)) (sym (answer-known m is answer h.0.0)),
          ))
      changes-alone (Err why) h are = willing-alone (table.changes edit name) (Err why) s t (λ m is.
          (m, subst (λ u. IsMemoryOf medium v u m) (sym h.1) is, changes-refused edit name m why (came m is why h.0)))

      pub changes-row : (r : Result A Refusal) → Changes edit s t name r → OnOk r (AreBytes (bytes_of t (slot_of name)))
          → DoesRow medium (table.changes edit name) r v s v t
      changes-row r h are = alone-does medium (table.changes edit name) r v s t (changes-alone r h are)

      -- the room that it needs is missing
      lacks-alone : t ≡ s → (why : Refusal) → first_refusal (edit (chunks_at s name)).refusals ≡ None
          → heaps.CannotHold why s name (edit (chunks_at s name)).chunks
          → (◌≡◌ {A = Result A Refusal} (Err why) (Err refusal.NoRoom) → NoneIdle v t (own_handle name))
          → DoesRowAlone medium (table.enlarges edit name) (Err why) v s v t
      lacks-alone same why passed lacks none m is = lacking why (passes m is passed)
          (subst (λ (e : Edit A). heaps.CannotHold why s name e.chunks) (known m is) lacks) none
        where
          still : IsMemoryOf medium v t m
          still = subst (λ u. IsMemoryOf medium v u m) (sym same) is

          lacking : (w : Refusal) → first_refusal (edit (model.chunks_at m name)).refusals ≡ None
              → heaps.CannotHold w s name (edit (model.chunks_at m name)).chunks
              → (◌≡◌ {A = Result A Refusal} (Err w) (Err refusal.NoRoom) → NoneIdle v t (own_handle name))
              → (choice : Choice) × ((choice.given ≡ []) × (choice.device ≡ false)) × (n : Memory) × IsMemoryOf medium v t n
              × (outcome (table.enlarges edit name choice m) ≡ (Err w, n))
          lacking refusal.TooBig passed big none = (willing, (refl, refl), m, still, enlarges-big edit name m passed big)
          lacking refusal.NoRoom passed room none =
              let p : IsHandle name.h = handle_of_there s s name refl tied.laid holds.there in
              let idle : NoneIdle v s (own_handle name) = subst (λ u. NoneIdle v u (own_handle name)) same (none refl) in
              let size = size-known medium v s tied m is name holds.there in (
                cramped,
                (refl, refl),
                m,
                still,
                enlarges-tight edit name m passed room.1 (omega (arith, room.0, size))
                    (tight-named medium v s tied m is name (need (edit (model.chunks_at m name)).chunks) p idle room.2.crowded),
              )
          lacking w passed never none = absurd never

      -- a call for which the block may grow among blocks that stay
      grows-alone : (r : Result A Refusal) → Grows edit s t name r → (r ≡ Err refusal.NoRoom → NoneIdle v t (own_handle name))
          → OnOk r (AreBytes (bytes_of t (slot_of name)))
          → DoesRowAlone medium (table.enlarges edit name) r v s v t
      grows-alone (Ok answer) h none are = willing-alone (table.enlarges edit name) (Ok answer) s t (λ m is.
          let grown : heaps.Regrows s t name (edit (model.chunks_at m name)).chunks =
          subst (λ (e : Edit A). heaps.Regrows s t name e.chunks) (known m is) h.1 in
          let after : Memory = model.with_chunks m name (edit (model.chunks_at m name)).chunks in (
            after,
            regrown-memory medium v s tied m is t name (edit (model.chunks_at m name)).chunks holds grown are,
            enlarges-ok edit name m (passes m is h.0.1) (regrown-small s t name (edit (model.chunks_at m name)).chunks grown)
                ∙ ap (λ a. (Ok a, after)) (sym (answer-known m is answer h.0.0)),
          ))
      grows-alone (Err why) (inl refused, same) none are = willing-alone (table.enlarges edit name) (Err why) s t (λ m is.
          (m, subst (λ u. IsMemoryOf medium v u m) (sym same) is, enlarges-refused edit name m why (came m is why refused)))
      grows-alone (Err why) (inr lacks, same) none are = lacks-alone same why lacks.0 lacks.1 none

  -- a call that gives a reference into the block
  module _ (edit : List (Option (List ℕ)) → Edit Part) (s : Store) (name : Name) (tied : IsTied medium v s) (holds : HoldsHeap s name) where
    pub refers-row : first_refusal (edit (chunks_at s name)).refusals ≡ None → DoesRow medium (table.refers edit name)
        (Ok (table.in_block name (edit (chunks_at s name)).answer)) v s v s
    refers-row passed = willing-row (table.refers edit name) (Ok (table.in_block name (edit (chunks_at s name)).answer)) s s (λ m is. (
      m,
      is,
      refers-ok edit name m (passes edit s name tied holds m is passed)
          ∙ ap (λ (e : Edit Part). (Ok (table.in_block name e.answer), m)) (sym (known edit s name tied holds m is)),
    ))

    pub refers-not-row : (why : Refusal) → first_refusal (edit (chunks_at s name)).refusals ≡ Some why
        → DoesRow medium (table.refers edit name) (Err why) v s v s
    refers-not-row why refused = willing-row (table.refers edit name) (Err why) s s
        (λ m is. (m, is, refers-refused edit name m why (came edit s name tied holds m is why refused)))

  module _ {A : Type 0} (edit : List (Option (List ℕ)) → Edit A) (s t : Store) (name : Name) (tied : IsTied medium v s)
      (holds : HoldsHeap s name) where
    -- a call for which the block may grow, and others be discarded
    pub comes-alone : (r : Result A Refusal) → DiscardsAndEdits v edit s t name r → OnOk r (AreBytes (bytes_of t (slot_of name)))
        → DoesRowAlone medium (table.enlarges edit name) r v s v t
    comes-alone r c are m is =
        let still : HoldsHeap c.mid name = record {
          there = subst IsBlock (sym c.own) holds.there;
          heap =
              subst (λ o. IsHeap (bytes_in o)) (sym c.own) holds.heap;
        } in
        grows-alone edit c.mid name (tied-thins medium v s c.mid (own_handle name) tied c.thins) still t r c.grows
        c.none are m (memory-thins medium v s c.mid m is (own_handle name) tied c.thins)

    pub comes-row : (r : Result A Refusal) → DiscardsAndEdits v edit s t name r → OnOk r (AreBytes (bytes_of t (slot_of name)))
        → DoesRow medium (table.enlarges edit name) r v s v t
    comes-row r c are = alone-does medium (table.enlarges edit name) r v s t (comes-alone r c are)

  module _ (edit : List (Option (List ℕ)) → Edit (Unit {0})) (s t : Store) (name : Name) (tied : IsTied medium v s) (holds : HoldsHeap s name) where
    -- a change, for which it may grow or not
    pub carries-alone : (grows : Bool) (r : Result (Unit {0}) Refusal) → Carries grows v edit s t name r
        → OnOk r (AreBytes (bytes_of t (slot_of name))) → DoesRowAlone medium (row_in grows edit name) r v s v t
    carries-alone true r h are = comes-alone edit s t name tied holds r h are
    carries-alone false r h are = changes-alone edit s name tied holds t r h are

    pub carries-row : (grows : Bool) (r : Result (Unit {0}) Refusal) → Carries grows v edit s t name r
        → OnOk r (AreBytes (bytes_of t (slot_of name))) → DoesRow medium (row_in grows edit name) r v s v t
    carries-row grows r h are = alone-does medium (row_in grows edit name) r v s t (carries-alone grows r h are)
