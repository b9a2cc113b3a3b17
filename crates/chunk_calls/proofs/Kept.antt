-- If one block changes and others are evicted, the file stays tied, and the model's memory has the change.
use Rattle.std.proofs.Common.{◌≡◌, ◌≢◌, ℕ, ◌<◌, length, length-take, map, take, Option, Some, None, true, false, refl, sym, ap, ◌∙◌, arith, inl, inr, subst}
use Rattle.std.specs.Prelude.{option_map}
use Rattle.std.proofs.lemmas.Bool.{cases_eq}
use Rattle.std.proofs.lemmas.List.{length-map}
use Rattle.geos_terms.specs.declared.name.Name.{Name}
use Rattle.geos_terms.specs.declared.name.Owner.{Owner}
use Rattle.geos_terms.specs.declared.name.Owner.TheVariants.{Mem, Vm}
use Rattle.geos_terms.specs.Names.{named, mem, vm}
use Rattle.geos_terms.specs.Block.{handle_word}
use Rattle.geos_terms.specs.Heap.{IsHeap}
use Rattle.geos_calls.specs.Blocks.{Block as ModelBlock}
use Rattle.geos_calls.specs.Legal.{IsLegalBlock}
use Rattle.geos_calls.specs.Memory.{Memory, at_handle, with_entry_at, block_of, with_block, owned_block, with_owned_block}
use Rattle.geos_calls.specs.VmFile.{VmFile}
use Rattle.geos_calls.proofs.HandleLists.{length-with_entry_at}
use Rattle.geos_calls.proofs.Laws.{entry-other}
use Rattle.block_handles.specs.Names.{IsHandle, slot_of}
use Rattle.block_handles.specs.Store.{Block, Store, block_at, bytes_in, IsBlock, IsThere}
use Rattle.block_handles.proofs.Laws.{handle_of_there}
use Rattle.vm_file.specs.Device.{Medium}
use Rattle.vm_blocks.specs.declared.entries.Held.{Held}
use Rattle.vm_blocks.specs.View.{VmState, bytes_read, held_at, vm_slot}
use Rattle.vm_blocks.specs.Blocks.{is_marked_in}
use Rattle.vm_blocks.specs.Bring.{Keeps, KeptOrGoes}
use Rattle.vm_blocks.specs.Room.{is_idle}
use Rattle.vm_blocks.specs.Tied.{IsTied, TiedAt}
use Rattle.vm_blocks.specs.Spelled.{block_in, spelled}
use Rattle.vm_blocks.specs.Matches.{IsListedAs}
use Rattle.vm_blocks.specs.FileOf.{IsCurrentOf, IsFileOf, IsMemoryOf}
use Rattle.vm_blocks.proofs.Changed.{memory-changed}
use Rattle.vm_blocks.proofs.Files.{IsListedIn, file-cur, stays-listed}
use Rattle.vm_blocks.proofs.LockRows.{known}
use Rattle.vm_blocks.proofs.Slots.{slot-is, slot-one}
use Rattle.vm_blocks.proofs.Tables.{table-own, table-same}
use Rattle.vm_blocks.proofs.Thinning.{gone-tied}
use Rattle.chunk_calls.specs.Others.{KeepsBut, KeepsOthers, IsMarkedIfVm}
use Rattle.chunk_calls.proofs.Named.{mem-known, slot_of-mem, slots-told}

-- The blocks of the file, where those but one are as they were or were discarded

module _ {D : Type 0} (medium : Medium D) (v : VmState D) (s t : Store) (but : ℕ) (tied : IsTied medium v s) where
  -- one of them is tied
  pub kept-tied : (h : ℕ) → IsHandle h → KeptOrGoes v s t but (vm_slot h) → TiedAt medium v.file h (held_at v h) (block_at t (vm_slot h))
  kept-tied h p (inl u) = subst (TiedAt medium v.file h (held_at v h)) (sym u.0) (tied.each h p)
  kept-tied h p (inr g) =
      let one : h ≡ g.h = slot-one h g.h p g.handle g.slot_is in
      let i : is_idle v s h ≡ true = subst (λ k. is_idle v s k ≡ true) (sym one) g.idle in
      subst (TiedAt medium v.file h (held_at v h)) (sym g.gone) (gone-tied medium v h (held_at v h) (block_at s (vm_slot h)) i (tied.each h p))

  -- where they all are, the model's file is the same
  pub file-kept : (f : VmFile) → ((h : ℕ) → IsHandle h → KeptOrGoes v s t but (vm_slot h)) → IsFileOf medium.image medium.honest v s f
      → IsFileOf medium.image medium.honest v t f
  file-kept f each is =
      let cur : IsCurrentOf medium.image medium.honest v t f.cur = record {
        handles = is.cur.handles;
        each = λ h p. on h p (each h p);
        map_block = is.cur.map_block;
        map_group = is.cur.map_group;
        map_item = is.cur.map_item;
      } in
      file-cur medium v v s t f f.cur refl cur is.legal.cur is
    where
      on : (h : ℕ) → IsHandle h → KeptOrGoes v s t but (vm_slot h) → IsListedIn medium v t h (at_handle None f.cur.blocks h)
      on h p (inl u) = subst (λ b. IsListedAs (medium.honest v.file.device) (bytes_read medium.image v.file h)
          (held_at v h) b (at_handle None f.cur.blocks h)) (sym u.0) (is.cur.each h p)
      on h p (inr g) = stays-listed medium v s t but h (at_handle None f.cur.blocks h) p tied (is.legal.cur.blocks h) (is.cur.each h p) g

-- a slot of global memory has no block that is discarded
pub mem-kept : {D : Type 0} (v : VmState D) (s t : Store) (but slot : ℕ) → slot < 1024 → KeptOrGoes v s t but slot → block_at t slot ≡ block_at s slot
mem-kept {D} v s t but slot low (inl u) = u.0
mem-kept {D} v s t but slot low (inr g) = let high = slot-is g.h g.handle in let some = g.handle.0 in let same = g.slot_is in
    absurd (omega (arith, low, high, some, same))

-- A named block of global memory

module _ {D : Type 0} (medium : Medium D) (v : VmState D) (s t : Store) (h : ℕ) (p : IsHandle h) (tied : IsTied medium v s)
    (keeps : KeepsBut v s t (mem h)) where
  -- it lies in no slot of the file
  apart : (k : ℕ) → IsHandle k → vm_slot k ≢ slot_of (mem h)
  apart k q e = let low = slot_of-mem h p in let high = slot-is k q in let some = q.0 in let most = p.1 in omega (arith, low, high, some, most, e)

  pub mem-tied : IsTied medium v t
  mem-tied = record {
    laid = keeps.laid;
    long = tied.long;
    each = λ k q. kept-tied medium v s t 0 tied k q (keeps.each (vm_slot k) (apart k q));
    maps = tied.maps;
  }

  -- a handle of global memory has another block, or none
  pub mem-changed : (m : Memory) → IsMemoryOf medium v s m → (x : Option ModelBlock) → x ≡ block_in (block_at t (slot_of (mem h)))
      → IsMemoryOf medium v t (with_block m (mem h) x)
  mem-changed m is x same = record {
    blocks = table-same None (with_entry_at m.blocks h x) (map block_in (take 1024 t.blocks))
        (length-with_entry_at m.blocks h x ∙ long) now-long (λ k q. each k q);
    file = file-kept medium v s t 0 tied m.file (λ k q. keeps.each (vm_slot k) (apart k q)) is.file;
    region = is.region ∙ ap (λ l. l.most) (sym keeps.len);
    handles = is.handles ∙ ap (λ l. l.handles) (sym keeps.len);
  }
    where
      long : length m.blocks ≡ 1024
      long = ap length is.blocks ∙ omega (arith, length-map (take 1024 s.blocks) block_in, length-take 1024 s.blocks, tied.laid.slots)

      now-long : length (map block_in (take 1024 t.blocks)) ≡ 1024
      now-long = omega (arith, length-map (take 1024 t.blocks) block_in, length-take 1024 t.blocks, keeps.laid.slots)

      other-slot : (k : ℕ) → IsHandle k → k ≢ h → slot_of (mem k) ≢ slot_of (mem h)
      other-slot k q ne e = let a = slot_of-mem k q in let b = slot_of-mem h p in let c = q.0 in let d = p.0 in ne (omega (arith, a, b, c, d, e))

      low : (k : ℕ) → IsHandle k → slot_of (mem k) < 1024
      low k q = let a = slot_of-mem k q in let c = q.0 in let d = q.1 in omega (arith, a, c, d)

      each : (k : ℕ) → IsHandle k → at_handle None (with_entry_at m.blocks h x) k ≡ at_handle None (map block_in (take 1024 t.blocks)) k
      each k q = elim (cases_eq k h) [
        | inl own ↦ subst (λ j. at_handle None (with_entry_at m.blocks h x) j ≡ at_handle None (map block_in (take 1024 t.blocks)) j) (sym own)
            (table-own None x m.blocks h long p ∙ same ∙ sym (slots-told t keeps.laid h))
        | inr ne ↦ entry-other None x m.blocks h k ne ∙ mem-known medium v s tied m is k
            ∙ sym (ap block_in (mem-kept v s t 0 (slot_of (mem k)) (low k q) (keeps.each (slot_of (mem k)) (other-slot k q ne))))
            ∙ sym (slots-told t keeps.laid k)
      ]

-- A named block of either owner

-- what a change of a block of the file keeps is what bringing it keeps
pub vm-keeps : {D : Type 0} (v : VmState D) (s t : Store) (h : ℕ) → KeepsBut v s t (vm h) → Keeps v s t h
vm-keeps v s t h keeps = record { each = keeps.each; laid = keeps.laid; len = keeps.len }

module _ {D : Type 0} (medium : Medium D) (v : VmState D) (s t : Store) (name : Name) (tied : IsTied medium v s) where
  -- it has other bytes, or is locked so often
  pub named-changed : KeepsBut v s t name → (m : Memory) → IsMemoryOf medium v s m → (b c : Block)
      → block_at s (slot_of name) ≡ Some b → block_at t (slot_of name) ≡ Some c
      → (change : ModelBlock → ModelBlock) → change (spelled b.locks b.bytes) ≡ spelled c.locks c.bytes
      → (name.owner ≡ Vm → IsLegalBlock (spelled c.locks c.bytes))
      → IsMemoryOf medium v t (with_block m name (option_map change (block_of m name)))
  named-changed keeps m is b c was now change same legal = at name.owner name.h keeps was now legal
    where
      at : (owner : Owner) (h : ℕ) → KeepsBut v s t (named owner h) → block_at s (slot_of (named owner h)) ≡ Some b
          → block_at t (slot_of (named owner h)) ≡ Some c
          → (owner ≡ Vm → IsLegalBlock (spelled c.locks c.bytes))
          → IsMemoryOf medium v t (with_owned_block m owner h (option_map change (owned_block m owner h)))
      at Mem h keeps was now legal =
          let p : IsHandle h = handle_of_there s s (mem h) refl tied.laid (subst IsBlock (sym was) tt) in
          let own : option_map change (owned_block m Mem h) ≡ Some (spelled c.locks c.bytes) = ap (option_map change)
          (mem-known medium v s tied m is h ∙ ap block_in was) ∙ ap Some same in
          mem-changed medium v s t h p tied keeps m is (option_map change (owned_block m Mem h)) (own ∙ sym (ap block_in now))
      at Vm h keeps was now legal =
          let k = known medium v s h tied (subst IsBlock (sym was) tt) in
          memory-changed medium v s t m is h k.handle tied (vm-keeps v s t h keeps) k.held k.listed b was change c now same (legal refl)

  -- it is a heap under its handle still, and marked where it is one of the file
  pub named-tied : IsThere s (slot_of name) → KeepsOthers v s t name → IsMarkedIfVm v name → IsTied medium v t
  named-tied there keeps marked = at name.owner name.h there keeps marked
    where
      marked-tied : (h : ℕ) (e : Option Held) (b c : Option Block) → is_marked_in e ≡ true → IsBlock b → IsBlock c
          → IsHeap (bytes_in c) → handle_word (bytes_in c) ≡ handle_word (bytes_in b)
          → TiedAt medium v.file h e b → TiedAt medium v.file h e c
      marked-tied h None b c is was now heap word u = absurd cc
      marked-tied h (Some e) None c is was now heap word u = absurd was
      marked-tied h (Some e) (Some b) None is was now heap word u = absurd now
      marked-tied h (Some e) (Some b) (Some c) is was now heap word u = record {
        size = u.size;
        heap = heap;
        handle = word ∙ u.handle;
        kept = λ clean. absurd (let x : true ≡ false = sym is ∙ clean in cc);
        clean = λ clean. absurd (let x : true ≡ false = sym is ∙ clean in cc);
      }

      at : (owner : Owner) (h : ℕ) → IsThere s (slot_of (named owner h)) → KeepsOthers v s t (named owner h)
          → (owner ≡ Vm → is_marked_in (held_at v h) ≡ true) → IsTied medium v t
      at Mem h there keeps marked = mem-tied medium v s t h (handle_of_there s s (mem h) refl tied.laid there) tied keeps.others
      at Vm h there keeps marked =
          let p : IsHandle h = handle_of_there s s (vm h) refl tied.laid there in
          record {
            laid = keeps.others.laid;
            long = tied.long;
            each = λ k q. elim (cases_eq k h) [
              | inl same ↦ subst (λ j. TiedAt medium v.file j (held_at v j) (block_at t (vm_slot j))) (sym same)
                  (marked-tied h (held_at v h) (block_at s (vm_slot h)) (block_at t (vm_slot h)) (marked refl) there
                  keeps.there keeps.heap keeps.handle (tied.each h p))
              | inr ne ↦ kept-tied medium v s t h tied k q (keeps.others.each (vm_slot k) (λ e. ne (slot-one k h q p e)))
            ];
            maps = tied.maps;
          }
