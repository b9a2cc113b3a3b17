-- What bytes that are written within a chunk make of the kernel's memory.
use Rattle.std.proofs.Common.{◌≡◌, ◌≢◌, ℕ, ◌+◌, ◌-◌, ◌/◌, ◌%◌, ◌<◌, ◌≤◌, List, [], ◌∷◌, length, set, Option, Some, unwrap_or, refl, sym, ap, ◌∙◌, subst, arith, inl, inr, length-take, length-drop, take, drop}
use Rattle.std.specs.Prelude.{Ok, max}
use Rattle.std.specs.Option.{option_map}
use Rattle.std.proofs.lemmas.Bool.{cases_eq}
use Rattle.std.proofs.lemmas.List.Elements.{All-cons, All-nil}
use Rattle.lmem_raw.specs.Bytes.{with_part}
use Rattle.lmem_raw.proofs.Parts.{length-with_part, with_whole}
use Rattle.geos_terms.specs.declared.name.Owner.TheVariants.{Vm}
use Rattle.block_handles.specs.Layout.{IsLaidOut}
use Rattle.block_handles.specs.Names.{IsHandle, slot_of}
use Rattle.block_handles.specs.Store as store
use Rattle.block_handles.specs.Store.{Block, Store}
use Rattle.block_handles.specs.Change.{with_bytes}
use Rattle.block_handles.specs.Offsets.{WritesCovered}
use Rattle.block_handles.proofs.Laws.{handle_of_there, laid-with_bytes}
use Rattle.block_handles.proofs.Writes.{blocks_with_bytes-set}
use Rattle.geos_terms.specs.Block as block
use Rattle.geos_terms.specs.Bytes.{word_bytes}
use Rattle.geos_terms.specs.Chunks as chunks
use Rattle.geos_terms.specs.Heap.{IsHeap}
use Rattle.geos_calls.specs.Blocks.{rechunked_block}
use Rattle.geos_calls.specs.Legal.{AreBytes, IsLegalBlock}
use Rattle.geos_calls.specs.Memory as model
use Rattle.geos_calls.specs.Memory.{Memory}
use Rattle.geos_calls.specs.VmFile.{VmFile}
use Rattle.geos_calls.specs.Effects.{Reference, Nothing}
use Rattle.geos_calls.specs.Calls as table
use Rattle.geos_calls.proofs.LegalBlocks.{rechunked-legal}
use Rattle.geos_calls.proofs.LegalChunks.{with_written-legal}
use Rattle.geos_terms.specs.Writes.{ChangesChunk}
use Rattle.geos_terms.proofs.Fits.{need-fits}
use Rattle.geos_terms.proofs.Places.{chunk-place}
use Rattle.geos_terms.proofs.Writes.{writes-stay}
use Rattle.vm_file.specs.Device.{Medium}
use Rattle.vm_blocks.specs.DoesRow.{DoesRow}
use Rattle.vm_blocks.specs.FileOf.{IsMemoryOf}
use Rattle.vm_blocks.specs.Spelled.{spelled}
use Rattle.vm_blocks.specs.View.{VmState}
use Rattle.geos_kernel.specs.declared.span.Span.{Span}
use Rattle.geos_kernel.specs.View.{KernelOn, KernelState, core_of, kernel_of, MayChange}
use Rattle.geos_kernel.specs.Spans.{IsWritable, Stands, SpansStay}
use Rattle.geos_kernel.specs.Kernel.{IsKernel, Calls, Stores}
use Rattle.geos_kernel.proofs.AccessReads.{HasPlace, Lies, chunk-placed, lies, stands-there}
use Rattle.chunk_calls.specs.Heaps.{HoldsHeap}
use Rattle.chunk_calls.specs.Others.{KeepsBut, KeepsOthers}
use Rattle.chunk_calls.proofs.Kept.{named-changed, named-tied}
use Rattle.chunk_calls.proofs.Named.{chunks-known}
use Rattle.chunk_calls.proofs.Rows.{there-is}
use Rattle.geos_kernel.proofs.Changed.{slot-keeps, slot-other, slot-own}
use Rattle.geos_kernel.proofs.Chunks.{others-kernel}
use Rattle.geos_kernel.proofs.Named.{named-legal}
use Rattle.geos_kernel.proofs.Rowed.{does-willing, row-calls}
use Rattle.geos_kernel.proofs.Stays.{stands-same}

-- the greater of two numbers
max-is : (n m k : ℕ) → n ≡ m → k ≤ n → max m k ≡ n
max-is n m k e le = omega (arith, e, le)

-- chunks whose places stay keep their lengths
chunk-kept : (b d : List ℕ) (c : ℕ) (bytes : List ℕ) → length d ≡ length b → block.place_of d c ≡ block.place_of b c
    → chunks.chunk_of (block.chunks b) c ≡ Some bytes
    → (kept : List ℕ) × (chunks.chunk_of (block.chunks d) c ≡ Some kept) × (length kept ≡ length bytes)
chunk-kept b d c bytes long places is =
    let q = chunk-placed (block.place_of b c) b bytes (sym (chunk-place b c) ∙ is) in
    let p = q.0 in (
      block.bytes_at d p,
      chunk-place d c ∙ ap (option_map (block.bytes_at d)) (places ∙ q.1),
      omega (arith, long, ap length q.2, length-take p.len (drop p.at d), length-drop p.at d, length-take p.len (drop p.at b), length-drop p.at b),
    )

module _ {D : Type 0} (medium : Medium D) (v : VmState D) (s : Store) (k : IsKernel medium v s) (ref : Reference)
    (there : store.IsThere s (slot_of ref.name)) (place : HasPlace (core_of medium v s) ref)
    (i : ℕ) (ws : List ℕ) (fits : i + length ws ≤ ref.len) (are : AreBytes ws) where
  abbrev slot : ℕ
  slot = slot_of ref.name

  abbrev before : List ℕ
  before = store.bytes_of s slot

  -- the block with these bytes at an offset of the reference
  abbrev written : List ℕ
  written = with_part before (place.place.at + (ref.start + i)) ws

  abbrev pub written-store : Store
  written-store = with_bytes s slot written

  abbrev sees : Store → KernelState
  sees t = core_of medium v t

  abbrev own : Block
  own = record { locks = store.locks_of s slot; bytes = written }

  handle : IsHandle ref.name.h
  handle = handle_of_there s s ref.name refl k.laid there

  long : length written ≡ length before
  long = length-with_part before (place.place.at + (ref.start + i)) ws

  changes : ChangesChunk before written ref.chunk place.place (ref.start + i) ws
  changes = writes-stay before ref.chunk place.place (ref.start + i) ws (k.heaps ref.name there) place.is (omega (arith, fits, place.room))

  blocks-set : written-store.blocks ≡ set s.blocks slot (Some own)
  blocks-set =
      let b : Block = record { locks = store.locks_of s slot; bytes = before } in
      let locked : List ℕ → List (Option Block) = λ bs. set s.blocks slot (Some (record { locks = store.locks_of s slot; bytes = bs })) in
      blocks_with_bytes-set s.blocks slot written b (there-is (store.block_at s slot) there) ∙ ap locked (with_whole before written long)

  written-laid : IsLaidOut written-store
  written-laid = laid-with_bytes s k.laid slot written

  block-own : store.block_at written-store slot ≡ Some own
  block-own = slot-own s written-store ref.name (Some own) blocks-set k.laid handle

  keeps : KeepsBut v s written-store ref.name
  keeps = slot-keeps s written-store ref.name (Some own) blocks-set v (λ j ne some. refl) written-laid refl

  other : (j : ℕ) → j ≢ slot → store.block_at written-store j ≡ store.block_at s j
  other = slot-other s written-store ref.name (Some own) blocks-set

  -- a span in this block: its chunk has the place and the length that it had
  stands-own : (span : Span) (r : Reference) → slot_of r.name ≡ slot → Stands (sees s) span r → Stands (sees written-store) span r
  stands-own span r e st =
      let was : store.bytes_of s (slot_of r.name) ≡ before = ap (store.bytes_of s) e in
      let is : store.bytes_of written-store (slot_of r.name) ≡ written = ap (store.bytes_of written-store) e ∙ ap store.bytes_in block-own in
      let kept = chunk-kept before written r.chunk st.bytes long (changes.places r.chunk)
      (subst (λ b. chunks.chunk_of (block.chunks b) r.chunk ≡ Some st.bytes) was st.chunk) in
      let stays : block.place_of (store.bytes_of written-store (slot_of r.name)) r.chunk ≡ block.place_of
      (store.bytes_of s (slot_of r.name)) r.chunk =
      ap (λ b. block.place_of b r.chunk) is ∙ changes.places r.chunk ∙ sym (ap (λ b. block.place_of b r.chunk) was) in
      let locks : store.locks_of written-store (slot_of r.name) ≡ store.locks_of s (slot_of r.name) = ap (store.locks_of written-store) e
      ∙ ap store.locks_in block-own ∙ sym (ap (store.locks_of s) e) in
      record {
        bytes = kept.0;
        locked = rw locks st.locked;
        chunk = subst (λ b. chunks.chunk_of (block.chunks b) r.chunk ≡ Some kept.0) (sym is) kept.1;
        fits = omega (arith, kept.2, st.fits);
        len = st.len;
        place = λ some. rw stays (st.place some);
      }

  -- every span stays
  pub written-spans : (f : VmFile) → SpansStay (sees s) (sees written-store) f Nothing
  written-spans f span r st fresh = elim (cases_eq (slot_of r.name) slot) [
    | inl same ↦ stands-own span r same st
    | inr apart ↦ stands-same (sees s) (sees written-store) span r (other (slot_of r.name) apart) refl st
  ]

  written-bytes : chunks.bytes_of (block.chunks before) ref.chunk ≡ block.bytes_at before place.place
  written-bytes = ap (λ o. unwrap_or o []) (chunk-place before ref.chunk ∙ ap (option_map (block.bytes_at before)) place.is)

  -- the chunks that the row gives the block
  abbrev row_chunks : List (Option (List ℕ))
  row_chunks = chunks.with_bytes (block.chunks before) ref.chunk (with_part (chunks.bytes_of (block.chunks before) ref.chunk) (ref.start + i) ws)

  spells : block.chunks written ≡ row_chunks
  spells = changes.chunks ∙ ap (λ bs. chunks.with_bytes (block.chunks before) ref.chunk (with_part bs (ref.start + i) ws)) (sym written-bytes)

  needs : chunks.need row_chunks ≤ length written
  needs = subst (λ cs. chunks.need cs ≤ length written) spells (need-fits written changes.heap)

  size : max (length before) (chunks.need row_chunks) ≡ length written
  size = max-is (length written) (length before) (chunks.need row_chunks) long needs

  same-block : rechunked_block row_chunks (spelled (store.locks_of s slot) before) ≡ spelled (store.locks_of s slot) written
  same-block = λ j. record { locks = store.locks_of s slot; heap = record { chunks = sym spells j; size = size j } }

  -- a block of the file is a legal one then
  written-legal : (m : Memory) → IsMemoryOf medium v s m → ref.name.owner ≡ Vm → IsLegalBlock (spelled (store.locks_of s slot) written)
  written-legal m is of_file =
      let b : Block = record { locks = store.locks_of s slot; bytes = before } in
      let legal = named-legal medium v s m k.tied is ref.name of_file b (there-is (store.block_at s slot) there) in
      subst IsLegalBlock same-block
      (rechunked-legal row_chunks (spelled (store.locks_of s slot) before)
      (with_written-legal (block.chunks before) ref.chunk (ref.start + i) ws are legal.heap.chunks)
      (omega (arith, needs, long, legal.heap.most)) legal)

  -- memory is as the row says
  pub written-memory : (m : Memory) → IsMemoryOf medium v s m → IsMemoryOf medium v written-store (table.written m ref i ws)
  written-memory m is =
      let b : Block = record { locks = store.locks_of s slot; bytes = before } in
      let after = named-changed medium v s written-store ref.name k.tied keeps m is b own (there-is (store.block_at s slot) there)
      block-own (rechunked_block row_chunks) same-block (written-legal m is) in
      subst (λ cs. IsMemoryOf medium v written-store
      (model.with_chunks m ref.name (chunks.with_bytes cs ref.chunk (with_part (chunks.bytes_of cs ref.chunk) (ref.start + i) ws))))
      (sym (chunks-known medium v s k.tied m is ref.name there)) after

  written-row : DoesRow medium (table.store ref i ws) (Ok tt) v s v written-store
  written-row = does-willing medium (table.store ref i ws) (Ok tt) v s written-store (λ m is. (table.written m ref i ws, written-memory m is, refl))

  pub written-calls : Calls (medium.honest v.file.device) (table.store ref i ws) (Ok tt) (sees s) (sees written-store)
  written-calls = row-calls medium (table.store ref i ws) (Ok tt) v s written-store written-row (λ f tied choice. written-spans f)

  -- a copy of these bytes is this call
  pub copied-in : (source : Reference) (n : ℕ) → ((m : Memory) → IsMemoryOf medium v s m → ws ≡ take n (table.named_bytes m source))
      → i ≡ 0 → Calls (medium.honest v.file.device) (table.copy ref source n) (Ok tt) (sees s) (sees written-store)
  copied-in source n same first = row-calls medium (table.copy ref source n) (Ok tt) v s written-store
      (does-willing medium (table.copy ref source n) (Ok tt) v s written-store (λ m is. (
        table.written m ref 0 (take n (table.named_bytes m source)),
        subst (λ bs. IsMemoryOf medium v written-store (table.written m ref 0 bs)) (same m is)
            (subst (λ j. IsMemoryOf medium v written-store (table.written m ref j ws)) first (written-memory m is)),
        refl,
      )))
      (λ f tied choice. written-spans f)

  -- the blocks still are a kernel's
  pub written-kernel : MayChange (sees s) ref.name → IsKernel medium v written-store
  written-kernel may =
      let holds : HoldsHeap s ref.name = record { there = there; heap = k.heaps ref.name there } in
      let others : KeepsOthers v s written-store ref.name = record {
        others = keeps;
        there = subst store.IsBlock (sym block-own) tt;
        locks = ap store.locks_in block-own;
        heap = subst (λ o. IsHeap (store.bytes_in o)) (sym block-own) changes.heap;
        handle = ap (λ o. block.handle_word (store.bytes_in o)) block-own ∙ changes.handle;
      } in
      others-kernel medium v s written-store ref.name k holds others (table.store ref i ws) (Ok tt)
      (named-tied medium v s written-store ref.name k.tied there others may) written-row

-- a write to bytes of a span is a write to its chunk
module _ {D : Type 0} (medium : Medium D) (v : VmState D) (s t : Store) (k : IsKernel medium v s) (span : Span)
    (ref : Reference) (stands : Stands (core_of medium v s) span ref)
    (i at : ℕ) (ws : List ℕ) (fits : i + length ws ≤ ref.len) (some : 0 < length ws) (e : at ≡ span.at + i)
    (are : AreBytes ws) (covered : WritesCovered s t at ws) where
  abbrev core : Store → KernelState
  core u = core_of medium v u

  abbrev is-there : store.IsThere s (slot_of ref.name)
  is-there = stands-there medium v s span ref stands k

  abbrev place : Lies (core s) span ref
  place = lies (core s) span ref stands (omega (arith, fits, some))

  stored : t ≡ written-store medium v s k ref is-there place.chunk i ws fits are
  stored =
      let slot = slot_of ref.name in
      let before = store.bytes_of s slot in
      let index : at - store.place_of s slot ≡ place.chunk.place.at + (ref.start + i) = omega (arith, e, place.at) in
      covered slot some (omega (arith, e, place.at), omega (arith, e, fits, place.at, place.within))
      ∙ ap (λ j. with_bytes s slot (with_part before j ws)) index

  pub stored-kernel : MayChange (core s) ref.name → IsKernel medium v t
  stored-kernel may = subst (IsKernel medium v) (sym stored) (written-kernel medium v s k ref is-there place.chunk i ws fits are may)

  pub stored-calls : Calls (medium.honest v.file.device) (table.store ref i ws) (Ok tt) (core s) (core t)
  stored-calls = subst (λ u. Calls (medium.honest v.file.device) (table.store ref i ws) (Ok tt) (core s) (core u))
      (sym stored) (written-calls medium v s k ref is-there place.chunk i ws fits are)

  pub copied-over : (source : Reference) (n : ℕ) → ((m : Memory) → IsMemoryOf medium v s m → ws ≡ take n (table.named_bytes m source))
      → i ≡ 0 → Calls (medium.honest v.file.device) (table.copy ref source n) (Ok tt) (core s) (core t)
  copied-over source n is first =
      subst (λ u. Calls (medium.honest v.file.device) (table.copy ref source n) (Ok tt) (core s) (core u)) (sym stored)
      (copied-in medium v s k ref is-there place.chunk i ws fits are source n is first)

-- A write through a valid span, as calls see the kernel

pub byte-bytes : (b : ℕ) → b < 256 → AreBytes (b ∷ [])
byte-bytes b small = All-cons (λ b. b < 256) b [] small (All-nil (λ b. b < 256))

pub word-bytes : (w : ℕ) → w < 65536 → AreBytes (word_bytes w)
word-bytes w small = All-cons (λ b. b < 256) (w % 256) (w / 256 ∷ []) (omega arith) (byte-bytes (w / 256) (omega (arith, small)))

module _ {D : Type 0} (medium : Medium D) (v : VmState D) (s t : Store) (k : KernelOn D) (is : kernel_of medium v s ≡ k)
    (kernel : IsKernel medium v s) (span : Span)
    (i at : ℕ) (ws : List ℕ) (fits : i + length ws ≤ span.len) (some : 0 < length ws) (e : at ≡ span.at + i)
    (are : AreBytes ws) (covered : WritesCovered s t at ws) where
  -- the blocks still are a kernel's
  pub span-written : IsWritable k.core span → IsKernel medium v t
  span-written writable =
      let here = subst (λ k. IsWritable k.core span) (sym is) writable in
      stored-kernel medium v s t kernel span here.0 here.1 i at ws (omega (arith, fits, here.1.len)) some e are covered here.2

  -- and the write is the row's, whatever the span stands for
  pub span-stores : Stores (medium.honest k.device) span i ws k.core (core_of medium v t)
  span-stores = subst (λ k. Stores (medium.honest k.device) span i ws k.core (core_of medium v t)) is
      (λ ref stands. stored-calls medium v s t kernel span ref stands i at ws (omega (arith, fits, stands.len)) some e are covered)
