-- The position of a span's bytes, and what a read finds there.
use Rattle.std.proofs.Common.{◌≡◌, ℕ, ◌+◌, ◌-◌, ◌*◌, ◌<◌, ◌≤◌, List, [], length, take, drop, Option, Some, None, slice_index, unwrap_or, refl, sym, ap, ◌∙◌, subst, arith, length-take, length-drop}
use Rattle.std.specs.Prelude.{Ok, IfSome}
use Rattle.std.specs.Option.{option_map}
use Rattle.std.proofs.lemmas.List.{get_or-take, get_or-drop, take-take}
use Rattle.lmem_raw.specs.Bytes.{part}
use Rattle.block_handles.specs.Names.{slot_of}
use Rattle.block_handles.specs.Store as store
use Rattle.block_handles.specs.Store.{Store}
use Rattle.block_handles.specs.Offsets.{Covers, byte_of, ReadsByte, ReadsWord}
use Rattle.block_handles.proofs.Layouts.{there_of_locks}
use Rattle.block_handles.proofs.Writes.{part-part}
use Rattle.vm_blocks.specs.FileOf.{IsMemoryOf}
use Rattle.vm_blocks.specs.View.{VmState}
use Rattle.geos_terms.specs.Block as block
use Rattle.geos_terms.specs.Bytes.{word}
use Rattle.geos_terms.specs.Chunks.{bytes_of}
use Rattle.geos_calls.specs.Memory as model
use Rattle.geos_calls.specs.Memory.{Memory}
use Rattle.geos_calls.specs.Effects.{Reference}
use Rattle.geos_calls.specs.Calls as table
use Rattle.geos_terms.proofs.Places.{chunk-place}
use Rattle.vm_file.specs.Device.{Medium}
use Rattle.geos_kernel.specs.declared.span.Span.{Span}
use Rattle.geos_kernel.specs.View.{KernelOn, KernelState, core_of, kernel_of}
use Rattle.geos_kernel.specs.Spans.{Stands, IsStanding}
use Rattle.geos_kernel.specs.Kernel.{IsKernel, Calls}
use Rattle.chunk_calls.proofs.Named.{chunks-known}
use Rattle.geos_kernel.proofs.Rowed.{telling-calls}

-- the place of a reference's chunk in its block
pub record HasPlace (s : KernelState) (ref : Reference) : Type 0 where
  pub place : block.Place
  pub is : block.place_of (store.bytes_of s.blocks (slot_of ref.name)) ref.chunk ≡ Some place
  pub room : ref.start + ref.len ≤ place.len

-- the bytes that a span stands for lie there, and in the block
pub record Lies (s : KernelState) (span : Span) (ref : Reference) : Type 0 where
  pub chunk : HasPlace s ref
  pub at : span.at ≡ store.place_of s.blocks (slot_of ref.name) + chunk.place.at + ref.start
  pub within : chunk.place.at + ref.start + ref.len ≤ store.size_of s.blocks (slot_of ref.name)

-- a chunk that is there has a place
pub chunk-placed : (o : Option block.Place) (b bytes : List ℕ) → option_map (block.bytes_at b) o ≡ Some bytes
    → (p : block.Place) × (o ≡ Some p) × (block.bytes_at b p ≡ bytes)
chunk-placed None b bytes e = absurd cc
chunk-placed (Some p) b bytes e = (p, refl, cc)

module _ (s : KernelState) (span : Span) (ref : Reference) (stands : Stands s span ref) where
  abbrev block_bytes : List ℕ
  block_bytes = store.bytes_of s.blocks (slot_of ref.name)

  abbrev placed : (p : block.Place) × (block.place_of block_bytes ref.chunk ≡ Some p) × (block.bytes_at block_bytes p ≡ stands.bytes)
  placed = chunk-placed (block.place_of block_bytes ref.chunk) block_bytes stands.bytes (sym (chunk-place block_bytes ref.chunk) ∙ stands.chunk)

  room : ref.start + ref.len ≤ placed.0.len
  room = let p = placed.0 in omega (arith, stands.fits, ap length placed.2, length-take p.len (drop p.at block_bytes))

  pub has-place : HasPlace s ref
  has-place = record { place = placed.0; is = placed.1; room = room }

  pub lies : 0 < ref.len → Lies s span ref
  unfolding has-place
  lies some =
      let p = placed.0 in
      record {
        chunk = has-place;
        at = subst (λ o. IfSome o (λ p. span.at ≡ store.place_of s.blocks (slot_of ref.name) + p.at + ref.start)) placed.1 (stands.place some);
        within = omega (arith, some, stands.fits, ap length placed.2, length-take p.len (drop p.at block_bytes), length-drop p.at block_bytes);
      }

module _ {D : Type 0} (medium : Medium D) (v : VmState D) (s : Store) (span : Span) (ref : Reference)
    (stands : Stands (core_of medium v s) span ref) (k : IsKernel medium v s) where
  abbrev sees : KernelState
  sees = core_of medium v s

  abbrev own_bytes : List ℕ
  own_bytes = store.bytes_of s (slot_of ref.name)

  -- a block that a span lies in is there
  pub stands-there : store.IsThere s (slot_of ref.name)
  stands-there = there_of_locks s (slot_of ref.name) stands.locked

  -- the bytes that a reference names are bytes of its block
  pub named-is : (m : Memory) → IsMemoryOf medium v s m → (l : Lies sees span ref)
      → table.named_bytes m ref ≡ part own_bytes (l.chunk.place.at + ref.start) ref.len
  named-is m is l =
      let p = l.chunk.place in
      let chunks : model.chunks_at m ref.name ≡ block.chunks own_bytes = chunks-known medium v s k.tied m is ref.name stands-there in
      let bytes : bytes_of (block.chunks own_bytes) ref.chunk ≡ block.bytes_at own_bytes p = ap (λ o. unwrap_or o [])
      (chunk-place own_bytes ref.chunk ∙ ap (option_map (block.bytes_at own_bytes)) l.chunk.is) in
      ap (λ cs. part (bytes_of cs ref.chunk) ref.start ref.len) chunks ∙ ap (λ bs. part bs ref.start ref.len) bytes
      ∙ part-part own_bytes p.at p.len ref.start ref.len l.chunk.room

  byte-named : (m : Memory) → IsMemoryOf medium v s m → (l : Lies sees span ref) (i at : ℕ) → i < ref.len → at ≡ span.at + i
      → byte_of s (slot_of ref.name) at ≡ slice_index (table.named_bytes m ref) i
  byte-named m is l i at less e =
      let begin = l.chunk.place.at + ref.start in
      let index : at - store.place_of s (slot_of ref.name) ≡ begin + i = omega (arith, e, l.at) in
      ap (slice_index own_bytes) index ∙ sym (ap (λ bs. slice_index bs i) (named-is m is l)
      ∙ get_or-take ref.len (drop begin own_bytes) i 0 less ∙ get_or-drop begin own_bytes i 0)

  covers : (l : Lies sees span ref) (i at : ℕ) → i < ref.len → at ≡ span.at + i → Covers s (slot_of ref.name) at
  covers l i at less e = (omega (arith, e, l.at), omega (arith, less, e, l.at, l.within))

  pub load8-calls : (i at byte : ℕ) → i + 1 ≤ ref.len → at ≡ span.at + i → ReadsByte s at byte
      → Calls (medium.honest v.file.device) (table.load8 ref i) (Ok byte) sees sees
  load8-calls i at byte fits e read =
      let l = lies sees span ref stands (omega (arith, fits)) in
      telling-calls medium (table.load8 ref i) (Ok byte) v s (λ m is.
      let same : byte ≡ slice_index (table.named_bytes m ref) i = read (slot_of ref.name) (covers l i at (omega (arith, fits)) e)
      ∙ byte-named m is l i at (omega (arith, fits)) e in
      ap (λ b. (Ok b, m)) (sym same))

  word-named : (bytes : List ℕ) (i low high : ℕ) → low ≡ slice_index bytes i → high ≡ slice_index bytes (i + 1) → low + 256 * high ≡ word bytes i
  unfolding word
  word-named bytes i low high e f = omega (arith, e, f)

  pub load16-calls : (i at w : ℕ) → i + 2 ≤ ref.len → at ≡ span.at + i → ReadsWord s at w
      → Calls (medium.honest v.file.device) (table.load16 ref i) (Ok w) sees sees
  load16-calls i at w fits e read =
      let l = lies sees span ref stands (omega (arith, fits)) in
      let slot = slot_of ref.name in
      let low : i < ref.len = omega (arith, fits) in
      let high : i + 1 < ref.len = omega (arith, fits) in
      let next : at + 1 ≡ span.at + (i + 1) = omega (arith, e) in
      telling-calls medium (table.load16 ref i) (Ok w) v s (λ m is.
      let same : w ≡ word (table.named_bytes m ref) i =
      read slot slot (covers l i at low e) (covers l (i + 1) (at + 1) high next)
      ∙ word-named (table.named_bytes m ref) i (byte_of s slot at) (byte_of s slot (at + 1)) (byte-named m is l i at low e)
      (byte-named m is l (i + 1) (at + 1) high next) in
      ap (λ b. (Ok b, m)) (sym same))

  -- the first bytes that a reference names, as a copy takes them
  pub first-named : (m : Memory) → IsMemoryOf medium v s m → (l : Lies sees span ref) (n : ℕ) → n ≤ ref.len
      → part own_bytes (span.at - store.place_of s (slot_of ref.name)) n ≡ take n (table.named_bytes m ref)
  first-named m is l n fits =
      let begin = l.chunk.place.at + ref.start in
      let index : span.at - store.place_of s (slot_of ref.name) ≡ begin = omega (arith, l.at) in
      ap (λ j. part own_bytes j n) index ∙ sym (ap (take n) (named-is m is l) ∙ take-take n ref.len (drop begin own_bytes) fits)

-- A valid span, as calls see the kernel

module _ {D : Type 0} (medium : Medium D) (v : VmState D) (s : Store) (k : KernelOn D) (is : kernel_of medium v s ≡ k)
    (kernel : IsKernel medium v s) (span : Span) where
  -- bytes of it lie in the region
  pub span-region : (i n : ℕ) → IsStanding k.core span → i + n ≤ span.len → 0 < n → span.at + i + n ≤ store.region_len s
  span-region i n standing fits some =
      let here = subst (λ k. IsStanding k.core span) (sym is) standing in
      let l = lies (core_of medium v s) span here.0 here.1 (omega (arith, fits, some, here.1.len)) in
      omega (arith, fits, here.1.len, l.at, l.within, kernel.laid.within (slot_of here.0.name))

  -- what is read from it answers as the row says, whatever it stands for
  pub span-byte : (i at byte : ℕ) → i + 1 ≤ span.len → at ≡ span.at + i → ReadsByte s at byte → (ref : Reference)
      → Stands k.core span ref → Calls (medium.honest k.device) (table.load8 ref i) (Ok byte) k.core k.core
  span-byte i at byte fits e read = subst (λ k. (ref : Reference) → Stands k.core span ref
      → Calls (medium.honest k.device) (table.load8 ref i) (Ok byte) k.core k.core) is
      (λ ref stands. load8-calls medium v s span ref stands kernel i at byte (omega (arith, fits, stands.len)) e read)

  pub span-word : (i at w : ℕ) → i + 2 ≤ span.len → at ≡ span.at + i → ReadsWord s at w → (ref : Reference)
      → Stands k.core span ref → Calls (medium.honest k.device) (table.load16 ref i) (Ok w) k.core k.core
  span-word i at w fits e read = subst (λ k. (ref : Reference) → Stands k.core span ref
      → Calls (medium.honest k.device) (table.load16 ref i) (Ok w) k.core k.core) is
      (λ ref stands. load16-calls medium v s span ref stands kernel i at w (omega (arith, fits, stands.len)) e read)
