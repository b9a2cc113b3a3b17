-- Spans of the region, and the references that they are valid for.
use Rattle.std.specs.Prelude.{◌≡◌, ◌≢◌, ℕ, ◌+◌, ◌<◌, ◌≤◌, ◌==◌, if◌then◌else◌, List, length, Option, Some, None, IfSome}
use Rattle.geos_terms.specs.declared.name.Name.{Name}
use Rattle.block_handles.specs.Names.{slot_of}
use Rattle.block_handles.specs.Store.{bytes_of, locks_of, place_of}
use Rattle.geos_terms.specs.Block as block
use Rattle.geos_terms.specs.Chunks.{chunk_of}
use Rattle.geos_calls.specs.Memory as model
use Rattle.geos_calls.specs.VmFile.{VmFile}
use Rattle.geos_calls.specs.Effects.{Reference, Staleness, Nothing, InBlock, OfLock}
use Rattle.geos_kernel.specs.declared.span.Span.{Span}
use Rattle.geos_kernel.specs.View.{KernelState, memory_of, chunks_at, MayChange}

-- the bytes of a reference are at this offset of the region
abbrev pub LiesAt : KernelState → Reference → ℕ → Type 0
LiesAt s ref at =
    IfSome (block.place_of (bytes_of s.blocks (slot_of ref.name)) ref.chunk) (λ p. at ≡ place_of s.blocks (slot_of ref.name) + p.at + ref.start)

-- a span is valid for a reference: the block is locked, the chunk exists and is long enough, and the span is the
-- place where these bytes of the chunk are now
pub record Stands (s : KernelState) (span : Span) (ref : Reference) : Type 0 where
  pub bytes : List ℕ
  pub locked : 0 < locks_of s.blocks (slot_of ref.name)
  pub chunk : chunk_of (chunks_at s.blocks ref.name) ref.chunk ≡ Some bytes
  pub fits : ref.start + ref.len ≤ length bytes
  pub len : span.len ≡ ref.len
  pub place : 0 < ref.len → LiesAt s ref span.at

-- the block whose references a call makes stale, as the kernel sees it: an unlock does so if it releases the last
-- lock
abbrev pub stale_block : model.Memory → Staleness → Option Name
stale_block before Nothing = None
stale_block before (InBlock name) = Some name
stale_block before (OfLock name) = if model.locks_of before name == 1 then Some name else None

-- the reference is not among those that a call makes stale
abbrev pub IsFresh : model.Memory → Staleness → Reference → Type 0
IsFresh before stale ref = IfSome (stale_block before stale) (λ name. ref.name ≢ name)

-- a span that was valid for a reference stays valid, unless the call made the reference stale in memory with this VM
-- file
abbrev pub SpansStay : KernelState → KernelState → VmFile → Staleness → Type 0
SpansStay old new f stale = (span : Span) (ref : Reference) → Stands old span ref → IsFresh (memory_of old f) stale ref → Stands new span ref

-- a span is valid for some reference
abbrev pub IsStanding : KernelState → Span → Type 0
IsStanding s span = (ref : Reference) × Stands s span ref

-- a span is valid for some reference into a block whose bytes may be changed
abbrev pub IsWritable : KernelState → Span → Type 0
IsWritable s span = (ref : Reference) × Stands s span ref × MayChange s ref.name
