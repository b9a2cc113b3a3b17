-- The table of the kernel's calls, a row for each: what it comes to, by its operands, a choice
-- and memory.
use Rattle.std.specs.Prelude.{ℕ, ◌+◌, ◌-◌, Bool, nat_lt, ◌==◌, List, [], ◌∷◌, ◌++◌, take, Option, Some, None, is_none, slice_index, unwrap_or}
use Rattle.lmem_raw.specs.Bytes.{part, with_part}
use Rattle.geos_terms.specs.declared.name.Name.{Name}
use Rattle.geos_terms.specs.declared.name.Owner.TheVariants.{Mem}
use Rattle.geos_terms.specs.declared.refusal.Refusal.{Refusal}
use Rattle.geos_terms.specs.declared.refusal.Refusal.TheVariants.{BadHandle, NoHandle, NoRoom, Locked}
use Rattle.geos_terms.specs.Names.{mem}
use Rattle.geos_terms.specs.Bytes.{word}
use Rattle.geos_terms.specs.Chunks.{bytes_of, with_bytes}
use Rattle.geos_calls.specs.Memory.{Memory, new_heap, block_of, with_block, locks_of, with_locks, chunks_at, with_chunks, lowest_handle}
use Rattle.geos_calls.specs.Effects.{Reference, Call, Nothing, InBlock, OfLock, unchanged, tells, most_locks, cannot_make, growing}
use Rattle.geos_terms.specs.Edits.{Edit, Part, alloc, free, realloc, insert_bytes, delete_bytes, size, refer, contract}

-- Calls on the chunks of one locked block, which are edits of a list of chunks

-- a call that changes the chunks, and needs no more bytes
abbrev pub changes : {A : Type 0} → (List (Option (List ℕ)) → Edit A) → Name → Call A
changes edit name choice memory =
    let e = edit (chunks_at memory name) in
    record { refusals = e.refusals; left = unchanged memory; after = with_chunks memory name e.chunks; answer = e.answer; stale = InBlock name }

-- a call that changes the chunks, for which the block may grow
abbrev pub enlarges : {A : Type 0} → (List (Option (List ℕ)) → Edit A) → Name → Call A
enlarges edit name choice memory =
    let e = edit (chunks_at memory name) in
    record {
      refusals = e.refusals ++ growing choice memory name e.chunks;
      left = unchanged memory;
      after = with_chunks memory name e.chunks;
      answer = e.answer;
      stale = InBlock name;
    }

-- a call that returns something about the chunks
abbrev pub reads : {A : Type 0} → (List (Option (List ℕ)) → Edit A) → Name → Call A
reads edit name choice memory =
    let e = edit (chunks_at memory name) in
    record { refusals = e.refusals; left = unchanged memory; after = memory; answer = e.answer; stale = Nothing }

-- a part of a chunk of this block
abbrev pub in_block : Name → Part → Reference
in_block name p = record { name = name; chunk = p.chunk; start = p.start; len = p.len }

-- a call that returns a reference into the block
abbrev pub refers : (List (Option (List ℕ)) → Edit Part) → Name → Call Reference
refers edit name choice memory =
    let e = edit (chunks_at memory name) in
    record { refusals = e.refusals; left = unchanged memory; after = memory; answer = in_block name e.answer; stale = Nothing }

-- Blocks

-- the count of locks cannot rise
abbrev pub locks_full : Memory → Name → Bool × Refusal
locks_full memory name = (locks_of memory name == most_locks, Locked)

-- a block that is locked is not freed
abbrev pub is_in_use : Memory → Name → Bool × Refusal
is_in_use memory name = (nat_lt 0 (locks_of memory name), Locked)

-- makes a block under the lowest free handle, and locks it
abbrev pub mnew : Call ℕ
mnew choice memory =
    let h = unwrap_or (lowest_handle memory Mem) 0 in
    record {
      refusals = (is_none (lowest_handle memory Mem), NoHandle) ∷ (cannot_make choice memory (mem h), NoRoom) ∷ [];
      left = unchanged memory;
      after = with_block memory (mem h) (Some (record { locks = 1; heap = new_heap }));
      answer = h;
      stale = Nothing;
    }

-- locks a block once more
abbrev pub mlock : ℕ → Call (Unit {0})
mlock h choice memory = record {
  refusals = (is_none (block_of memory (mem h)), BadHandle) ∷ locks_full memory (mem h) ∷ [];
  left = unchanged memory;
  after = with_locks memory (mem h) (locks_of memory (mem h) + 1);
  answer = tt;
  stale = Nothing;
}

-- unlocks a block once: when it is locked no more it may move
abbrev pub unlock : Name → Call (Unit {0})
unlock name choice memory = record {
  refusals = [];
  left = unchanged memory;
  after = with_locks memory name (locks_of memory name - 1);
  answer = tt;
  stale = OfLock name;
}

-- frees a block that is not locked
abbrev pub mfree : ℕ → Call (Unit {0})
mfree h choice memory = record {
  refusals = (is_none (block_of memory (mem h)), BadHandle) ∷ is_in_use memory (mem h) ∷ [];
  left = unchanged memory;
  after = with_block memory (mem h) None;
  answer = tt;
  stale = Nothing;
}

-- Chunks

-- makes a chunk of n zero bytes under the lowest free handle of the block
abbrev pub lalloc : Name → ℕ → Call ℕ
lalloc name n = enlarges (alloc n) name

-- frees a chunk
abbrev pub lfree : Name → ℕ → Call (Unit {0})
lfree name c = changes (free c) name

-- gives a chunk n bytes: the first of its bytes that fit, then zeros
abbrev pub lrealloc : Name → ℕ → ℕ → Call (Unit {0})
lrealloc name c n = enlarges (realloc c n) name

-- puts n zero bytes into a chunk at an offset
abbrev pub lins : Name → ℕ → ℕ → ℕ → Call (Unit {0})
lins name c at n = enlarges (insert_bytes c at n) name

-- takes n bytes out of a chunk at an offset
abbrev pub ldel : Name → ℕ → ℕ → ℕ → Call (Unit {0})
ldel name c at n = changes (delete_bytes c at n) name

-- returns the length of a chunk
abbrev pub lsize : Name → ℕ → Call ℕ
lsize name c = reads (size c) name

-- returns a reference to a chunk of at least n bytes
abbrev pub deref : Name → ℕ → ℕ → Call Reference
deref name c n = refers (refer c n) name

-- moves the chunks of a block together, which shows only in the references that become stale
abbrev pub lcontract : Name → Call (Unit {0})
lcontract name = changes contract name

-- Bytes

-- the bytes that a reference names
abbrev pub named_bytes : Memory → Reference → List ℕ
named_bytes memory ref = part (bytes_of (chunks_at memory ref.name) ref.chunk) ref.start ref.len

-- reads the byte at an offset of a reference
abbrev pub load8 : Reference → ℕ → Call ℕ
load8 ref i choice memory = tells memory (slice_index (named_bytes memory ref) i)

-- reads the word at an offset of a reference, little end first
abbrev pub load16 : Reference → ℕ → Call ℕ
load16 ref i choice memory = tells memory (word (named_bytes memory ref) i)

-- memory with these bytes at an offset of a reference
abbrev pub written : Memory → Reference → ℕ → List ℕ → Memory
written memory ref i ws =
    let chunks = chunks_at memory ref.name in
    with_chunks memory ref.name (with_bytes chunks ref.chunk (with_part (bytes_of chunks ref.chunk) (ref.start + i) ws))

-- writes bytes at an offset of a reference
abbrev pub store : Reference → ℕ → List ℕ → Call (Unit {0})
store ref i ws choice memory = record { refusals = []; left = unchanged memory; after = written memory ref i ws; answer = tt; stale = Nothing }

-- writes the first n bytes of one reference, as they were before, to the beginning of another
abbrev pub copy : Reference → Reference → ℕ → Call (Unit {0})
copy to from n choice memory = store to 0 (take n (named_bytes memory from)) choice memory
