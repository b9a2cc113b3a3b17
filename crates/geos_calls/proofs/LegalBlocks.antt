-- What keeps blocks and memory legal.
use Rattle.std.proofs.Common.{◌≡◌, ℕ, zero, suc, ◌%◌, ◌≤◌, max, List, [], ◌∷◌, Option, Some, None, length, get_or, replicate, refl, sym, subst, inl, inr, ◌∙◌, arith}
use Rattle.std.specs.Prelude.{All, IfSome, option_map}
use Rattle.std.proofs.lemmas.Bool.{cases_lt}
use Rattle.std.proofs.lemmas.List.{get_or_past, length-replicate}
use Rattle.std.proofs.lemmas.List.Elements.{All-nil, All-cons, All-replicate}
use Rattle.geos_terms.specs.declared.name.Owner.{Owner}
use Rattle.geos_terms.specs.declared.name.Owner.TheVariants.{Mem, Vm}
use Rattle.geos_terms.specs.declared.name.Name.{Name}
use Rattle.geos_terms.specs.Names.{mem}
use Rattle.geos_terms.specs.Chunks.{need}
use Rattle.geos_calls.specs.Directories.{VmBlock, Directory, relisted}
use Rattle.geos_calls.specs.VmFile.{empty_file}
use Rattle.geos_calls.specs.Memory.{Block, Memory, at_handle, with_entry_at, listed_at, with_cur, with_listed, owned_block, with_owned_block, block_of, with_block, locks_in, chunks_in, locks_of, chunks_at, new_heap, locked_block, rechunked_block, with_locks, with_chunks}
use Rattle.geos_calls.specs.Effects.{most_locks}
use Rattle.geos_calls.specs.Legal.{IsChunk, AreChunks, IsLegalHeap, IsLegalBlock, IsLegalListed, IsCurrent, IsFile, IsMemory}
use Rattle.geos_terms.proofs.Needs.{need-sixteens}
use Rattle.geos_terms.specs.Heap.{most_block_bytes}
use Rattle.geos_calls.proofs.HandleLists.{entry-kept, length-with_entry_at}
use Rattle.geos_calls.proofs.LegalDirectories.{entry-legal, added-legal, empty_file-legal}

-- One block

pub new_heap-legal : IsLegalHeap new_heap
new_heap-legal = record {
  chunks = record {
    bytes = All-cons IsChunk None (None ∷ []) tt (All-cons IsChunk None [] tt (All-nil IsChunk));
    pairs = refl;
    some = omega arith;
  };
  least = omega arith;
  most = omega arith;
  sixteens = refl;
  fits = omega arith;
}

pub locked-legal : (block : Block) (n : ℕ) → n ≤ most_locks → IsLegalBlock block → IsLegalBlock (locked_block n block)
locked-legal block n h legal = record { heap = legal.heap; few = h }

-- a legal block that grows for legal chunks which need no more than a block can have
pub rechunked-legal : (chunks : List (Option (List ℕ))) (block : Block) → AreChunks chunks → need chunks ≤ most_block_bytes
    → IsLegalBlock block → IsLegalBlock (rechunked_block chunks block)
rechunked-legal chunks block are small legal =
    let size = block.heap.size in
    let n = need chunks in
    let rest = need-sixteens chunks in
    let heap : IsLegalHeap (record { chunks = chunks; size = max size n }) = record {
      chunks = are;
      least = sized-least size n legal.heap.least;
      most = sized-most size n legal.heap.most small;
      sixteens = sized-sixteens size n legal.heap.sixteens rest;
      fits = sized-fits size n;
    } in
    record { heap = heap; few = legal.few }
  where
    sized-least : (size n : ℕ) → 64 ≤ size → 64 ≤ max size n
    sized-least size n h = omega arith

    sized-most : (size n : ℕ) → size ≤ most_block_bytes → n ≤ most_block_bytes → max size n ≤ most_block_bytes
    sized-most size n h k = omega arith

    sized-sixteens : (size n : ℕ) → size % 16 ≡ 0 → n % 16 ≡ 0 → max size n % 16 ≡ 0
    sized-sixteens size n h k = omega arith

    sized-fits : (size n : ℕ) → n ≤ max size n
    sized-fits size n = omega arith

-- With a block, and without one

pub if-locked : (block : Option Block) (n : ℕ) → n ≤ most_locks → IfSome block IsLegalBlock → IfSome (option_map (locked_block n) block) IsLegalBlock
if-locked None n h legal = tt
if-locked (Some block) n h legal = locked-legal block n h legal

pub if-rechunked : (f : List (Option (List ℕ)) → List (Option (List ℕ))) (block : Option Block)
    → (AreChunks (chunks_in block) → AreChunks (f (chunks_in block))) →
    need (f (chunks_in block)) ≤ most_block_bytes → IfSome block IsLegalBlock
    → IfSome (option_map (rechunked_block (f (chunks_in block))) block) IsLegalBlock
if-rechunked f None keep small legal = tt
if-rechunked f (Some block) keep small legal = rechunked-legal (f block.heap.chunks) block (keep legal.heap.chunks) small legal

pub need-small : (block : Option Block) → IfSome block IsLegalBlock → need (chunks_in block) ≤ most_block_bytes
need-small None legal = omega arith
need-small (Some block) legal = let fits = legal.heap.fits in let most = legal.heap.most in omega arith

pub bytes-all : (block : Option Block) → IfSome block IsLegalBlock → All IsChunk (chunks_in block)
bytes-all None legal = All-nil IsChunk
bytes-all (Some block) legal = legal.heap.chunks.bytes

pub locks-few : (block : Option Block) → IfSome block IsLegalBlock → locks_in block ≤ most_locks
locks-few None legal = omega arith
locks-few (Some block) legal = legal.few

-- Memory

listed-block : (listed : Option VmBlock) → IfSome listed IsLegalListed → IfSome (option_map (λ (l : VmBlock). l.block) listed) IsLegalBlock
listed-block None legal = tt
listed-block (Some l) legal = legal.block

-- the block of each name is legal
pub named-legal : (memory : Memory) (name : Name) → IsMemory memory → IfSome (block_of memory name) IsLegalBlock
named-legal memory name legal = owned name.owner name.h
  where
    owned : (owner : Owner) (h : ℕ) → IfSome (owned_block memory owner h) IsLegalBlock
    owned Mem h = legal.blocks h
    owned Vm h = listed-block (listed_at memory h) (legal.file.cur.blocks h)

-- where each entry has a legal block or none, and the file is legal
pub memory-legal : (memory : Memory) → length memory.blocks ≡ 1024 → All (λ b. IfSome b IsLegalBlock) memory.blocks
    → IsFile memory.file → IsMemory memory
memory-legal memory handles all file = record { handles = handles; blocks = at; file = file }
  where
    entry-legal : (i : ℕ) → IfSome (get_or memory.blocks i None) IsLegalBlock
    entry-legal i = elim (cases_lt i (length memory.blocks)) [
      | inl l ↦ all i None l
      | inr l ↦ subst (λ b. IfSome b IsLegalBlock) (sym (get_or_past memory.blocks i None l)) tt
    ]

    at : (h : ℕ) → IfSome (at_handle None memory.blocks h) IsLegalBlock
    at zero = tt
    at (suc h) = entry-legal h

-- memory without a block
pub empty-legal : (region : ℕ) → IsMemory (record { blocks = replicate 1024 None; file = empty_file 0; region = region; handles = 1024 })
empty-legal region =
    memory-legal (record { blocks = replicate 1024 None; file = empty_file 0; region = region; handles = 1024 })
    (length-replicate {A = Option Block} 1024 None) (All-replicate (λ b. IfSome b IsLegalBlock) 1024 None tt) (empty_file-legal 0)

-- a legal block, or none, put under a handle of global memory
pub mem_block-legal : (memory : Memory) (h : ℕ) (block : Option Block) → IfSome block IsLegalBlock → IsMemory memory
    → IsMemory (with_block memory (mem h) block)
mem_block-legal memory h block new legal = record {
  handles = length-with_entry_at memory.blocks h block ∙ legal.handles;
  blocks = λ k. entry-kept (λ b. IfSome b IsLegalBlock) memory.blocks h k block None new (legal.blocks k);
  file = legal.file;
}

-- another legal current directory
pub cur-legal : (memory : Memory) (cur : Directory VmBlock) → IsCurrent cur → IsMemory memory → IsMemory (with_cur memory cur)
cur-legal memory cur new legal = record {
  handles = legal.handles;
  blocks = legal.blocks;
  file =
      record { cur = new; saved = legal.file.saved; kept = legal.file.kept };
}

-- what is listed under a handle, with the same user ID
pub listed-legal : (memory : Memory) (h : ℕ) (listed : Option VmBlock) → IfSome listed IsLegalListed →
    option_map (λ (l : VmBlock). l.uid) listed ≡ option_map (λ (l : VmBlock). l.uid) (listed_at memory h) → IsMemory memory
    → IsMemory (with_listed memory h listed)
listed-legal memory h listed new same legal =
    cur-legal memory (record memory.file.cur { blocks = with_entry_at memory.file.cur.blocks h listed })
    (entry-legal IsLegalListed (λ (l : VmBlock). l.uid) memory.file.cur legal.file.cur h listed new same) legal

-- a block that is listed anew, under a handle where none is
pub added_listed-legal : (memory : Memory) (h : ℕ) (listed : VmBlock) → IsLegalListed listed → listed_at memory h ≡ None
    → IsMemory memory → IsMemory (with_listed memory h (Some listed))
added_listed-legal memory h listed new none legal =
    cur-legal memory (record memory.file.cur { blocks = with_entry_at memory.file.cur.blocks h (Some listed) })
    (added-legal IsLegalListed (λ (l : VmBlock). l.uid) memory.file.cur legal.file.cur h listed new none) legal

-- a block in the place of a listed one keeps its user ID
relisted-legal : (listed : Option VmBlock) (f : Block → Block) → IfSome listed IsLegalListed
    → IfSome (option_map f (option_map (λ (l : VmBlock). l.block) listed)) IsLegalBlock →
    IfSome (option_map (relisted listed) (option_map f (option_map (λ (l : VmBlock). l.block) listed))) IsLegalListed
relisted-legal None f legal new = tt
relisted-legal (Some l) f legal new = record { uid = legal.uid; block = new }

relisted-uid : (listed : Option VmBlock) (f : Block → Block) →
    option_map (λ (l : VmBlock). l.uid) (option_map (relisted listed) (option_map f (option_map (λ (l : VmBlock). l.block) listed))) ≡ option_map
    (λ (l : VmBlock). l.uid) listed
relisted-uid None f = refl
relisted-uid (Some l) f = refl

-- a named block, where there is one, becomes a legal one
pub mapped-legal : (memory : Memory) (name : Name) (f : Block → Block) → IfSome (option_map f (block_of memory name)) IsLegalBlock
    → IsMemory memory → IsMemory (with_block memory name (option_map f (block_of memory name)))
mapped-legal memory name f new legal = owned name.owner name.h new
  where
    owned : (owner : Owner) (h : ℕ) → IfSome (option_map f (owned_block memory owner h)) IsLegalBlock
        → IsMemory (with_owned_block memory owner h (option_map f (owned_block memory owner h)))
    owned Mem h new = mem_block-legal memory h (option_map f (at_handle None memory.blocks h)) new legal
    owned Vm h new = listed-legal memory h (option_map (relisted (listed_at memory h)) (option_map f (owned_block memory Vm h)))
        (relisted-legal (listed_at memory h) f (legal.file.cur.blocks h) new) (relisted-uid (listed_at memory h) f) legal

-- another count of locks, which can be
pub with_locks-legal : (memory : Memory) (name : Name) (n : ℕ) → n ≤ most_locks → IsMemory memory → IsMemory (with_locks memory name n)
with_locks-legal memory name n h legal = mapped-legal memory name (locked_block n)
    (if-locked (block_of memory name) n h (named-legal memory name legal)) legal

-- other legal chunks, which need no more than a block can have
pub with_chunks-legal : (f : List (Option (List ℕ)) → List (Option (List ℕ))) (memory : Memory) (name : Name)
    → (AreChunks (chunks_at memory name) → AreChunks (f (chunks_at memory name))) →
    need (f (chunks_at memory name)) ≤ most_block_bytes → IsMemory memory → IsMemory (with_chunks memory name (f (chunks_at memory name)))
with_chunks-legal f memory name keep small legal =
    let block = block_of memory name in
    mapped-legal memory name (rechunked_block (f (chunks_in block))) (if-rechunked f block keep small (named-legal memory name legal)) legal

pub chunks-need : (memory : Memory) (name : Name) → IsMemory memory → need (chunks_at memory name) ≤ most_block_bytes
chunks-need memory name legal = need-small (block_of memory name) (named-legal memory name legal)

pub chunks-bytes : (memory : Memory) (name : Name) → IsMemory memory → All IsChunk (chunks_at memory name)
chunks-bytes memory name legal = bytes-all (block_of memory name) (named-legal memory name legal)

pub locks-most : (memory : Memory) (name : Name) → IsMemory memory → locks_of memory name ≤ most_locks
locks-most memory name legal = locks-few (block_of memory name) (named-legal memory name legal)
