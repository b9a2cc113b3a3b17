-- Runs of chunks that have moved, while the table still has their old offsets.
use Rattle.std.specs.Prelude.{◌≡◌, ℕ, ◌+◌, ◌-◌, ◌<◌, ◌≤◌, ◌⊎◌, ◌&&◌, nat_lt, if◌then◌else◌, List, [], ◌∷◌, length, slice_index, slice_index_or}
use Rattle.geos_terms.specs.Block.{entry, entries, table_end}
use Rattle.geos_terms.specs.Heap.{IsHeap}
use Rattle.lmem_heap.specs.declared.slides.Slide.{Slide}

-- an entry after these runs have moved
abbrev pub entry_slid : List Slide → ℕ → ℕ
entry_slid [] e = e
entry_slid (s ∷ slides) e = if nat_lt s.from e && nat_lt e s.end then e - s.from + s.to else entry_slid slides e

-- the runs lay one after another between two offsets, and none has moved up
abbrev pub AreInOrder : ℕ → List Slide → ℕ → Type 0
AreInOrder low [] high = low ≤ high
AreInOrder low (s ∷ slides) high = (low ≤ s.from) × (s.from ≤ s.end) × (s.to ≤ s.from) × AreInOrder s.end slides high

-- one of the runs
abbrev pub run_at : List Slide → ℕ → Slide
run_at slides k = slice_index_or slides k (record { from = 0; end = 0; to = 0 })

-- the bytes of a heap, except for the entries of its table
pub record IsButForEntries (block heap : List ℕ) : Type 0 where
  pub is : IsHeap heap
  pub long : length block ≡ length heap
  pub same : (k : ℕ) → (k < 16) ⊎ (table_end heap ≤ k) → slice_index block k ≡ slice_index heap k

-- the block becomes a heap once its table names the offsets to which these runs have moved
pub record HasSlid (block heap : List ℕ) (slides : List Slide) : Type 0 where
  pub but : IsButForEntries block heap
  pub says : (i : ℕ) → i < entries heap → entry heap i ≡ entry_slid slides (entry block i)
  pub small : (i : ℕ) → i < entries heap → entry heap i < 65536
