-- Updates, saves and reverts of the VM file, computed on examples.
use Rattle.std.proofs.Common.{◌≡◌, ℕ, true, false, [], ◌∷◌, ◌++◌, length, replicate, Option, Some, None, refl}
use Rattle.std.specs.Prelude.{Ok, Err}
use Rattle.geos_terms.specs.declared.refusal.Refusal.TheVariants as refusal
use Rattle.geos_terms.specs.Names.{mem, vm}
use Rattle.geos_terms.specs.Bytes.{word}
use Rattle.geos_terms.specs.Chunks.{cost}
use Rattle.geos_calls.specs.Blocks.{Heap, Block}
use Rattle.geos_calls.specs.Directories.{VmBlock, KeptBlock, Directory, idle_block}
use Rattle.geos_calls.specs.VmFile.{Pair, Sure, Unsure, pair_length}
use Rattle.geos_calls.specs.Memory.{Memory, is_marked, size_of, chunks_at}
use Rattle.geos_calls.specs.Effects.{outcome, effect_of}
use Rattle.geos_calls.specs.Calls.{mnew, unlock, lalloc}
use Rattle.geos_calls.specs.VmCalls.{keep_current, keep_saved, pair_to_keep, vnew, vlock, vdirty, vunlock, vfree, vuid, vgetmap, vupdate, vsave, vrevert}
use Rattle.worked_examples.proofs.States.{unwilling}
use Rattle.worked_examples.proofs.CallsInTurn.{crowded, failing, failing_late, listing, start, answer_under, left_under, says, next, filled}
use Rattle.worked_examples.proofs.FileExamples.{put, got}

-- a block of the device with user ID 5, 64 bytes, and a word in the chunk 16
abbrev pub kept_word : ℕ → Option KeptBlock
kept_word w = Some (record { uid = 5; heap = record { chunks = Some (w ∷ 0 ∷ []) ∷ None ∷ []; size = 64 } })

-- no block; one block that is mapped; and two, the second of which is
abbrev pub none : Directory KeptBlock
none = listing (replicate 5 None)

abbrev pub first : Directory KeptBlock
first = record (listing (kept_word 1 ∷ replicate 4 None)) { map_block = 1 }

abbrev pub second : Directory KeptBlock
second = record (listing (kept_word 1 ∷ kept_word 2 ∷ replicate 3 None)) { map_block = 2 }

-- a current and a saved directory
abbrev pub pair : Directory KeptBlock → Directory KeptBlock → Pair
pair cur saved = record { cur = cur; saved = saved }

-- the word 1 is put; that is saved; the word 2 is put; and the file is updated
abbrev pub put_one : Memory
put_one = put 1 1 start

abbrev pub saved_one : Memory
saved_one = next vsave put_one

abbrev pub put_two : Memory
put_two = put 2 2 saved_one

abbrev pub updated : Memory
updated = next vupdate put_two

-- what the device holds then; a revert, and what is read before and after it
pub record Keeping : Type 0 where
  pub put_only : put_one.file.kept ≡ Sure (pair none none)
  pub saved : saved_one.file.kept ≡ Sure (pair first first)
  pub not_yet : put_two.file.kept ≡ Sure (pair first first)
  pub both : updated.file.kept ≡ Sure (pair second first)
  pub new_map : says vgetmap updated ≡ Ok 2
  pub new_word : got 2 updated ≡ Ok 2
  pub reverted : (next vrevert updated).file.kept ≡ Sure (pair first first)
  pub old_map : says vgetmap (next vrevert updated) ≡ Ok 1
  pub old_word : got 1 (next vrevert updated) ≡ Ok 1
  pub gone : says (vlock 2) (next vrevert updated) ≡ Err refusal.BadHandle

keeping_computed : Keeping
unfolding cost word
keeping_computed = record {
  put_only = refl;
  saved = refl;
  not_yet = refl;
  both = refl;
  new_map = refl;
  new_word =
      refl;
  reverted = refl;
  old_map = refl;
  old_word = refl;
  gone = refl;
}

-- a block that grows after the save: it has two chunks more, for which its table has four entries
abbrev pub grown : Memory
grown = next (vunlock 1) (next (lalloc (vm 1) 200) (next (lalloc (vm 1) 2) (next (vdirty 1) (next (vlock 1) saved_one))))

-- a block that takes the handle of a saved one
abbrev pub replaced : Memory
replaced = next (vunlock 1) (next (vnew 9) (next (vfree 1) saved_one))

-- a revert brings back sizes and tables as they were saved, and what was freed; nothing is marked
pub record Reverting : Type 0 where
  pub size : size_of grown (vm 1) ≡ 240
  pub entries : length (chunks_at grown (vm 1)) ≡ 4
  pub old_size : size_of (next vrevert grown) (vm 1) ≡ 64
  pub old_entries : length (chunks_at (next vrevert grown) (vm 1)) ≡ 2
  pub marked : is_marked grown 1 ≡ true
  pub clean : is_marked (next vrevert grown) 1 ≡ false
  pub unmarked_chunk : is_marked (next (lalloc (vm 1) 2) saved_one) 1 ≡ false
  pub again : says (vnew 9) (next (vfree 1) saved_one) ≡ Ok 1
  pub still_saved : replaced.file.saved ≡ first
  pub new_uid : says (vuid 1) replaced ≡ Ok 9
  pub old_uid : says (vuid 1) (next vrevert replaced) ≡ Ok 5
  pub no_map : says vgetmap replaced ≡ Ok 0
  pub old_map : says vgetmap (next vrevert replaced) ≡ Ok 1

reverting_computed : Reverting
unfolding cost
reverting_computed = record {
  size = refl;
  entries = refl;
  old_size = refl;
  old_entries = refl;
  marked = refl;
  clean = refl;
  unmarked_chunk = refl;
  again = refl;
  still_saved = refl;
  new_uid = refl;
  old_uid = refl;
  no_map = refl;
  old_map = refl;
}

-- if the device fails early, nothing changes and the next save succeeds. If it fails late, the file stays unsure for
-- good, and calls on memory still succeed
pub record Failing : Type 0 where
  pub early : answer_under failing vsave put_two ≡ Err refusal.Disk
  pub as_it_was : left_under failing vsave put_two ≡ put_two
  pub again : says vsave (left_under failing vsave put_two) ≡ Ok tt
  pub late : answer_under failing_late vsave put_two ≡ Err refusal.Disk
  pub one_of_two : (left_under failing_late vsave put_two).file.kept ≡ Unsure (pair first first) (pair second second)
  pub still_saved : (left_under failing_late vsave put_two).file.saved ≡ first
  pub no_update : says vupdate (left_under failing_late vsave put_two) ≡ Err refusal.Unsure
  pub no_save : says vsave (left_under failing_late vsave put_two) ≡ Err refusal.Unsure
  pub no_revert : says vrevert (left_under failing_late vsave put_two) ≡ Err refusal.Unsure
  pub read : got 2 (left_under failing_late vsave put_two) ≡ Ok 2
  pub memory : answer_under (record failing_late { memory = true }) vsave put_two ≡ Err refusal.Memory
  pub memory_kept : left_under (record failing_late { memory = true }) vsave put_two ≡ put_two
  pub unsure_first : answer_under failing vsave
      (record (left_under failing_late vsave put_two) { file = record (left_under failing_late vsave put_two).file { area = 0 } }) ≡ Err refusal.Unsure

failing_computed : Failing
unfolding cost word
failing_computed = record {
  early = refl;
  as_it_was = refl;
  again = refl;
  late = refl;
  one_of_two = refl;
  still_saved = refl;
  no_update = refl;
  no_save = refl;
  no_revert = refl;
  read = refl;
  memory = refl;
  memory_kept = refl;
  unsure_first = refl;
}

-- the save or the update of that script stops: the pair before, one of both, or the pair after
pub record Stopping : Type 0 where
  pub save_early : (left_under failing vsave put_one).file.kept ≡ Sure (pair none none)
  pub then_update : answer_under failing vupdate (put 2 2 (left_under failing vsave put_one)) ≡ Err refusal.Disk
  pub both_early : (left_under failing vupdate (put 2 2 (left_under failing vsave put_one))).file.kept ≡ Sure (pair none none)
  pub save_late : (left_under failing_late vsave put_one).file.kept ≡ Unsure (pair none none) (pair first first)
  pub then_unsure : says vupdate (put 2 2 (left_under failing_late vsave put_one)) ≡ Err refusal.Unsure
  pub update_early : (left_under failing vupdate put_two).file.kept ≡ Sure (pair first first)
  pub update_late : (left_under failing_late vupdate put_two).file.kept ≡ Unsure (pair first first) (pair second first)
  pub done : updated.file.kept ≡ Sure (pair second first)

stopping_computed : Stopping
unfolding cost word
stopping_computed = record {
  save_early = refl;
  then_update = refl;
  both_early = refl;
  save_late = refl;
  then_unsure =
      refl;
  update_early = refl;
  update_late = refl;
  done = refl;
}

-- a file whose area has 512 bytes
abbrev pub in_512 : Memory
in_512 = record start { file = record start.file { area = 512 } }

-- a marked block with a word
abbrev pub marked_word : Option VmBlock
marked_word = Some (record {
  uid = 5;
  marked = true;
  block =
      record { locks = 0; heap = record { chunks = Some (1 ∷ 0 ∷ []) ∷ None ∷ []; size = 64 } };
})

-- four of them there, the last one of which is mapped
abbrev pub four : Memory
four = record start { file = record in_512.file { cur = record (listing (replicate 4 marked_word ++ None ∷ [])) { map_block = 4 } } }

-- beside an empty directory they fit, and not twice; where all is refused that may be, a length
-- comes before memory, and memory before the device
pub record Lengths : Type 0 where
  pub made : put 4 1 (put 3 1 (put 2 1 (put 1 1 in_512))) ≡ four
  pub long : pair_length (pair_to_keep keep_current four) ≡ 296
  pub update : says vupdate four ≡ Ok tt
  pub twice : pair_length (pair_to_keep keep_saved four) ≡ 576
  pub save : says vsave four ≡ Err refusal.TooBig
  pub length_first : answer_under unwilling vsave four ≡ Err refusal.TooBig
  pub memory_next : answer_under unwilling vupdate four ≡ Err refusal.Memory

lengths_computed : Lengths
unfolding cost word
lengths_computed = record { made = refl; long = refl; update = refl; twice = refl; save = refl; length_first = refl; memory_next = refl }

-- a block of global memory with one chunk of n zero bytes, locked so often
abbrev pub zeros_in : ℕ → ℕ → ℕ → Option Block
zeros_in size n locks = Some (record { locks = locks; heap = record { chunks = Some (replicate n 0) ∷ None ∷ []; size = size } })

-- a clean block with the word 77, which is mapped, and global memory with a block that fills
-- the region and one with eight bytes, which is locked or not
abbrev pub crowd : ℕ → Memory
crowd locks = record start {
  blocks = zeros_in 65024 65000 0 ∷ zeros_in 64 8 locks ∷ replicate 3 None;
  file = record start.file {
    cur = record (listing (Some (idle_block (record { uid = 5; heap = word_heap })) ∷ replicate 4 None)) { map_block = 1 };
    kept = Sure (pair (record (listing (Some (record { uid = 5; heap = word_heap }) ∷ replicate 4 None)) { map_block = 1 }) none);
  };
}
  where
    word_heap : Heap
    word_heap = record { chunks = Some (77 ∷ 0 ∷ []) ∷ None ∷ []; size = 64 }

-- a chunk of 600 bytes finds no room; then the map block is brought: the device fails once, and
-- no count has changed
pub record Bringing : Type 0 where
  pub made : next (lalloc (mem 2) 8) (next mnew (filled (next vupdate (put 1 77 start)))) ≡ crowd 1
  pub no_room : outcome (effect_of (lalloc (mem 2) 600) crowded (crowd 1)) ≡ (Err refusal.NoRoom, crowd 1)
  pub unlocked : next (unlock (mem 2)) (crowd 1) ≡ crowd 0
  pub fails : outcome (effect_of (vlock 1) failing (crowd 0)) ≡ (Err refusal.Disk, crowd 0)
  pub brought : says (vlock 1) (crowd 0) ≡ Ok tt
  pub given_back : next (vunlock 1) (next (vlock 1) (crowd 0)) ≡ crowd 0
  pub read : got 1 (crowd 0) ≡ Ok 77

bringing_computed : Bringing
unfolding cost word
bringing_computed = record { made = refl; no_room = refl; unlocked = refl; fails = refl; brought = refl; given_back = refl; read = refl }
