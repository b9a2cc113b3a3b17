-- What a device that is not honest gives, computed on examples.
use Rattle.std.proofs.Common.{◌≡◌, ℕ, Bool, ◌+◌, ◌*◌, true, false, List, [], ◌∷◌, replicate, Option, Some, None, refl}
use Rattle.std.specs.Prelude.{Ok, Err}
use Rattle.geos_terms.specs.declared.refusal.Refusal.TheVariants.{Short, Disk}
use Rattle.geos_terms.specs.Names.{vm}
use Rattle.geos_terms.specs.Bytes.{word}
use Rattle.geos_terms.specs.Chunks.{cost}
use Rattle.geos_calls.specs.Directories.{VmBlock, KeptBlock, Directory, kept_block}
use Rattle.geos_calls.specs.VmFile.{Sure}
use Rattle.geos_calls.specs.Memory.{Memory, with_locks}
use Rattle.geos_calls.specs.Given.{given_memory}
use Rattle.geos_calls.specs.Effects.{Choice, effect_of, outcome}
use Rattle.geos_calls.specs.Calls.{load16, named_bytes}
use Rattle.geos_calls.specs.VmCalls.{vlock, vunlock, vsave}
use Rattle.geos_calls.specs.ItemCalls.{ilock}
use Rattle.worked_examples.proofs.States.{willing}
use Rattle.worked_examples.proofs.CallsInTurn.{start, listing, answer_under, left_under, bytes_in_file}

-- a block of 64 bytes with such chunks
abbrev pub block_with : List (Option (List ℕ)) → Bool → ℕ → Option VmBlock
block_with chunks marked locks =
    Some (record { uid = 5; marked = marked; block = record { locks = locks; heap = record { chunks = chunks; size = 64 } } })

-- a word in the chunk 16
abbrev pub word_of : ℕ → List (Option (List ℕ))
word_of w = Some (w ∷ 0 ∷ []) ∷ None ∷ []

-- the first block is idle, the second locked and not marked, the third marked and not locked
abbrev pub holding : List (Option (List ℕ)) → Memory
holding chunks = record start {
  file = record start.file
      { cur = listing (block_with chunks false 0 ∷ block_with (word_of 22) false 1 ∷ block_with (word_of 33) true 0 ∷ None ∷ []) };
}

abbrev pub three : Memory
three = holding (word_of 11)

-- other chunks: one of three bytes
abbrev pub other : List (Option (List ℕ))
other = Some (7 ∷ 8 ∷ 9 ∷ []) ∷ None ∷ []

-- the device gives them for each block
abbrev pub lying : Choice
lying = record willing { given = Some other ∷ Some other ∷ Some other ∷ [] }

-- the first block holds what was given, and nothing else has changed: what leads into the
-- others still does
pub record Lying : Type 0 where
  pub given : given_memory lying.given three ≡ holding other
  pub brought : outcome (effect_of (vlock 1) lying three) ≡ (Ok tt, with_locks (holding other) (vm 1) 1)
  pub read : answer_under lying (load16 (bytes_in_file 1 16 3) 0) three ≡ Ok (7 + 256 * 8)
  pub led_to : named_bytes (left_under lying (vlock 1) three) (bytes_in_file 2 16 2) ≡ 22 ∷ 0 ∷ []
  pub by_other : left_under lying (vunlock 2) three ≡ with_locks (holding other) (vm 2) 0
  pub refused : outcome (effect_of (vlock 1) (record lying { device = true }) three) ≡ (Err Disk, holding other)
  pub nothing : given_memory [] three ≡ three
  pub no_handle : given_memory (None ∷ None ∷ None ∷ Some other ∷ Some other ∷ []) three ≡ three
  pub too_large : given_memory (Some (Some (replicate 50 0) ∷ None ∷ []) ∷ []) three ≡ three
  pub no_byte : given_memory (Some (Some (256 ∷ []) ∷ None ∷ []) ∷ []) three ≡ three
  pub no_pair : given_memory (Some (None ∷ None ∷ None ∷ []) ∷ []) three ≡ three
  pub no_entry : given_memory (Some [] ∷ []) three ≡ three

lying_computed : Lying
unfolding cost word
lying_computed = record {
  given = refl;
  brought = refl;
  read = refl;
  led_to = refl;
  by_other = refl;
  refused = refl;
  nothing = refl;
  no_handle = refl;
  too_large = refl;
  no_byte = refl;
  no_pair = refl;
  no_entry = refl;
}

-- a block or group of 64 bytes with such chunks, marked or not, and not locked; and as a commit
-- writes it
abbrev pub entry_with : ℕ → List (Option (List ℕ)) → Bool → VmBlock
entry_with uid chunks marked = record { uid = uid; marked = marked; block = record { locks = 0; heap = record { chunks = chunks; size = 64 } } }

abbrev pub kept_with : ℕ → List (Option (List ℕ)) → KeptBlock
kept_with uid chunks = kept_block (entry_with uid chunks false)

-- handle 1 has an idle block, 2 none, 3 a marked group, and 4 an idle one
abbrev pub groups : List (Option (List ℕ)) → Bool → Memory
groups chunks marked =
    record start {
      file = record start.file {
        cur = listing (Some (entry_with 5 (word_of 11) false) ∷ None ∷ Some (entry_with 65280 (word_of 33) marked) ∷ Some
            (entry_with 65280 chunks false) ∷ []);
      };
    }

-- those as a commit writes them, the idle group with other chunks
abbrev pub lied : Directory KeptBlock
lied = listing (Some (kept_with 5 (word_of 11)) ∷ None ∷ Some (kept_with 65280 (word_of 33)) ∷ Some (kept_with 65280 other) ∷ [])

-- the device lies of all but the first
abbrev pub lying_of_groups : Choice
lying_of_groups = record willing { given = None ∷ Some other ∷ Some other ∷ Some other ∷ [] }

-- an idle group holds what was given, also for a commit, which writes it; another handle does not
pub record LyingOfGroups : Type 0 where
  pub given : given_memory lying_of_groups.given (groups (word_of 44) true) ≡ groups other true
  pub short : answer_under willing (ilock 4 16 3) (groups (word_of 44) true) ≡ Err Short
  pub item : answer_under lying_of_groups (ilock 4 16 3) (groups (word_of 44) true) ≡ Ok (bytes_in_file 4 16 3)
  pub marked_item : answer_under lying_of_groups (ilock 3 16 3) (groups (word_of 44) true) ≡ Err Short
  pub saves : answer_under lying_of_groups vsave (groups (word_of 44) true) ≡ Ok tt
  pub current : (left_under lying_of_groups vsave (groups (word_of 44) true)).file.cur ≡ (groups other false).file.cur
  pub saved : (left_under lying_of_groups vsave (groups (word_of 44) true)).file.saved ≡ lied
  pub kept : (left_under lying_of_groups vsave (groups (word_of 44) true)).file.kept ≡ Sure (record { cur = lied; saved = lied })

lying_of_groups_computed : LyingOfGroups
unfolding cost
lying_of_groups_computed = record {
  given = refl;
  short = refl;
  item = refl;
  marked_item = refl;
  saves = refl;
  current =
      refl;
  saved = refl;
  kept = refl;
}
