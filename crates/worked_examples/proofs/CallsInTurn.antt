-- Memory to begin with, and calls one after another.
use Rattle.std.proofs.Common.{ℕ, Bool, true, List, [], ◌∷◌, replicate, Option, Some, None}
use Rattle.std.specs.Prelude.{Result}
use Rattle.geos_terms.specs.declared.refusal.Refusal.{Refusal}
use Rattle.geos_terms.specs.Names.{mem, vm}
use Rattle.geos_calls.specs.Directories.{VmBlock, Directory}
use Rattle.geos_calls.specs.VmFile.{Sure}
use Rattle.geos_calls.specs.Memory.{Memory}
use Rattle.geos_calls.specs.Effects.{Choice, Call, Reference, Staleness, outcome, effect_of}
use Rattle.geos_calls.specs.Calls.{mnew, unlock, lalloc}
use Rattle.worked_examples.proofs.States.{willing}

-- room is refused wherever it may be
abbrev pub crowded : Choice
crowded = record willing { first_room = true; last_room = true }

-- the device fails, and what it holds stays sure
abbrev pub failing : Choice
failing = record willing { device = true }

-- the device fails so late that it may hold either pair
abbrev pub failing_late : Choice
failing_late = record willing { device = true; unsure = true }

-- a directory with these blocks and no map
abbrev pub listing : {B : Type 0} → List (Option B) → Directory B
listing blocks = record { blocks = blocks; map_block = 0; map_group = 0; map_item = 0 }

-- no block, five handles of either owner, and a new file
abbrev pub start : Memory
start = record {
  blocks = replicate 5 None;
  file = record {
    cur = listing (replicate 5 None);
    saved = listing (replicate 5 None);
    kept = Sure (record { cur = listing (replicate 5 None); saved = listing (replicate 5 None) });
    area = 65536;
  };
  region = 65536;
  handles = 1024;
}

-- what a call answers under a choice
abbrev pub answer_under : {A : Type 0} → Choice → Call A → Memory → Result A Refusal
answer_under choice call memory = (outcome (effect_of call choice memory)).0

-- memory after it
abbrev pub left_under : {A : Type 0} → Choice → Call A → Memory → Memory
left_under choice call memory = (outcome (effect_of call choice memory)).1

-- what a call answers, where nothing is refused from outside
abbrev pub says : {A : Type 0} → Call A → Memory → Result A Refusal
says call memory = answer_under willing call memory

-- memory after it
abbrev pub next : {A : Type 0} → Call A → Memory → Memory
next call memory = left_under willing call memory

-- what a call makes stale, where it succeeds and where it refuses
abbrev pub stales : {A : Type 0} → Call A → Memory → Staleness
stales call memory = (effect_of call willing memory).stale

-- the first n bytes of a chunk of a block of the VM file
abbrev pub bytes_in_file : ℕ → ℕ → ℕ → Reference
bytes_in_file h c n = record { name = vm h; chunk = c; start = 0; len = n }

-- a block of the VM file with this user ID, this size and no chunk, marked or not, and locked
-- so often
abbrev pub sized_in_file : ℕ → ℕ → Bool → ℕ → Option VmBlock
sized_in_file uid size marked locks =
    Some (record { uid = uid; marked = marked; block = record { locks = locks; heap = record { chunks = None ∷ None ∷ []; size = size } } })

-- a new block of global memory of 65,024 bytes, which is not locked
abbrev pub filled : Memory → Memory
filled memory = next (unlock (mem 1)) (next (lalloc (mem 1) 65000) (next mnew memory))
