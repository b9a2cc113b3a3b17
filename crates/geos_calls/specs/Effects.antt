-- What a call comes to.
use Rattle.std.specs.Prelude.{ℕ, Bool, ◌&&◌, not, nat_lt, List, [], ◌∷◌, Option, Some, None, Result, Ok, Err}
use Rattle.geos_terms.specs.declared.name.Name.{Name}
use Rattle.geos_terms.specs.declared.refusal.Refusal.{Refusal}
use Rattle.geos_terms.specs.declared.refusal.Refusal.TheVariants.{NoRoom, TooBig, Disk}
use Rattle.geos_terms.specs.Names.{vm}
use Rattle.geos_terms.specs.Refusals.{first_refusal}
use Rattle.geos_terms.specs.Chunks.{need}
use Rattle.geos_terms.specs.Heap.{most_block_bytes}
use Rattle.geos_calls.specs.Directories.{is_held_in}
use Rattle.geos_calls.specs.Memory.{Memory, listed_at, size_of}
use Rattle.geos_calls.specs.Given.{given_memory}
use Rattle.geos_calls.specs.Tight.{is_tight}

-- what comes from outside at a call. It may refuse room at the first test, which is for bringing a block into memory;
-- room at the last test, which is for making a block or letting it grow; the device, with or without leaving the file
-- unsure; and memory.
-- A device that is not honest may also return (`given`), by handle, other chunks for blocks that are neither marked
-- nor locked. An honest device returns none
pub record Choice : Type 0 where
  pub first_room : Bool
  pub last_room : Bool
  pub device : Bool
  pub unsure : Bool
  pub memory : Bool
  pub given : List (Option (List (Option (List ℕ))))

-- which references a call makes stale, whether it succeeds or is refused: none, those into a block, or those of one
-- lock of a block, which the call releases
pub data Staleness : Type 0 where
  Nothing : Staleness
  InBlock : Name → Staleness
  OfLock : Name → Staleness

-- part of a chunk of a block
pub record Reference : Type 0 where
  pub name : Name
  pub chunk : ℕ
  pub start : ℕ
  pub len : ℕ

-- the effect of a call: its refusals in the order in which they are tried, each with its test; the memory that a
-- refusal leaves; if none applies, memory after the call and its result; and the references that it makes stale
pub record Effect (A : Type 0) : Type 0 where
  pub refusals : List (Bool × Refusal)
  pub left : Refusal → Memory
  pub after : Memory
  pub answer : A
  pub stale : Staleness

-- a call whose operands are given
abbrev pub Call : Type 0 → Type 0
Call A = Choice → Memory → Effect A

-- the refusal that applies, with the memory that it leaves; if none applies, the result with memory after the call
abbrev pub come_to : {A : Type 0} → Option Refusal → (Refusal → Memory) → A → Memory → Result A Refusal × Memory
come_to None left answer after = (Ok answer, after)
come_to (Some refusal) left answer after = (Err refusal, left refusal)

-- the result of a call: the first refusal whose test is true, or its answer
abbrev pub outcome : {A : Type 0} → Effect A → Result A Refusal × Memory
outcome effect = come_to (first_refusal effect.refusals) effect.left effect.answer effect.after

-- the effect of a call in memory: its row on memory with what the device returns
abbrev pub effect_of : {A : Type 0} → Call A → Choice → Memory → Effect A
effect_of call choice memory = call choice (given_memory choice.given memory)

-- a refusal leaves memory as it was
abbrev pub unchanged : Memory → Refusal → Memory
unchanged memory refusal = memory

-- a call that refuses nothing, changes nothing, and returns this
abbrev pub tells : {A : Type 0} → Memory → A → Effect A
tells memory answer = record { refusals = []; left = unchanged memory; after = memory; answer = answer; stale = Nothing }

-- the greatest count of locks
abbrev pub most_locks : ℕ
most_locks = 65535

-- room is refused for a block that is made
abbrev pub cannot_make : Choice → Memory → Name → Bool
cannot_make choice memory name = choice.last_room && is_tight memory name 64

-- room is refused for a block that grows for these chunks
abbrev pub cannot_grow : Choice → Memory → Name → List (Option (List ℕ)) → Bool
cannot_grow choice memory name chunks = nat_lt (size_of memory name) (need chunks) && choice.last_room && is_tight memory name (need chunks)

-- the refusals of giving a block these chunks, for which it may grow
abbrev pub growing : Choice → Memory → Name → List (Option (List ℕ)) → List (Bool × Refusal)
growing choice memory name chunks = (nat_lt most_block_bytes (need chunks), TooBig) ∷ (cannot_grow choice memory name chunks, NoRoom) ∷ []

-- the choice refuses room for a block of the VM file that is brought into memory, and memory is tight
abbrev pub cannot_bring : Choice → Memory → ℕ → Bool
cannot_bring choice memory h = choice.first_room && not (is_held_in (listed_at memory h)) && is_tight memory (vm h) (size_of memory (vm h))

-- the refusals of bringing a block of the VM file into memory
abbrev pub bringing : Choice → Memory → ℕ → List (Bool × Refusal)
bringing choice memory h = (cannot_bring choice memory h, NoRoom) ∷ (choice.device, Disk) ∷ []
