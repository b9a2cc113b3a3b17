-- The table of calls, computed on examples.
use Rattle.std.proofs.Common.{◌≡◌, ℕ, ◌+◌, ◌*◌, true, false, List, [], ◌∷◌, ◌++◌, replicate, Option, Some, None, refl}
use Rattle.std.specs.Prelude.{Result, Ok, Err}
use Rattle.geos_terms.specs.declared.refusal.Refusal.{Refusal}
use Rattle.geos_terms.specs.declared.refusal.Refusal.TheVariants.{BadHandle, BadChunk, Short, NoRoom, NoHandle, TooBig, Locked, Range}
use Rattle.geos_terms.specs.Bytes.{word}
use Rattle.geos_terms.specs.Chunks.{cost}
use Rattle.geos_terms.specs.declared.name.Owner.TheVariants.{Vm}
use Rattle.geos_terms.specs.Names.{named, mem}
use Rattle.geos_calls.specs.VmFile.{empty_file}
use Rattle.geos_calls.specs.Memory.{Block, Memory, new_heap, block_of, with_block}
use Rattle.geos_calls.specs.Tight.{is_tight}
use Rattle.geos_calls.specs.Effects.{Reference, Effect, Staleness, Nothing, InBlock, OfLock, outcome}
use Rattle.geos_calls.specs.Calls.{mnew, mlock, unlock, mfree, lalloc, lfree, lrealloc, lins, ldel, lsize, deref, lcontract, load8, load16, store, copy}
use Rattle.worked_examples.proofs.States.{willing, unwilling}

-- a region with these blocks, that of handle 1 first, and no other
abbrev pub region_of : List (Option Block) → Memory
region_of blocks = record { blocks = blocks ++ None ∷ None ∷ []; file = empty_file 0; region = 65536; handles = 1024 }

-- a new block, locked once
abbrev pub new_block : Block
new_block = record { locks = 1; heap = new_heap }

-- memory after a call
abbrev pub after : {A : Type 0} → Effect A → Memory
after effect = (outcome effect).1

-- what a call answers
abbrev pub answer : {A : Type 0} → Effect A → Result A Refusal
answer effect = (outcome effect).0

-- no block
abbrev pub none : Memory
none = region_of []

-- a new block of handle 1
abbrev pub one : Memory
one = region_of (Some new_block ∷ [])

-- a handle is free again when its block is, and no sooner
pub record Handles : Type 0 where
  pub first : outcome (mnew unwilling none) ≡ (Ok 1, record none { blocks = Some new_block ∷ None ∷ [] })
  pub held : answer (mfree 1 willing one) ≡ Err Locked
  pub unlocked : after (unlock (mem 1) willing one) ≡ region_of (Some (record new_block { locks = 0 }) ∷ [])
  pub freed : outcome (mfree 1 willing (after (unlock (mem 1) willing one))) ≡ (Ok tt, region_of (None ∷ []))
  pub gone : answer (mlock 1 willing (region_of (None ∷ []))) ≡ Err BadHandle
  pub zero : answer (mlock 0 willing one) ≡ Err BadHandle
  pub again : answer (mnew willing (region_of (None ∷ []))) ≡ Ok 1
  pub most : answer (mlock 1 willing (region_of (Some (record new_block { locks = 65535 }) ∷ []))) ≡ Err Locked

handles_computed : Handles
handles_computed = record { first = refl; held = refl; unlocked = refl; freed = refl; gone = refl; zero = refl; again = refl; most = refl }

-- a block locked once, of this size and with these chunks
abbrev pub block_with : ℕ → List (Option (List ℕ)) → Memory
block_with size chunks = region_of (Some (record { locks = 1; heap = record { chunks = chunks; size = size } }) ∷ [])

-- a chunk of n zero bytes
abbrev pub zeros : ℕ → Option (List ℕ)
zeros n = Some (replicate n 0)

-- the greatest chunk takes the whole block, and leaves room for no third entry of the table
pub record Greatest : Type 0 where
  pub over : answer (lalloc (mem 1) 65499 unwilling one) ≡ Err TooBig
  pub most : outcome (lalloc (mem 1) 65498 willing one) ≡ (Ok 16, block_with 65520 (zeros 65498 ∷ None ∷ []))
  pub empty : outcome (lalloc (mem 1) 0 willing (block_with 65520 (zeros 65498 ∷ None ∷ []))) ≡ (Ok 18, block_with 65520 (zeros 65498 ∷ zeros 0 ∷ []))
  pub entry : answer (lalloc (mem 1) 0 willing (block_with 65520 (zeros 65498 ∷ zeros 0 ∷ []))) ≡ Err TooBig

greatest_computed : Greatest
unfolding cost
greatest_computed = record { over = refl; most = refl; empty = refl; entry = refl }

-- a block grows by multiples of 16 as its chunks need it, and a third chunk needs a longer table
pub record Growing : Type 0 where
  pub first : outcome (lalloc (mem 1) 10 willing one) ≡ (Ok 16, block_with 64 (zeros 10 ∷ None ∷ []))
  pub second : outcome (lalloc (mem 1) 30 willing (block_with 64 (zeros 10 ∷ None ∷ []))) ≡ (Ok 18, block_with 64 (zeros 10 ∷ zeros 30 ∷ []))
  pub third : outcome (lalloc (mem 1) 1 willing (block_with 64 (zeros 10 ∷ zeros 30 ∷ []))) ≡ (
    Ok 20,
    block_with 80
        (zeros 10 ∷ zeros 30 ∷ zeros 1 ∷ None ∷ []),
  )
  pub no_room : answer (lalloc (mem 1) 65000 unwilling (record one { region = 65000 })) ≡ Err NoRoom
  pub roomy : answer (lalloc (mem 1) 65000 unwilling one) ≡ Ok 16

growing_computed : Growing
unfolding cost
growing_computed = record { first = refl; second = refl; third = refl; no_room = refl; roomy = refl }

-- the chunk 16 has eight bytes
abbrev pub eight : Memory
eight = block_with 64 (Some (1 ∷ 2 ∷ 3 ∷ 4 ∷ 5 ∷ 6 ∷ 7 ∷ 8 ∷ []) ∷ None ∷ [])

-- offsets up to the chunk's end, and not past it
pub record Offsets : Type 0 where
  pub odd : answer (deref (mem 1) 17 0 willing eight) ≡ Err BadChunk
  pub absent : answer (lsize (mem 1) 18 willing eight) ≡ Err BadChunk
  pub short : answer (deref (mem 1) 16 9 willing eight) ≡ Err Short
  pub found : answer (deref (mem 1) 16 8 willing eight) ≡ Ok (record { name = mem 1; chunk = 16; start = 0; len = 8 })
  pub past : answer (lins (mem 1) 16 9 1 willing eight) ≡ Err Range
  pub at_end : outcome (lins (mem 1) 16 8 1 willing eight) ≡ (Ok tt, block_with 64 (Some (1 ∷ 2 ∷ 3 ∷ 4 ∷ 5 ∷ 6 ∷ 7 ∷ 8 ∷ 0 ∷ []) ∷ None ∷ []))
  pub too_many : answer (ldel (mem 1) 16 6 3 willing eight) ≡ Err Range
  pub last_two : outcome (ldel (mem 1) 16 6 2 willing eight) ≡ (Ok tt, block_with 64 (Some (1 ∷ 2 ∷ 3 ∷ 4 ∷ 5 ∷ 6 ∷ []) ∷ None ∷ []))
  pub shorter : outcome (lrealloc (mem 1) 16 2 willing eight) ≡ (Ok tt, block_with 64 (Some (1 ∷ 2 ∷ []) ∷ None ∷ []))
  pub longer : outcome (lrealloc (mem 1) 16 10 willing eight) ≡ (Ok tt, block_with 64 (Some (1 ∷ 2 ∷ 3 ∷ 4 ∷ 5 ∷ 6 ∷ 7 ∷ 8 ∷ 0 ∷ 0 ∷ []) ∷ None ∷ []))
  pub freed : outcome (lfree (mem 1) 16 willing eight) ≡ (Ok tt, block_with 64 (None ∷ None ∷ []))

offsets_computed : Offsets
unfolding cost
offsets_computed = record {
  odd = refl;
  absent = refl;
  short = refl;
  found = refl;
  past = refl;
  at_end = refl;
  too_many =
      refl;
  last_two = refl;
  shorter = refl;
  longer = refl;
  freed = refl;
}

-- n bytes of the chunk 16, from an offset on
abbrev pub bytes_from : ℕ → ℕ → Reference
bytes_from start n = record { name = mem 1; chunk = 16; start = start; len = n }

-- bytes are read and written from the reference's start on, and a copy takes the bytes as they
-- were before, where both overlap too
pub record Accesses : Type 0 where
  pub byte : outcome (load8 (bytes_from 2 4) 1 willing eight) ≡ (Ok 4, eight)
  pub word : answer (load16 (bytes_from 2 4) 1 willing eight) ≡ Ok (4 + 256 * 5)
  pub last : outcome (store (bytes_from 2 4) 3 (9 ∷ []) willing eight) ≡ (
    Ok tt,
    block_with 64
        (Some (1 ∷ 2 ∷ 3 ∷ 4 ∷ 5 ∷ 9 ∷ 7 ∷ 8 ∷ []) ∷ None ∷ []),
  )
  pub two : after (store (bytes_from 0 8) 6 (9 ∷ 10 ∷ []) willing eight) ≡ block_with 64 (Some (1 ∷ 2 ∷ 3 ∷ 4 ∷ 5 ∷ 6 ∷ 9 ∷ 10 ∷ []) ∷ None ∷ [])
  pub up : outcome (copy (bytes_from 2 6) (bytes_from 0 8) 5 willing eight) ≡ (
    Ok tt,
    block_with 64
        (Some (1 ∷ 2 ∷ 1 ∷ 2 ∷ 3 ∷ 4 ∷ 5 ∷ 8 ∷ []) ∷ None ∷ []),
  )
  pub down : outcome (copy (bytes_from 0 8) (bytes_from 2 6) 5 willing eight) ≡ (
    Ok tt,
    block_with 64
        (Some (3 ∷ 4 ∷ 5 ∷ 6 ∷ 7 ∷ 6 ∷ 7 ∷ 8 ∷ []) ∷ None ∷ []),
  )
  pub none : after (copy (bytes_from 0 8) (bytes_from 8 0) 0 willing eight) ≡ eight

accesses_computed : Accesses
unfolding cost word
accesses_computed = record { byte = refl; word = refl; last = refl; two = refl; up = refl; down = refl; none = refl }

-- with 1,024 blocks no handle is left; this refusal comes before lack of room
all_in_use : answer (mnew unwilling (record none { blocks = replicate 1024 (Some new_block) })) ≡ Err NoHandle
all_in_use = refl

-- handle 2 is free: a new block gets it if the limit is 2, and no handle is left if the limit is 1
within_the_limit : answer (mnew willing (record (region_of (Some new_block ∷ [])) { handles = 2 })) ≡ Ok 2
within_the_limit = refl

above_the_limit : answer (mnew willing (record (region_of (Some new_block ∷ [])) { handles = 1 })) ≡ Err NoHandle
above_the_limit = refl

-- one more lock; a length; chunks that stay the same when all are moved together
pub record Plain : Type 0 where
  pub locked : outcome (mlock 1 willing one) ≡ (Ok tt, region_of (Some (record new_block { locks = 2 }) ∷ []))
  pub told : outcome (lsize (mem 1) 16 willing eight) ≡ (Ok 8, eight)
  pub together : outcome (lcontract (mem 1) willing eight) ≡ (Ok tt, eight)

plain_computed : Plain
unfolding cost
plain_computed = record { locked = refl; told = refl; together = refl }

-- what a call makes stale
abbrev pub stale : {A : Type 0} → Effect A → Staleness
stale effect = effect.stale

-- a moving call makes the references into its block stale, also where it is refused; an unlock
-- those that go with the lock; nothing else makes any stale
pub record Stale : Type 0 where
  pub by_mnew : stale (mnew willing none) ≡ Nothing
  pub by_mlock : stale (mlock 1 willing one) ≡ Nothing
  pub by_unlock : stale (unlock (mem 1) willing one) ≡ OfLock (mem 1)
  pub by_mfree : stale (mfree 1 willing one) ≡ Nothing
  pub by_lalloc : stale (lalloc (mem 1) 8 willing one) ≡ InBlock (mem 1)
  pub by_refused : stale (lalloc (mem 1) 65499 willing one) ≡ InBlock (mem 1)
  pub by_lfree : stale (lfree (mem 1) 17 willing one) ≡ InBlock (mem 1)
  pub by_lrealloc : stale (lrealloc (mem 1) 16 9 willing eight) ≡ InBlock (mem 1)
  pub by_lins : stale (lins (mem 1) 16 0 0 willing eight) ≡ InBlock (mem 1)
  pub by_ldel : stale (ldel (mem 1) 16 0 0 willing eight) ≡ InBlock (mem 1)
  pub by_lsize : stale (lsize (mem 1) 16 willing eight) ≡ Nothing
  pub by_deref : stale (deref (mem 1) 16 8 willing eight) ≡ Nothing
  pub by_lcontract : stale (lcontract (named Vm 2) willing eight) ≡ InBlock (named Vm 2)
  pub by_load8 : stale (load8 (bytes_from 0 8) 0 willing eight) ≡ Nothing
  pub by_load16 : stale (load16 (bytes_from 0 8) 0 willing eight) ≡ Nothing
  pub by_store : stale (store (bytes_from 0 8) 0 [] willing eight) ≡ Nothing
  pub by_copy : stale (copy (bytes_from 0 8) (bytes_from 0 8) 8 willing eight) ≡ Nothing

stale_computed : Stale
unfolding cost
stale_computed = record {
  by_mnew = refl;
  by_mlock = refl;
  by_unlock = refl;
  by_mfree = refl;
  by_lalloc = refl;
  by_refused = refl;
  by_lfree = refl;
  by_lrealloc = refl;
  by_lins = refl;
  by_ldel = refl;
  by_lsize = refl;
  by_deref = refl;
  by_lcontract = refl;
  by_load8 = refl;
  by_load16 = refl;
  by_store = refl;
  by_copy = refl;
}

-- a block of this size, locked so often
abbrev pub sized : ℕ → ℕ → Option Block
sized size locks = Some (record { locks = locks; heap = record { chunks = None ∷ None ∷ []; size = size } })

-- 64 bytes, locked; 1,000 bytes, locked; and 2,000 bytes, not locked
abbrev pub three : ℕ → Memory
three region = record { blocks = sized 64 1 ∷ sized 1008 1 ∷ sized 2000 0 ∷ None ∷ []; file = empty_file 0; region = region; handles = 1024 }

-- a block of 4,000 bytes needs this size once for itself and once more for each other locked block, in addition to
-- the sizes of all others. One more byte of region is enough
pub record Tight : Type 0 where
  pub grows : is_tight (three 11007) (mem 1) 4000 ≡ true
  pub fits : is_tight (three 11008) (mem 1) 4000 ≡ false
  pub unlocked : is_tight (three 13071) (mem 3) 4000 ≡ true
  pub unlocked_fits : is_tight (three 13072) (mem 3) 4000 ≡ false
  pub made : is_tight (three 15071) (mem 4) 4000 ≡ true
  pub made_fits : is_tight (three 15072) (mem 4) 4000 ≡ false
  pub other_owner : is_tight (three 15071) (named Vm 1) 4000 ≡ true
  pub asked : answer (lalloc (mem 1) 3974 unwilling (three 11007)) ≡ Err NoRoom
  pub roomy : answer (lalloc (mem 1) 3974 unwilling (three 11008)) ≡ Ok 16
  pub granted : answer (lalloc (mem 1) 3974 willing (three 11007)) ≡ Ok 16

tight_computed : Tight
unfolding cost
tight_computed = record {
  grows = refl;
  fits = refl;
  unlocked = refl;
  unlocked_fits = refl;
  made = refl;
  made_fits = refl;
  other_owner = refl;
  asked = refl;
  roomy = refl;
  granted = refl;
}

-- handles 0, and past the last one, name no block, and to change them changes nothing; nor is
-- a block of the VM file one of global memory
pub record Nameless : Type 0 where
  pub zero : with_block one (mem 0) None ≡ one
  pub past : with_block one (mem 5) None ≡ one
  pub other_owner : with_block one (named Vm 1) None ≡ one
  pub no_zero : block_of one (mem 0) ≡ None
  pub no_past : block_of one (mem 5) ≡ None
  pub no_other_owner : block_of one (named Vm 1) ≡ None

nameless_computed : Nameless
nameless_computed = record { zero = refl; past = refl; other_owner = refl; no_zero = refl; no_past = refl; no_other_owner = refl }
