-- What each instruction on blocks and their chunks does, on values that a wrong definition
-- would show itself at.
use Rattle.std.proofs.Common.{◌≡◌, refl, ℕ, List, [], ◌∷◌, Option, Some, None}
use Rattle.geos_terms.specs.Chunks.{cost}
use Rattle.geos_calls.specs.Memory.{Memory, new_heap}
use Rattle.geos_opcodes.specs.declared.opcode.Opcode.TheVariants.{Mnew, Mlock, Munlock, Mfree, Sne, Lalloc, Lfree, Lrealloc, Lins, Ldel, Lsize, Deref, Lcontract}
use Rattle.geos_image.specs.declared.instr.Instr.{Instr}
use Rattle.geos_opcodes.specs.declared.opcode.Opcode.{Opcode}
use Rattle.geos_semantics.specs.State.{Held, State}
use Rattle.geos_semantics.specs.Model.{Outcome, Next, step}
use Rattle.worked_examples.proofs.Images.{instr}
use Rattle.worked_examples.proofs.States.{willing, alone, block, bytes, first, second, third, region_of, with_first, with_second, held, leads, moved_first, moved_second, before, stepped, refused_all, on, refused, with_w6, greatest, greatest_refused}

-- an instruction on the first block's chunk 16, with fields c and d
abbrev pub on_chunk : Opcode → ℕ → ℕ → Instr
on_chunk opcode c d = record (instr opcode 0 0 c 0 7) { d = d }

-- s3 holds a block too, in such a memory
abbrev pub holding : Option Held → Memory → State
holding held_too memory = record before { memory = memory; slots = held 1 ∷ held 1 ∷ held 2 ∷ held_too ∷ [] }

-- s1 was unlocked: the pointer through the other slot that holds the block stays
abbrev pub unlocked : State
unlocked = record before {
  memory = region_of (block 1 (Some bytes ∷ None ∷ []) ∷ second ∷ third ∷ None ∷ []);
  slots = held 1 ∷ None ∷ held 2 ∷ None ∷ [];
  pointers = leads 0 1 4 ∷ None ∷ leads 2 2 2 ∷ None ∷ [];
}

-- the chunks of the first block were changed, or their change was refused
abbrev pub moved : State
moved = record before { pointers = moved_first }

-- the first block has other chunks, and what led into it is stale
abbrev pub moved_to : List (Option (List ℕ)) → State
moved_to chunks = record moved { memory = with_first chunks }

-- no handle is free
abbrev pub no_handle : State
no_handle = record before { memory = region_of (first ∷ second ∷ third ∷ []) }

-- the third block is locked as often as can be
abbrev pub locked_full : State
locked_full = record before { memory = region_of (first ∷ second ∷ block 65535 (None ∷ None ∷ []) ∷ None ∷ []) }

-- the step from where w6 has the greatest word
abbrev pub stepped_greatest : Instr → Outcome
stepped_greatest i = step (alone i) willing greatest

pub record OnSlots : Type 0 where
  pub mnew : stepped (instr Mnew 3 6 0 0 7)
      ≡ with_w6 4 (holding (held 4) (region_of (first ∷ second ∷ third ∷ Some (record { locks = 1; heap = new_heap }) ∷ [])))
  -- two other locked blocks might each need the room, and 384 bytes are more than the region
  pub mnew_no_room : refused_all (instr Mnew 3 6 0 0 7) ≡ refused 4 before
  pub mnew_no_handle : step (alone (instr Mnew 3 6 0 0 7)) willing no_handle ≡ refused 5 no_handle
  pub mlock : stepped (instr Mlock 3 3 0 0 7) ≡ on (holding (held 3) (region_of (first ∷ second ∷ block 1 (None ∷ None ∷ []) ∷ None ∷ [])))
  -- a third time
  pub mlock_again : stepped (instr Mlock 3 1 0 0 7)
      ≡ on (holding (held 1) (region_of (block 3 (Some bytes ∷ None ∷ []) ∷ second ∷ third ∷ None ∷ [])))
  pub mlock_no_block : stepped (instr Mlock 3 4 0 0 7) ≡ refused 1 before
  pub mlock_full : step (alone (instr Mlock 3 3 0 0 7)) willing locked_full ≡ refused 7 locked_full
  pub munlock : stepped (instr Munlock 1 0 0 0 0) ≡ on unlocked
  pub mfree : stepped (instr Mfree 3 0 0 0 7) ≡ on (record before { memory = region_of (first ∷ second ∷ None ∷ None ∷ []) })
  pub mfree_locked : stepped (instr Mfree 1 0 0 0 7) ≡ refused 7 before
  pub mfree_no_block : stepped (instr Mfree 4 0 0 0 7) ≡ refused 1 before
  -- no refusal: w7 stays as it was
  pub sne_same : stepped (instr Sne 0 1 0 0 7) ≡ Next (record before { pc = 7 })
  pub sne_other : stepped (instr Sne 0 2 0 0 7) ≡ on before
  pub lalloc : stepped (instr Lalloc 0 6 2 0 7) ≡ with_w6 18 (moved_to (Some bytes ∷ Some (0 ∷ 0 ∷ []) ∷ []))
  -- 44 bytes more, for which the block would grow; what led into it is stale all the same
  pub lalloc_no_room : refused_all (instr Lalloc 0 6 4 0 7) ≡ refused 4 moved
  pub lalloc_too_big : stepped_greatest (instr Lalloc 0 6 6 0 7) ≡ greatest_refused 6 moved
  pub lfree : stepped (on_chunk Lfree 0 0) ≡ on (moved_to (None ∷ None ∷ []))
  pub lfree_no_chunk : stepped (instr Lfree 0 5 0 0 7) ≡ refused 2 moved
  pub lrealloc_less : stepped (on_chunk Lrealloc 2 0) ≡ on (moved_to (Some (1 ∷ 2 ∷ []) ∷ None ∷ []))
  pub lrealloc_more : stepped (instr Lrealloc 2 0 3 0 7)
      ≡ on (record before { memory = with_second (Some (9 ∷ 8 ∷ 0 ∷ []) ∷ None ∷ []); pointers = moved_second })
  pub lrealloc_no_chunk : stepped (instr Lrealloc 0 5 2 0 7) ≡ refused 2 moved
  pub lrealloc_too_big : stepped_greatest (on_chunk Lrealloc 6 0) ≡ greatest_refused 6 moved
  pub lrealloc_no_room : refused_all (on_chunk Lrealloc 4 0) ≡ refused 4 moved
  pub lins : stepped (on_chunk Lins 1 2) ≡ on (moved_to (Some (1 ∷ 0 ∷ 0 ∷ 2 ∷ 3 ∷ 4 ∷ []) ∷ None ∷ []))
  pub lins_past_end : stepped (on_chunk Lins 4 1) ≡ refused 14 moved
  pub lins_no_chunk : stepped (record (instr Lins 0 5 4 0 7) { d = 2 }) ≡ refused 2 moved
  pub lins_too_big : stepped_greatest (on_chunk Lins 1 6) ≡ greatest_refused 6 moved
  pub lins_no_room : refused_all (on_chunk Lins 1 4) ≡ refused 4 moved
  pub ldel : stepped (on_chunk Ldel 1 2) ≡ on (moved_to (Some (1 ∷ 4 ∷ []) ∷ None ∷ []))
  pub ldel_past_end : stepped (on_chunk Ldel 3 2) ≡ refused 14 moved
  pub ldel_no_chunk : stepped (record (instr Ldel 0 5 4 0 7) { d = 2 }) ≡ refused 2 moved
  pub lsize : stepped (instr Lsize 2 6 0 0 7) ≡ with_w6 2 before
  pub lsize_no_chunk : stepped (instr Lsize 2 6 5 0 7) ≡ refused 2 before
  pub deref : stepped (instr Deref 2 3 0 2 7) ≡ on (record before { pointers = leads 0 1 4 ∷ leads 1 1 4 ∷ leads 2 2 2 ∷ leads 2 2 2 ∷ [] })
  pub deref_short : stepped (instr Deref 2 3 0 3 7) ≡ refused 3 before
  pub deref_no_chunk : stepped (instr Deref 2 3 5 2 7) ≡ refused 2 before
  -- no byte is another, but what led into the block is stale
  pub lcontract : stepped (instr Lcontract 0 0 0 0 0) ≡ on moved

pub examples : OnSlots
unfolding cost
examples = record {
  mnew = refl;
  mnew_no_room = refl;
  mnew_no_handle = refl;
  mlock = refl;
  mlock_again = refl;
  mlock_no_block = refl;
  mlock_full = refl;
  munlock = refl;
  mfree = refl;
  mfree_locked = refl;
  mfree_no_block = refl;
  sne_same = refl;
  sne_other = refl;
  lalloc = refl;
  lalloc_no_room = refl;
  lalloc_too_big = refl;
  lfree = refl;
  lfree_no_chunk = refl;
  lrealloc_less = refl;
  lrealloc_more = refl;
  lrealloc_no_chunk = refl;
  lrealloc_too_big = refl;
  lrealloc_no_room = refl;
  lins = refl;
  lins_past_end = refl;
  lins_no_chunk = refl;
  lins_too_big = refl;
  lins_no_room = refl;
  ldel = refl;
  ldel_past_end = refl;
  ldel_no_chunk = refl;
  lsize = refl;
  lsize_no_chunk = refl;
  deref = refl;
  deref_short = refl;
  deref_no_chunk = refl;
  lcontract = refl;
}
