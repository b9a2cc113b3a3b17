-- Each row of the table of calls keeps memory legal.
use Rattle.std.proofs.Common.{◌≡◌, ℕ, ◌+◌, ◌-◌, ◌≤◌, ◌<◌, Bool, ◌==◌, List, [], ◌∷◌, ◌++◌, Option, Some, None, take, nat_lt, refl, arith, ltb-false}
use Rattle.std.specs.Prelude.{is_none, unwrap_or}
use Rattle.std.proofs.lemmas.List.Elements.{All-take}
use Rattle.lmem_raw.specs.Bytes.{with_part}
use Rattle.geos_terms.specs.declared.name.Name.{Name}
use Rattle.geos_terms.specs.declared.name.Owner.TheVariants.{Mem}
use Rattle.geos_terms.specs.declared.refusal.Refusal.{Refusal}
use Rattle.geos_terms.specs.declared.refusal.Refusal.TheVariants.{BadHandle, NoRoom, TooBig, Locked}
use Rattle.geos_terms.specs.Names.{mem, vm}
use Rattle.geos_terms.specs.Refusals.{first_refusal}
use Rattle.geos_terms.specs.Chunks.{need, bytes_of, with_bytes}
use Rattle.geos_calls.specs.Memory.{Memory, new_heap, block_of, locks_of, lowest_handle, chunks_at}
use Rattle.geos_calls.specs.Effects.{Choice, Reference, most_locks, cannot_grow, growing}
use Rattle.geos_terms.specs.Edits.{Edit, Part, alloc, free, realloc, insert_bytes, delete_bytes, contract}
use Rattle.geos_terms.specs.ArrayEdits.{create_array, append_element, insert_element, remove_element, clear_array, resize_element}
use Rattle.geos_calls.specs.Calls.{changes, enlarges, reads, refers, locks_full, mnew, mlock, unlock, mfree, named_bytes, store, copy}
use Rattle.geos_calls.specs.VmCalls.{vfind, vuid}
use Rattle.geos_calls.specs.Legal.{AreBytes, IsMemory}
use Rattle.geos_calls.specs.declared.call.Change.{Change}
use Rattle.geos_calls.specs.declared.call.Change.TheVariants as change
use Rattle.geos_calls.specs.declared.call.Make.{Make}
use Rattle.geos_calls.specs.declared.call.Make.TheVariants.{Lalloc, Canew}
use Rattle.geos_calls.specs.ChunkCalls.{change_row, make_row, ask_edit, refer_edit}
use Rattle.geos_calls.specs.Keeping.{Keeps, HasWordSize, RowsKeepMemory}
use Rattle.geos_calls.proofs.LegalBytes.{bytes-part}
use Rattle.geos_calls.proofs.Passing.{none-here, none-behind, none-before}
pub use Rattle.geos_calls.proofs.Outcomes.{outcome-kept}
use Rattle.geos_calls.proofs.Outcomes.{locks-rise}
use Rattle.geos_calls.proofs.Laws.{change-shape}
use Rattle.geos_calls.proofs.LegalGiven.{memory-given}
use Rattle.geos_calls.proofs.KeepsFile.{vnew-kept, gnew-kept, lock_listed-kept, vlock-kept, bring-kept, vdirty-kept, free_listed-kept, vfree-kept, gfree-kept, vsetmap-kept, isetmap-kept, vupdate-kept, vsave-kept, vrevert-kept, on_group-kept, ilock-kept}
use Rattle.geos_calls.proofs.LegalArrays.{create-kept, append-kept, insert-kept, remove-kept, remove-less, clear-kept, clear-less, resize-kept}
use Rattle.geos_calls.proofs.LegalChunks.{KeepsChunks, NeedsNoMore, bytes_of-legal, with_new-legal, without-legal, with_resized-legal, with_inserted-legal, with_deleted-legal, with_written-legal}
use Rattle.geos_terms.proofs.Needs.{need-without, need-with_deleted, need-with_written}
use Rattle.geos_terms.specs.Heap.{most_block_bytes}
use Rattle.geos_calls.proofs.LegalBlocks.{new_heap-legal, mem_block-legal, with_locks-legal, with_chunks-legal, chunks-need, chunks-bytes, locks-most}

-- chunks that are not refused need no more than a block can have
pub grown-small : (choice : Choice) (memory : Memory) (name : Name) (front : List (Bool × Refusal)) (chunks : List (Option (List ℕ))) →
    first_refusal (front ++ growing choice memory name chunks) ≡ None → need chunks ≤ most_block_bytes
grown-small choice memory name front chunks h =
    let behind = none-behind front (growing choice memory name chunks) h in
    ltb-false most_block_bytes (need chunks) (none-here (nat_lt most_block_bytes (need chunks)) TooBig
    (first_refusal ((cannot_grow choice memory name chunks, NoRoom) ∷ [])) behind).0

-- Calls on the chunks of one block

pub changes-kept : {A : Type 0} (edit : List (Option (List ℕ)) → Edit A) (name : Name) → KeepsChunks edit → NeedsNoMore edit
    → Keeps (changes edit name)
changes-kept edit name keep less choice memory legal =
    let cs = chunks_at memory name in
    outcome-kept (changes edit name choice memory) (λ r. legal) (λ fine.
    let small : need (edit cs).chunks ≤ most_block_bytes = (let most = chunks-need memory name legal in
    let l = less cs (chunks-bytes memory name legal) fine in omega (arith, most, l)) in
    with_chunks-legal (λ cs. (edit cs).chunks) memory name (λ are. keep cs are fine small) small legal)

pub enlarges-kept : {A : Type 0} (edit : List (Option (List ℕ)) → Edit A) (name : Name) → KeepsChunks edit → Keeps (enlarges edit name)
enlarges-kept edit name keep choice memory legal =
    let cs = chunks_at memory name in
    let e = edit cs in
    outcome-kept (enlarges edit name choice memory) (λ r. legal) (λ fine.
    let small = grown-small choice memory name e.refusals e.chunks fine in
    let passed = none-before e.refusals (growing choice memory name e.chunks) fine in
    with_chunks-legal (λ cs. (edit cs).chunks) memory name (λ are. keep cs are passed small) small legal)

pub reads-kept : {A : Type 0} (edit : List (Option (List ℕ)) → Edit A) (name : Name) → Keeps (reads edit name)
reads-kept edit name choice memory legal = outcome-kept (reads edit name choice memory) (λ r. legal) (λ fine. legal)

pub refers-kept : (edit : List (Option (List ℕ)) → Edit Part) (name : Name) → Keeps (refers edit name)
refers-kept edit name choice memory legal = outcome-kept (refers edit name choice memory) (λ r. legal) (λ fine. legal)

change-kept : (name : Name) (change : Change) → Keeps (change_row name change)
change-kept name (change.Lfree c) = changes-kept (free c) name (λ cs legal passed small. without-legal cs c legal)
    (λ cs bytes passed. need-without cs c)
change-kept name (change.Lrealloc c n) = enlarges-kept (realloc c n) name (λ cs legal passed small. with_resized-legal cs c n legal)
change-kept name (change.Lins c at n) = enlarges-kept (insert_bytes c at n) name (λ cs legal passed small. with_inserted-legal cs c at n legal)
change-kept name (change.Ldel c at n) = changes-kept (delete_bytes c at n) name (λ cs legal passed small. with_deleted-legal cs c at n legal)
    (λ cs bytes passed. need-with_deleted cs c at n)
change-kept name change.Lcontract = changes-kept contract name (λ cs legal passed small. legal) (λ cs bytes passed. omega arith)
change-kept name (change.Caadd c n) = enlarges-kept (append_element c n) name (append-kept c n)
change-kept name (change.Cains c i n) = enlarges-kept (insert_element c i n) name (insert-kept c i n)
change-kept name (change.Cadel c i) = changes-kept (remove_element c i) name (remove-kept c i) (remove-less c i)
change-kept name (change.Cazero c) = changes-kept (clear_array c) name (clear-kept c) (clear-less c)
change-kept name (change.Caresize c i n) = enlarges-kept (resize_element c i n) name (resize-kept c i n)

make-kept : (name : Name) (make : Make) → HasWordSize make → Keeps (make_row name make)
make-kept name (Lalloc n) word = enlarges-kept (alloc n) name (λ cs legal passed small. with_new-legal cs n legal)
make-kept name (Canew k) word = enlarges-kept (create_array k) name (create-kept k word)

-- Blocks

mnew-kept : Keeps mnew
mnew-kept choice memory legal =
    outcome-kept (mnew choice memory) (λ r. legal)
    (λ fine. mem_block-legal memory (unwrap_or (lowest_handle memory Mem) 0) (Some (record { locks = 1; heap = new_heap }))
    (record { heap = new_heap-legal; few = omega arith }) legal)

mlock-kept : (h : ℕ) → Keeps (mlock h)
mlock-kept h choice memory legal =
    let n = locks_of memory (mem h) in
    outcome-kept (mlock h choice memory) (λ r. legal) (λ fine.
    let behind = none-behind ((is_none (block_of memory (mem h)), BadHandle) ∷ []) (locks_full memory (mem h) ∷ []) fine in
    with_locks-legal memory (mem h) (n + 1) (locks-rise n (none-here (n == most_locks) Locked None behind).0 (locks-most memory (mem h) legal)) legal)

unlock-kept : (name : Name) → Keeps (unlock name)
unlock-kept name choice memory legal =
    let most = locks-most memory name legal in
    outcome-kept (unlock name choice memory) (λ r. legal) (λ fine. with_locks-legal memory name (locks_of memory name - 1)
    (omega (arith, most)) legal)

mfree-kept : (h : ℕ) → Keeps (mfree h)
mfree-kept h choice memory legal = outcome-kept (mfree h choice memory) (λ r. legal) (λ fine. mem_block-legal memory h None tt legal)

-- Bytes

store-kept : (ref : Reference) (i : ℕ) (ws : List ℕ) → AreBytes ws → Keeps (store ref i ws)
store-kept ref i ws are choice memory legal =
    let most = chunks-need memory ref.name legal in
    let less = need-with_written (chunks_at memory ref.name) ref.chunk (ref.start + i) ws in
    outcome-kept (store ref i ws choice memory) (λ r. legal) (λ fine.
    with_chunks-legal (λ cs. with_bytes cs ref.chunk (with_part (bytes_of cs ref.chunk) (ref.start + i) ws)) memory ref.name
    (with_written-legal (chunks_at memory ref.name) ref.chunk (ref.start + i) ws are) (omega (arith, most, less)) legal)

pub named_bytes-legal : (memory : Memory) (ref : Reference) → IsMemory memory → AreBytes (named_bytes memory ref)
named_bytes-legal memory ref legal =
    bytes-part (bytes_of (chunks_at memory ref.name) ref.chunk) ref.start ref.len
    (bytes_of-legal (chunks_at memory ref.name) ref.chunk (chunks-bytes memory ref.name legal))

copy-kept : (to from : Reference) (n : ℕ) → Keeps (copy to from n)
copy-kept to from n choice memory legal =
    let ws = take n (named_bytes memory from) in
    store-kept to 0 ws (All-take (λ b. b < 256) n (named_bytes memory from) (named_bytes-legal memory from legal)) choice memory legal

pub rows_keep_memory : RowsKeepMemory
rows_keep_memory = record {
  by_mnew = mnew-kept;
  by_mlock = mlock-kept;
  by_unlock = unlock-kept;
  by_mfree = mfree-kept;
  by_change = change-kept;
  by_make = make-kept;
  by_ask = λ name ask. reads-kept (ask_edit ask) name;
  by_refer = λ name refer. refers-kept (refer_edit refer) name;
  by_load8 = λ ref i choice memory legal. legal;
  by_load16 = λ ref i choice memory legal. legal;
  by_store = store-kept;
  by_copy = copy-kept;
  by_vnew = vnew-kept;
  by_lock_listed = lock_listed-kept;
  by_vlock = vlock-kept;
  by_bring = bring-kept;
  by_vdirty = vdirty-kept;
  by_free_listed = free_listed-kept;
  by_vfree = vfree-kept;
  by_vfind = λ start uid choice memory legal. outcome-kept (vfind start uid choice memory) (λ r. legal) (λ fine. legal);
  by_vuid = λ h choice memory legal. outcome-kept (vuid h choice memory) (λ r. legal) (λ fine. legal);
  by_vgetmap = λ choice memory legal. legal;
  by_vsetmap = vsetmap-kept;
  by_vupdate = vupdate-kept;
  by_vsave = vsave-kept;
  by_vrevert = vrevert-kept;
  by_gnew = gnew-kept;
  by_gfree = gfree-kept;
  by_item_change = λ g change. on_group-kept g (change_row (vm g) change) (λ choice memory why. (change-shape (vm g) change memory choice).2 why)
      (change-kept (vm g) change);
  by_item_make = λ g make word. on_group-kept g (make_row (vm g) make) (λ choice memory why. refl) (make-kept (vm g) make word);
  by_ilock = ilock-kept;
  by_igetmap = λ choice memory legal. legal;
  by_isetmap = isetmap-kept;
  by_given = memory-given;
}
