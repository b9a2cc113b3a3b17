use Rattle.std.proofs.Common.{◌≡◌, ℕ, ◌<◌, List, [], Option, Some, None, length, unwrap_or, set, get_or, replicate, refl, ap, sym, ◌∙◌, arith}
use Rattle.geos_terms.specs.Chunks.{cost_of, resized}
use Rattle.geos_terms.specs.Block.{chunks, entries, entry, handle_word}
use Rattle.geos_terms.specs.Heap.{IsOffset}
use Rattle.lmem_heap.specs.Holes.{GivesBack}
use Rattle.geos_terms.proofs.Entries.{chunks-at, chunk-nothing}
use Rattle.geos_terms.proofs.Resizes.{resized-none, resized-nothing}
use Rattle.geos_terms.proofs.Lowest.{total-set, set-twice}
use Rattle.lmem_heap.proofs.PackedHeaps.{packed-room}
use Rattle.lmem_heap.proofs.Edits.{chunk-cost}
use Rattle.lmem_heap.proofs.Refits.{freed, offset-same}
use Rattle.lmem_heap.proofs.chunks.resize_chunk.Goals.{then-n-eq0-via-then-n-eq0, then-n-eq0-via-else-n-eq0+then-entry, After-pack, After-resize_beside}
use Rattle.lmem_heap.proofs.chunks.resize_chunk.Goals as goal

-- a chunk of n zeros in place of one whose bytes all go
zeros-for : (cs : List (Option (List ℕ))) (i n : ℕ) (bytes : List ℕ) → resized bytes n ≡ replicate n 0
    → unwrap_or (get_or cs i None) [] ≡ bytes → replicate n 0 ≡ resized (unwrap_or (get_or cs i None) []) n
zeros-for cs i n bytes e is = sym (ap (λ x. resized x n) is ∙ e)

pub new_chunk-requires-clause-known : goal.new_chunk-requires-clause-known
new_chunk-requires-clause-known c = (freed c.args.block.now c.release_chunk.new.block c.args.i c.requires.known c.release_chunk.ensures.chunks).0

pub new_chunk-requires-clause-free : goal.new_chunk-requires-clause-free
new_chunk-requires-clause-free c = (freed c.args.block.now c.release_chunk.new.block c.args.i c.requires.known c.release_chunk.ensures.chunks).1

pub new_chunk-requires-clause-room : goal.new_chunk-requires-clause-room
new_chunk-requires-clause-room c =
    omega (
      arith,
      total-set c.args.block.now c.release_chunk.new.block c.args.i None c.requires.heap c.release_chunk.ensures.heap
          c.release_chunk.auto.block c.requires.known c.release_chunk.ensures.chunks,
      c.requires.room,
    )

pub returns-then-n-eq0-clause-chunks : goal.returns-then-n-eq0-clause-chunks
returns-then-n-eq0-clause-chunks c =
    let b = c.args.block.now in
    let i = c.args.i in
    let cs = chunks b in
    let zeros : replicate c.args.n 0 ≡ resized (unwrap_or (get_or cs i None) []) c.args.n = elim c.then-n-eq0.branch [
      | then-n-eq0-via-then-n-eq0 w ↦ (let bytes = unwrap_or (get_or cs i None) [] in
          zeros-for cs i c.args.n bytes (ap (resized bytes) w.if-n-eq0.true ∙ resized-none bytes
          ∙ ap (λ m. replicate {A = ℕ} m 0) (sym w.if-n-eq0.true)) refl)
      | then-n-eq0-via-else-n-eq0+then-entry w ↦ zeros-for cs i c.args.n [] (resized-nothing c.args.n)
          (ap (λ x. unwrap_or x []) (chunks-at b i c.requires.known ∙ chunk-nothing b (entry b i) (sym w.entry.ensures ∙ w.if-entry.true)))
    ] in
    c.new_chunk.ensures.chunks ∙ ap (λ xs. set xs i (Some (replicate c.args.n 0))) c.release_chunk.ensures.chunks
    ∙ set-twice cs i None (Some (replicate c.args.n 0)) ∙ ap (λ x. set cs i (Some x)) zeros

-- the packed block has the same chunks
packed-same : (c : After-pack) → chunks c.pack.new.block ≡ chunks c.args.block.now
packed-same c = c.pack.ensures.chunks ∙ ap chunks c.if-move_away.ensures ∙ c.if-resize_beside.ensures.chunks

-- and the entry is an offset there
packed-offset : (c : After-pack) → (c.args.i < entries c.pack.new.block) × IsOffset (entry c.pack.new.block c.args.i)
packed-offset c = offset-same _ _ _ c.requires.heap (packed-same c) c.requires.known (c.requires.used, λ e. c.if-entry.false (c.entry.ensures ∙ e))

pub resize_in_place-requires-clause-known : goal.resize_in_place-requires-clause-known
resize_in_place-requires-clause-known c = (packed-offset (goal.at.resize_in_place-requires-clause-known c).After-pack).0

pub resize_in_place-requires-clause-offset : goal.resize_in_place-requires-clause-offset
resize_in_place-requires-clause-offset c = (packed-offset (goal.at.resize_in_place-requires-clause-offset c).After-pack).1

pub resize_in_place-requires-clause-room : goal.resize_in_place-requires-clause-room
resize_in_place-requires-clause-room c =
    let same = packed-same (goal.at.resize_in_place-requires-clause-room c).After-pack in
    let o = packed-offset (goal.at.resize_in_place-requires-clause-room c).After-pack in
    let e = ap (λ xs. cost_of (get_or xs c.args.i None)) same in
    let total = packed-room c.args.block.now c.pack.new.block c.requires.heap c.pack.ensures.packed same
    (c.pack.auto.block ∙ ap length c.if-move_away.ensures ∙ c.resize_beside.auto.block) in
    omega (arith, chunk-cost c.pack.new.block c.args.i c.pack.ensures.packed o.0 o.1, e, total, c.requires.room)

pub returns-clause-chunks : goal.returns-clause-chunks
returns-clause-chunks c =
    let same = packed-same (goal.at.returns-clause-chunks c).After-pack in
    c.resize_in_place.ensures.chunks ∙ ap (λ xs. set xs c.args.i (Some (resized (unwrap_or (get_or xs c.args.i None) []) c.args.n))) same

pub returns-clause-handle : goal.returns-clause-handle
returns-clause-handle c = c.resize_in_place.ensures.handle ∙ c.pack.ensures.handle ∙ ap handle_word c.if-move_away.ensures
    ∙ c.if-resize_beside.ensures.handle

-- nor does the try beside it change the entry
beside-offset : (c : After-resize_beside) → GivesBack c.args.block.now c.resize_beside.new.block
    → (c.args.i < entries c.resize_beside.new.block) × IsOffset (entry c.resize_beside.new.block c.args.i)
beside-offset c g = offset-same _ _ _ c.requires.heap g.chunks c.requires.known (c.requires.used, λ e. c.if-entry.false (c.entry.ensures ∙ e))

pub move_away-requires-clause-known : goal.move_away-requires-clause-known
move_away-requires-clause-known c = (beside-offset (goal.at.move_away-requires-clause-known c).After-resize_beside c.if-resize_beside.ensures).0

pub move_away-requires-clause-offset : goal.move_away-requires-clause-offset
move_away-requires-clause-offset c = (beside-offset (goal.at.move_away-requires-clause-offset c).After-resize_beside c.if-resize_beside.ensures).1

pub returns-then-move_away-clause-chunks : goal.returns-then-move_away-clause-chunks
returns-then-move_away-clause-chunks c =
    c.if-move_away.ensures.chunks ∙ ap (λ xs. set xs c.args.i (Some (resized (unwrap_or (get_or xs c.args.i None) []) c.args.n)))
    c.if-resize_beside.ensures.chunks

pub returns-then-move_away-clause-handle : goal.returns-then-move_away-clause-handle
returns-then-move_away-clause-handle c = c.if-move_away.ensures.handle ∙ c.if-resize_beside.ensures.handle
