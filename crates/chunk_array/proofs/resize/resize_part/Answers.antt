use Rattle.std.proofs.Common.{◌≡◌, ℕ, ◌+◌, ◌-◌, ◌≤◌, List, Option, length, ap, ◌∙◌, subst, arith}
use Rattle.geos_terms.specs.Block.{chunks}
use Rattle.geos_terms.specs.Chunks.{bytes_of, need, with_bytes, with_inserted, with_resized_part}
use Rattle.geos_terms.proofs.JoinedEdits.{resized-grows, resized-shrinks, length-resized_part}
use Rattle.geos_terms.proofs.Needs.{need-with_bytes}
use Rattle.geos_terms.proofs.Lowest.{block-used}
use Rattle.lmem_heap.specs.declared.error.InsertError.{InsertError}
use Rattle.lmem_heap.specs.Refusals.{IsRoomError, IsInsertError}
use Rattle.chunk_array.proofs.resize.resize_part.Goals as goal

pub overflow_cast-at : goal.overflow_cast-at
overflow_cast-at c = omega (arith, c.requires.within, c.requires.small)

pub insert-requires : goal.insert-requires
insert-requires c = c.requires.heap

-- the part grows by the zeros that are inserted after it
grown : (cs : List (Option (List ℕ))) (c at has n : ℕ) → at + has ≤ length (bytes_of cs c) → has ≤ n
    → with_inserted cs c (at + has) (n - has) ≡ with_bytes cs c (with_resized_part (bytes_of cs c) at has n)
grown cs c at has n within more = ap (with_bytes cs c) (resized-grows (bytes_of cs c) at has n within more)

pub returns-in-Ok-clause-ok : goal.returns-in-Ok-clause-ok
returns-in-Ok-clause-ok c = c.in-Ok.ensures.ok.2 ∙ grown (chunks c.args.block.now) c.args.c c.args.at c.args.has
    c.args.n c.requires.within (omega (arith, c.if-n-has.true))

pub returns-in-Ok-clause-fits : goal.returns-in-Ok-clause-fits
returns-in-Ok-clause-fits c =
    subst (λ (x : List (Option (List ℕ))). need x ≤ length c.args.block.now)
    (grown (chunks c.args.block.now) c.args.c c.args.at c.args.has c.args.n c.requires.within (omega (arith, c.if-n-has.true))) c.in-Ok.ensures.fits

pub returns-in-Err-Room-clause-refused : goal.returns-in-Err-Room-clause-refused
returns-in-Err-Room-clause-refused c =
    let a = c.args in
    subst (λ (x : List (Option (List ℕ))). IsRoomError c.in-Err-Room.room (need x) (length a.block.now))
    (grown (chunks a.block.now) a.c a.at a.has a.n c.requires.within (omega (arith, c.if-n-has.true)))
    (subst (λ (e : InsertError). IsInsertError e (chunks a.block.now) (length a.block.now) a.c (a.at + a.has) (a.n - a.has))
    c.in-Err-Room.field-0-is c.in-Err-Room.ensures.refused).2

pub returns-clause-ok : goal.returns-clause-ok
returns-clause-ok c =
    let cs = chunks c.args.block.now in
    c.in-Ok-delete.ensures.ok.2
    ∙ ap (with_bytes cs c.args.c) (resized-shrinks (bytes_of cs c.args.c) c.args.at c.args.has c.args.n c.requires.within c.if-n-has.false)

pub returns-clause-fits : goal.returns-clause-fits
returns-clause-fits c =
    let cs = chunks c.args.block.now in
    let x = with_resized_part (bytes_of cs c.args.c) c.args.at c.args.has c.args.n in
    let l = length-resized_part (bytes_of cs c.args.c) c.args.at c.args.has c.args.n c.requires.within in
    let less = need-with_bytes cs c.args.c x (omega (arith, l, c.if-n-has.false)) in
    omega (arith, less, block-used c.args.block.now c.requires.heap, c.requires.heap.0.sixteens)
