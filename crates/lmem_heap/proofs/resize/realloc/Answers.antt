use Rattle.std.proofs.Common.{ℕ, length, ap, ◌∙◌, subst}
use Rattle.std.proofs.lemmas.Result.{err_from_is_err_and}
use Rattle.geos_terms.specs.Chunks.{need, resized}
use Rattle.geos_terms.proofs.Lowest.{item-set}
use Rattle.geos_terms.proofs.Nexts.{some-chunk}
use Rattle.lmem_heap.specs.Refusals.{IsRoomError}
use Rattle.lmem_heap.proofs.resize.realloc.Goals as goal

pub returns-in_err-resize-clause-refused : goal.returns-in_err-resize-clause-refused
returns-in_err-resize-clause-refused c =
    let b = c.args.block.now in
    let f = c.in_ok-i.ensures.found in
    let needed = ap need (item-set b c.args.chunk c.in_ok-i.i (λ x. resized x c.args.len) f.0 f.1) in
    let p = err_from_is_err_and c.from_residual-in_err-resize.result c.from_residual-in_err-resize.ensures.1 in
    rw (p.1, p.2) (
      some-chunk b c.in_ok-i.i c.args.chunk f.1 f.2 f.0,
      subst (λ (x : ℕ). IsRoomError c.in_err-resize.field-0.0 x (length b))
          needed c.in_err-resize.ensures.refused,
    )

pub returns-clause-ok : goal.returns-clause-ok
returns-clause-ok c =
    let f = c.in_ok-i.ensures.found in (
      some-chunk c.args.block.now c.in_ok-i.i c.args.chunk f.1 f.2 f.0,
      c.in_ok-resize.ensures.ok
          ∙ item-set c.args.block.now c.args.chunk c.in_ok-i.i (λ x. resized x c.args.len) f.0 f.1,
    )
