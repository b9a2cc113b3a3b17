-- The next handle is listed if it is there.
use Rattle.std.proofs.Common.{◌∙◌, ◌+◌, sym, subst, arith}
use Rattle.takhvoi.proofs.Found.{lists-at, lists-more, lists-none, lists-same}
use Rattle.takhvoi.specs.Lists.{Lists, is_chunk}
use Rattle.takhvoi.proofs.lists.list_chunks.Goals.{then-is_chunk, else-is_chunk}
use Rattle.takhvoi.proofs.lists.list_chunks.Goals as goal

pub loop-c-init : goal.loop-c-init
loop-c-init c = (omega arith, lists-none (is_chunk c.args.name) c.args.kernel.now.core c.args.into.now)

pub loop-c-preserved : goal.loop-c-preserved
loop-c-preserved c = elim c.if-is_chunk.branch [
  | then-is_chunk w ↦ (
    (let few = c.loop-c.invariant.0 in let one = w.put_next.ensures.one in let is = w.count-is in omega (arith, few, one, is)),
    lists-at (is_chunk c.args.name) (c.loop-c.c + 1) c.args.kernel.now.core c.args.into.now w.put_next.new.count _ w.put_next.new.into _ w.count-is w.into-is
        (lists-more (is_chunk c.args.name) c.loop-c.c c.args.kernel.now.core c.loop-c.count c.args.into.now c.loop-c.into c.loop-c.invariant.1
        w.put_next.new.count w.put_next.new.into w.put_next.ensures.filled (λ f is. sym w.if-is_chunk.true ∙ c.is_chunk.ensures f is)),
  )
  | else-is_chunk w ↦ (
    (let few = c.loop-c.invariant.0 in let is = w.count-is in omega (arith, few, is)),
    lists-at (is_chunk c.args.name) (c.loop-c.c + 1) c.args.kernel.now.core c.args.into.now c.loop-c.count _ c.loop-c.into _ w.count-is w.into-is
        (lists-same (is_chunk c.args.name) c.loop-c.c c.args.kernel.now.core c.loop-c.count c.args.into.now c.loop-c.into c.loop-c.invariant.1
        (λ f is. sym w.if-is_chunk.false ∙ c.is_chunk.ensures f is)),
  )
]

pub returns : goal.returns
returns c =
    let past = c.loop-c-test.false in
    let end = c.loop-c.auto.c-end in
    subst (λ n. Lists (is_chunk c.args.name) n c.args.kernel.now.core c.loop-c.count c.args.into.now c.loop-c.into) (omega (arith, past, end)) c.loop-c.invariant.1
