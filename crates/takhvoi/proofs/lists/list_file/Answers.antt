-- The next handle is listed if it is there.
use Rattle.std.proofs.Common.{◌∙◌, ◌+◌, sym, arith}
use Rattle.takhvoi.proofs.Found.{lists-at, lists-more, lists-none, lists-same}
use Rattle.takhvoi.specs.Lists.{is_listed}
use Rattle.takhvoi.proofs.lists.list_file.Goals.{then-is_listed, else-is_listed}
use Rattle.takhvoi.proofs.lists.list_file.Goals as goal

pub loop-h-init : goal.loop-h-init
loop-h-init c = (omega arith, lists-none is_listed c.args.kernel.now.core c.args.into.now)

pub loop-h-preserved : goal.loop-h-preserved
loop-h-preserved c = elim c.if-is_listed.branch [
  | then-is_listed w ↦ (
    (let few = c.loop-h.invariant.0 in let one = w.put_next.ensures.one in let is = w.count-is in omega (arith, few, one, is)),
    lists-at is_listed (c.loop-h.h + 1) c.args.kernel.now.core c.args.into.now w.put_next.new.count _ w.put_next.new.into _ w.count-is w.into-is
        (lists-more is_listed c.loop-h.h c.args.kernel.now.core c.loop-h.count c.args.into.now c.loop-h.into c.loop-h.invariant.1
        w.put_next.new.count w.put_next.new.into w.put_next.ensures.filled (λ f is. sym w.if-is_listed.true ∙ c.is_listed.ensures f is)),
  )
  | else-is_listed w ↦ (
    (let few = c.loop-h.invariant.0 in let is = w.count-is in omega (arith, few, is)),
    lists-at is_listed (c.loop-h.h + 1) c.args.kernel.now.core c.args.into.now c.loop-h.count _ c.loop-h.into _ w.count-is w.into-is
        (lists-same is_listed c.loop-h.h c.args.kernel.now.core c.loop-h.count c.args.into.now c.loop-h.into c.loop-h.invariant.1
        (λ f is. sym w.if-is_listed.false ∙ c.is_listed.ensures f is)),
  )
]
