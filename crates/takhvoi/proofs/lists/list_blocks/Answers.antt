-- The next handle is listed if it is there, and the kernel's memory is as it was.
use Rattle.std.proofs.Common.{◌∙◌, ◌+◌, sym, refl, arith, Ok}
use Rattle.takhvoi.proofs.Found.{lists-at, lists-more, lists-none, lists-same}
use Rattle.takhvoi.specs.Lists.{is_block, looks}
use Rattle.takhvoi.proofs.Looking.{looks-found, looks-here, looks-then}
use Rattle.takhvoi.proofs.lists.list_blocks.Goals.{then-is_block, else-is_block}
use Rattle.takhvoi.proofs.lists.list_blocks.Goals as goal

pub loop-h-init : goal.loop-h-init
loop-h-init c = (omega arith, looks-here c.args.kernel.now.core, record { device = refl; vm = refl }, lists-none is_block c.args.kernel.now.core c.args.into.now)

pub loop-h-preserved : goal.loop-h-preserved
loop-h-preserved c = elim c.if-is_block.branch [
  | then-is_block w ↦ (
    (let few = c.loop-h.invariant.0 in let one = w.put_next.ensures.one in let is = w.count-is in omega (arith, few, one, is)),
    looks-then c.args.kernel.now.core c.loop-h.kernel.core c.loop-h.invariant.1 looks (Ok (tt {0})) c.is_block.new.kernel.core c.is_block.ensures.looks,
    record {
      device = c.is_block.ensures.vm.device ∙ c.loop-h.invariant.2.device;
      vm = c.is_block.ensures.vm.vm ∙ c.loop-h.invariant.2.vm;
    },
    lists-at is_block (c.loop-h.h + 1) c.args.kernel.now.core c.args.into.now w.put_next.new.count _ w.put_next.new.into _ w.count-is w.into-is
        (lists-more is_block c.loop-h.h c.args.kernel.now.core c.loop-h.count c.args.into.now c.loop-h.into c.loop-h.invariant.3
        w.put_next.new.count w.put_next.new.into w.put_next.ensures.filled (λ f is. sym w.if-is_block.true ∙ looks-found c.args.kernel.now.core c.loop-h.kernel.core c.loop-h.invariant.1 is_block c.loop-h.h c.is_block.result c.is_block.ensures.found f is)),
  )
  | else-is_block w ↦ (
    (let few = c.loop-h.invariant.0 in let is = w.count-is in omega (arith, few, is)),
    looks-then c.args.kernel.now.core c.loop-h.kernel.core c.loop-h.invariant.1 looks (Ok (tt {0})) c.is_block.new.kernel.core c.is_block.ensures.looks,
    record {
      device = c.is_block.ensures.vm.device ∙ c.loop-h.invariant.2.device;
      vm = c.is_block.ensures.vm.vm ∙ c.loop-h.invariant.2.vm;
    },
    lists-at is_block (c.loop-h.h + 1) c.args.kernel.now.core c.args.into.now c.loop-h.count _ c.loop-h.into _ w.count-is w.into-is
        (lists-same is_block c.loop-h.h c.args.kernel.now.core c.loop-h.count c.args.into.now c.loop-h.into c.loop-h.invariant.3
        (λ f is. sym w.if-is_block.false ∙ looks-found c.args.kernel.now.core c.loop-h.kernel.core c.loop-h.invariant.1 is_block c.loop-h.h c.is_block.result c.is_block.ensures.found f is)),
  )
]
