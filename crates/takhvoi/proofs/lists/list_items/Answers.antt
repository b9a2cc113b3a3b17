-- The next handle is listed if the group has such an item; the kernel's memory is as it was, and its device was read at most.
use Rattle.std.proofs.Common.{◌∙◌, ◌+◌, sym, subst, arith, Ok, Err}
use Rattle.geos_terms.specs.Names.{vm}
use Rattle.vm_file.proofs.Moments.{reads_then}
use Rattle.host_device.specs.Journal.{medium}
use Rattle.takhvoi.specs.Lists.{Lists, brings, is_chunk}
use Rattle.takhvoi.proofs.Found.{lists-at, lists-more, lists-none, lists-same}
use Rattle.takhvoi.proofs.Grouped.{brings-found, brings-then}
use Rattle.takhvoi.proofs.lists.list_items.Goals.{then-is_there, else-is_there}
use Rattle.takhvoi.proofs.lists.list_items.Goals as goal

pub loop-c-init : goal.loop-c-init
loop-c-init c = (omega arith, c.in-Ok.ensures.brought, c.in-Ok.ensures.reads, lists-none (is_chunk (vm c.args.group)) c.args.kernel.now.core c.args.into.now)

pub returns-in-Err-is_item-clause-brought : goal.returns-in-Err-is_item-clause-brought
returns-in-Err-is_item-clause-brought c =
    brings-then c.args.kernel.now.core c.loop-c.kernel.core c.args.group c.loop-c.invariant.1 (brings c.args.group) (Err c.in-Err-is_item.why)
    c.is_item-in-loop-c.new.kernel.core c.in-Err-is_item.ensures.refused

pub loop-c-preserved : goal.loop-c-preserved
loop-c-preserved c = elim c.if-is_there.branch [
  | then-is_there w ↦ (
    (let few = c.loop-c.invariant.0 in let one = w.put_next.ensures.one in let is = w.count-is in omega (arith, few, one, is)),
    brings-then c.args.kernel.now.core c.loop-c.kernel.core c.args.group c.loop-c.invariant.1 (brings c.args.group) (Ok (tt {0}))
        c.is_item-in-loop-c.new.kernel.core c.in-Ok-is_item.ensures.brought,
    reads_then medium c.args.kernel.now.device c.loop-c.kernel.device c.is_item-in-loop-c.new.kernel.device c.loop-c.invariant.2
        c.in-Ok-is_item.ensures.reads,
    lists-at (is_chunk (vm c.args.group)) (c.loop-c.c + 1) c.args.kernel.now.core c.args.into.now w.put_next.new.count _ w.put_next.new.into _ w.count-is w.into-is
        (lists-more (is_chunk (vm c.args.group)) c.loop-c.c c.args.kernel.now.core c.loop-c.count c.args.into.now c.loop-c.into c.loop-c.invariant.3
        w.put_next.new.count w.put_next.new.into w.put_next.ensures.filled (λ f is. sym w.if-is_there.true ∙ brings-found c.args.kernel.now.core c.loop-c.kernel.core c.args.group c.loop-c.invariant.1 (is_chunk (vm c.args.group)) c.loop-c.c c.in-Ok-is_item.is_there
        c.in-Ok-is_item.ensures.found f is)),
  )
  | else-is_there w ↦ (
    (let few = c.loop-c.invariant.0 in let is = w.count-is in omega (arith, few, is)),
    brings-then c.args.kernel.now.core c.loop-c.kernel.core c.args.group c.loop-c.invariant.1 (brings c.args.group) (Ok (tt {0}))
        c.is_item-in-loop-c.new.kernel.core c.in-Ok-is_item.ensures.brought,
    reads_then medium c.args.kernel.now.device c.loop-c.kernel.device c.is_item-in-loop-c.new.kernel.device c.loop-c.invariant.2
        c.in-Ok-is_item.ensures.reads,
    lists-at (is_chunk (vm c.args.group)) (c.loop-c.c + 1) c.args.kernel.now.core c.args.into.now c.loop-c.count _ c.loop-c.into _ w.count-is w.into-is
        (lists-same (is_chunk (vm c.args.group)) c.loop-c.c c.args.kernel.now.core c.loop-c.count c.args.into.now c.loop-c.into c.loop-c.invariant.3
        (λ f is. sym w.if-is_there.false ∙ brings-found c.args.kernel.now.core c.loop-c.kernel.core c.args.group c.loop-c.invariant.1 (is_chunk (vm c.args.group)) c.loop-c.c c.in-Ok-is_item.is_there
        c.in-Ok-is_item.ensures.found f is)),
  )
]

pub returns-clause-lists : goal.returns-clause-lists
returns-clause-lists c =
    let past = c.loop-c-test.false in
    let end = c.loop-c.auto.c-end in
    subst (λ n. Lists (is_chunk (vm c.args.group)) n c.args.kernel.now.core c.loop-c.count c.args.into.now c.loop-c.into) (omega (arith, past, end)) c.loop-c.invariant.3
