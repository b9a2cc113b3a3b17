use Rattle.std.proofs.Common.{refl, sym, ◌∙◌}
use Rattle.tkv_checks.specs.declared.places.Place.{Place}
use Rattle.tkv_checks.specs.Walks.{IsPast, IsSingle}
use Rattle.tkv_checks.proofs.Closings.{of_some, act_single, try_single}
use Rattle.tkv_checks.proofs.walk.instructed.Goals as goal

pub returns-then-continues-clause-single : goal.returns-then-continues-clause-single
returns-then-continues-clause-single c is = of_some (IsPast c.args.image.now c.args.item.now.instr c.args.from)
    (IsPast c.args.image.now c.args.item.now.instr c.args.from)
    (IsSingle c.args.image.now c.args.around.now c.args.depth c.args.item.now c.args.from)
    (λ (next : Place) past same. act_single c.args.image.now c.args.around.now c.args.depth c.args.item.now c.args.from next is c.if-item.true
    (c.if-continues.ensures refl) past) c.past.result c.past.ensures c.past.ensures

pub returns-then-leaves-clause-single : goal.returns-then-leaves-clause-single
returns-then-leaves-clause-single c is = try_single c.args.image.now c.leaves.new.around c.args.depth c.args.item.now c.args.from c.in_ok-found.found is
    (sym c.is_plain.ensures ∙ c.if-is_plain.true) c.in_ok-found.ensures (c.if-leaves.ensures.leads refl)
