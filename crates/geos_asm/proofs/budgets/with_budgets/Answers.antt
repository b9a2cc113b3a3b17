use Rattle.std.proofs.Common.{◌≡◌, ◌++◌, [], refl, sym, subst, append-nil, arith, length}
use Rattle.geos_asm.specs.Budgets.{HasOtherBudgets}
use Rattle.geos_asm.proofs.BudgetLines.{one-more, none-left}
use Rattle.geos_asm.proofs.budgets.with_budgets.Goals as goal

pub loop-rest-preserved-then-branch : goal.loop-rest-preserved-then-branch
loop-rest-preserved-then-branch c = λ tail others.
    let h = c.in_ok-put_line.ensures in
    let out = c.loop-rest.new.items in
    subst (λ written. HasOtherBudgets c.args.text.now (written ++ tail)) (sym h.2)
    (one-more c.args.text.now out h.0 c.loop-rest.rest.now c.first_whole_line.result.0.now c.first_whole_line.result.1.now
    tail c.loop-rest.invariant c.first_whole_line.ensures.line h.1 others)

pub loop-rest-preserved : goal.loop-rest-preserved
loop-rest-preserved c = λ tail others.
    let h = c.in_ok-put_line.ensures in
    let out = c.loop-rest.new.items in
    subst (λ written. HasOtherBudgets c.args.text.now (written ++ tail)) (sym h.2)
    (one-more c.args.text.now out h.0 c.loop-rest.rest.now c.first_whole_line.result.0.now c.first_whole_line.result.1.now
    tail c.loop-rest.invariant c.first_whole_line.ensures.line h.1 others)

pub returns : goal.returns
returns c =
    let zero : length c.loop-rest.rest.now ≡ 0 = grind (arith, c.loop-rest-test.ensures) in
    let none = none-left c.loop-rest.rest.now zero in
    subst (HasOtherBudgets c.args.text.now) (append-nil c.loop-rest.new.items) (c.loop-rest.invariant [] (rw none refl))
