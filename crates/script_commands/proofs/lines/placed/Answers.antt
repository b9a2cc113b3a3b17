use Rattle.std.proofs.Common.{◌∙◌, sym, arith}
use Rattle.script_commands.proofs.PlacedHandles.{all-placed, none-first, none-second, none-third, none-fourth, too-many}
use Rattle.script_commands.proofs.lines.placed.Goals as goal

pub returns-in_err-h0 : goal.returns-in_err-h0
returns-in_err-h0 c = c.from_residual.ensures ∙ sym (none-first c.args.states.now _ _ (omega arith) c.in_err-h0.ensures.none)

pub returns-in_err-h1 : goal.returns-in_err-h1
returns-in_err-h1 c = c.from_residual-in_err-h1.ensures
    ∙ sym (none-second c.args.states.now _ _ (omega arith) _ _ c.in_ok-h0.ensures.some c.in_err-h1.ensures.none)

pub returns-in_err-h2 : goal.returns-in_err-h2
returns-in_err-h2 c = c.from_residual-in_err-h2.ensures
    ∙ sym (none-third c.args.states.now _ _ (omega arith) _ _ c.in_ok-h0.ensures.some _ _ c.in_ok-h1.ensures.some c.in_err-h2.ensures.none)

pub returns-in_err-h3 : goal.returns-in_err-h3
returns-in_err-h3 c = c.from_residual-in_err-h3.ensures
    ∙ sym (none-fourth c.args.states.now _ _ (omega arith) _ _ c.in_ok-h0.ensures.some _ _ c.in_ok-h1.ensures.some
    _ _ c.in_ok-h2.ensures.some c.in_err-h3.ensures.none)

pub returns-in-None : goal.returns-in-None
returns-in-None c = sym (all-placed c.args.states.now _ _ (omega arith) _ _ c.in_ok-h0.ensures.some _ _ c.in_ok-h1.ensures.some
    _ _ c.in_ok-h2.ensures.some _ _ c.in_ok-h3.ensures.some c.in-None.ensures.none)

pub returns-in-Some : goal.returns-in-Some
returns-in-Some c = sym (too-many c.args.states.now _ _ (omega arith) _ _ c.in_ok-h0.ensures.some _ _ c.in_ok-h1.ensures.some
    _ _ c.in_ok-h2.ensures.some _ _ c.in_ok-h3.ensures.some _ _ c.in-Some.ensures.some)
