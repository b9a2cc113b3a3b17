use Rattle.std.proofs.Common.{rules, ◌≡◌, ◌∙◌, ◌++◌, ap, append_assoc, get_or}
use Rattle.std.specs.Prelude.{decimal}
use Rattle.geos_text.proofs.Texts.{flat_map-step}
use Rattle.script_commands.proofs.form.put_each.Goals as goal

pub loop-number-preserved : goal.loop-number-preserved
loop-number-preserved c =
    let numbers = c.args.numbers.now in
    let k = c.loop-number.number-index in
    let number : c.from.result ≡ get_or numbers k 0 = search rules in
    flat_map-step _ _ _ _ (λ n. c.args.sign.now ++ decimal n) numbers k 0 c.loop-number-test.true c.loop-number.invariant
    (c.in_ok-put_numbered.ensures ∙ append_assoc _ c.args.sign.now _) (ap (λ n. c.args.sign.now ++ decimal n) number)
