use Rattle.std.proofs.Common.{◌≡◌, ◌∙◌, sym, length, arith}
use Rattle.vm_file.proofs.ReadSteps.{first_other}
use Rattle.vm_file.proofs.fields.leading_zeros.Goals as goal

pub returns-clause-exact : goal.returns-clause-exact
returns-clause-exact c =
    let end : c.loop-i.i ≡ length c.args.bytes.now = omega arith in
    sym end ∙ sym (first_other c.args.bytes.now c.loop-i.i (omega arith) c.loop-i.invariant (λ h. absurd (omega arith)))

pub returns-then-b-ne0-clause-exact : goal.returns-then-b-ne0-clause-exact
returns-then-b-ne0-clause-exact c = sym (first_other c.args.bytes.now c.loop-i.i (omega arith) c.loop-i.invariant (λ h e. c.if-b-ne0.true e))
