use Rattle.std.proofs.Common.{◌∙◌, ap, not}
use Rattle.std.specs.List.{position_or_len}
use Rattle.std.proofs.Math.Dec.{eqb}
use Rattle.vm_file.proofs.Lengths.{clipped}
use Rattle.vm_file.proofs.fields.zeros_at.Goals as goal

pub returns-clause-exact : goal.returns-clause-exact
returns-clause-exact c =
    c.leading_zeros.ensures.exact ∙ ap (position_or_len (λ b. not (eqb b 0)))
    (clipped c.args.bytes.now c.min-from.result c.min-end.result c.min-from.ensures c.min-end.ensures)
