-- As many records as fit are written, and the rest stays.
use Rattle.std.proofs.Common.{◌∙◌, ap, arith, ◌++◌, drop}
use Rattle.takhvoi.proofs.Listed.{written-over}
use Rattle.takhvoi.proofs.records.put_records.Goals as goal

pub returns : goal.returns
returns g c =
    let least = c.min-n.ensures in
    ap (λ ws. ws ++ drop c.min-n.result c.args.into.now) c.copy_from_slice.ensures.after
    ∙ written-over c.args.into.now c.args.records.now c.min-n.result (omega (arith, least)) (omega (arith, least)) (λ less. omega (arith, least, less))
