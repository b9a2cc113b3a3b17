-- As many words as fit are written, and the rest stays.
use Rattle.std.proofs.Common.{◌∙◌, ap, arith, ◌++◌, drop}
use Rattle.takhvoi.proofs.Found.{filled}
use Rattle.takhvoi.proofs.images.put_words.Goals as goal

pub returns : goal.returns
returns c =
    let least = c.min-n.ensures in
    ap (λ ws. ws ++ drop c.min-n.result c.args.into.now) c.copy_from_slice.ensures.after
    ∙ filled c.args.into.now c.args.words.now c.min-n.result (omega (arith, least)) (omega (arith, least)) (λ less. omega (arith, least, less))
