use Rattle.std.proofs.Common.{◌≡◌, ◌<◌, true, sym, ◌∙◌, arith}
use Rattle.geos_image.specs.Repeats.{are_same}
use Rattle.geos_image.proofs.RowLaws.{row_alike}
use Rattle.geos_image.proofs.reader.rows.row_like.Goals as goal

pub returns-clause-exact : goal.returns-clause-exact
returns-clause-exact c =
    let behind : c.args.before < c.args.at = omega (arith, c.requires.order, c.if-before-at.false) in
    let alike : are_same c.args.bytes.now c.args.before c.args.at ≡ true = sym c.are_same.ensures ∙ c.if-not-are_same.false in
    row_alike c.args.borrows c.args.bytes.now (λ i. omega (arith, c.type_inv.bytes i)) c.args.before c.args.at c.args.row.now
    c.requires.order (c.requires.fine behind) alike (c.requires.known behind)
