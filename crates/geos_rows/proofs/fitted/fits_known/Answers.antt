use Rattle.std.proofs.Common.{true, sym, ◌∙◌, ◌≡◌, subst}
use Rattle.std.proofs.lemmas.Option.{same_Some}
use Rattle.geos_image.specs.declared.row.Row.{Row}
use Rattle.geos_verify.specs.Rows.{fits}
use Rattle.geos_rows.specs.Weakest.{weakest}
use Rattle.geos_rows.proofs.Weakening.{fits-weakest}
use Rattle.geos_rows.proofs.fitted.fits_known.Goals as goal

pub returns-in-Some-clause-weak : goal.returns-in-Some-clause-weak
returns-in-Some-clause-weak c = λ first read alike.
    let row = c.args.row.now in
    let is : weakest first ≡ c.in-Some.known = same_Some (weakest first) c.in-Some.known (sym read ∙ c.in-Some.is) in
    c.fits.ensures ∙ subst (λ (x : Row). fits row x ≡ true) is (fits-weakest row first c.shape.ensures c.words.ensures alike)
