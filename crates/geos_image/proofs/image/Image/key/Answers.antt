use Rattle.std.proofs.Common.{◌≡◌, true, false, subst, sym, ap, ◌∙◌, rules}
use Rattle.std.specs.Prelude.{slice_index_or}
use Rattle.geos_image.specs.Keys.{is_key}
use Rattle.geos_image.specs.Legal.{is_image}
use Rattle.geos_image.specs.Parts.{Parts}
use Rattle.geos_image.proofs.Given.{gives-key, key-given}
use Rattle.geos_image.proofs.image.Image.key.Goals as goal

pub returns-then-self-clause-key : goal.returns-then-self-clause-key
returns-then-self-clause-key c =
    let image = c.args.self.now in
    let legal : is_image image ≡ true = subst (λ (p : Parts). is_image p ≡ true) c.self.view_is c.self.invariant.0 in
    let keyed : image.keyed ≡ true = ap (λ (p : Parts). p.keyed) (sym c.self.view_is) ∙ c.if-self.true in
    c.gives.ensures ∙ key-given image legal c.args.pc c.requires keyed

pub returns-then-self-clause-given : goal.returns-then-self-clause-given
returns-then-self-clause-given c = λ e. sym c.gives.ensures ∙ e

pub returns-else-self-clause-given : goal.returns-else-self-clause-given
returns-else-self-clause-given c =
    let image = c.args.self.now in
    let legal : is_image image ≡ true = subst (λ (p : Parts). is_image p ≡ true) c.self.view_is c.self.invariant.0 in
    let is : slice_index_or c.keys_of.result c.args.pc false ≡ is_key image c.args.pc = search rules in
    (λ e. gives-key image legal c.args.pc c.requires (sym is ∙ e))
