use Rattle.std.proofs.Common.{◌≡◌, ℕ, List, refl, ap, ◌∙◌, subst}
use Rattle.std.specs.Global.{Vec}
use Rattle.tkv_places.specs.declared.placed.Placed.{Placed}
use Rattle.tkv_names.specs.Seen.{MeansNamed}
use Rattle.tkv_names.proofs.Noted.{got}
use Rattle.tkv_names.proofs.covered.covering.Goals as goal

pub returns-then-means_named : goal.returns-then-means_named
returns-then-means_named c index one e there = subst (λ (p : List Placed). MeansNamed c.args.text.now c.args.items.now index p) same
    (subst (λ (k : ℕ). MeansNamed c.args.text.now c.args.items.now k c.deref.result.now) is (c.if-means_named.ensures refl))
  where
    is : c.args.index ≡ index
    is = cc

    same : c.deref.result.now ≡ one.items
    same = c.deref.ensures.value ∙ ap (λ (v : Vec Placed). v.items) (c.in-Some.ensures.lookup.1 ∙ got c.args.placed.now c.args.r one c.in-Some.one.now there)
