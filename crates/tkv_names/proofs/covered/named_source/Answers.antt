use Rattle.std.proofs.Common.{ℕ, List, subst}
use Rattle.std.specs.Global.{Vec}
use Rattle.tkv_syntax.specs.declared.item.Item.{Item}
use Rattle.tkv_places.specs.declared.placed.Placed.{Placed}
use Rattle.tkv_names.specs.Seen.{AreNamed}
use Rattle.tkv_names.proofs.covered.named_source.Goals as goal

pub returns-clause-named : goal.returns-clause-named
returns-clause-named c = subst (λ (text : List ℕ). AreNamed text c.args.items.items c.args.placed.items c.in_ok-named.named.items) c.deref.ensures.value
    (subst (λ (items : List Item). AreNamed c.deref.result.now items c.args.placed.items c.in_ok-named.named.items) c.deref-2.ensures.value
    (subst (λ (placed : List (Vec Placed)). AreNamed c.deref.result.now c.deref-2.result.now placed c.in_ok-named.named.items) c.deref-3.ensures.value
    c.in_ok-named.ensures))
