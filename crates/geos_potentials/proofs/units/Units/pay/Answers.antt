use Rattle.std.proofs.Common.{◌≡◌, sym, ap, ◌∙◌, subst}
use Rattle.geos_potentials.specs.Demands.{AreWanted}
use Rattle.geos_potentials.specs.declared.units.Units.{Units}
use Rattle.geos_potentials.proofs.units.Units.pay.Goals.{then-nest, else-nest}
use Rattle.geos_potentials.proofs.units.Units.pay.Goals as goal

pub returns : goal.returns
returns c = λ before.
    let noted : c.if-nest.self.pay ≡ c.args.self.now.pay = elim c.if-nest.branch [
      | then-nest w ↦ ap (λ (u : Units). u.pay) w.self-is ∙ w.note_before.ensures
      | else-nest w ↦ ap (λ (u : Units). u.pay) w.self-is
    ] in
    c.set_unit.ensures (subst (AreWanted c.args.graph.now.arcs) (sym (c.find_unit.ensures ∙ noted)) before)
