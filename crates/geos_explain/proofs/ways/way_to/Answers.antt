use Rattle.std.proofs.Common.{◌≡◌, true, false, Some, None, sym, ap, ◌∙◌, subst}
use Rattle.geos_explain.proofs.Below.{end_in, IsFirstInto}
use Rattle.geos_explain.specs.declared.ways.Way.TheVariants.{Entry}
use Rattle.geos_explain.specs.Lost.{IsWay}
use Rattle.geos_explain.specs.Places.{place_of}
use Rattle.geos_explain.specs.Ways.{is_as, is_sought}
use Rattle.geos_explain.proofs.FoundWays.{edge-sought, none-sought}
use Rattle.geos_explain.proofs.ways.way_to.Goals as goal
use Rattle.geos_explain.proofs.ways.way_to.Goals.{else-to-start-via-then-to-start+else-is_as, else-to-start-via-else-to-start}

pub returns-in-Some : goal.returns-in-Some
returns-in-Some c =
    let edge = c.in-Some.edge in
    let into = c.first_into.ensures.into edge c.in-Some.is in
    edge-sought (place_of c.args.place.now) c.args.sought c.args.to edge
    (subst (λ image. end_in image edge ≡ Some c.args.to) c.graph.ensures into.ends) into.is_counted

pub returns-in-None : goal.returns-in-None
returns-in-None c =
    let place = place_of c.args.place.now in
    let sought = c.args.sought in
    let to = c.args.to in
    let not_entry : IsWay place sought.p sought.known Entry to → ⊥ = λ is. elim c.else-to-start.branch [
      | else-to-start-via-then-to-start+else-is_as w ↦
          let both : true ≡ false = sym is.1 ∙ ap (is_as sought.known) (sym w.entry_pointer.ensures) ∙ sym w.is_as.ensures ∙ w.if-is_as.false in
          absurd cc
      | else-to-start-via-else-to-start w ↦ absurd (w.if-to-start.false (is.0 ∙ sym c.start.ensures.start))
    ] in
    let first = subst (λ o. IsFirstInto c.graph.result.now.image.now (λ edge end. is_sought place sought edge) to o) c.in-None.is c.first_into.ensures in
    none-sought place sought to c.requires not_entry
    (subst (λ image. IsFirstInto image (λ edge end. is_sought place sought edge) to None) c.graph.ensures first)
