use Rattle.std.proofs.Common.{◌≡◌, true, refl, sym, ap, ◌∙◌}
use Rattle.geos_explain.proofs.Below.{Row, pointer_at, is_stale, has_edge}
use Rattle.geos_explain.specs.Places.{comes_alike, place_of}
use Rattle.geos_explain.proofs.trace.lacks_on.Goals as goal
use Rattle.geos_explain.proofs.trace.lacks_on.Goals.{then-comes_alike, else-comes_alike}

pub returns-then-has_edge : goal.returns-then-has_edge
returns-then-has_edge c is =
    let place = place_of c.args.place.now in
    let edge = c.args.edge in
    let point = c.args.point.now in
    let tests : (comes_alike place edge.from ≡ true) × (has_edge point.instr edge.branch ≡ true) = elim c.if-comes_alike.branch [
      | then-comes_alike w ↦ (sym c.comes_alike.ensures ∙ w.if-comes_alike.true, sym w.has_edge.ensures ∙ sym w.value-is ∙ c.if-has_edge.true)
      | else-comes_alike w ↦ absurd cc
    ] in
    record {
      comes = record { point = point; there = c.requires; alike = tests.0; has = tests.1; ends = refl };
      stale = sym (c.is_stale.ensures ∙ ap is_stale (c.pointer_at.ensures ∙ ap (λ (row : Row). pointer_at row c.args.p) c.behind.ensures)) ∙ is;
    }
