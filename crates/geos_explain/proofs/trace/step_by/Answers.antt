use Rattle.std.proofs.Common.{◌≡◌, ℕ, ◌∷◌, Some, true, refl, sym, ap, ◌∙◌, subst, arith}
use Rattle.geos_explain.proofs.Below.{KnownPlace, places, has_edge, found-within, places-length, end_of}
use Rattle.geos_explain.specs.declared.ways.Followed.{Followed}
use Rattle.geos_explain.specs.Lost.{ComesTo}
use Rattle.geos_explain.specs.Places.{place_of}
use Rattle.geos_explain.specs.Ways.{loses}
use Rattle.geos_explain.proofs.trace.step_by.Goals as goal

pub pass-requires-clause-there : goal.pass-requires-clause-there
pass-requires-clause-there c =
    let image = c.args.tracing.now.place.now.image.now in
    let within = found-within (places image) c.args.edge.from _ c.requires.there in
    omega (arith, within, places-length image)

pub pass-requires-clause-lacks : goal.pass-requires-clause-lacks
pass-requires-clause-lacks c =
    let from = c.requires.lacks in
    (c.args.edge ∷ from.0, (refl, (end_of c.args.edge c.args.point.now.instr, c.lacks_on.ensures c.if-not-lacks_on.false, from.1)))

pub returns-then-loses : goal.returns-then-loses
returns-then-loses c =
    let place = place_of c.args.tracing.now.place.now in
    let edge = c.args.edge in
    let point = c.args.point.now in
    let sound = c.requires.sound in
    let finds = sound.finds in
    let lacks = c.lacks_on.ensures c.if-not-lacks_on.false in
    let both : Some lacks.comes.point ≡ Some point = sym lacks.comes.there ∙ c.requires.there in
    let same : lacks.comes.point ≡ point = cc in
    let comes : ComesTo place edge (end_of edge point.instr) = record {
      point = point;
      there = c.requires.there;
      alike = lacks.comes.alike;
      has = subst (λ (q : KnownPlace). has_edge q.instr edge.branch ≡ true) same lacks.comes.has;
      ends = refl;
    } in
    let followed : ℕ → Followed = λ n. record { p = n; hint = c.hint_at-followed.result.hint } in
    record {
      passed = sound.passed;
      finds = record {
        holds = record {
          lost = record {
            to = end_of edge point.instr;
            comes = comes;
            known = c.hint_at-followed.ensures.hint;
            loses = ap (λ n. loses place.image (followed n) edge point) (sym c.hint_at-followed.ensures.pointer) ∙ sym c.loses.ensures ∙ c.if-loses.true;
            way = c.requires.lacks;
          };
          meeting = finds.holds.meeting;
          end = finds.holds.end;
        };
        none = λ nothing. (let none = nothing.0 in absurd cc);
      };
    }
