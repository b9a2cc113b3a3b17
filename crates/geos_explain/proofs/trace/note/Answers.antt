use Rattle.std.proofs.Common.{◌≡◌, ℕ, None, sym, ap, ◌∙◌, subst}
use Rattle.std.specs.Prelude.{IfSome}
use Rattle.geos_explain.proofs.Below.{marked, Has}
use Rattle.geos_explain.specs.declared.trace.Trace.{Trace}
use Rattle.geos_explain.specs.Lost.{LacksFrom, IsEnd, IsLost, IsMeeting, NamesNothing}
use Rattle.geos_explain.specs.Places.{place_of}
use Rattle.geos_explain.proofs.Losing.{either-one, marks-more, or-none, some-none}
use Rattle.geos_explain.proofs.trace.note.Goals as goal
use Rattle.geos_explain.proofs.trace.note.Goals.{then-is_none+then-is_some, else-is_none}

pub returns : goal.returns
returns c =
    let place = place_of c.args.tracing.now.place.now in
    let p = c.args.tracing.now.p in
    let old = c.args.trace.now in
    let sound = c.requires.sound in
    let marks = subst (λ m. (pc : ℕ) → Has m pc → LacksFrom place p pc) (sym (c.mark.ensures ∙ ap (marked old.passed) c.from.ensures))
    (marks-more place p old.passed c.args.ways.to sound.passed c.requires.ways.lacks) in
    let finds = sound.finds in
    let holds = finds.holds in
    let meeting = c.or-met.result in
    let Noted : Trace → Type 0 = λ t. ((pc : ℕ) → Has t.passed pc → LacksFrom place p pc) × IfSome t.finding.end (λ end. IsEnd place p end)
    × IfSome t.finding.lost (λ loss. IsLost place p loss)
    × (NamesNothing (record { meeting = meeting; end = t.finding.end; lost = t.finding.lost }) → NamesNothing old.finding) in
    let none : meeting ≡ None → old.finding.meeting ≡ None = λ is. or-none old.finding.meeting c.meeting_at.result (sym c.or-met.ensures ∙ is) in
    let noted : Noted c.if-is_none.trace = elim c.if-is_none.branch [
      | then-is_none+then-is_some w ↦ subst Noted (sym w.trace-is) (
        marks,
        c.end_at-end.ensures.end,
        holds.lost,
        λ nothing. absurd (some-none meeting (sym w.is_some.ensures ∙ w.if-is_some.true) nothing.1),
      )
      | else-is_none w ↦ subst Noted (sym w.trace-is) (
        marks,
        subst (λ o. IfSome o (λ end. IsEnd place p end)) (sym w.or-trace.ensures)
            (either-one (λ end. IsEnd place p end) old.finding.end c.end_at-end.result holds.end c.end_at-end.ensures.end),
        holds.lost,
        λ nothing. (nothing.0, none nothing.1, or-none old.finding.end c.end_at-end.result (sym w.or-trace.ensures ∙ nothing.2)),
      )
    ] in
    record {
      passed = noted.0;
      finds = record {
        holds = record {
          lost = noted.2;
          meeting = subst (λ o. IfSome o (λ m. IsMeeting place p m)) (sym c.or-met.ensures)
              (either-one (λ m. IsMeeting place p m) old.finding.meeting c.meeting_at.result holds.meeting c.meeting_at.ensures.meets);
          end = noted.1;
        };
        none = λ nothing. finds.none (noted.3 nothing);
      };
    }
