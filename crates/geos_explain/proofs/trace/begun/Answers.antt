use Rattle.std.proofs.Common.{◌≡◌, ℕ, Bool, List, sym, ap, ◌∙◌, subst}
use Rattle.geos_explain.proofs.Below.{no_marks, marked, Has, none-marked}
use Rattle.geos_explain.specs.Lost.{LacksFrom}
use Rattle.geos_explain.specs.Places.{place_of}
use Rattle.geos_explain.proofs.Losing.{marks-more, ways-open}
use Rattle.geos_explain.proofs.trace.begun.Goals as goal

pub returns : goal.returns
returns c =
    let place = place_of c.args.tracing.now.place.now in
    let p = c.args.tracing.now.p in
    let ways = c.args.ways in
    let meeting = c.meeting_at-meeting.ensures in
    let end = c.end_at-end.ensures in
    let is : c.mark.new.marks ≡ marked no_marks ways.to =
    c.mark.ensures ∙ ap (marked c.no_marks-passed.result) c.from.ensures ∙ ap (λ (m : List Bool). marked m ways.to) c.no_marks-passed.ensures in
    record {
      passed = subst (λ m. (pc : ℕ) → Has m pc → LacksFrom place p pc) (sym is)
          (marks-more place p no_marks ways.to (λ pc has. absurd (none-marked pc has)) c.requires.ways.lacks);
      finds = record {
        holds = record { lost = tt; meeting = meeting.meets; end = end.end };
        none = λ nothing. ways-open place p ways c.meeting_at-meeting.result c.end_at-end.result c.requires.here c.requires.ways
            meeting.none end.none nothing.1 nothing.2;
      };
    }
