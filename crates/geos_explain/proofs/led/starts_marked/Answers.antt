use Rattle.std.proofs.Common.{◌≡◌, ◌<◌, ◌+◌, ℕ, Bool, List, length, ap, ◌∙◌, sym, subst, arith}
use Rattle.geos_explain.proofs.Below.{marked, mark-grows, none-full, start_of}
use Rattle.geos_explain.specs.Led.{MarksStarts}
use Rattle.geos_explain.proofs.Reached.{starts-none, starts-more}
use Rattle.geos_explain.proofs.led.starts_marked.Goals as goal

pub loop-r-init : goal.loop-r-init
loop-r-init c = record {
  long = ap length c.no_marks-marks.ensures ∙ none-full;
  starts = subst (λ (m : List Bool). MarksStarts c.args.image.now 0 m) (sym c.no_marks-marks.ensures) (starts-none c.args.image.now);
}

pub loop-r-preserved : goal.loop-r-preserved
loop-r-preserved c =
    let image = c.args.image.now in
    let marks = c.loop-r.marks in
    let here = start_of image.routines c.loop-r.r in
    let within : c.loop-r.r < length image.routines = omega (arith, c.loop-r-test.true, c.count-r-end.ensures.count) in
    let is : c.mark.new.marks ≡ marked marks here = c.mark.ensures ∙ ap (marked marks) (c.from.ensures ∙ c.start.ensures.start) in
    let grows = mark-grows marks here in
    let more = starts-more image c.loop-r.r marks c.loop-r.invariant.long c.count-r-end.ensures.legal within c.loop-r.invariant.starts in
    record {
      long = ap length is ∙ grows.len ∙ c.loop-r.invariant.long;
      starts = subst (λ (m : List Bool). MarksStarts image (c.loop-r.r + 1) m) (sym is) more;
    }

pub returns : goal.returns
returns c =
    let all : c.loop-r.r ≡ length c.args.image.now.routines = omega (arith, c.loop-r-test.false, c.count-r-end.ensures.count) in
    subst (λ (n : ℕ). MarksStarts c.args.image.now n c.loop-r.marks) all c.loop-r.invariant.starts
