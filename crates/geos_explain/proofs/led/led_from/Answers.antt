use Rattle.std.proofs.Common.{◌≡◌, List, Bool, ap, ◌∙◌, subst}
use Rattle.geos_explain.proofs.Below.{Parts, step_by, MarksWhatIsLed, no_marks, marked}
use Rattle.geos_explain.proofs.Leads.{marks-leads}
use Rattle.geos_explain.proofs.led.led_from.Goals as goal

pub returns : goal.returns
returns g c =
    let counts = g.C.Counting.counted c.args.counting.now in
    let begun : c.mark.new.marks ≡ marked no_marks c.args.start =
    c.mark.ensures ∙ ap (marked c.no_marks-marks.result) c.from.ensures ∙ ap (λ m. marked m c.args.start) c.no_marks-marks.ensures in
    let led = subst (λ (m : List Bool). MarksWhatIsLed (step_by c.graph.result.now.image.now c.args.heading counts) m c.follow.new.marks)
    begun c.follow.ensures in
    marks-leads c.args.image.now c.args.heading counts c.args.start c.follow.new.marks c.requires
    (subst (λ (i : Parts). MarksWhatIsLed (step_by i c.args.heading counts) (marked no_marks c.args.start) c.follow.new.marks) c.graph.ensures led)
