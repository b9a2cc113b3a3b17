use Rattle.std.proofs.Common.{◌≡◌, List, Bool, ap, ◌∙◌, subst}
use Rattle.geos_image.specs.Parts.{Parts}
use Rattle.geos_flow.specs.declared.search.Heading.TheVariants.{Ahead}
use Rattle.geos_flow.specs.Flow.{step_by, MarksWhatIsLed}
use Rattle.geos_flow.specs.Marks.{no_marks, marked}
use Rattle.geos_asm.specs.Unset.{stays_unset}
use Rattle.geos_asm.proofs.Unsetting.{marks-from}
use Rattle.geos_asm.proofs.unset.unset_from.Goals as goal

pub returns : goal.returns
returns c =
    let unset = c.args.unset.now in
    let counts = stays_unset unset.image.now unset.start unset.count unset.k in
    let begun : c.mark.new.marks ≡ marked no_marks unset.start =
    c.mark.ensures ∙ ap (marked c.no_marks-marks.result) c.from.ensures ∙ ap (λ m. marked m unset.start) c.no_marks-marks.ensures in
    let steps = step_by c.args.graph.now.image.now Ahead counts in
    let led = subst (λ (m : List Bool). MarksWhatIsLed steps m c.follow.new.marks) begun c.follow.ensures in
    marks-from unset.image.now counts unset.start c.follow.new.marks c.requires.within
    (subst (λ (i : Parts). MarksWhatIsLed (step_by i Ahead counts) (marked no_marks unset.start) c.follow.new.marks) c.requires.same led)
