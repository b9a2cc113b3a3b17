use Rattle.std.proofs.Common.{subst}
use Rattle.geos_explain.proofs.Below.{Parts, step_by, MarksWhatIsLed, Ahead}
use Rattle.geos_explain.specs.Led.{stays}
use Rattle.geos_explain.proofs.Reached.{marks-reached}
use Rattle.geos_explain.proofs.led.reached.Goals as goal

pub returns : goal.returns
returns c =
    let image = c.args.image.now in
    marks-reached image c.starts_marked-marks.result c.follow.new.marks c.starts_marked-marks.ensures
    (subst (λ (i : Parts). MarksWhatIsLed (step_by i Ahead (stays image)) c.starts_marked-marks.result c.follow.new.marks) c.graph.ensures c.follow.ensures)
