use Rattle.geos_explain.specs.Places.{place_of}
use Rattle.geos_explain.proofs.Losing.{none-passed}
use Rattle.geos_explain.proofs.trace.step_aside.Goals as goal

pub returns-then-trace : goal.returns-then-trace
returns-then-trace c =
    none-passed (place_of c.args.tracing.now.place.now) c.args.tracing.now.p _ c.no_marks-trace.ensures c.requires.sound.finds

pub step_by-requires-clause-sound : goal.step_by-requires-clause-sound
step_by-requires-clause-sound c =
    none-passed (place_of c.args.tracing.now.place.now) c.args.tracing.now.p _ c.no_marks-trace.ensures c.requires.sound.finds

pub returns-in_default : goal.returns-in_default
returns-in_default c =
    none-passed (place_of c.args.tracing.now.place.now) c.args.tracing.now.p _ c.no_marks-trace.ensures c.requires.sound.finds
