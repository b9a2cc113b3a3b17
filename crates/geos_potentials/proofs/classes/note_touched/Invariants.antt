use Rattle.geos_code.specs.Code.{IsPcOf}
use Rattle.geos_potentials.specs.Spreads.{ComeBehind, ForgetsIt}
use Rattle.geos_potentials.proofs.classes.note_touched.Given as goal

-- each note comes from a call that touches the counter
abbrev pub invariant-loop-pc : goal.invariant-loop-pc
invariant-loop-pc l = ComeBehind l.graph.arcs l.body.start (IsPcOf l.body.image.now l.body.r) ForgetsIt l.touched
