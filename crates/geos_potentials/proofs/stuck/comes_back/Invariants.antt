use Rattle.geos_potentials.specs.Stuck.{NotesIdle}
use Rattle.geos_potentials.proofs.Idling.{ComesIdle}
use Rattle.geos_potentials.proofs.stuck.comes_back.Given as goal

-- control comes there, if the notes on idle counters are true
abbrev pub invariant-loop : goal.invariant-loop
invariant-loop l = NotesIdle l.body.image.now l.body.r l.classes → ComesIdle l.body.image.now l.body.r l.from l.at
