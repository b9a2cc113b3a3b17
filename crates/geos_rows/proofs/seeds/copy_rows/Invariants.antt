use Rattle.geos_rows.specs.Reached.{Copies}
use Rattle.geos_rows.proofs.seeds.copy_rows.Given as goal

-- the rows before pc are copied
abbrev pub invariant-loop-pc : goal.invariant-loop-pc
invariant-loop-pc l = Copies l.body.start l.pc l.from l.fn.known l.known
