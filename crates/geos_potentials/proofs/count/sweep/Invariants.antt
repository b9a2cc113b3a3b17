use Rattle.std.proofs.Common.{◌≤◌, ℕ, List}
use Rattle.geos_code.specs.Code.{ForwardIn}
use Rattle.geos_counters.specs.Steps.{StepsHoldIn}
use Rattle.geos_potentials.specs.Numbers.{numbers_of}
use Rattle.geos_potentials.specs.Count.{Counted, StaysFrom}
use Rattle.geos_potentials.proofs.count.sweep.Given as goal

-- steps are counted from pc on, and the numbers after the routine stay
abbrev pub invariant-loop-pc : goal.invariant-loop-pc
invariant-loop-pc l = (l.body.start ≤ l.pc) × StaysFrom l.body.end (numbers_of l.fn.potentials) (numbers_of l.potentials)
    × ((want : List ℕ) → ForwardIn l.body.image.now l.body.r → StepsHoldIn l.body.image.now l.body.r want
    → Counted l.body.image.now l.body.end want (numbers_of l.potentials) l.pc)
