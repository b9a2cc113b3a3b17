use Rattle.std.proofs.Common.{◌≤◌, ◌<◌, ◌⊎◌, ℕ}
use Rattle.geos_code.specs.Code.{TargetAhead}
use Rattle.geos_rows.specs.Turns.{Waits}
use Rattle.geos_rows.proofs.rows.wait_to_go_back.Given as goal

-- the places before pc wait that an edge leads back from
abbrev pub invariant-loop-pc : goal.invariant-loop-pc
invariant-loop-pc l = (pc : ℕ) → l.body.start ≤ pc → pc < l.pc → TargetAhead l.body.image.now l.body.r pc ⊎ Waits l.waiting pc
