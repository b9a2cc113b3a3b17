use Rattle.std.proofs.Common.{◌≡◌, ◌≤◌, ◌<◌, ℕ, Bool}
use Rattle.geos_code.specs.Code.{IsPcOf}
use Rattle.geos_potentials.specs.Least.{PayEnds, NoneOutside, IsLookedAt, link_at, steps_at}
use Rattle.geos_potentials.proofs.constants.begin.Given as goal

-- the paths from the instructions before pc are ends; of the edges that start in the routine before pc all are
-- examined, and of those that start outside of it none
abbrev pub invariant-loop-pc : goal.invariant-loop-pc
invariant-loop-pc l = record {
  outside : NoneOutside l.body.image.now l.body.r l.units.lengths.links;
  ends : (want : ℕ → ℕ) → PayEnds l.body.image.now l.body.r l.fn.units.lengths.ways want → (pc : ℕ)
      → (IsPcOf l.body.image.now l.body.r pc → pc < l.pc) → steps_at l.units.lengths.ways pc ≤ want pc;
  looked : (pc : ℕ) (branch : Bool) → IsPcOf l.body.image.now l.body.r pc → pc < l.pc
      → IsLookedAt l.graph.arcs l.splitting.jumps l.units.pay pc branch (link_at l.units.lengths.links pc branch);
  pay : l.units.pay ≡ l.fn.units.pay;
}
