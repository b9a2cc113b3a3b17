use Rattle.std.proofs.Common.{◌≡◌, ◌≤◌, ℕ}
use Rattle.geos_code.specs.Known.{known_at}
use Rattle.geos_rows.specs.Reached.{Keeps}
use Rattle.geos_rows.proofs.rows.complete.Given as goal

-- what was known below pc is still known, and nothing has changed from pc on
abbrev pub invariant-loop-pc : goal.invariant-loop-pc
invariant-loop-pc l = record {
  kept : Keeps l.body.start l.pc l.fn.known l.fn.known l.known;
  ahead : (k : ℕ) → l.pc ≤ k → known_at l.known k ≡ known_at l.fn.known k;
}
