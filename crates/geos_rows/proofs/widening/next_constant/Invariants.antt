use Rattle.std.proofs.Common.{◌≤◌, ◌<◌, ℕ}
use Rattle.geos_code.specs.Code.{IsPcOf}
use Rattle.geos_rows.specs.Widening.{IsBound, IsConstantAt}
use Rattle.geos_rows.proofs.widening.next_constant.Given as goal

-- it is one of them, and none before pc is less and not below the bound
abbrev pub invariant-loop-pc : goal.invariant-loop-pc
invariant-loop-pc l = record {
  above : l.bound ≤ l.next;
  is : IsBound l.body.image.now l.body.r l.next;
  least : (pc n : ℕ) → IsPcOf l.body.image.now l.body.r pc → pc < l.pc → IsConstantAt l.body.image.now pc n → l.bound ≤ n → l.next ≤ n;
}
