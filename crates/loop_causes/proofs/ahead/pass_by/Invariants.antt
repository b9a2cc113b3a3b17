use Rattle.std.proofs.Common.{◌≡◌, ◌≤◌, length}
use Rattle.loop_causes.proofs.Longest.{Measured}
use Rattle.loop_causes.proofs.ahead.pass_by.Given as goal

-- the longest ways from pc on are known
abbrev pub invariant-loop-pc : goal.invariant-loop-pc
invariant-loop-pc l = (l.body.start ≤ l.pc) × (length l.longest ≡ 4096) × Measured l.body.image.now l.body.r l.body.end l.pc l.longest
