use Rattle.std.proofs.Common.{◌≡◌, ◌≤◌, ◌-◌}
use Rattle.loop_causes.specs.Noted.{loops_in}
use Rattle.loop_causes.proofs.setting.may_go_far.Given as goal

-- the LOOPs before pc are counted
abbrev pub invariant-loop-pc : goal.invariant-loop-pc
invariant-loop-pc l = record {
  few : l.loops ≤ l.pc - l.body.start;
  loops : l.loops ≡ loops_in l.body.image.now l.body.start (l.pc - l.body.start);
}
