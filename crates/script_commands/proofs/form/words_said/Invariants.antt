use Rattle.std.proofs.Common.{◌≡◌, ◌≤◌}
use Rattle.script_commands.specs.Forms.{words_said}
use Rattle.script_commands.proofs.form.words_said.Given as goal

abbrev pub invariant-loop-count : goal.invariant-loop-count
invariant-loop-count l = (l.count ≤ 8) × (words_said l.fn.words 8 ≡ words_said l.fn.words l.count)

abbrev pub decreases-loop-count : goal.decreases-loop-count
decreases-loop-count l = l.count
