use Rattle.std.specs.Prelude.{◌≡◌, ◌++◌, flat_map, decimal}
use Rattle.std.proofs.Common.{take}
use Rattle.script_commands.proofs.form.put_each.Given as goal

abbrev pub invariant-loop-number : goal.invariant-loop-number
invariant-loop-number l = l.out.items ≡ l.initial.out.items ++ flat_map (λ n. l.sign ++ decimal n) (take l.number-index l.numbers)
