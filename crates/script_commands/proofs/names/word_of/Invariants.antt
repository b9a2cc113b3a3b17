use Rattle.std.proofs.Common.{◌≡◌, ℕ, Option, drop}
use Rattle.script_commands.specs.Names.{names_of, word_behind}
use Rattle.script_commands.proofs.names.word_of.Given as goal

-- no name from this index on is the one to be found
abbrev pub invariant-loop-at : goal.invariant-loop-at
invariant-loop-at l = (found : Option ℕ) → word_behind found l.name (names_of (drop l.at l.names)) ≡ found
