use Rattle.std.proofs.Common.{◌≡◌, ◌++◌, length}
use Rattle.std.specs.Prelude.{option_map}
use Rattle.geos_text.specs.Words.{words}
use Rattle.script_commands.specs.Names.{names_of, in_place}
use Rattle.script_commands.proofs.names.in_place.Given as goal

abbrev pub invariant-loop-word : goal.invariant-loop-word
invariant-loop-word l = in_place (names_of l.names) (words l.line) ≡ option_map (λ own. l.text.items ++ own)
    (in_place (names_of l.names) (words l.rest))

abbrev pub decreases-loop-word : goal.decreases-loop-word
decreases-loop-word l = length (words l.rest)
