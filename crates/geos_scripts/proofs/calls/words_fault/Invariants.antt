use Rattle.std.proofs.Common.{◌≡◌, ◌≤◌, ◌-◌, ◌+◌, drop, length, Some}
use Rattle.std.specs.Prelude.{slice_get}
use Rattle.geos_image.specs.declared.routine.Routine.{Routine}
use Rattle.geos_text.specs.Words.{words}
use Rattle.geos_scripts.specs.Faults.{command_words}
use Rattle.geos_scripts.specs.Walks.{IsWalked}
use Rattle.geos_scripts.proofs.calls.words_fault.Given as goal

abbrev pub invariant-loop-word : goal.invariant-loop-word
invariant-loop-word l =
    (l.at ≤ length l.line)
    × (l.passed.numbers + l.passed.blocks ≤ l.at)
    × ((routine : Routine) → slice_get l.image.routines l.r ≡ Some routine
    → IsWalked l.names.uses routine (command_words l.names.uses (words (drop l.from l.line))) (command_words l.names.uses (words (drop l.at l.line)))
    l.passed)

abbrev pub decreases-loop-word : goal.decreases-loop-word
decreases-loop-word l = length l.line - l.at
