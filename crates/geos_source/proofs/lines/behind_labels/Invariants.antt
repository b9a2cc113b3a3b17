use Rattle.std.proofs.Common.{◌≡◌, length}
use Rattle.std.specs.Prelude.{not, ◌||◌}
use Rattle.geos_text.specs.Words.{is_empty, words}
use Rattle.geos_source.specs.Lines.{parted}
use Rattle.geos_source.proofs.lines.behind_labels.Given as goal

abbrev pub invariant-loop-word : goal.invariant-loop-word
invariant-loop-word l =
    (not (is_empty (parted (words l.fn.said)).labels) ≡ (l.has_labels || not (is_empty (parted (words l.rest)).labels)))
    × ((parted (words l.fn.said)).statement ≡ (parted (words l.rest)).statement)

abbrev pub decreases-loop-word : goal.decreases-loop-word
decreases-loop-word l = length (words l.rest)
