use Rattle.std.proofs.Common.{◌≡◌, length}
use Rattle.geos_text.specs.Words.{words}
use Rattle.geos_source.specs.Lines.{parted}
use Rattle.geos_source.specs.Declarations.{with_labels}
use Rattle.geos_source.specs.Views.{declared_of}
use Rattle.geos_source.proofs.declarations.Declarations.add_labels.Given as goal

abbrev pub invariant-loop-word : goal.invariant-loop-word
invariant-loop-word l =
    ((parted (words l.fn.said)).statement ≡ (parted (words l.rest)).statement)
    × (with_labels l.line (parted (words l.fn.said)).labels (declared_of l.fn.self) ≡ with_labels l.line
    (parted (words l.rest)).labels (declared_of l.self))

abbrev pub decreases-loop-word : goal.decreases-loop-word
decreases-loop-word l = length (words l.rest)
