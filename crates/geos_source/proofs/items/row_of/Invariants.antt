use Rattle.std.proofs.Common.{◌≡◌, length}
use Rattle.std.specs.Prelude.{None}
use Rattle.geos_image.specs.Open.{open_row}
use Rattle.geos_text.specs.Words.{words}
use Rattle.geos_source.specs.Items.{with_items}
use Rattle.geos_source.proofs.items.row_of.Given as goal

abbrev pub invariant-loop-word : goal.invariant-loop-word
invariant-loop-word l =
    with_items (words l.fn.items) (record { row = open_row; fault = None }) ≡ with_items (words l.rest) (record { row = l.row; fault = l.fault })

abbrev pub decreases-loop-word : goal.decreases-loop-word
decreases-loop-word l = length (words l.rest)
