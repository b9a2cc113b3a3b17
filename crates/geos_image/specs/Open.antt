-- The row that says nothing.
use Rattle.std.specs.Prelude.{false, None, replicate}
use Rattle.geos_image.specs.declared.row.Row.{Row}
use Rattle.geos_image.specs.declared.row.SlotState.TheVariants.{Empty}

-- each bound is 65,535, each slot is empty, each pointer is stale, and no two slots are known to differ
abbrev pub open_row : Row
open_row = record { bounds = replicate 8 65535; slots = replicate 4 Empty; pointers = replicate 4 None; pairs = replicate 6 false }
