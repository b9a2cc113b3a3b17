-- Which pointers of a row lead into empty slots.
use Rattle.std.specs.Prelude.{if◌then◌else◌, List, map, Option, None}
use Rattle.geos_explain.specs.Below.{Row, Pointer, SlotState, open_row, leads_nowhere}

-- the pointer, where it leads into an empty slot
abbrev pub nowhere_only : List SlotState → Option Pointer → Option Pointer
nowhere_only slots pointer = if leads_nowhere slots pointer then pointer else None

-- the pointers of a row that lead into empty slots, and nothing else
abbrev pub leading_nowhere : Row → Row
leading_nowhere row = record open_row { pointers = map (nowhere_only row.slots) row.pointers }
