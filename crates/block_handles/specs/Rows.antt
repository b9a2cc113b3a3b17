-- The entries that the rows of the table encode.
use Rattle.std.specs.Prelude.{◌-◌, ◌<◌, ◌==◌, ◌&&◌, if◌then◌else◌, List, Option, Some, None, map}
use Rattle.block_handles.specs.declared.table.Entry.{Entry}
use Rattle.block_handles.specs.declared.table.Row.{Row}

-- the row of a free slot
abbrev pub free_row : Row
free_row = record { place = 0; size = 0; left = 0; padding = 0 }

-- the entry of a row: none if the row has size 0 and no lock
abbrev pub entry_in : Row → Option Entry
entry_in row =
    if (row.size == 0) && (row.left == 0) then None else Some (record { place = row.place; size = row.size; locks = 65535 - row.left })

-- the entries of all rows
abbrev pub entries_in : List Row → List (Option Entry)
entries_in rows = map entry_in rows

-- a slot of the table is in use
abbrev pub IsEntry : Option Entry → Type 0
IsEntry (Some entry) = Unit {0}
IsEntry None = ⊥

-- the block of a slot that is in use has bytes
abbrev pub HasSize : Option Entry → Type 0
HasSize (Some entry) = 0 < entry.size
HasSize None = Unit {0}

-- a slot has a block that is locked
abbrev pub IsLocked : Option Entry → Type 0
IsLocked (Some entry) = 0 < entry.locks
IsLocked None = ⊥
