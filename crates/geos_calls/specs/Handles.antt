-- Lists by handles: an item for each handle, that of handle 1 first.
use Rattle.std.specs.Prelude.{ℕ, suc, zero, nat_le, if◌then◌else◌, List, slice_index_or, slice_set, Option, Some, None, is_none, position, option_map}

-- what a list by handles has for a handle, of which the first is 1
abbrev pub at_handle : {X : Type 0} → X → List X → ℕ → X
at_handle none entries zero = none
at_handle none entries (suc h) = slice_index_or entries h none

-- a list by handles with something else for a handle; 0, and a handle past the list's end,
-- change nothing
abbrev pub with_entry_at : {X : Type 0} → List X → ℕ → X → List X
with_entry_at entries zero x = entries
with_entry_at entries (suc h) x = slice_set entries h x

-- the lowest handle for which a list has nothing
abbrev pub lowest_of : {X : Type 0} → List (Option X) → Option ℕ
lowest_of entries = option_map suc (position is_none entries)

-- a handle, if it is no higher than the limit
abbrev pub up_to : ℕ → Option ℕ → Option ℕ
up_to limit None = None
up_to limit (Some h) = if nat_le h limit then Some h else None
