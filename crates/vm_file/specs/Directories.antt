-- Which directories there are, and what they take in an area.
use Rattle.std.specs.Prelude.{◌≡◌, ℕ, ◌+◌, Bool, true, ◌&&◌, ◌||◌, not, nat_lt, nat_le, ◌==◌, List, [], ◌∷◌}
use Rattle.std.specs.List.{list_any}
use Rattle.vm_file.specs.declared.directory.Entry.{Entry}
use Rattle.vm_file.specs.declared.directory.Directory.{Directory}
use Rattle.geos_terms.specs.Heap.{is_block_size}
use Rattle.geos_terms.specs.Names.{group_uid}

-- the greatest handle, and the greatest number of blocks
abbrev pub most_blocks : ℕ
most_blocks = 1024

-- a block that is no group has this handle
abbrev pub has_block : List Entry → ℕ → Bool
has_block entries h = list_any (λ e. (e.h == h) && not (e.uid == group_uid)) entries

-- a group has this handle
abbrev pub has_group : List Entry → ℕ → Bool
has_group entries h = list_any (λ e. (e.h == h) && (e.uid == group_uid)) entries

-- a legal entry after an entry with this handle: a higher handle, at most 1,024, and a legal block size
abbrev pub is_entry : ℕ → Entry → Bool
is_entry last e = nat_lt last e.h && nat_le e.h most_blocks && is_block_size e.len

-- legal entries after an entry with this handle, with ascending handles
abbrev pub are_entries : ℕ → List Entry → Bool
are_entries last [] = true
are_entries last (e ∷ entries) = is_entry last e && are_entries e.h entries

-- it may be the map block: 0, or a block that is no group
abbrev pub may_be_map_block : List Entry → ℕ → Bool
may_be_map_block entries h = (h == 0) || has_block entries h

-- it may be the map item's group: 0, or a group
abbrev pub may_be_map_group : List Entry → ℕ → Bool
may_be_map_group entries g = (g == 0) || has_group entries g

-- it may be the map item: 0 if there is no group
abbrev pub may_be_map_item : ℕ → ℕ → Bool
may_be_map_item g item = not (g == 0) || (item == 0)

-- they may be the map block, and the group and chunk of the map item
abbrev pub AreMaps : List Entry → ℕ → ℕ → ℕ → Type 0
AreMaps entries h g item = (may_be_map_block entries h ≡ true) × (may_be_map_group entries g ≡ true) × (may_be_map_item g item ≡ true)

-- a legal directory
abbrev pub is_directory : Directory → Bool
is_directory d =
    are_entries 0 d.entries.items
    && may_be_map_block d.entries.items d.map_block
    && may_be_map_group d.entries.items d.map_item.0
    && may_be_map_item d.map_item.0 d.map_item.1

-- what entries take in an area: six bytes each, and the blocks
abbrev pub entries_length : List Entry → ℕ
entries_length [] = 0
entries_length (e ∷ entries) = (6 + e.len) + entries_length entries

-- what a directory takes in an area
abbrev pub directory_length : Directory → ℕ
directory_length d = 8 + entries_length d.entries.items
