-- Which of what is listed are groups.
use Rattle.std.specs.Prelude.{◌≡◌, ◌==◌, ℕ, ◌<◌, Bool, false, List, length, Option, None, Some, slice_index_or}
use Rattle.geos_terms.specs.Names.{group_uid}
use Rattle.vm_blocks.specs.declared.entries.Held.{Held}

-- it is a group that is listed
abbrev pub is_group : Option Held → Bool
is_group None = false
is_group (Some held) = held.uid == group_uid

-- a table of which entries are groups
pub record AreGroups (entries : List (Option Held)) (groups : List Bool) : Type 0 where
  pub long : length entries ≡ 1024
  pub marks : length groups ≡ 1024
  pub each : (i : ℕ) → i < 1024 → slice_index_or groups i false ≡ is_group (slice_index_or entries i None)
