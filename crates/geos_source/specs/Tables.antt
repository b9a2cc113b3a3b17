-- What a table's names stand for.
use Rattle.std.specs.Prelude.{ℕ, ◌%◌, if◌then◌else◌, List, Option, None, slice_get}
use Rattle.std.specs.Option.{option_and_then}
use Rattle.std.specs.Ordering.{nat_cmp}
use Rattle.std.specs.BTreeMap as tree
use Rattle.geos_source.specs.declared.names.Table as code
use Rattle.geos_source.specs.declared.names.TheConstants.{TREES}
use Rattle.geos_source.specs.Keys.{key_of, is_keyed}
use Rattle.geos_source.specs.Names.{Table}

-- what a key stands for in trees: its value in the tree whose number is the remainder of the key
unfoldable pub value_at : List (tree.BTreeMap ℕ ℕ) → ℕ → Option ℕ
value_at trees key = option_and_then (λ (t : tree.BTreeMap ℕ ℕ). tree.get nat_cmp t key) (slice_get trees (key % TREES))

-- a table as a map of names; what has no key stands for nothing
unfoldable pub table_of : code.Table → Table
table_of table name = if is_keyed name then value_at table.trees.items (key_of name) else None
