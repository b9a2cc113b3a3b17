-- The keys of names.
use Rattle.std.specs.Prelude.{ℕ, Bool, ◌&&◌, ◌==◌, nat_lt, List, length}
use Rattle.std.specs.Int.{w128, from_le_bytes}
use Rattle.std.specs.List.{list_all}

-- a name's key: the number whose bytes, the lowest first, are the name
unfoldable pub key_of : List ℕ → ℕ
key_of name = from_le_bytes w128 name

-- whether a list has a key, which 16 bytes have, as each name of a table is
unfoldable pub is_keyed : List ℕ → Bool
is_keyed name = (length name == 16) && list_all (λ b. nat_lt b 256) name
