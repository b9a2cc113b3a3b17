-- What a region ends as, once a `&mut` into it has ended.
use Rattle.std.specs.Prelude.{ℕ, List, take}
use Rattle.std.specs.Borrow.{Lends, MutBor, Fml, u8, Array}
use Rattle.lmem_raw.specs.Bytes.{with_part}
use Rattle.lmem_raw.specs.contracts.Region.{the_row}

-- once the borrow r of the n bytes from at on ends, the region has there what was left in it
abbrev pub LendsPart : MutBor (List ℕ) → ℕ → ℕ → MutBor (List ℕ) → Fml
LendsPart s at n r = Lends the_row (Array u8 0) s r (λ ws. with_part s.now at (take n ws))
