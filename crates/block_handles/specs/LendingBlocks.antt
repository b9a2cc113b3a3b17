-- What blocks end as, once a `&mut` into one has ended.
use Rattle.std.specs.Prelude.{ℕ, List}
use Rattle.std.specs.Borrow.{Lends, MutBor, Fml, u8, Array}
use Rattle.block_handles.specs.Store.{Store}
use Rattle.block_handles.specs.Change.{with_bytes}
use Rattle.block_handles.specs.contracts.Blocks.{the_row}

-- once the borrow r of a block's bytes ends, the block has what was left in it
abbrev pub LendsBlock : MutBor Store → ℕ → MutBor (List ℕ) → Fml
LendsBlock s slot r = Lends the_row (Array u8 0) s r (with_bytes s.now slot)
