-- What the bytes end as, once a `&mut` into them has ended.
use Rattle.std.specs.Prelude.{ℕ, List, take}
use Rattle.std.specs.Borrow.{Lends, MutBor, Fml, u8, Array}
use Rattle.lmem_raw.specs.Bytes.{with_part}
use Rattle.lmem_raw.specs.declared.raw.RawBytes.{RawBytes}
use Rattle.lmem_raw.specs.contracts.raw.RawBytes.{the_row}

-- the same memory with other bytes
abbrev pub with_bytes : RawBytes → List ℕ → RawBytes
with_bytes raw bs = record { ptr = raw.ptr; bytes = bs; spare = raw.spare }

-- once the borrow r of the n bytes from at on ends, the memory has there what was left in it
abbrev pub LendsRun : MutBor RawBytes → ℕ → ℕ → MutBor (List ℕ) → Fml
LendsRun s at n r = Lends the_row (Array u8 0) s r (λ ws. with_bytes s.now (with_part s.now.bytes at (take n ws)))
