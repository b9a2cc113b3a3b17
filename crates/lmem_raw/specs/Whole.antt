-- The invariant of a region.
use Rattle.std.specs.Prelude.{◌≡◌, length}
use Rattle.lmem_raw.specs.declared.Region.TheInside.{Inside}

-- every byte is written, and the token belongs to the allocation
pub record IsWhole (r : Inside) : Type 0 where
  pub full : r.raw.spare ≡ 0
  pub long : r.len ≡ length r.raw.bytes
  pub size : r.token.size ≡ r.len
  pub place : r.token.ptr ≡ r.raw.ptr
  pub from : r.token.alloc ≡ r.alloc
