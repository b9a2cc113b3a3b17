-- What a pointer to bytes owns, and what a shared borrow of them gives access to.
use Rattle.std.specs.Prelude.{ℕ, ◌+◌, ◌^◌, List, length}
use base.Fml.{Lft, Fml, ffalse, fsep, flt, froom}
use mir.Syntax.{Ty, w8, ty_int, ty_array}
use types.SemTy.{cells}
use denote.Builtin.{u8}
use denote.Memory.{mem}
use denote.Sharing.{said, beside}
use denote.Slice.{elements_shared}
use denote.RawPtr.{Ptr, block_ptr, null_ptr}

-- n bytes
abbrev pub bytes_type : ℕ → Ty
bytes_type n = ty_array (ty_int w8) n

-- the bytes bs at p, and room for n more bytes after them: fewer than 2 ^ 63 in all
abbrev pub raw_owns : Ptr → List ℕ → ℕ → Fml
raw_owns (block_ptr b o) bs n = fsep (flt (length bs + n) (2 ^ 63)) (fsep (cells (mem u8) bs b o) (froom (bytes_type n) b (o + length bs)))
raw_owns null_ptr bs n = ffalse

-- a shared borrow of these bytes: the same bytes, read-only
abbrev pub raw_lent : Ptr → List ℕ → ℕ → Lft → Fml
raw_lent (block_ptr b o) bs n = beside (said (flt (length bs + n) (2 ^ 63))) (elements_shared u8 bs b o)
raw_lent null_ptr bs n = said ffalse
