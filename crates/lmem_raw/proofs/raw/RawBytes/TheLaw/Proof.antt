-- A `&` to the bytes is made where one to each is. Assumes `Logic`.
use Prim.Native.Nat.{ℕ, ◌+◌, ◌^◌}
use Rattle.std.specs.Prelude.{List, [], ◌∷◌, length}
use seplogic.Ra.Ura.{Ura}
use base.Fraction.{full_share}
use base.Fml.{Lft, ftrue, ffalse, fsep, flt, froom}
use mir.Syntax.{w8}
use types.Logic.{Logic}
use types.SemTy.{cells}
use denote.Builtin.{u8}
use denote.Memory.{mem, part_at, shared_of}
use denote.Plain.{uint_row_laws}
use denote.Param.Shared.{copy_shared}
use denote.RawPtr.{Ptr, block_ptr, null_ptr}
use denote.Sharing.{ShrLaws, said}
use denote.SharingLaws.{beside_shr_laws, said_shr_laws}
use denote.Slice.{elements_shared, elements_shr_laws}
use contract.BorrowLft.{⊑_static}
use denote.Shares.{Shares-less}
use denote.Struct.Field.{RawPtr-field, u8-field}
use denote.Struct.Laws.{RawPtr-copy, u8-copy}
use denote.Struct.Lending.{Lends, Lends-both, Lends-first, Lends-nothing, Lends-said, Lends-false, of_Lends}
use Rattle.lmem_raw.specs.Ownership.{bytes_type, raw_owns, raw_lent}
use Rattle.lmem_raw.specs.contracts.raw.RawBytes as C
use Rattle.lmem_raw.proofs.raw.RawBytes.TheLaw.Statement.{statement}

lent_laws : (p : Ptr) (bs : List ℕ) (n : ℕ) → ShrLaws (raw_lent p bs n)
lent_laws (block_ptr b o) bs n = beside_shr_laws _ _ (said_shr_laws (flt (length bs + n) (2 ^ 63)) tt)
    (elements_shr_laws u8 (uint_row_laws w8) bs b o)
lent_laws null_ptr bs n = said_shr_laws ffalse tt

module _ {M : Type 1} {𝓤 : Ura M} (𝓛 : Logic 𝓤) (l : Lft) where
  Lends-bytes : (bs : List ℕ) (b o : ℕ) → Lends 𝓛 (cells (mem u8) bs b o) (elements_shared u8 bs b o) l
  Lends-bytes [] b o = Lends-nothing 𝓛 ftrue l
  Lends-bytes (x ∷ bs) b o =
      Lends-both 𝓛 (part_at u8 full_share x b o) (cells (mem u8) bs b (o + 1)) (shared_of u8 x b o) (elements_shared u8 bs b (o + 1)) l
      (λ κ ts. Shares-less 𝓛 u8 u8.lives l (⊑_static l) ((copy_shared u8-field u8-copy).shares M 𝓤 𝓛) x κ ts b o) (Lends-bytes bs b (o + 1))

  Lends-raw : (p : Ptr) (bs : List ℕ) (n : ℕ) → Lends 𝓛 (raw_owns p bs n) (raw_lent p bs n) l
  Lends-raw (block_ptr b o) bs n =
      Lends-both 𝓛 (flt (length bs + n) (2 ^ 63)) (fsep (cells (mem u8) bs b o) (froom (bytes_type n) b (o + length bs)))
      (said (flt (length bs + n) (2 ^ 63))) (elements_shared u8 bs b o) l
      (Lends-said 𝓛 (flt (length bs + n) (2 ^ 63)) tt l)
      (Lends-first 𝓛 (cells (mem u8) bs b o) (froom (bytes_type n) b (o + length bs)) (elements_shared u8 bs b o) l (Lends-bytes bs b o))
  Lends-raw null_ptr bs n = Lends-false 𝓛 (said ffalse) l

pub shares : statement
shares = of_Lends C.struct C.the_codes C.the_heap C.the_lent (λ d p. lent_laws d.ptr d.bytes d.spare) (copy_shared RawPtr-field RawPtr-copy, tt)
    (λ M 𝓤 𝓛 d p. Lends-raw 𝓛 C.the_row.lives d.ptr d.bytes d.spare)
