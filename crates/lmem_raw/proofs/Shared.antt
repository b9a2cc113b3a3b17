-- A part of the bytes is seen, and the pointer is read through a `&`. Assumes `Logic`.
use Rattle.std.proofs.Common.{ℕ, zero, suc, ◌≡◌, ◌+◌, List, [], ◌∷◌, take, drop as drop_l, arith}
use seplogic.Ra.Ura.{Ura}
use base.Logic.{ent, sep, id⊢, via, snd∗, mono_r}
use base.Fml.{Lft, Fml}
use contract.Conj.{top}
use types.Logic.{Logic, sem}
use types.Kit.{‵, ◌$◌, ◌∵◌, !, qed, keep, fsplit, done}
use denote.Builtin.{u8}
use denote.Memory.{shared_of, hidden_shr}
use denote.Opens.{shr_dup, unhide, hide}
use denote.RattleType.{RattleType}
use denote.RawPtr.{RawPtr, ptr_row_laws}
use denote.Slice.{elements_shared}
use denote.Struct.Owning.{shape}
use denote.Struct.Struct.{Struct, Struct-row_laws}
use Rattle.lmem_raw.specs.contracts.raw.RawBytes as H-type

module _ {M : Type 1} {𝓤 : Ura M} (𝓛 : Logic 𝓤) (b : ℕ) (κ : Lft) where
  pub shared_take : (n : ℕ) (xs : List ℕ) (o : ℕ) → ent 𝓤 (sem 𝓛 (elements_shared u8 xs b o κ)) (sem 𝓛 (elements_shared u8 (take n xs) b o κ))
  shared_take zero xs o = top 𝓤 _
  shared_take (suc n) [] o = top 𝓤 _
  shared_take (suc n) (x ∷ xs) o = mono_r 𝓤 (sem 𝓛 (shared_of u8 x b o κ)) (shared_take n xs (o + 1))

  pub shared_drop : (n : ℕ) (xs : List ℕ) (o p : ℕ) → p ≡ n + o → ent 𝓤 (sem 𝓛 (elements_shared u8 xs b o κ))
      (sem 𝓛 (elements_shared u8 (drop_l n xs) b p κ))
  shared_drop zero xs o p e = let same : p ≡ o = omega arith in rw same (id⊢ 𝓤 _)
  shared_drop (suc n) [] o p e = top 𝓤 _
  shared_drop (suc n) (x ∷ xs) o p e = via 𝓤 _ (snd∗ 𝓤 (sem 𝓛 (shared_of u8 x b o κ)) _) (shared_drop n xs (o + 1) p (omega arith))

abbrev pub Fields : RattleType
Fields = Struct (shape H-type.the_type)

module _ {M : Type 1} {𝓤 : Ura M} (𝓛 : Logic 𝓤) (κ : Lft) (b o : ℕ) (h : (H-type.the_row).Denot) where
  abbrev S : Fml
  S = hidden_shr Fields κ (h.ptr, tt) b o

  pub shows_ptr : ent 𝓤 (sem 𝓛 S) (sep 𝓤 (sem 𝓛 (hidden_shr RawPtr κ h.ptr b (o + 0))) (sem 𝓛 S))
  shows_ptr = qed 𝓛 (‵ S ∷ []) ∵ shr_dup ! Fields (Struct-row_laws (shape H-type.the_type) (ptr_row_laws, tt))
      (h.ptr, tt) b o κ $ unhide ! $ fsplit ! $ fsplit ! $ hide ! $ keep ! (0 ∷ 3 ∷ []) $ done !
