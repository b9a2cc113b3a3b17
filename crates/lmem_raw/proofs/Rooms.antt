-- What bytes were written is room again. Assumes `Logic`.
use Rattle.std.proofs.Common.{◌≡◌, ℕ, suc, ◌+◌, List, [], ◌∷◌, length, refl, arith, w8}
use seplogic.Ra.Ura.{Ura}
use base.Fraction.{full_share}
use base.Logic.{ent, sep}
use base.Fml.{fat, froom}
use mir.Syntax.{ty_int}
use mir.Val.{vint}
use types.Logic.{Logic, sem}
use types.Kit.{‵, ◌$◌, ◌∵◌, !, qed, move, drop as skip, use1, use2, fsplit, rewrite, done}
use base.Fml.{ftrue}
use denote.Plain.{uint_out}
use Rattle.lmem_raw.specs.Ownership.{bytes_type}
use Rattle.lmem_raw.proofs.Runs.{Run}

module _ {M : Type 1} {𝓤 : Ura M} (𝓛 : Logic 𝓤) (b : ℕ) where
  pub to_room : (xs : List ℕ) (n o : ℕ) → ent 𝓤 (sep 𝓤 (sem 𝓛 (Run b o xs)) (sem 𝓛 (froom (bytes_type n) b (o + length xs))))
      (sem 𝓛 (froom (bytes_type (length xs + n)) b o))
  to_room [] n o =
      let near : o + 0 ≡ o = omega arith in
      let same : n ≡ 0 + n = omega arith in
      qed 𝓛 (‵ ftrue ∷ ‵ (froom (bytes_type n) b (o + 0)) ∷ []) ∵ skip ! $ rewrite ! 0 (λ (k : ℕ). ‵ (froom (bytes_type n) b k))
      near refl $ rewrite ! 0 (λ (k : ℕ). ‵ (froom (bytes_type k) b o)) same refl $ done !
  to_room (x ∷ xs) n o =
      let near : o + suc (length xs) ≡ o + 1 + length xs = omega arith in
      let same : suc (length xs + n) ≡ suc (length xs) + n = omega arith in
      qed 𝓛 (‵ (Run b o (x ∷ xs)) ∷ ‵ (froom (bytes_type n) b (o + suc (length xs))) ∷ []) ∵ fsplit ! $
      use1 𝓛 (‵ (fat full_share (ty_int w8) b o (vint w8 x))) (uint_out 𝓛 full_share w8 x b o) $ use1 𝓛
      (‵ (froom (ty_int w8) b o)) (𝓛.laws.at_room (ty_int w8) b o (vint w8 x)) $
      move ! (2 ∷ []) $ rewrite ! 0 (λ (k : ℕ). ‵ (froom (bytes_type n) b k)) near refl $ move ! (2 ∷ 0 ∷ []) $
      use2 𝓛 (‵ (froom (bytes_type (length xs + n)) b (o + 1))) (to_room xs n (o + 1)) $ move ! (1 ∷ 0 ∷ []) $
      use2 𝓛 (‵ (froom (bytes_type (suc (length xs + n))) b o)) (𝓛.laws.room_cons (ty_int w8) (length xs + n) b o) $
      rewrite ! 0 (λ (k : ℕ). ‵ (froom (bytes_type k) b o)) same refl $ done !
