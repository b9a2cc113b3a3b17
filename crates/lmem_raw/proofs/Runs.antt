-- A run of bytes is cut in parts and put together again. Assumes `Logic`.
use Rattle.std.proofs.Common.{◌≡◌, ℕ, ◌+◌, ◌≤◌, List, [], ◌∷◌, ◌++◌, length, take, drop, refl, sym, ap, ◌∙◌, arith, length-take, length-drop, take-append-drop}
use Rattle.std.proofs.Math.Seq.{drop-drop}
use seplogic.Ra.Ura.{Ura}
use base.Logic.{ent, sep}
use base.Fml.{Fml, ftrue, fsep}
use types.Logic.{Logic, sem}
use types.SemTy.{cells}
use types.Kit.{‵, ◌⊛◌, ◌$◌, ◌∵◌, !, qed, by, move, drop as skip, use1, use2, split, fsplit, fjoin, rewrite, done}
use denote.Builtin.{u8}
use denote.Memory.{mem}
use denote.Steps.{nothing}
use Rattle.lmem_raw.specs.Bytes.{part}

abbrev pub Run : ℕ → ℕ → List ℕ → Fml
Run b o xs = cells (mem u8) xs b o

module _ {M : Type 1} {𝓤 : Ura M} (𝓛 : Logic 𝓤) (b : ℕ) where
  pub cut : (xs ys : List ℕ) (o at : ℕ) → at ≡ length xs + o → ent 𝓤 (sem 𝓛 (Run b o (xs ++ ys))) (sep 𝓤 (sem 𝓛 (Run b o xs)) (sem 𝓛 (Run b at ys)))
  cut [] ys o at e = qed 𝓛 (‵ (Run b o ys) ∷ []) ∵ rewrite ! 0 (λ (k : ℕ). ‵ (Run b k ys)) {x = at} (omega (arith, e)) refl $ nothing ! $ done !
  cut (x ∷ xs) ys o at e = qed 𝓛 (‵ (Run b o (x ∷ xs ++ ys)) ∷ []) ∵ fsplit ! $ move ! (1 ∷ []) $
      use1 𝓛 (‵ (Run b (o + 1) xs) ⊛ ‵ (Run b at ys)) (cut xs ys (o + 1) at (omega (arith, e))) $ split ! $ move ! (2 ∷ 0 ∷ []) $ fjoin ! $ done !

  pub glue : (xs ys : List ℕ) (o at : ℕ) → at ≡ length xs + o → ent 𝓤 (sep 𝓤 (sem 𝓛 (Run b o xs)) (sem 𝓛 (Run b at ys))) (sem 𝓛 (Run b o (xs ++ ys)))
  glue [] ys o at e = qed 𝓛 (‵ ftrue ∷ ‵ (Run b at ys) ∷ []) ∵ skip ! $ rewrite ! 0 (λ (k : ℕ). ‵ (Run b k ys)) {x = o}
      (omega (arith, e)) refl $ done !
  glue (x ∷ xs) ys o at e = qed 𝓛 (‵ (Run b o (x ∷ xs)) ∷ ‵ (Run b at ys) ∷ []) ∵ fsplit ! $ move ! (1 ∷ 2 ∷ []) $
      use2 𝓛 (‵ (Run b (o + 1) (xs ++ ys))) (glue xs ys (o + 1) at (omega (arith, e))) $ move ! (1 ∷ 0 ∷ []) $ fjoin ! $ done !

  module _ (o : ℕ) (bs : List ℕ) (at n : ℕ) where
    -- all but the n bytes from at on
    abbrev pub Around : Fml
    Around = fsep (Run b o (take at bs)) (Run b (n + (at + o)) (drop (at + n) bs))

    pub run_out : at + n ≤ length bs → ent 𝓤 (sem 𝓛 (Run b o bs)) (sep 𝓤 (sem 𝓛 (Run b (at + o) (part bs at n))) (sem 𝓛 Around))
    run_out le =
        let long : n ≡ length (part bs at n) = omega (arith, length-take n (drop at bs), length-drop at bs) in
        qed 𝓛 (‵ (Run b o bs) ∷ []) ∵
        rewrite ! 0 (λ (l : List ℕ). ‵ (Run b o l)) (sym (take-append-drop at bs)
        ∙ ap (λ l. take at bs ++ l) (sym (take-append-drop n (drop at bs)) ∙ ap (λ l. part bs at n ++ l) (drop-drop n at bs))) refl $
        use1 𝓛 (‵ (Run b o (take at bs)) ⊛ ‵ (Run b (at + o) (part bs at n ++ drop (at + n) bs)))
        (cut (take at bs) (part bs at n ++ drop (at + n) bs) o (at + o) (omega (arith, length-take at bs))) $ split ! $ move ! (1 ∷ []) $
        use1 𝓛 (‵ (Run b (at + o) (part bs at n)) ⊛ ‵ (Run b (n + (at + o)) (drop (at + n) bs)))
        (cut (part bs at n) (drop (at + n) bs) (at + o) (n + (at + o)) (omega (arith, long))) $
        split ! $ move ! (2 ∷ 1 ∷ []) $ fjoin ! $ move ! (1 ∷ []) $ done !

    pub run_in : at + n ≤ length bs → (ws : List ℕ) → n ≡ length ws → ent 𝓤 (sep 𝓤 (sem 𝓛 (Run b (at + o) ws)) (sem 𝓛 Around))
        (sem 𝓛 (Run b o (take at bs ++ (ws ++ drop (at + n) bs))))
    run_in le ws long = qed 𝓛 (‵ (Run b (at + o) ws) ∷ ‵ Around ∷ []) ∵ move ! (1 ∷ []) $ fsplit ! $ move ! (2 ∷ 1 ∷ []) $
        use2 𝓛 (‵ (Run b (at + o) (ws ++ drop (at + n) bs))) (glue ws (drop (at + n) bs) (at + o) (n + (at + o)) (omega (arith, long)))
        $ move ! (1 ∷ 0 ∷ []) $
        by ! (glue (take at bs) (ws ++ drop (at + n) bs) o (at + o) (omega (arith, length-take at bs)))
