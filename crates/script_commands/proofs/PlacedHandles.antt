-- The handles for the four slots, one after another.
use Rattle.std.proofs.Common.{◌≡◌, ◌∙◌, ℕ, List, [], ◌∷◌, Option, Some, None, length, get_or, ap, arith}
use Rattle.std.specs.Prelude.{option_map, option_and_then}
use Rattle.geos_image.specs.declared.row.SlotState.{SlotState}
use Rattle.script_commands.specs.Lines.{next_handle, placed}

-- what holds of four states, each read at its place, holds of a list of four
of-four : (P : List SlotState → Type 0) (states : List SlotState) (s : SlotState) → length states ≡ 4
    → P (get_or states 0 s ∷ get_or states 1 s ∷ get_or states 2 s ∷ get_or states 3 s ∷ []) → P states
of-four P [] s long p = absurd (omega arith)
of-four P (a ∷ []) s long p = absurd (omega arith)
of-four P (a ∷ b ∷ []) s long p = absurd (omega arith)
of-four P (a ∷ b ∷ c ∷ []) s long p = absurd (omega arith)
of-four P (a ∷ b ∷ c ∷ d ∷ []) s long p = p
of-four P (a ∷ b ∷ c ∷ d ∷ e ∷ others) s long p = absurd (omega arith)

-- one more handle before the others, if there are any
abbrev onto : ℕ → Option (List ℕ) → Option (List ℕ)
onto h handles = option_map (λ hs. h ∷ hs) handles

-- the next slot has a handle, or none
next : (state : SlotState) (states : List SlotState) (ws rest : List (List ℕ)) (h : ℕ) → next_handle state ws ≡ Some (h, rest)
    → placed (state ∷ states) ws ≡ onto h (placed states rest)
next state states ws rest h is = ap (λ (o : Option (ℕ × List (List ℕ))). option_and_then
    (λ (n : ℕ × List (List ℕ)). onto n.0 (placed states n.1)) o) is

no-next : (state : SlotState) (states : List SlotState) (ws : List (List ℕ)) → next_handle state ws ≡ None
    → placed (state ∷ states) ws ≡ None
no-next state states ws is = ap (λ (o : Option (ℕ × List (List ℕ))). option_and_then
    (λ (n : ℕ × List (List ℕ)). onto n.0 (placed states n.1)) o) is

module _ (states : List SlotState) (s : SlotState) (ws : List (List ℕ)) (long : length states ≡ 4) where
  abbrev at : ℕ → SlotState
  at k = get_or states k s

  pub none-first : next_handle (get_or states 0 s) ws ≡ None → placed states ws ≡ None
  none-first first = of-four (λ ss. placed ss ws ≡ None) states s long (no-next (at 0) (at 1 ∷ at 2 ∷ at 3 ∷ []) ws first)

  module _ (h0 : ℕ) (r0 : List (List ℕ)) (first : next_handle (get_or states 0 s) ws ≡ Some (h0, r0)) where
    before : (p : Option (List ℕ)) → placed (at 1 ∷ at 2 ∷ at 3 ∷ []) r0 ≡ p → placed states ws ≡ onto h0 p
    before p others = of-four (λ ss. placed ss ws ≡ onto h0 p) states s long
        (next (at 0) (at 1 ∷ at 2 ∷ at 3 ∷ []) ws r0 h0 first ∙ ap (onto h0) others)

    pub none-second : next_handle (get_or states 1 s) r0 ≡ None → placed states ws ≡ None
    none-second second = before None (no-next (at 1) (at 2 ∷ at 3 ∷ []) r0 second)

    module _ (h1 : ℕ) (r1 : List (List ℕ)) (second : next_handle (get_or states 1 s) r0 ≡ Some (h1, r1)) where
      pub none-third : next_handle (get_or states 2 s) r1 ≡ None → placed states ws ≡ None
      none-third third = before None (next (at 1) (at 2 ∷ at 3 ∷ []) r0 r1 h1 second ∙ ap (onto h1) (no-next (at 2) (at 3 ∷ []) r1 third))

      module _ (h2 : ℕ) (r2 : List (List ℕ)) (third : next_handle (get_or states 2 s) r1 ≡ Some (h2, r2)) where
        behind : (p : Option (List ℕ)) → placed (at 3 ∷ []) r2 ≡ p → placed states ws ≡ onto h0 (onto h1 (onto h2 p))
        behind p others = before (onto h1 (onto h2 p)) (next (at 1) (at 2 ∷ at 3 ∷ []) r0 r1 h1 second
            ∙ ap (onto h1) (next (at 2) (at 3 ∷ []) r1 r2 h2 third ∙ ap (onto h2) others))

        pub none-fourth : next_handle (get_or states 3 s) r2 ≡ None → placed states ws ≡ None
        none-fourth fourth = behind None (no-next (at 3) [] r2 fourth)

        module _ (h3 : ℕ) (r3 : List (List ℕ)) (fourth : next_handle (get_or states 3 s) r2 ≡ Some (h3, r3)) where
          last : (r : List (List ℕ)) → r3 ≡ r → placed (at 3 ∷ []) r2 ≡ onto h3 (placed [] r)
          last r left = next (at 3) [] r2 r3 h3 fourth ∙ ap (λ (ws : List (List ℕ)). onto h3 (placed [] ws)) left

          pub all-placed : r3 ≡ [] → placed states ws ≡ Some (h0 ∷ h1 ∷ h2 ∷ h3 ∷ [])
          all-placed end = behind (Some (h3 ∷ [])) (last [] end)

          pub too-many : (w : List ℕ) (more : List (List ℕ)) → r3 ≡ w ∷ more → placed states ws ≡ None
          too-many w more left = behind None (last (w ∷ more) left)
