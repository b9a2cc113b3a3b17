-- Texts that are written piece by piece.
use Rattle.std.proofs.Common.{◌≡◌, ◌≢◌, ◌<◌, ℕ, ◌+◌, false, List, [], ◌∷◌, ◌++◌, length, get_or, take, refl, sym, ap, ◌∙◌, arith}
use Rattle.std.specs.Prelude.{flat_map, ◌==◌}
use Rattle.std.proofs.lemmas.Bool.{ne_eqb}
use Rattle.std.proofs.lemmas.List.{take_more, flat_map_more, length-append, append-nil}

-- the text of one more element of a list was written
pub flat_map-step : {X : Type 0} (start middle after piece : List ℕ) (f : X → List ℕ) (xs : List X) (k : ℕ) (d : X) → k < length xs
    → middle ≡ start ++ flat_map f (take k xs) → after ≡ middle ++ piece → piece ≡ f (get_or xs k d) → after ≡ start ++ flat_map f (take (k + 1) xs)
flat_map-step start middle after piece f xs k d lt so_far written is =
    let front = take k xs in
    written ∙ ap (λ text. text ++ piece) so_far ∙ ap (λ text. (start ++ flat_map f front) ++ text) is
    ∙ flat_map_more f start front (get_or xs k d) ∙ ap (λ ys. start ++ flat_map f ys) (sym (take_more xs k d lt))

-- where a text is as long as before, nothing was written
pub none-written : (before after piece : List ℕ) → after ≡ before ++ piece → length after ≡ length before → piece ≡ []
none-written before after [] written same = refl
none-written before after (x ∷ piece) written same = absurd (omega (arith, ap length written, length-append before (x ∷ piece), same))

-- and where it is not, something was
pub some-written : (before after piece : List ℕ) → after ≡ before ++ piece → length after ≢ length before → (length piece == 0) ≡ false
some-written before after [] written other = absurd (other (ap length (written ∙ append-nil before)))
some-written before after (x ∷ piece) written other = ne_eqb (length (x ∷ piece)) 0 (λ none. omega (arith, none))
