-- Texts that are written piece by piece.
use Rattle.std.proofs.Common.{◌≡◌, ℕ, ◌+◌, List, ◌++◌, sym, ap, ◌∙◌, append_assoc, add-one, refl}
use Rattle.geos_listing.specs.Rows.{texts_below}

-- one more text of a number
texts-more : (text : ℕ → List ℕ) (k : ℕ) → texts_below (k + 1) text ≡ texts_below k text ++ text k
unfolding texts_below
texts-more text k = rw add-one refl

-- the text of one more number was written
pub texts_below-step : (start middle after piece : List ℕ) (text : ℕ → List ℕ) (k : ℕ)
    → middle ≡ start ++ texts_below k text → after ≡ middle ++ piece → piece ≡ text k → after ≡ start ++ texts_below (k + 1) text
texts_below-step start middle after piece text k so_far written is =
    written ∙ ap (λ bytes. bytes ++ piece) so_far ∙ append_assoc start (texts_below k text) piece
    ∙ ap (λ bytes. start ++ bytes) (ap (λ bytes. texts_below k text ++ bytes) is ∙ sym (texts-more text k))
