-- Texts of whole lines.
use Rattle.std.proofs.Common.{◌≡◌, ◌∙◌, ◌-◌, ℕ, List, [], ◌∷◌, ◌++◌, length, slice_get, ap, arith}
use Rattle.std.proofs.lemmas.List.{length-append}
use Rattle.takhvoi.proofs.Numbers.{is_last}
use Rattle.takhvoi.specs.Texts.{EndsLine}

-- a text to which a line feed is appended ends with it
pub fed : (text : List ℕ) → EndsLine (text ++ 10 ∷ [])
fed text =
    let at : length (text ++ 10 ∷ []) - 1 ≡ length text = omega (arith, length-append text (10 ∷ [])) in
    ap (λ n. slice_get (text ++ 10 ∷ []) n) at ∙ is_last text 10
