-- The lines of a text of which each ends with a line end.
use Rattle.std.proofs.Common.{◌≡◌, ◌∙◌, ◌<◌, ℕ, ◌-◌, Bool, true, false, cond, not, ◌&&◌, ◌==◌, List, [], ◌∷◌, ◌++◌, length, take, slice_index, refl, ap, append_assoc, arith}
use Rattle.std.specs.Prelude.{codes}
use Rattle.std.specs.List.{All, list_all, slice_split}
use Rattle.std.specs.Str.Lines.{lines, lines_of_parts, strip_carriage_return}
use Rattle.std.proofs.lemmas.Bool.{and_parts}
use Rattle.std.proofs.lemmas.List.Elements.{All-nil, All-cons}
use Rattle.std.proofs.lemmas.List.Splits.{slice_split_at, length-slice_split}
use Rattle.round_trip.proofs.Spaced.{is_said, said-feed}
use Rattle.round_trip.proofs.RowsAgain.{passes_at}

no_feed : (line : List ℕ) → list_all is_said line ≡ true → All (λ b. (b == 10) ≡ false) line
no_feed [] h = All-nil (λ b. (b == 10) ≡ false)
no_feed (b ∷ line) h =
    let p = and_parts (is_said b) (list_all is_said line) h in
    All-cons (λ c. (c == 10) ≡ false) b line (said-feed b p.0) (no_feed line p.1)

false_of : (b : Bool) → not b ≡ true → b ≡ false
false_of false e = refl
false_of true e = absurd cc

-- a line that ends with no carriage return loses none
unstripped : (line : List ℕ) → list_all is_said line ≡ true → strip_carriage_return line ≡ line
unstripped line h =
    let last = slice_index line (length line - 1) in
    let front = not (last == 59) && not (last == 10) in
    let back : not (last == 13) ≡ true = (and_parts front (not (last == 13)) (passes_at is_said line (length line - 1) 0 refl h)).1 in
    ap (λ b. cond b (take (length line - 1) line) line) (false_of (last == 13) back)

parts-first : (line : List ℕ) (parts : List (List ℕ)) → 0 < length parts
    → lines_of_parts (line ∷ parts) ≡ strip_carriage_return line ∷ lines_of_parts parts
parts-first line [] some = absurd (omega (arith, some))
parts-first line (part ∷ parts) some = refl

-- a line with its end, followed by a text, is the text's first line
pub lines-more : (line rest : List ℕ) → list_all is_said line ≡ true → lines (line ++ codes "\n" ++ rest) ≡ line ∷ lines rest
lines-more line rest h =
    let feed : ℕ → Bool = λ b. b == 10 in
    let some : 0 < length (slice_split feed rest) = omega (arith, length-slice_split feed rest) in
    ap lines (append_assoc line (codes "\n") rest)
    ∙ ap lines_of_parts (slice_split_at feed line 10 rest (no_feed line h) refl)
    ∙ parts-first line (slice_split feed rest) some
    ∙ ap (λ (first : List ℕ). first ∷ lines rest) (unstripped line h)
