-- Lines, each with its end, are a text of those lines.
use Rattle.std.proofs.Common.{◌≡◌, ◌∙◌, ◌<◌, ℕ, zero, suc, true, List, [], ◌∷◌, ◌++◌, refl, sym, ap, append_assoc, arith}
use Rattle.std.specs.Prelude.{codes}
use Rattle.std.specs.List.{list_all}
use Rattle.std.specs.Str.Lines.{lines}
use Rattle.std.proofs.lemmas.Bool.{and_parts, and_from}
use Rattle.std.proofs.lemmas.List.{append-nil}
use Rattle.std.proofs.lemmas.List.Folds.{list_all-append}
use Rattle.geos_listing.specs.Rows.{texts_below}
use Rattle.round_trip.proofs.Spaced.{is_said}
use Rattle.round_trip.proofs.RowsAgain.{words_below as lines_below}
use Rattle.round_trip.proofs.TextLines.{lines-more}

-- lines with a line end after each
abbrev pub ended : List (List ℕ) → List ℕ
ended [] = []
ended (line ∷ lines) = line ++ codes "\n" ++ ended lines

pub ended-append : (front back : List (List ℕ)) → ended (front ++ back) ≡ ended front ++ ended back
ended-append [] back = refl
ended-append (line ∷ front) back =
    ap (λ (t : List ℕ). line ++ codes "\n" ++ t) (ended-append front back) ∙ sym (append_assoc (line ++ codes "\n") (ended front) (ended back))

-- the lines of such a text
pub lines-ended : (ls : List (List ℕ)) → list_all (list_all is_said) ls ≡ true → lines (ended ls) ≡ ls
lines-ended [] h = refl
lines-ended (line ∷ ls) h =
    let p = and_parts (list_all is_said line) (list_all (list_all is_said) ls) h in
    lines-more line (ended ls) p.0 ∙ ap (λ (rest : List (List ℕ)). line ∷ rest) (lines-ended ls p.1)

-- one line with its end
pub one_ended : (line : List ℕ) → line ++ codes "\n" ≡ ended (line ∷ [])
one_ended line = sym (append-nil (line ++ codes "\n"))

-- texts of which each is lines with their ends are lines with their ends
pub texts-ended : (n : ℕ) (text : ℕ → List ℕ) (ls : ℕ → List (List ℕ)) → ((k : ℕ) → k < n → text k ≡ ended (ls k))
    → texts_below n text ≡ ended (lines_below n ls)
unfolding texts_below
texts-ended zero text ls each = refl
texts-ended (suc n) text ls each =
    ap (λ (t : List ℕ). t ++ text n) (texts-ended n text ls (λ k lt. each k (omega (arith, lt))))
    ∙ ap (λ (t : List ℕ). ended (lines_below n ls) ++ t) (each n (omega arith))
    ∙ sym (ended-append (lines_below n ls) (ls n))

-- what passes for the lines of each number below n passes for all of them
pub all_below : (n : ℕ) (ls : ℕ → List (List ℕ)) → ((k : ℕ) → k < n → list_all (list_all is_said) (ls k) ≡ true)
    → list_all (list_all is_said) (lines_below n ls) ≡ true
all_below zero ls each = refl
all_below (suc n) ls each =
    list_all-append (list_all is_said) (lines_below n ls) (ls n)
    ∙ and_from (list_all (list_all is_said) (lines_below n ls)) (list_all (list_all is_said) (ls n))
    (all_below n ls (λ k lt. each k (omega (arith, lt)))) (each n (omega arith))
