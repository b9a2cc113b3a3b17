-- Lines with their ends, and texts with other budgets.
use Rattle.std.proofs.Common.{◌≡◌, ◌∙◌, ◌<◌, ◌≤◌, ℕ, zero, suc, ◌+◌, ◌-◌, Bool, true, false, cond, List, [], ◌∷◌, ◌++◌, length, take, drop, Some, None, refl, sym, ap, arith, inl, subst, append_assoc, take-append-drop}
use Rattle.std.specs.Prelude.{◌==◌, position, Result, Ok, Err, IfErr, IsErrAnd}
use Rattle.std.proofs.Math.Seq.{take-add}
use Rattle.std.proofs.lemmas.List.{take_rest}
use Rattle.std.specs.List.{position_from}
use Rattle.std.proofs.lemmas.Iterator.Adapters.{position_from-zero}
use Rattle.geos_asm.specs.Budgets.{whole_lines, in_front, AreLinesAlike, HasOtherBudgets, IsLineAlike, IsWhyNot, IsWhyNoBudgets}
use Rattle.geos_asm.specs.declared.error.AssembleError.TheVariants.{Memory}
use Rattle.geos_asm.specs.declared.error.BudgetError.{BudgetError}
use Rattle.geos_asm.specs.declared.error.BudgetError.TheVariants.{Assemble}

abbrev feeds : ℕ → Bool
feeds byte = byte == 10

-- a search that starts at k finds nothing before k
from-on : (bytes : List ℕ) (k j : ℕ) → position_from feeds k bytes ≡ Some j → k ≤ j
from-on [] k j e = absurd cc
from-on (b ∷ bytes) k j e = go (feeds b) e (from-on bytes (k + 1) j)
  where
    go : (t : Bool) → cond t (Some k) (position_from feeds (k + 1) bytes) ≡ Some j → (position_from feeds (k + 1) bytes ≡ Some j → k + 1 ≤ j) → k ≤ j
    go true e later = let same : k ≡ j = cc in omega (arith, same)
    go false e later = omega (arith, later e)

feed-from : (bytes : List ℕ) (k i : ℕ) → position_from feeds k bytes ≡ Some (k + i)
    → whole_lines bytes ≡ take (suc i) bytes ∷ whole_lines (drop (suc i) bytes)
feed-from [] k i e = absurd cc
feed-from (b ∷ bytes) k i e = go (feeds b) refl i e (feed-from bytes (k + 1))
  where
    go : (t : Bool) → feeds b ≡ t → (i : ℕ) → cond t (Some k) (position_from feeds (k + 1) bytes) ≡ Some (k + i)
        → ((i : ℕ) → position_from feeds (k + 1) bytes ≡ Some ((k + 1) + i)
        → whole_lines bytes ≡ take (suc i) bytes ∷ whole_lines (drop (suc i) bytes))
        → whole_lines (b ∷ bytes) ≡ take (suc i) (b ∷ bytes) ∷ whole_lines (drop (suc i) (b ∷ bytes))
    go true is zero e later = rw is refl
    go true is (suc i) e later = let same : k ≡ k + suc i = cc in absurd (omega (arith, same))
    go false is zero e later = absurd (omega (arith, from-on bytes (k + 1) (k + 0) e))
    go false is (suc i) e later =
        let next : k + suc i ≡ (k + 1) + i = omega arith in
        rw is (ap (in_front b) (later i (e ∙ ap Some next)))

no-feed-from : (bytes : List ℕ) (b k : ℕ) → position_from feeds k (b ∷ bytes) ≡ None → whole_lines (b ∷ bytes) ≡ (b ∷ bytes) ∷ []
no-feed-from [] b k e = go (feeds b) refl
  where
    go : (t : Bool) → feeds b ≡ t → whole_lines (b ∷ []) ≡ (b ∷ []) ∷ []
    go true is = rw is refl
    go false is = rw is refl
no-feed-from (c ∷ bytes) b k e = go (feeds b) refl e (no-feed-from bytes c (k + 1))
  where
    go : (t : Bool) → feeds b ≡ t → cond t (Some k) (position_from feeds (k + 1) (c ∷ bytes)) ≡ None
        → (position_from feeds (k + 1) (c ∷ bytes) ≡ None → whole_lines (c ∷ bytes) ≡ (c ∷ bytes) ∷ [])
        → whole_lines (b ∷ c ∷ bytes) ≡ (b ∷ c ∷ bytes) ∷ []
    go true is e later = absurd cc
    go false is e later = rw is (ap (in_front b) (later e))

-- a first line that ends with a line feed
pub line-to-feed : (text : List ℕ) (i : ℕ) → position feeds text ≡ Some i → whole_lines text ≡ take (i + 1) text ∷ whole_lines (drop (i + 1) text)
line-to-feed text i e =
    let next : i + 1 ≡ suc i = omega arith in
    let from_none : i ≡ 0 + i = omega arith in
    rw next (feed-from text 0 i (sym (position_from-zero feeds text) ∙ e ∙ ap Some from_none))

-- an only line, without one
pub line-to-end : (text : List ℕ) → 0 < length text → position feeds text ≡ None → whole_lines text ≡ text ∷ []
line-to-end [] some e = absurd (omega (arith, some))
line-to-end (b ∷ bytes) some e = no-feed-from bytes b 0 (sym (position_from-zero feeds (b ∷ bytes)) ∙ e)

-- lines that all stay
same-lines : (lines : List (List ℕ)) → (text : List ℕ) × AreLinesAlike lines text
same-lines [] = ([], refl)
same-lines (line ∷ lines) = let rest = same-lines lines in (line ++ rest.0, (line, rest.0, inl refl, rest.1, refl))

-- a text is alike to some text
pub some-alike : (text : List ℕ) → (new : List ℕ) × HasOtherBudgets text new
some-alike text = same-lines (whole_lines text)

-- one more line was written
pub one-more : (text out here rest line behind tail : List ℕ)
    → ((tail : List ℕ) → AreLinesAlike (whole_lines rest) tail → HasOtherBudgets text (out ++ tail))
    → whole_lines rest ≡ line ∷ whole_lines behind → IsLineAlike line here → AreLinesAlike (whole_lines behind) tail
    → HasOtherBudgets text ((out ++ here) ++ tail)
one-more text out here rest line behind tail so_far split alike others =
    let all = subst (λ ls. AreLinesAlike ls (here ++ tail)) (sym split) (here, tail, alike, others, refl) in
    subst (HasOtherBudgets text) (sym (append_assoc out here tail)) (so_far (here ++ tail) all)

-- a line is what it is cut into at two places
pub cut-whole : (line : List ℕ) (s e : ℕ) → s ≤ e → line ≡ take s line ++ take (e - s) (drop s line) ++ take (length line - e) (drop e line)
cut-whole line s e le =
    let add : s + (e - s) ≡ e = omega (arith, le) in
    let front : take s line ++ take (e - s) (drop s line) ≡ take e line = sym (take-add s (e - s) line) ∙ ap (λ n. take n line) add in
    sym (ap (λ b. (take s line ++ take (e - s) (drop s line)) ++ b) (take_rest line e) ∙ ap (λ f. f ++ drop e line) front ∙ take-append-drop e line)

-- if the result is lack of memory, it is a correct result for any text
pub memory-fault : {A : Type 0} (text : List ℕ) (result : Result A BudgetError) → IsErrAnd result (λ x. x ≡ Assemble Memory)
    → IfErr result (IsWhyNoBudgets text)
memory-fault text (Ok x) h = tt
memory-fault text (Err e) h = let some = some-alike text in subst (IsWhyNoBudgets text) (sym h) (some.0, some.1, tt)

-- a fault of a text with other budgets
pub draft-fault : {A : Type 0} (text new : List ℕ) (result : Result A BudgetError) (fault : BudgetError)
    → HasOtherBudgets text new → IsWhyNot new fault
    → IsErrAnd result (λ x. x ≡ fault) → IfErr result (IsWhyNoBudgets text)
draft-fault text new (Ok x) fault alike why h = tt
draft-fault text new (Err e) fault alike why h = subst (IsWhyNoBudgets text) (sym h) (new, alike, why)

-- nothing is left of what has no length
pub none-left : (xs : List ℕ) → length xs ≡ 0 → xs ≡ []
none-left [] e = refl
none-left (x ∷ xs) e = absurd (omega (arith, e))
