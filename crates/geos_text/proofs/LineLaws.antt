-- The first line of a text.
use Rattle.std.proofs.Common.{◌≡◌, ◌<◌, ◌≤◌, ℕ, ◌==◌, Bool, true, false, not, List, [], ◌∷◌, length, take, drop, length-drop, ◌-◌, Option, Some, None, refl, sym, ap, ◌∙◌, arith, position}
use Rattle.std.specs.Prelude.{unwrap_or, nat_lt, cond}
use Rattle.std.specs.List.{All, slice_split, before_first, after_first, position_or_len}
use Rattle.std.specs.Str.Lines.{lines, lines_of_parts, strip_carriage_return}
use Rattle.std.proofs.lemmas.List.Splits.{slice_split_none, slice_split_first, length-slice_split}
use Rattle.std.proofs.lemmas.List.Sums.{fails_before_first, position_or_len_is, prefix_len-le-length}
use Rattle.std.proofs.lemmas.Bool.{false_from_ne_true}
use Rattle.std.proofs.lemmas.List.{take_all}
use Rattle.memchr.specs.Find.{IsFirstByte}

chosen : (n k : ℕ) (below : Bool) → nat_lt k n ≡ below → k ≤ n → unwrap_or (cond below (Some k) None) n ≡ k
chosen n k true e le = refl
chosen n k false e le = grind arith

-- the first place at which a test passes, or the length, in the words of `position`
pub position_or_else : {X : Type 0} (p : X → Bool) (xs : List X) → unwrap_or (position p xs) (length xs) ≡ position_or_len p xs
position_or_else p xs = chosen (length xs) (position_or_len p xs) (nat_lt (position_or_len p xs) (length xs))
    refl (prefix_len-le-length (λ x. not (p x)) xs)

-- the same, in the words of `memchr`
pub first_byte_or_else : (p : ℕ → Bool) (xs : List ℕ) (r : Option ℕ) → IsFirstByte p xs r → unwrap_or r (length xs) ≡ position_or_len p xs
first_byte_or_else p xs None none =
    sym (position_or_len_is p xs (length xs) 0 (omega arith) (λ k lt. false_from_ne_true _ (none k (omega arith) lt)) (λ lt. absurd (omega arith)))
first_byte_or_else p xs (Some k) found =
    let first = found.0 in
    sym (position_or_len_is p xs k 0 (omega (arith, first.high)) (λ j lt. false_from_ne_true _ (first.before j (omega arith) lt)) (λ lt. found.1))

-- a part that others follow loses its carriage return
parts-first : (line : List ℕ) (parts : List (List ℕ)) → 0 < length parts
    → lines_of_parts (line ∷ parts) ≡ strip_carriage_return line ∷ lines_of_parts parts
parts-first line [] some = absurd (omega (arith, some))
parts-first line (part ∷ parts) some = refl

-- a text with a line feed
pub lines-first : (text : List ℕ) → position_or_len (λ b. b == 10) text < length text
    → lines text ≡ strip_carriage_return (before_first (λ b. b == 10) text) ∷ lines (after_first (λ b. b == 10) text)
lines-first text lt =
    let p : ℕ → Bool = λ b. b == 10 in
    let some : 0 < length (slice_split p (after_first p text)) = rw (length-slice_split p (after_first p text)) (omega arith) in
    ap lines_of_parts (slice_split_first p text 0 lt) ∙ parts-first (before_first p text) (slice_split p (after_first p text)) some

one_line : (text : List ℕ) → 0 < length text → lines_of_parts (text ∷ []) ≡ text ∷ []
one_line [] some = absurd (omega (arith, some))
one_line (b ∷ text) some = grind arith

-- a text of one line
pub lines-last : (text : List ℕ) → 0 < length text → position_or_len (λ b. b == 10) text ≡ length text → lines text ≡ text ∷ []
lines-last text some end =
    let p : ℕ → Bool = λ b. b == 10 in
    let none : All (λ x. p x ≡ false) text = λ k d lt. fails_before_first p text k d (rw end lt) in
    ap lines_of_parts (slice_split_none p text none) ∙ one_line text some

-- `&xs[at..]`
pub rest_of : {X : Type 0} (xs : List X) (at : ℕ) → take (length xs - at) (drop at xs) ≡ drop at xs
rest_of xs at = take_all (length xs - at) (drop at xs) (omega (arith, length-drop at xs))
