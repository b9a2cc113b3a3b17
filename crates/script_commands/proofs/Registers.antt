-- The registers that numbers say, read from the front.
use Rattle.std.proofs.Common.{◌≡◌, ◌<◌, ◌≤◌, ℕ, zero, suc, ◌+◌, ◌-◌, List, [], ◌∷◌, ◌++◌, length, replicate, take, drop, set, Option, Some, None, refl, sym, ap, ◌∙◌, arith, append_assoc, append-nil, length-append, length-take, take-append-drop, Bool, true, false}
use Rattle.std.proofs.lemmas.Grind.{common_steps}
use Rattle.std.proofs.lemmas.List.{drop-set-lt, drop-drop}
use Rattle.std.specs.Prelude.{nat_le, cond, option_map}
use Rattle.geos_text.specs.Numbers.{number_of}
use Rattle.script_commands.specs.Lines.{before_blocks, from_blocks, names_block, numbers_of, registers_of}

map-front : (front : List ℕ) (n : ℕ) (ns : Option (List ℕ)) → option_map (λ ms. front ++ ms) (option_map (λ ms. n ∷ ms) ns) ≡ option_map
    (λ ms. (front ++ n ∷ []) ++ ms) ns
map-front front n None = refl
map-front front n (Some ns) = ap Some (sym (append_assoc front (n ∷ []) ns))

take-set : (xs : List ℕ) (i n : ℕ) → i < length xs → take (i + 1) (set xs i n) ≡ take i xs ++ n ∷ []
take-set xs i n lt = grind (arith, common_steps)

one-less : (m : ℕ) → drop 1 (replicate {A = ℕ} m 0) ≡ replicate (m - 1) 0
one-less zero = refl
one-less (suc m) = let e : suc m - 1 ≡ m = omega arith in rw e refl

-- the registers after one that is set are still 0
pub zeros-behind : (registers : List ℕ) (i n : ℕ) → drop i registers ≡ replicate (8 - i) 0
    → drop (i + 1) (set registers i n) ≡ replicate (8 - (i + 1)) 0
zeros-behind registers i n zeros =
    let less : 8 - i - 1 ≡ 8 - (i + 1) = omega arith in
    drop-set-lt (i + 1) registers i n (omega arith) ∙ sym (drop-drop 1 i registers) ∙ ap (drop 1) zeros ∙ one-less (8 - i)
    ∙ ap (λ k. replicate k 0) less

-- each word so far is a number
pub numbers-more : (all rest : List (List ℕ)) (word : List ℕ) (registers : List ℕ) (i n : ℕ) → i < length registers → number_of word ≡ Some n
    → numbers_of all ≡ option_map (λ ns. take i registers ++ ns) (numbers_of (word ∷ rest))
    → numbers_of all ≡ option_map (λ ns. take (i + 1) (set registers i n) ++ ns) (numbers_of rest)
numbers-more all rest word registers i n lt e so_far =
    let one : numbers_of (word ∷ rest) ≡ option_map (λ ns. n ∷ ns) (numbers_of rest) = rw e refl in
    so_far ∙ ap (option_map (λ ns. take i registers ++ ns)) one ∙ map-front (take i registers) n (numbers_of rest)
    ∙ ap (λ front. option_map (λ ns. front ++ ns) (numbers_of rest)) (sym (take-set registers i n lt))

neither : (b : Bool) → cond {A = Option (List ℕ)} b None None ≡ None
neither true = refl
neither false = refl

-- a word that is no number
pub numbers-bad : (all rest : List (List ℕ)) (word front : List ℕ) → number_of word ≡ None
    → numbers_of all ≡ option_map (λ ns. front ++ ns) (numbers_of (word ∷ rest)) → registers_of all ≡ None
numbers-bad all rest word front e so_far =
    let none : numbers_of all ≡ None = so_far ∙ rw e refl in
    rw none (neither (nat_le (length all) 8))

-- no more than eight words
pub numbers-end : (all : List (List ℕ)) (registers : List ℕ) (i : ℕ) → length registers ≡ 8 → i ≤ 8 → length all ≡ i + 0
    → drop i registers ≡ replicate (8 - i) 0
    → numbers_of all ≡ option_map (λ ns. take i registers ++ ns) (numbers_of []) → registers_of all ≡ Some registers
numbers-end all registers i eight le len zeros so_far =
    let few : nat_le (length all) 8 ≡ true = grind (arith, len) in
    let front : length (take i registers ++ []) ≡ i = omega (arith, length-append (take i registers) [], length-take i registers) in
    let whole : (take i registers ++ []) ++ replicate (8 - length (take i registers ++ [])) 0 ≡ registers =
    rw (front, sym zeros, append-nil (take i registers)) (take-append-drop i registers) in
    rw (few, so_far) (ap Some whole)

-- a ninth word
pub numbers-many : (all rest : List (List ℕ)) (word : List ℕ) → length all ≡ 8 + length (word ∷ rest) → registers_of all ≡ None
numbers-many all rest word len =
    let many : nat_le (length all) 8 ≡ false = grind (arith, len) in
    rw many refl

-- a word that names a block, and one that does not, in front
pub before-block : (word : List ℕ) (rest : List (List ℕ)) → names_block word ≡ true → before_blocks (word ∷ rest) ≡ []
before-block word rest e = rw e refl

pub before-number : (word : List ℕ) (rest : List (List ℕ)) → names_block word ≡ false → before_blocks (word ∷ rest) ≡ word ∷ before_blocks rest
before-number word rest e = rw e refl

-- the same with one more word at the front
taken-one : (k : ℕ) (w : List ℕ) (ws : List (List ℕ)) (b : Bool) → names_block w ≡ b
    → before_blocks (take k (before_blocks ws)) ≡ take k (before_blocks ws)
    → before_blocks (take (suc k) (before_blocks (w ∷ ws))) ≡ take (suc k) (before_blocks (w ∷ ws))
taken-one k w ws true e others = rw (before-block w ws e) refl
taken-one k w ws false e others =
    rw (before-number w ws e) (before-number w (take k (before_blocks ws)) e ∙ ap (λ rest. w ∷ rest) others)

-- the words before the blocks are followed by no block, however many of them are taken
pub before-taken : (k : ℕ) (ws : List (List ℕ)) → before_blocks (take k (before_blocks ws)) ≡ take k (before_blocks ws)
before-taken zero ws = refl
before-taken (suc k) [] = refl
before-taken (suc k) (w ∷ ws) = taken-one k w ws (names_block w) refl (before-taken k ws)

pub from-block : (word : List ℕ) (rest : List (List ℕ)) → names_block word ≡ true → from_blocks (word ∷ rest) ≡ word ∷ rest
from-block word rest e = rw e refl

pub from-number : (word : List ℕ) (rest : List (List ℕ)) → names_block word ≡ false → from_blocks (word ∷ rest) ≡ from_blocks rest
from-number word rest e = rw e refl
