-- Lists joined end to end, and words as their bytes.
use Rattle.std.proofs.Common.{◌≡◌, ℕ, zero, suc, ◌+◌, ◌*◌, ◌/◌, ◌%◌, ◌<◌, ◌≤◌, List, [], ◌∷◌, ◌++◌, length, take, drop, get_or, sum_by, refl, ap, sym, ◌∙◌, arith}
use Rattle.std.specs.Prelude.{flat_map}
use Rattle.std.proofs.lemmas.List.{take_at, drop_at, take-append-drop, get_or-append-add}
use Rattle.std.proofs.lemmas.List.Concat.{flat_map-append, length-flat_map}
use Rattle.geos_terms.specs.Bytes.{word, word_bytes}

-- lists joined end to end
abbrev pub join : List (List ℕ) → List ℕ
join xs = flat_map (λ e. e) xs

pub length-join : (xs : List (List ℕ)) → sum_by length xs ≡ length (join xs)
length-join xs = sym (length-flat_map (λ (e : List ℕ). e) xs)

pub join-append : (xs ys : List (List ℕ)) → join (xs ++ ys) ≡ join xs ++ join ys
join-append xs ys = flat_map-append (λ (e : List ℕ). e) xs ys

pub join-split : (xs : List (List ℕ)) (i : ℕ) → join xs ≡ join (take i xs) ++ join (drop i xs)
join-split xs i = ap join (sym (take-append-drop i xs)) ∙ join-append (take i xs) (drop i xs)

-- the first lists and the rest of a joined list
pub take-join : (xs : List (List ℕ)) (i n : ℕ) → length (join (take i xs)) ≡ n → take n (join xs) ≡ join (take i xs)
take-join xs i n e = ap (take n) (join-split xs i) ∙ take_at (join (take i xs)) (join (drop i xs)) n e

pub drop-join : (xs : List (List ℕ)) (i n : ℕ) → length (join (take i xs)) ≡ n → drop n (join xs) ≡ join (drop i xs)
drop-join xs i n e = ap (drop n) (join-split xs i) ∙ drop_at (join (take i xs)) (join (drop i xs)) n e

pub length-word_bytes : (ws : List ℕ) → length (flat_map word_bytes ws) ≡ 2 * length ws
length-word_bytes [] = refl
length-word_bytes (w ∷ ws) = omega (arith, length-word_bytes ws)

pub word-behind : (x y : ℕ) (bs : List ℕ) (j k : ℕ) → j ≡ 2 + k → word (x ∷ y ∷ bs) j ≡ word bs k
unfolding word
word-behind x y bs j k e =
    let low : get_or (x ∷ y ∷ bs) j 0 ≡ get_or bs k 0 = ap (λ m. get_or (x ∷ y ∷ bs) m 0) e ∙ get_or-append-add (x ∷ y ∷ []) bs k 0 in
    let next : j + 1 ≡ 2 + (k + 1) = omega arith in
    let high : get_or (x ∷ y ∷ bs) (j + 1) 0 ≡ get_or bs (k + 1) 0 = ap (λ m. get_or (x ∷ y ∷ bs) m 0) next
    ∙ get_or-append-add (x ∷ y ∷ []) bs (k + 1) 0 in
    omega (arith, low, high)

word-first : (x y : ℕ) (bs : List ℕ) → word (x ∷ y ∷ bs) 0 ≡ x + 256 * y
unfolding word
word-first x y bs = refl

-- the words of words are they themselves
pub word-word_bytes : (ws zs : List ℕ) (j : ℕ) → j < length ws → word (flat_map word_bytes ws ++ zs) (2 * j) ≡ get_or ws j 0
word-word_bytes [] zs j h = absurd (omega arith)
word-word_bytes (w ∷ ws) zs zero h = omega (arith, word-first (w % 256) (w / 256) (flat_map word_bytes ws ++ zs))
word-word_bytes (w ∷ ws) zs (suc j) h = word-behind (w % 256) (w / 256) (flat_map word_bytes ws ++ zs) (2 * suc j) (2 * j) (omega arith)
    ∙ word-word_bytes ws zs j (omega arith)

-- bytes whose words are these
pub take-words : (bs ws : List ℕ) → ((k : ℕ) → get_or bs k 0 < 256) → 2 * length ws ≤ length bs
    → ((j : ℕ) → j < length ws → word bs (2 * j) ≡ get_or ws j 0) → take (2 * length ws) bs ≡ flat_map word_bytes ws
take-words bs [] small fits are = refl
take-words [] (w ∷ ws) small fits are = absurd (omega arith)
take-words (x ∷ []) (w ∷ ws) small fits are = absurd (omega arith)
take-words (x ∷ (y ∷ bs)) (w ∷ ws) small fits are =
    let two : 2 * suc (length ws) ≡ suc (suc (2 * length ws)) = omega arith in
    let first : x + 256 * y ≡ w = sym (word-first x y bs) ∙ are 0 (omega arith) in
    let x_small : x < 256 = small 0 in
    let low : x ≡ w % 256 = omega arith in
    let high : y ≡ w / 256 = omega arith in
    let rest : take (2 * length ws) bs ≡ flat_map word_bytes ws =
    take-words bs ws (λ k. small (suc (suc k))) (omega arith) (λ j h. sym (word-behind x y bs (2 * suc j) (2 * j) (omega arith))
    ∙ are (suc j) (omega arith)) in
    ap (λ n. take n (x ∷ y ∷ bs)) two ∙ ap (λ z. z ∷ y ∷ take (2 * length ws) bs) low ∙ ap (λ z. w % 256 ∷ z ∷ take (2 * length ws) bs) high
    ∙ ap (λ zs. w % 256 ∷ w / 256 ∷ zs) rest
