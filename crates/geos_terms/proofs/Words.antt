-- Words and parts after a write, by place.
use Rattle.std.proofs.Common.{◌≡◌, ℕ, zero, suc, ◌+◌, ◌-◌, ◌*◌, ◌/◌, ◌%◌, ◌<◌, ◌≤◌, ◌⊎◌, List, [], ◌∷◌, length, drop, get_or, set, refl, ap, sym, ◌∙◌, inl, inr, arith, length-take, length-drop, add-one}
use Rattle.std.proofs.lemmas.List.{same_lists, get_or-take, get_or-drop, get_or_default}
use Rattle.geos_terms.specs.Bytes.{word, word_bytes, with_word, with_words, AreWords, IsShifted}
use Rattle.lmem_raw.proofs.Parts.{length-with_part}
use Rattle.lmem_raw.specs.Bytes.{part, with_part}

pub length-with_word : (bs : List ℕ) (at w : ℕ) → length (with_word bs at w) ≡ length bs
unfolding with_word
length-with_word bs at w = length-with_part bs at (word_bytes w)

pub get_or-with_part_before : (bs : List ℕ) (at : ℕ) (ws : List ℕ) (k : ℕ) → k < at → get_or (with_part bs at ws) k 0 ≡ get_or bs k 0
get_or-with_part_before [] at ws k h = refl
get_or-with_part_before (b ∷ bs) zero ws k h = absurd (omega arith)
get_or-with_part_before (b ∷ bs) (suc at) ws zero h = refl
get_or-with_part_before (b ∷ bs) (suc at) ws (suc k) h = get_or-with_part_before bs at ws k (omega arith)

pub get_or-with_part_behind : (bs : List ℕ) (at : ℕ) (ws : List ℕ) (k : ℕ) → at + length ws ≤ k → get_or (with_part bs at ws) k 0 ≡ get_or bs k 0
get_or-with_part_behind [] at ws k h = refl
get_or-with_part_behind (b ∷ bs) zero [] k h = refl
get_or-with_part_behind (b ∷ bs) zero (w ∷ ws) zero h = absurd (omega arith)
get_or-with_part_behind (b ∷ bs) zero (w ∷ ws) (suc k) h = get_or-with_part_behind bs zero ws k (omega arith)
get_or-with_part_behind (b ∷ bs) (suc at) ws zero h = absurd (omega arith)
get_or-with_part_behind (b ∷ bs) (suc at) ws (suc k) h = get_or-with_part_behind bs at ws k (omega arith)

pub get_or-with_part_within : (bs : List ℕ) (at : ℕ) (ws : List ℕ) (j k : ℕ) → j ≡ at + k → k < length ws → j < length bs
    → get_or (with_part bs at ws) j 0 ≡ get_or ws k 0
get_or-with_part_within [] at ws j k e h l = absurd (omega arith)
get_or-with_part_within (b ∷ bs) zero [] j k e h l = absurd (omega arith)
get_or-with_part_within (b ∷ bs) zero (w ∷ ws) zero zero e h l = refl
get_or-with_part_within (b ∷ bs) zero (w ∷ ws) zero (suc k) e h l = absurd (omega arith)
get_or-with_part_within (b ∷ bs) zero (w ∷ ws) (suc j) zero e h l = absurd (omega arith)
get_or-with_part_within (b ∷ bs) zero (w ∷ ws) (suc j) (suc k) e h l = get_or-with_part_within bs zero ws j k
    (omega arith) (omega arith) (omega arith)
get_or-with_part_within (b ∷ bs) (suc at) ws zero k e h l = absurd (omega arith)
get_or-with_part_within (b ∷ bs) (suc at) ws (suc j) k e h l = get_or-with_part_within bs at ws j k (omega arith) h (omega arith)

-- a word that was written
pub word-same : (bs : List ℕ) (at w : ℕ) → w < 65536 → at + 2 ≤ length bs → word (with_word bs at w) at ≡ w
unfolding word with_word
word-same bs at w small h =
    let low : get_or (with_part bs at (word_bytes w)) at 0 ≡ w % 256 = get_or-with_part_within bs at (word_bytes w) at 0
    (omega arith) (omega arith) (omega arith) in
    let high : get_or (with_part bs at (word_bytes w)) (at + 1) 0 ≡ w / 256 = get_or-with_part_within bs at (word_bytes w)
    (at + 1) 1 refl (omega arith) (omega arith) in
    omega (arith, low, high)

-- a word that lies apart from a written part
pub word-part_other : (bs : List ℕ) (at : ℕ) (ws : List ℕ) (j : ℕ) → (j + 2 ≤ at) ⊎ (at + length ws ≤ j) → word (with_part bs at ws) j ≡ word bs j
unfolding word
word-part_other bs at ws j (inl h) =
    let low : get_or (with_part bs at ws) j 0 ≡ get_or bs j 0 = get_or-with_part_before bs at ws j (omega arith) in
    let high : get_or (with_part bs at ws) (j + 1) 0 ≡ get_or bs (j + 1) 0 = get_or-with_part_before bs at ws (j + 1) (omega arith) in
    omega (arith, low, high)
word-part_other bs at ws j (inr h) =
    let low : get_or (with_part bs at ws) j 0 ≡ get_or bs j 0 = get_or-with_part_behind bs at ws j (omega arith) in
    let high : get_or (with_part bs at ws) (j + 1) 0 ≡ get_or bs (j + 1) 0 = get_or-with_part_behind bs at ws (j + 1) (omega arith) in
    omega (arith, low, high)

pub word-other : (bs : List ℕ) (at w j : ℕ) → (j + 2 ≤ at) ⊎ (at + 2 ≤ j) → word (with_word bs at w) j ≡ word bs j
unfolding with_word
word-other bs at w j h = word-part_other bs at (word_bytes w) j h

pub with_nothing : (bs : List ℕ) (at : ℕ) → with_part bs at [] ≡ bs
with_nothing [] at = refl
with_nothing (b ∷ bs) zero = refl
with_nothing (b ∷ bs) (suc at) = ap (λ zs. b ∷ zs) (with_nothing bs at)

-- two bytes written one after the other
pub set_two : (bs : List ℕ) (at x y : ℕ) → at + 2 ≤ length bs → set (set bs at x) (at + 1) y ≡ with_part bs at (x ∷ y ∷ [])
set_two [] at x y h = absurd (omega arith)
set_two (b ∷ []) zero x y h = absurd (omega arith)
set_two (b ∷ c ∷ bs) zero x y h = ap (λ zs. x ∷ y ∷ zs) (sym (with_nothing bs 0))
set_two (b ∷ bs) (suc at) x y h = rw add-one (ap (λ zs. b ∷ zs) (rw (← add-one) (set_two bs at x y (omega arith))))

pub length-with_words : (bs : List ℕ) (at : ℕ) (ws : List ℕ) → length (with_words bs at ws) ≡ length bs
length-with_words bs at [] = refl
length-with_words bs at (w ∷ ws) = length-with_words (with_word bs at w) (at + 2) ws ∙ length-with_word bs at w

pub word-words_before : (bs : List ℕ) (at : ℕ) (ws : List ℕ) (j : ℕ) → j + 2 ≤ at → word (with_words bs at ws) j ≡ word bs j
word-words_before bs at [] j h = refl
word-words_before bs at (w ∷ ws) j h = word-words_before (with_word bs at w) (at + 2) ws j (omega arith) ∙ word-other bs at w j (inl h)

-- the words that were written
pub words-written : (bs : List ℕ) (at : ℕ) (ws : List ℕ) → at + 2 * length ws ≤ length bs → ((k : ℕ) → get_or ws k 0 < 65536)
    → AreWords (with_words bs at ws) at ws
words-written bs at [] h small = tt
words-written bs at (w ∷ ws) h small =
    let fits : at + 2 ≤ length bs = omega arith in
    let room : (at + 2) + 2 * length ws ≤ length (with_word bs at w) = omega (arith, length-with_word bs at w) in (
      word-words_before (with_word bs at w) (at + 2) ws at (omega arith) ∙ word-same bs at w (small 0) fits,
      words-written (with_word bs at w) (at + 2) ws room (λ k. small (suc k)),
    )

-- a byte outside a word that was written
pub byte-other : (b : List ℕ) (at w k : ℕ) → (k < at) ⊎ (at + 2 ≤ k) → get_or (with_word b at w) k 0 ≡ get_or b k 0
unfolding with_word
byte-other b at w k (inl h) = get_or-with_part_before b at (word_bytes w) k h
byte-other b at w k (inr h) = get_or-with_part_behind b at (word_bytes w) k h

-- words are their two bytes
pub word-bytes : (old new : List ℕ) (j k : ℕ) → get_or new j 0 ≡ get_or old k 0 → get_or new (j + 1) 0 ≡ get_or old (k + 1) 0
    → word new j ≡ word old k
unfolding word
word-bytes old new j k low high = omega (arith, low, high)

-- a word that was shifted
pub word-shifted : (b c : List ℕ) (down up lo hi j k : ℕ) → IsShifted b c down up lo hi → j + down ≡ k + up → lo ≤ k
    → k + 2 ≤ hi → word c j ≡ word b k
word-shifted b c down up lo hi j k shifted e low high = word-bytes b c j k (shifted j k e low (omega arith))
    (shifted (j + 1) (k + 1) (omega arith) (omega arith) (omega arith))

-- a part that was shifted
pub part-shifted : (b c : List ℕ) (down up lo hi j k n : ℕ) → IsShifted b c down up lo hi → j + down ≡ k + up → lo ≤ k
    → k + n ≤ hi → k + n ≤ length b → j + n ≤ length c → part c j n ≡ part b k n
part-shifted b c down up lo hi j k n shifted e low high fits_b fits_c =
    let same_length : length (part c j n) ≡ length (part b k n) =
    omega (arith, length-take n (drop j c), length-drop j c, length-take n (drop k b), length-drop k b) in
    same_lists _ _ same_length (λ q d l.
    let small : q < n = omega (arith, length-take n (drop j c), length-drop j c) in
    let in_c : j + q < length c = omega arith in
    let in_b : k + q < length b = omega arith in
    get_or-take n (drop j c) q d small ∙ get_or-drop j c q d ∙ get_or_default c (j + q) d 0 in_c
    ∙ shifted (j + q) (k + q) (omega arith) (omega arith) (omega arith)
    ∙ sym (get_or_default b (k + q) d 0 in_b) ∙ sym (get_or-drop k b q d) ∙ sym (get_or-take n (drop k b) q d small))

-- part of what was shifted
pub shifted-within : (b c : List ℕ) (down up lo hi lo' hi' : ℕ) → IsShifted b c down up lo hi → lo ≤ lo' → hi' ≤ hi → IsShifted b c down up lo' hi'
shifted-within b c down up lo hi lo' hi' shifted low high j k e g r = shifted j k e (omega arith) (omega arith)

-- the bytes outside a written part stay
pub kept-before : (b : List ℕ) (at : ℕ) (ws : List ℕ) (lo hi : ℕ) → hi ≤ at → IsShifted b (with_part b at ws) 0 0 lo hi
kept-before b at ws lo hi h j k e g r = let same : j ≡ k = omega arith in ap (λ x. get_or (with_part b at ws) x 0) same
    ∙ get_or-with_part_before b at ws k (omega arith)

pub kept-behind : (b : List ℕ) (at : ℕ) (ws : List ℕ) (lo hi : ℕ) → at + length ws ≤ lo → IsShifted b (with_part b at ws) 0 0 lo hi
kept-behind b at ws lo hi h j k e g r = let same : j ≡ k = omega arith in ap (λ x. get_or (with_part b at ws) x 0) same
    ∙ get_or-with_part_behind b at ws k (omega arith)

-- bytes that moved are those from before
pub part-moved : (b d : List ℕ) (from to n : ℕ) → from + n ≤ length b → to + n ≤ length b → d ≡ with_part b to (part b from n)
    → IsShifted b d from to from (from + n)
part-moved b d from to n source target made j k e low high =
    let ws = part b from n in
    let long : length ws ≡ n = omega (arith, length-take n (drop from b), length-drop from b) in
    let place : from + (k - from) ≡ k = omega arith in
    ap (λ x. get_or x j 0) made ∙ get_or-with_part_within b to ws j (k - from) (omega arith) (omega arith) (omega arith)
    ∙ get_or-take n (drop from b) (k - from) 0 (omega arith) ∙ get_or-drop from b (k - from) 0 ∙ ap (λ x. get_or b x 0) place
