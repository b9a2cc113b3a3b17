-- Numbers that are found one after another, and written into a buffer.
use Rattle.std.proofs.Common.{◌≡◌, ◌∙◌, ◌+◌, ◌<◌, ◌≤◌, ℕ, zero, suc, Bool, true, false, List, [], ◌∷◌, ◌++◌, length, drop, take, slice_set, refl, ap, sym, subst, arith}
use Rattle.std.specs.Prelude.{if◌then◌else◌}
use Rattle.lmem_raw.specs.Bytes.{with_part}
use Rattle.lmem_raw.proofs.Parts.{length-with_part}
use Rattle.geos_kernel.specs.View.{IsFileOf, KernelState, memory_of}
use Rattle.geos_calls.specs.VmFile.{VmFile}
use Rattle.geos_calls.specs.Memory.{Memory}
use Rattle.takhvoi.specs.Lists.{Fills, Lists, those_below}

-- the beginning of a list that fits overwrites the beginning of another, whose rest stays the same
pub filled : (bs ws : List ℕ) (n : ℕ) → n ≤ length ws → n ≤ length bs → (n < length ws → length bs ≤ n) → take n ws ++ drop n bs ≡ with_part bs 0 ws
filled [] ws zero a b c = refl
filled [] ws (suc n) a b c = absurd (omega (arith, b))
filled (x ∷ bs) [] zero a b c = refl
filled (x ∷ bs) [] (suc n) a b c = absurd (omega (arith, a))
filled (x ∷ bs) (w ∷ ws) zero a b c = absurd (let past = c (omega arith) in omega (arith, past))
filled (x ∷ bs) (w ∷ ws) (suc n) a b c =
    ap (λ ys. w ∷ ys) (filled bs ws n (omega (arith, a)) (omega (arith, b)) (λ less. (let past = c (omega (arith, less)) in omega (arith, past))))

none-put : (bs : List ℕ) → with_part bs 0 [] ≡ bs
none-put [] = refl
none-put (b ∷ bs) = refl

-- one more element is written after the others
more-in : (start found : List ℕ) (n : ℕ) → length found < length start
    → with_part start 0 (found ++ n ∷ []) ≡ slice_set (with_part start 0 found) (length found) n
more-in [] found n h = absurd (omega (arith, h))
more-in (x ∷ start) [] n h = ap (λ ys. n ∷ ys) (none-put start)
more-in (x ∷ start) (y ∷ found) n h = ap (λ ys. y ∷ ys) (more-in start found n (omega (arith, h)))

-- or there is no room for it
more-past : (start found : List ℕ) (n : ℕ) → length start ≤ length found → with_part start 0 (found ++ n ∷ []) ≡ with_part start 0 found
more-past [] found n h = refl
more-past (x ∷ start) [] n h = absurd (omega (arith, h))
more-past (x ∷ start) (y ∷ found) n h = ap (λ ys. y ∷ ys) (more-past start found n (omega (arith, h)))

one-longer : (found : List ℕ) (n count : ℕ) → count ≡ length found → count + 1 ≡ length (found ++ n ∷ [])
one-longer [] n count is = omega (arith, is)
one-longer (x ∷ found) n zero is = absurd (omega (arith, is))
one-longer (x ∷ found) n (suc count) is = (let rest = one-longer found n count (omega (arith, is)) in omega (arith, rest))

pub fills-in : (old : List ℕ) (count n : ℕ) → count < length old → (found start : List ℕ) → Fills found count start old
    → Fills (found ++ n ∷ []) (count + 1) start (slice_set old count n)
fills-in old count n within found start f =
    let long : length old ≡ length start = ap length f.written ∙ length-with_part start 0 found in
    let is = f.count_is in
    record {
      count_is = one-longer found n count is;
      written = (λ k. slice_set (f.written k) (is k) n) ∙ sym (more-in start found n (omega (arith, long, is, within)));
    }

pub fills-past : (old : List ℕ) (count n : ℕ) → length old ≤ count → (found start : List ℕ) → Fills found count start old
    → Fills (found ++ n ∷ []) (count + 1) start old
fills-past old count n past found start f =
    let long : length old ≡ length start = ap length f.written ∙ length-with_part start 0 found in
    let is = f.count_is in
    record {
      count_is = one-longer found n count is;
      written = f.written ∙ sym (more-past start found n (omega (arith, long, is, past)));
    }

-- nothing is found at first
pub lists-none : (test : Memory → ℕ → Bool) (s : KernelState) (start : List ℕ) → Lists test 0 s 0 start start
unfolding those_below
lists-none test s start = λ f is. record { count_is = refl; written = sym (none-put start) }

next-is : (test : ℕ → Bool) (n : ℕ) → test n ≡ true → those_below test (n + 1) ≡ those_below test n ++ n ∷ []
unfolding those_below
next-is test n is =
    let more : n + 1 ≡ suc n = omega arith in
    ap (those_below test) more ∙ ap (λ b. if b then those_below test n ++ n ∷ [] else those_below test n) is

next-not : (test : ℕ → Bool) (n : ℕ) → test n ≡ false → those_below test (n + 1) ≡ those_below test n
unfolding those_below
next-not test n is =
    let more : n + 1 ≡ suc n = omega arith in
    ap (those_below test) more ∙ ap (λ b. if b then those_below test n ++ n ∷ [] else those_below test n) is

module _ (test : Memory → ℕ → Bool) (n : ℕ) (s : KernelState) (count : ℕ) (start old : List ℕ) (sofar : Lists test n s count start old) where
  -- the next number is among them
  pub lists-more : (more : ℕ) (new : List ℕ)
      → ((found start : List ℕ) → Fills found count start old → Fills (found ++ n ∷ []) more start new)
      → ((f : VmFile) → IsFileOf (Unit {0}) s f → true ≡ test (memory_of s f) n) → Lists test (n + 1) s more start new
  lists-more more new puts is f tied =
      subst (λ found. Fills found more start new) (sym (next-is (test (memory_of s f)) n (sym (is f tied))))
      (puts (those_below (test (memory_of s f)) n) start (sofar f tied))

  -- or it is not
  pub lists-same : ((f : VmFile) → IsFileOf (Unit {0}) s f → false ≡ test (memory_of s f) n) → Lists test (n + 1) s count start old
  lists-same is f tied = subst (λ found. Fills found count start old) (sym (next-not (test (memory_of s f)) n (sym (is f tied)))) (sofar f tied)

-- the same count and the same buffer by other names
pub lists-at : (test : Memory → ℕ → Bool) (n : ℕ) (s : KernelState) (start : List ℕ) (count more : ℕ) (old new : List ℕ) → more ≡ count → new ≡ old
    → Lists test n s count start old → Lists test n s more start new
lists-at test n s start count more old new is same lists f tied =
    subst (λ m. Fills (those_below (test (memory_of s f)) n) m start new) (sym is)
    (subst (λ bs. Fills (those_below (test (memory_of s f)) n) count start bs) (sym same) (lists f tied))
