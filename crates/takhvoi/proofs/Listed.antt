-- Lists of records, and buffers that they overwrite.
use Rattle.std.proofs.Common.{◌≡◌, ◌+◌, ◌<◌, ◌≤◌, ℕ, zero, suc, List, [], ◌∷◌, ◌++◌, Option, Some, None, length, drop, take, refl, ap, arith}
use Rattle.takhvoi.specs.Records.{overwritten, records_below, with_some}

-- the beginning of records that fits overwrites the beginning of a buffer, whose rest stays the same
pub written-over : {R : Type 0} → (buffer records : List R) (n : ℕ) → n ≤ length records → n ≤ length buffer
    → (n < length records → length buffer ≤ n) → take n records ++ drop n buffer ≡ overwritten buffer records
written-over [] records zero a b c = refl
written-over [] records (suc n) a b c = absurd (omega (arith, b))
written-over (x ∷ buffer) [] zero a b c = refl
written-over (x ∷ buffer) [] (suc n) a b c = absurd (omega (arith, a))
written-over (x ∷ buffer) (w ∷ records) zero a b c = absurd (let past = c (omega arith) in omega (arith, past))
written-over (x ∷ buffer) (w ∷ records) (suc n) a b c =
    ap (λ ys. w ∷ ys) (written-over buffer records n (omega (arith, a)) (omega (arith, b)) (λ less. (let past = c (omega (arith, less)) in omega (arith, past))))

-- one number more
pub records-more : {R : Type 0} → (record_of : ℕ → Option R) (n : ℕ) → records_below record_of (n + 1) ≡ with_some (records_below record_of n) (record_of n)
unfolding records_below
records-more record_of n =
    let more : n + 1 ≡ suc n = omega arith in
    ap (records_below record_of) more

pub records-none : {R : Type 0} → (record_of : ℕ → Option R) → records_below record_of 0 ≡ []
unfolding records_below
records-none record_of = refl

one-more : {R : Type 0} → (xs : List R) (x : R) → length (xs ++ x ∷ []) ≡ length xs + 1
one-more [] x = refl
one-more (y ∷ xs) x = (let rest = one-more xs x in omega (arith, rest))

with-some-few : {R : Type 0} → (xs : List R) (o : Option R) → length (with_some xs o) ≤ length xs + 1
with-some-few xs None = omega arith
with-some-few xs (Some x) = (let is = one-more xs x in omega (arith, is))

-- there are no more records than numbers
pub few-records : {R : Type 0} → (record_of : ℕ → Option R) (n : ℕ) → length (records_below record_of n) ≤ n
unfolding records_below
few-records record_of zero = omega arith
few-records record_of (suc n) =
    let rest = few-records record_of n in
    let one = with-some-few (records_below record_of n) (record_of n) in
    omega (arith, rest, one)
