-- Setting, clearing and seeking bits of a list of words.
use Rattle.std.proofs.Common.{◌≡◌, ◌≢◌, ℕ, ◌+◌, ◌*◌, ◌-◌, ◌/◌, ◌%◌, ◌^◌, ◌≤◌, ◌<◌, List, length, slice_index, slice_set, ap, sym, ◌∙◌, arith, inl, inr, w64, bit_and, bit_or}
use Rattle.std.specs.Int.{bit_at, trailing_ones}
use Rattle.std.proofs.lemmas.List.{length-set, get_or-set_same, get_or-set_other}
use Rattle.std.proofs.lemmas.Bool.{cases_eq, cases_lt}
use Rattle.std.proofs.lemmas.Nat.Bits.{bit_at_ones, bit_at_set_same, bit_at_set_other, bit_at_clear_same, bit_at_clear_other, bit_at-trailing_ones}
use Rattle.block_handles.specs.Bits.{bit_of, SetsBit, IsLowestFree}

module _ (words : List ℕ) (slot w v bit : ℕ) (small : slot / 64 < length words) (is : w ≡ slice_index words (slot / 64))
    (here : bit_at v (slot % 64) ≡ bit) (beside : (i : ℕ) → i < 64 → i ≢ slot % 64 → bit_at v i ≡ bit_at w i) where
  -- one word is written, in which one bit differs
  pub one_bit : SetsBit words (slice_set words (slot / 64) v) slot bit
  one_bit = record {
    here = ap (λ n. bit_at n (slot % 64)) (get_or-set_same words (slot / 64) v 0 small) ∙ here;
    others = λ other ne. elim (cases_eq (other / 64) (slot / 64)) as (λ _. bit_of (slice_set words (slot / 64) v) other ≡ bit_of words other) [
      | inl e ↦ same_word other ne e
      | inr n ↦ ap (λ k. bit_at k (other % 64)) (get_or-set_other words (slot / 64) (other / 64) v 0 n)
    ];
    long = length-set words (slot / 64) v;
  }
    where
      same_word : (other : ℕ) → other ≢ slot → other / 64 ≡ slot / 64 → bit_of (slice_set words (slot / 64) v) other ≡ bit_of words other
      same_word other ne e =
          let off : other % 64 ≢ slot % 64 = λ z. ne (omega (arith, e, z)) in
          ap (λ k. bit_at (slice_index (slice_set words (slot / 64) v) k) (other % 64)) e
          ∙ ap (λ n. bit_at n (other % 64)) (get_or-set_same words (slot / 64) v 0 small)
          ∙ beside (other % 64) (omega arith) off ∙ ap (λ n. bit_at n (other % 64)) is ∙ ap (λ k. bit_at (slice_index words k) (other % 64)) (sym e)

pub set_bit : (words : List ℕ) (slot w : ℕ) → slot / 64 < length words → w ≡ slice_index words (slot / 64)
    → SetsBit words (slice_set words (slot / 64) (bit_or w (1 * 2 ^ (slot % 64) % 18446744073709551616))) slot 1
set_bit words slot w small is =
    let k : slot % 64 < 64 = omega arith in
    one_bit words slot w (bit_or w (1 * 2 ^ (slot % 64) % 18446744073709551616)) 1 small is (bit_at_set_same w64 w (slot % 64) k)
    (λ i lt ne. bit_at_set_other w64 w (slot % 64) k i ne)

pub clear_bit : (words : List ℕ) (slot w : ℕ) → slot / 64 < length words → w ≡ slice_index words (slot / 64)
    → SetsBit words (slice_set words (slot / 64) (bit_and w (18446744073709551615 - 1 * 2 ^ (slot % 64) % 18446744073709551616))) slot 0
clear_bit words slot w small is =
    let k : slot % 64 < 64 = omega arith in
    one_bit words slot w (bit_and w (18446744073709551615 - 1 * 2 ^ (slot % 64) % 18446744073709551616)) 0 small is
    (bit_at_clear_same w64 w (slot % 64) k) (λ i lt ne. bit_at_clear_other w64 w (slot % 64) k i lt ne)

module _ (words : List ℕ) (first i w : ℕ) (is : w ≡ slice_index words i) (before : (slot : ℕ) → 64 * first ≤ slot
    → slot < 64 * i → bit_of words slot ≡ 1) where
  here_word : (slot : ℕ) → slot / 64 ≡ i → bit_of words slot ≡ bit_at w (slot % 64)
  here_word slot e = ap (λ k. bit_at (slice_index words k) (slot % 64)) e ∙ ap (λ n. bit_at n (slot % 64)) (sym is)

  -- a word of ones
  pub full_word : w ≡ 18446744073709551615 → (slot : ℕ) → 64 * first ≤ slot → slot < 64 * (i + 1) → bit_of words slot ≡ 1
  full_word full slot low high = elim (cases_lt slot (64 * i)) as (λ _. bit_of words slot ≡ 1) [
    | inl lt ↦ before slot low lt
    | inr ge ↦ here_word slot (omega arith) ∙ ap (λ n. bit_at n (slot % 64)) full ∙ bit_at_ones 64 (slot % 64) (omega arith)
  ]

  -- a word with a zero
  pub free_word : w < 2 ^ 64 → w ≢ 18446744073709551615 → first ≤ i → i < first + 16 → (t : ℕ) → t ≡ trailing_ones w64 w
      → IsLowestFree words (64 * first) (64 * i + t)
  free_word fits ne le lt t e =
      let b = bit_at-trailing_ones w64 w (omega arith) in
      let small : t < 64 = omega (arith, e, b.0) in
      record {
        low = omega (arith, small);
        high = omega (arith, small);
        free = here_word (64 * i + t) (omega (arith, small)) ∙ (λ k. bit_at w (rest small k)) ∙ ap (λ n. bit_at w n) e ∙ b.1;
        lower = λ other ge less. elim (cases_lt other (64 * i)) as (λ _. bit_of words other ≡ 1) [
          | inl q ↦ before other ge q
          | inr q ↦ here_word other (omega (arith, small)) ∙ b.2 (other % 64) (omega (arith, e, small))
        ];
      }
    where
      rest : t < 64 → (64 * i + t) % 64 ≡ t
      rest small = omega arith
