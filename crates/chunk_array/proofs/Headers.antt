-- Headers of arrays with no element.
use Rattle.std.proofs.Common.{◌≡◌, ℕ, ◌<◌, List, length, get_or, ◌∙◌, inl, inr, arith}
use Rattle.std.proofs.lemmas.Bool.{cases_eq}
use Rattle.std.proofs.lemmas.List.{drop_all}
use Rattle.geos_terms.specs.Bytes.{with_word}
use Rattle.geos_terms.specs.Arrays.{empty, first_at, spelled}
use Rattle.geos_terms.proofs.Words.{word-same, word-other, length-with_word}
use Rattle.geos_terms.proofs.ArraySpells.{spells, first-varying, first-fixed}
use Rattle.geos_terms.proofs.ArrayPlaces.{length-spelled}

-- a header of four words
abbrev pub with_header : List ℕ → ℕ → List ℕ
with_header bytes k = with_word (with_word (with_word (with_word bytes 0 0) 2 k) 4 0) 6 8

first-empty : (k : ℕ) → first_at (empty k) ≡ 8
first-empty k = elim (cases_eq k 0) [
  | inl e ↦ first-varying (empty k) e
  | inr ne ↦ first-fixed (empty k) ne
]

pub header-spells : (bytes : List ℕ) (k : ℕ) → length bytes ≡ 8 → k < 65536 → ((i : ℕ) → get_or (with_header bytes k) i 0 < 256)
    → with_header bytes k ≡ spelled (empty k)
header-spells bytes k long small are =
    let b1 = with_word bytes 0 0 in
    let b2 = with_word b1 2 k in
    let b3 = with_word b2 4 0 in
    let b4 = with_word b3 6 8 in
    let l1 = length-with_word bytes 0 0 in
    let l2 = length-with_word b1 2 k in
    let l3 = length-with_word b2 4 0 in
    let l4 = length-with_word b3 6 8 in
    let f = first-empty k in
    spells b4 (empty k) (record {
      small = are;
      count = word-other b3 6 8 0 (inl (omega arith)) ∙ word-other b2 4 0 0 (inl (omega arith))
          ∙ word-other b1 2 k 0 (inl (omega arith)) ∙ word-same bytes 0 0 (omega arith) (omega arith);
      size = word-other b3 6 8 2 (inl (omega arith)) ∙ word-other b2 4 0 2 (inl (omega arith)) ∙ word-same b1 2 k small (omega arith);
      zero = word-other b3 6 8 4 (inl (omega arith)) ∙ word-same b2 4 0 (omega arith) (omega arith);
      eight = word-same b3 6 8 (omega arith) (omega arith);
      offsets = (λ e j h. absurd (omega arith));
      fits = omega (arith, f);
      rest = drop_all (first_at (empty k)) b4 (omega (arith, f));
    })

pub length-empty : (k : ℕ) → length (spelled (empty k)) ≡ 8
length-empty k = omega (arith, length-spelled (empty k), first-empty k)
