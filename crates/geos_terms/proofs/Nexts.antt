-- Handles with a chunk and without.
use Rattle.std.proofs.Common.{◌≡◌, ◌≢◌, ℕ, ◌+◌, ◌-◌, ◌*◌, ◌/◌, ◌%◌, ◌<◌, ◌≤◌, List, Option, None, refl, ap, sym, ◌∙◌, subst, inl, inr, arith}
use Rattle.std.specs.Option.{IsSome}
use Rattle.std.proofs.lemmas.Bool.{cases_eq, cases_lt}
use Rattle.geos_terms.proofs.Entries.{chunk-in, chunk-low, chunk-odd, chunk-past, chunk-none, chunk-nothing, chunk-told}
use Rattle.geos_terms.specs.Block.{entry, entries, chunk_at, chunks}
use Rattle.geos_terms.specs.Bytes.{word}
use Rattle.geos_terms.specs.Chunks.{chunk_of}

pub no-chunk : (b : List ℕ) (h : ℕ) → (16 ≤ h → h % 2 ≡ 0 → (h - 16) / 2 < entries b → entry b ((h - 16) / 2) ≡ 0) → chunk_of (chunks b) h ≡ None
no-chunk b h zero = elim (cases_lt h 16) [
  | inl l ↦ chunk-low b h l
  | inr ge ↦ elim (cases_eq (h % 2) 0) [
    | inr odd ↦ chunk-odd b h odd
    | inl even ↦ elim (cases_lt ((h - 16) / 2) (entries b)) [
      | inr past ↦ chunk-past b h past
      | inl l ↦ (let place : 16 + 2 * ((h - 16) / 2) ≡ h = omega arith in
          chunk-in b h (word b h) ge even l refl ∙ chunk-none b (word b h) (ap (word b) (sym place) ∙ zero ge even l))
    ]
  ]
]

pub some-chunk : (b : List ℕ) (i h : ℕ) → i < entries b → entry b i ≢ 0 → h ≡ 16 + 2 * i → IsSome (chunk_of (chunks b) h)
some-chunk b i h l ne is =
    let index : (h - 16) / 2 ≡ i = omega arith in
    let at : chunk_of (chunks b) h ≡ chunk_at b (entry b i) = chunk-in b h (entry b i) (omega arith) (omega arith)
    (omega arith) (ap (word b) (sym is)) in
    let S : Option (List ℕ) → Type 0 = λ o. IsSome o in
    elim (cases_eq (entry b i) 65535) [
      | inl d ↦ subst S (sym (at ∙ chunk-nothing b (entry b i) d)) refl
      | inr nd ↦ subst S (sym (at ∙ chunk-told b (entry b i) (ne, nd))) refl
    ]
