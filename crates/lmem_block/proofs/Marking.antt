-- What the marks of `check` say.
use Rattle.std.proofs.Common.{◌≡◌, ◌≢◌, ℕ, zero, suc, ◌+◌, ◌/◌, ◌%◌, ◌<◌, ◌≤◌, ◌⊎◌, Bool, true, false, List, [], ◌∷◌, length, get_or, set, replicate, refl, ap, sym, ◌∙◌, subst, inl, inr, arith, get_or-set_same, get_or-set_other}
use Rattle.std.proofs.lemmas.Bool.{cases_eq, cases_lt, false≢true}
use Rattle.geos_terms.proofs.Costs.{cost-fours, cost-four}
use Rattle.geos_terms.proofs.Pieces.{lies}
use Rattle.geos_terms.specs.Block.{entry, entries, table_end}
use Rattle.geos_terms.specs.Bytes.{word}
use Rattle.geos_terms.specs.Chunks.{cost}
use Rattle.geos_terms.specs.Heap.{Piece, Used, Free, Tiles, HasChunk, IsOffset, IsHeader}
use Rattle.lmem_block.specs.Check.{IsTiled, Marks}

pub aligned : (b : List ℕ) (at f : ℕ) (ps : List Piece) (end next i : ℕ) → at % 4 ≡ 0 → Tiles b at f ps end next → HasChunk i ps → entry b i % 4 ≡ 2
aligned b at f [] end next i z s h = absurd h
aligned b at f (Used j n ∷ ps) end next i z s (inl e) =
    let is : entry b i ≡ at + 2 = ap (λ k. entry b k) e ∙ s.2 in omega (arith, is)
aligned b at f (Used j n ∷ ps) end next i z s (inr h) = aligned b (at + cost n) f ps end next i (omega (arith, cost-fours n)) s.4 h
aligned b at f (Free m ∷ ps) end next i z s h = aligned b (at + m) (word b (at + 2)) ps end next i (omega arith) s.5 h

-- two entries do not tell of one chunk
pub one-entry : (b : List ℕ) (at f : ℕ) (ps : List Piece) (end next i j : ℕ) → Tiles b at f ps end next → HasChunk i ps
    → HasChunk j ps → entry b i ≡ entry b j → i ≡ j
one-entry b at f [] end next i j s h g e = absurd h
one-entry b at f (Used k n ∷ ps) end next i j s (inl h) (inl g) e = h ∙ sym g
one-entry b at f (Used k n ∷ ps) end next i j s (inl h) (inr g) e =
    let is : entry b i ≡ at + 2 = ap (λ x. entry b x) h ∙ s.2 in
    absurd (omega (arith, is, (lies b (at + cost n) f ps end next j s.4 g).from, cost-four n s.0))
one-entry b at f (Used k n ∷ ps) end next i j s (inr h) (inl g) e =
    let is : entry b j ≡ at + 2 = ap (λ x. entry b x) g ∙ s.2 in
    absurd (omega (arith, is, (lies b (at + cost n) f ps end next i s.4 h).from, cost-four n s.0))
one-entry b at f (Used k n ∷ ps) end next i j s (inr h) (inr g) e = one-entry b (at + cost n) f ps end next i j s.4 h g e
one-entry b at f (Free m ∷ ps) end next i j s h g e = one-entry b (at + m) (word b (at + 2)) ps end next i j s.5 h g e

-- what each entry of a block that is full keeps to
pub entry-place : (b : List ℕ) (i : ℕ) → IsHeader b → IsTiled b → i < entries b → IsOffset (entry b i)
    → (table_end b + 2 ≤ entry b i) × (entry b i % 4 ≡ 2) × (entry b i < length b)
entry-place b i header full h t =
    let start : table_end b % 4 ≡ 0 = omega (arith, header.pairs) in
    let has = full.1.all i h t in
    let l = lies b (table_end b) (word b 12) full.0 (length b) 0 i full.1.tiles has in
    (l.from, aligned b (table_end b) (word b 12) full.0 (length b) 0 i start full.1.tiles has, omega (arith, l.upto, cost-four l.n l.some))

pub entry-once : (b : List ℕ) (i j : ℕ) → IsTiled b → i < entries b → j < entries b → IsOffset (entry b i)
    → IsOffset (entry b j) → entry b i ≡ entry b j → i ≡ j
entry-once b i j full h g t u e = one-entry b (table_end b) (word b 12) full.0 (length b) 0 i j full.1.tiles (full.1.all i h t) (full.1.all j g u) e

pub blank : (n k : ℕ) → get_or (replicate n false) k false ≡ false
blank zero k = refl
blank (suc n) zero = refl
blank (suc n) (suc k) = blank n k

pub marks-none : (b : List ℕ) (starts : List Bool) → ((k : ℕ) → get_or starts k false ≡ false) → Marks b 0 starts
marks-none b starts none = record {
  sound = (λ k h. absurd (false≢true (sym (none k) ∙ h)));
  marked = (λ i h t. absurd (omega arith));
  place = (λ i h t. absurd (omega arith));
  once = (λ i j h g t e. absurd (omega arith));
}

below-more : (i j : ℕ) → j < i + 1 → (j < i) ⊎ (j ≡ i)
below-more i j h = elim (cases_lt j i) [ inl l ↦ inl l | inr l ↦ inr (omega arith) ]

pub marks-skip : (b : List ℕ) (i : ℕ) (starts : List Bool) → Marks b i starts → (IsOffset (entry b i) → ⊥) → Marks b (i + 1) starts
marks-skip b i starts m silent =
    let never : (j : ℕ) → j ≡ i → IsOffset (entry b j) → ⊥ = (λ j e t. silent (subst (λ (x : ℕ). IsOffset (entry b x)) e t)) in
    record {
      sound = (λ k h. let s = m.sound k h in (s.0, omega (arith, s.1), s.2, s.3));
      marked = (λ j h t. elim (below-more i j h) [ inl l ↦ m.marked j l t | inr e ↦ absurd (never j e t) ]);
      place = (λ j h t. elim (below-more i j h) [ inl l ↦ m.place j l t | inr e ↦ absurd (never j e t) ]);
      once = (λ j k h g t e. elim (below-more i j h) [
        | inl l ↦ elim (below-more i k g) [ inl r ↦ m.once j k l r t e | inr d ↦ (absurd (never k d (subst (λ (x : ℕ). IsOffset x) e t))) ]
        | inr d ↦ absurd (never j d t)
      ]);
    }

-- the mark of one more entry
pub marks-add : (b : List ℕ) (i e : ℕ) (starts : List Bool) → Marks b i starts → e ≡ entry b i → IsOffset e
    → table_end b + 2 ≤ e → e % 4 ≡ 2 → e < length b → e / 4 < length starts →
    get_or starts (e / 4) false ≡ false → Marks b (i + 1) (set starts (e / 4) true)
marks-add b i e starts m is t low fours high fits free =
    let T : ℕ → Type 0 = λ x. IsOffset x in
    let told : (j : ℕ) → j ≡ i → entry b j ≡ e = (λ j d. ap (λ x. entry b x) d ∙ sym is) in
    let same : get_or (set starts (e / 4) true) (e / 4) false ≡ true = get_or-set_same starts (e / 4) true false fits in
    let apart : (j : ℕ) → j < i → IsOffset (entry b j) → entry b j ≡ e
    → ⊥ = (λ j l u d. false≢true (sym free ∙ ap (λ x. get_or starts (x / 4) false) (sym d) ∙ m.marked j l u)) in
    record {
      sound = (λ k h. elim (cases_eq k (e / 4)) [
        | inl d ↦ (i, omega arith, subst T is t, sym is ∙ omega arith)
        | inr d ↦ (let s = m.sound k (sym (get_or-set_other starts (e / 4) k true false d) ∙ h) in (s.0, omega (arith, s.1), s.2, s.3))
      ]);
      marked = (λ j h u. elim (below-more i j h) [
        | inl l ↦ elim (cases_eq (entry b j / 4) (e / 4)) [
          | inl d ↦ ap (λ x. get_or (set starts (e / 4) true) x false) d ∙ same
          | inr d ↦ get_or-set_other starts (e / 4) (entry b j / 4) true false d ∙ m.marked j l u
        ]
        | inr d ↦ ap (λ x. get_or (set starts (e / 4) true) (x / 4) false) (told j d) ∙ same
      ]);
      place = (λ j h u. elim (below-more i j h)
          [ inl l ↦ m.place j l u | inr d ↦ (let k = told j d in (omega (arith, k), omega (arith, k), omega (arith, k))) ]);
      once = (λ j k h g u d. elim (below-more i j h) [
        | inl l ↦ elim (below-more i k g) [
          | inl r ↦ m.once j k l r u d
          | inr f ↦ absurd (apart j l u (d ∙ told k f))
        ]
        | inr f ↦ elim (below-more i k g) [
          | inl r ↦ absurd (apart k r (subst T d u) (sym d ∙ told j f))
          | inr q ↦ f ∙ sym q
        ]
      ]);
    }

-- what keeps a block from being full
pub not-full : (b : List ℕ) (i e : ℕ) (starts : List Bool) → IsHeader b → Marks b i starts → i < entries b → e ≡ entry b i → IsOffset e →
    (e < table_end b + 2) ⊎ ((length b ≤ e) ⊎ ((e % 4 ≢ 2) ⊎ (get_or starts (e / 4) false ≡ true))) → IsTiled b → ⊥
not-full b i e starts header m h is t why full =
    let T : ℕ → Type 0 = λ x. IsOffset x in
    let place = entry-place b i header full h (subst T is t) in
    elim why [
      | inl l ↦ absurd (omega (arith, place.0))
      | inr (inl l) ↦ absurd (omega (arith, place.2))
      | inr (inr (inl l)) ↦ l (ap (λ x. x % 4) is ∙ place.1)
      | inr (inr (inr l)) ↦ (let s = m.sound (e / 4) l in
          let f : e % 4 ≡ 2 = ap (λ x. x % 4) is ∙ place.1 in
          let d : entry b s.0 ≡ entry b i = s.3 ∙ omega arith in
          let q : s.0 ≡ i = entry-once b s.0 i full (omega (arith, s.1)) h s.2 (subst T is t) d in
          absurd (omega (arith, s.1, q)))
    ]
