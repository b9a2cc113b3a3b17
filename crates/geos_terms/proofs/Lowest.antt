-- The lowest entry that is not in use, and what chunks take with a new one.
use Rattle.std.proofs.Common.{◌≡◌, ◌≢◌, ℕ, zero, suc, ◌+◌, ◌<◌, ◌≤◌, ◌==◌, if◌then◌else◌, List, [], ◌∷◌, ◌++◌, Option, Some, None, length, get_or, set, replicate, unwrap_or, sum_by, refl, ap, sym, ◌∙◌, inl, inr, arith, length-set, length-append, get_or-set_same}
use Rattle.std.proofs.lemmas.Bool.{cases_eq, cases_lt}
use Rattle.std.proofs.lemmas.Bool.Decides.{nat_tests}
use Rattle.std.proofs.lemmas.List.{get_or_at, length-replicate}
use Rattle.std.proofs.lemmas.List.Sums.{sum_by-append, sum_by-set}
use Rattle.geos_terms.specs.Chunks.{cost, cost_of, entry_bytes, used_bytes, lowest_entry, with_entry, with_new, bytes_of, chunk_of, entry_of, handle_of, with_bytes}
use Rattle.geos_terms.specs.Block.{entry, entries, chunk_at, chunks, total_free}
use Rattle.geos_terms.specs.Heap.{IsHeap}
use Rattle.geos_terms.proofs.Entries.{chunk-none, chunk-nothing, chunk-told, chunks-at, chunks-past, chunk-entry}
use Rattle.geos_terms.proofs.Sums.{count-chunks, all-bytes}

-- an entry that is not 0 has a chunk
pub chunk-some : (b : List ℕ) (e : ℕ) → e ≢ 0 → chunk_at b e ≡ None → ⊥
chunk-some b e ne h = elim (cases_eq e 65535) [
  | inl d ↦ (let x = sym (chunk-nothing b e d) ∙ h in absurd (some-none x))
  | inr nd ↦ (let x = sym (chunk-told b e (ne, nd)) ∙ h in absurd (some-none x))
]
  where
    some-none : {x : List ℕ} → Some x ≡ None → ⊥
    some-none h = cc

lowest-first : (cs : List (Option (List ℕ))) (i : ℕ) → ((k : ℕ) → k < i → get_or cs k None ≡ None → ⊥) → i ≤ length cs
    → (i < length cs → get_or cs i None ≡ None) → lowest_entry cs ≡ i
lowest-first [] i before le here = omega arith
lowest-first (None ∷ cs) zero before le here = refl
lowest-first (None ∷ cs) (suc i) before le here = absurd (before 0 (omega arith) refl)
lowest-first (Some x ∷ cs) zero before le here = absurd (let h : Some x ≡ None = here (omega arith) in cc)
lowest-first (Some x ∷ cs) (suc i) before le here =
    ap suc (lowest-first cs i (λ k l. before (suc k) (omega arith)) (omega arith) (λ l. here (omega arith)))

-- the lowest entry that is 0
pub lowest-is : (b : List ℕ) (i : ℕ) → ((k : ℕ) → k < i → entry b k ≢ 0) → i ≤ entries b → (i < entries b → entry b i ≡ 0)
    → i ≡ lowest_entry (chunks b)
lowest-is b i before le here =
    let n = count-chunks b in
    sym (lowest-first (chunks b) i (λ k l h. chunk-some b (entry b k) (before k l) (sym (chunks-at b k (omega arith)) ∙ h)) (omega (arith, n))
    (λ l. chunks-at b i (omega (arith, n)) ∙ chunk-none b (entry b i) (here (omega (arith, n)))))

-- the lowest entry that is not in use has no chunk
pub lowest-none : (cs : List (Option (List ℕ))) → lowest_entry cs < length cs → get_or cs (lowest_entry cs) None ≡ None
lowest-none [] h = refl
lowest-none (None ∷ cs) h = refl
lowest-none (Some x ∷ cs) h = lowest-none cs (omega arith)

pub lowest-within : (cs : List (Option (List ℕ))) → lowest_entry cs ≤ length cs
lowest-within [] = omega arith
lowest-within (None ∷ cs) = omega arith
lowest-within (Some x ∷ cs) = omega (arith, lowest-within cs)

if-full : (m n : ℕ) (x y : List (Option (List ℕ))) → m ≡ n → (if m == n then x else y) ≡ x
if-full m n x y e = grind (arith, nat_tests)

if-room : (m n : ℕ) (x y : List (Option (List ℕ))) → m ≢ n → (if m == n then x else y) ≡ y
if-room m n x y e = grind (arith, nat_tests)

pub entry-full : (cs : List (Option (List ℕ))) → lowest_entry cs ≡ length cs → with_entry cs ≡ cs ++ (None ∷ (None ∷ []))
entry-full cs e = if-full (lowest_entry cs) (length cs) _ _ e

pub entry-room : (cs : List (Option (List ℕ))) → lowest_entry cs ≢ length cs → with_entry cs ≡ cs
entry-room cs e = if-room (lowest_entry cs) (length cs) _ _ e

-- a chunk where none was
used-new : (cs : List (Option (List ℕ))) (i n : ℕ) → i < length cs → get_or cs i None ≡ None
    → used_bytes (set cs i (Some (replicate n 0))) ≡ used_bytes cs + cost n
used-new cs i n h none =
    let z : cost_of (get_or cs i None) ≡ 0 = ap cost_of none in
    let l : cost (length (replicate {A = ℕ} n 0)) ≡ cost n = ap cost (length-replicate {A = ℕ} n 0) in
    omega (arith, sum_by-set cost_of cs i (Some (replicate n 0)) None h, z, l, length-set cs i (Some (replicate n 0)))

pub used-full : (cs : List (Option (List ℕ))) (n : ℕ) → lowest_entry cs ≡ length cs → (used_bytes (with_entry cs) ≡ used_bytes cs + 4)
    × (used_bytes (with_new cs n) ≡ used_bytes cs + 4 + cost n)
used-full cs n e =
    let w = entry-full cs e in
    let more = cs ++ (None ∷ (None ∷ [])) in
    let len : length more ≡ length cs + 2 = length-append cs (None ∷ (None ∷ [])) in
    let sums : sum_by cost_of more ≡ sum_by cost_of cs + 0 = sum_by-append cost_of cs (None ∷ (None ∷ [])) in
    let t : used_bytes more ≡ used_bytes cs + 4 = omega (arith, len, sums) in
    let none : get_or more (lowest_entry cs) None ≡ None = get_or_at cs None (None ∷ []) None (lowest_entry cs) (sym e) in (
      ap used_bytes w ∙ t,
      ap (λ x. used_bytes (set x (lowest_entry cs) (Some (replicate n 0)))) w ∙ used-new more (lowest_entry cs) n (omega (arith, e, len)) none
          ∙ ap (λ x. x + cost n) t,
    )

pub used-room : (cs : List (Option (List ℕ))) (n : ℕ) → lowest_entry cs ≢ length cs → used_bytes (with_new cs n) ≡ used_bytes cs + cost n
used-room cs n ne =
    let w = entry-room cs ne in
    let l = lowest-within cs in
    let h : lowest_entry cs < length cs = omega arith in
    ap (λ x. used_bytes (set x (lowest_entry cs) (Some (replicate n 0)))) w ∙ used-new cs (lowest_entry cs) n h (lowest-none cs h)

pub block-used : (b : List ℕ) → IsHeap b → used_bytes (chunks b) + total_free b ≡ length b
block-used b heap = omega (arith, all-bytes b heap, count-chunks b)

pub used-with_new : (cs : List (Option (List ℕ))) (n : ℕ) → (used_bytes (with_new cs n) ≡ used_bytes (with_entry cs) + cost n)
    × (used_bytes (with_new cs n) ≤ used_bytes cs + 4 + cost n)
used-with_new cs n = elim (cases_eq (lowest_entry cs) (length cs)) [
  | inl e ↦ (let t = used-full cs n e in (omega (arith, t.0, t.1), omega (arith, t.1)))
  | inr ne ↦ (let t = used-room cs n ne in let w = ap used_bytes (entry-room cs ne) in (omega (arith, t, w), omega (arith, t)))
]

-- a chunk for another, or none
pub used-set : (cs : List (Option (List ℕ))) (i : ℕ) (x : Option (List ℕ)) → i < length cs
    → used_bytes (set cs i x) + cost_of (get_or cs i None) ≡ used_bytes cs + cost_of x
used-set cs i x h = omega (arith, sum_by-set cost_of cs i x None h, length-set cs i x)

-- the free bytes of a block whose chunks differ in one entry
pub total-set : (b d : List ℕ) (i : ℕ) (x : Option (List ℕ)) → IsHeap b → IsHeap d → length d ≡ length b → i < entries b
    → chunks d ≡ set (chunks b) i x → total_free d + cost_of x ≡ total_free b + cost_of (get_or (chunks b) i None)
total-set b d i x heap heap' long h is =
    let u = block-used b heap in
    let v = block-used d heap' in
    let s = used-set (chunks b) i x (omega (arith, count-chunks b)) in
    let e = ap used_bytes is in omega (arith, u, v, s, e, long)

-- an entry that is written twice
pub set-twice : {A : Type 0} (xs : List A) (i : ℕ) (x y : A) → set (set xs i x) i y ≡ set xs i y
set-twice [] i x y = refl
set-twice (z ∷ xs) zero x y = refl
set-twice (z ∷ xs) (suc i) x y = ap (λ zs. z ∷ zs) (set-twice xs i x y)

-- the lowest entry that is not in use is 0
pub lowest-free : (b : List ℕ) → lowest_entry (chunks b) < entries b → entry b (lowest_entry (chunks b)) ≡ 0
lowest-free b h = elim (cases_eq (entry b (lowest_entry (chunks b))) 0) [
  | inl e ↦ e
  | inr ne ↦ absurd (chunk-some b (entry b (lowest_entry (chunks b))) ne (sym (chunks-at b (lowest_entry (chunks b)) h)
      ∙ lowest-none (chunks b) (omega (arith, count-chunks b))))
]

-- blocks with the same chunks have the same entries in use
pub entries-same : (b d : List ℕ) → chunks d ≡ chunks b → entries d ≡ entries b
entries-same b d e = sym (count-chunks d) ∙ ap length e ∙ count-chunks b

-- an entry that has a chunk is not 0
pub in-use : (b : List ℕ) (i : ℕ) (bytes : List ℕ) → get_or (chunks b) i None ≡ Some bytes → (i < entries b) × (entry b i ≢ 0)
in-use b i bytes is = elim (cases_lt i (entries b)) [
  | inl h ↦ (h, λ z. some-none (sym is ∙ chunks-at b i h ∙ chunk-none b (entry b i) z))
  | inr h ↦ absurd (some-none (sym is ∙ chunks-past b i h))
]
  where
    some-none : Some bytes ≡ None → ⊥
    some-none h = cc

-- and one that is not 0 has one
pub in-use-bytes : (b : List ℕ) (i : ℕ) → i < entries b → entry b i ≢ 0 → get_or (chunks b) i None ≡ Some (entry_bytes (chunks b) i)
in-use-bytes b i h ne = chunks-at b i h ∙ known (chunk_at b (entry b i)) (chunk-some b (entry b i) ne)
    ∙ ap (λ x. Some (unwrap_or x [])) (sym (chunks-at b i h))
  where
    known : (o : Option (List ℕ)) → (o ≡ None → ⊥) → o ≡ Some (unwrap_or o [])
    known None h = absurd (h refl)
    known (Some x) h = refl

-- an entry that has no chunk is 0
pub unused : (b : List ℕ) (i : ℕ) → i < entries b → get_or (chunks b) i None ≡ None → entry b i ≡ 0
unused b i h none = elim (cases_eq (entry b i) 0) [ inl e ↦ e | inr ne ↦ absurd (chunk-some b (entry b i) ne (sym (chunks-at b i h) ∙ none)) ]

pub in-use-same : (b d : List ℕ) (i : ℕ) → chunks d ≡ chunks b → i < entries b → entry b i ≢ 0 → (i < entries d) × (entry d i ≢ 0)
in-use-same b d i e h ne = in-use d i (entry_bytes (chunks b) i) (ap (λ xs. get_or xs i None) e ∙ in-use-bytes b i h ne)

pub in-use-set : (b d : List ℕ) (i : ℕ) (bytes : List ℕ) → chunks d ≡ set (chunks b) i (Some bytes) → i < entries b
    → (i < entries d) × (entry d i ≢ 0)
in-use-set b d i bytes e h = in-use d i bytes (ap (λ xs. get_or xs i None) e
    ∙ get_or-set_same (chunks b) i (Some bytes) None (omega (arith, count-chunks b)))

-- what the table and chunks take where one chunk has another length
pub used-length : (cs : List (Option (List ℕ))) (i : ℕ) (x y : List ℕ) → i < length cs → length x ≡ length y
    → used_bytes (set cs i (Some x)) ≡ used_bytes (set cs i (Some y))
used-length cs i x y h e = let c = ap cost e in omega (arith, used-set cs i (Some x) h, used-set cs i (Some y) h, c)

-- the chunk of a handle is that of its entry
pub chunk-item : (b : List ℕ) (c i : ℕ) → c ≡ handle_of i → i < entries b → chunk_of (chunks b) c ≡ get_or (chunks b) i None
chunk-item b c i is h = chunk-entry b c i is h ∙ sym (chunks-at b i h)

pub item-bytes : (b : List ℕ) (c i : ℕ) → c ≡ handle_of i → i < entries b → bytes_of (chunks b) c ≡ entry_bytes (chunks b) i
item-bytes b c i is h = ap (λ x. unwrap_or x []) (chunk-item b c i is h)

-- what a call does to the chunk of a handle, it does to that of its entry
pub item-set : (b : List ℕ) (c i : ℕ) (f : List ℕ → List ℕ) → c ≡ handle_of i → i < entries b
    → set (chunks b) i (Some (f (entry_bytes (chunks b) i))) ≡ with_bytes (chunks b) c (f (bytes_of (chunks b) c))
item-set b c i f is h =
    let index : i ≡ entry_of c = omega arith in
    ap (λ x. set (chunks b) x (Some (f (entry_bytes (chunks b) i)))) index
    ∙ ap (λ x. set (chunks b) (entry_of c) (Some (f x))) (sym (item-bytes b c i is h))

-- the bytes of an entry that was written
pub set-bytes : (cs : List (Option (List ℕ))) (i : ℕ) (bytes : List ℕ) → i < length cs → entry_bytes (set cs i (Some bytes)) i ≡ bytes
set-bytes cs i bytes h = ap (λ x. unwrap_or x []) (get_or-set_same cs i (Some bytes) None h)
