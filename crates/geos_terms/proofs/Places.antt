-- The places of the chunks of handles.
use Rattle.std.proofs.Common.{◌≡◌, ℕ, ◌-◌, ◌/◌, ◌%◌, ◌<◌, List, Some, None, ap, sym, ◌∙◌, inl, inr, arith, length-take, length-drop, ◌+◌, ◌≤◌, [], length, drop, get_or, unwrap_or}
use Rattle.std.specs.Option.{option_map}
use Rattle.std.proofs.lemmas.Bool.{cases_eq, cases_lt}
use Rattle.geos_terms.specs.Chunks.{chunk_of, handle_of, cost, cost_of, entry_bytes}
use Rattle.geos_terms.specs.Block.{Place, entry, entries, place_at, place_of, bytes_at, chunks}
use Rattle.geos_terms.proofs.Entries.{place-low, place-odd, place-past, place-in, chunk-entry, chunk-low, chunk-odd, chunk-past, chunks-at}

-- the entry of a handle, and that it is in the table
pub record IsEntryOf (b : List ℕ) (c i : ℕ) : Type 0 where
  pub is : c ≡ handle_of i
  pub known : i < entries b

-- a handle has an entry, or neither chunk nor place
pub record IsUnknown (b : List ℕ) (c : ℕ) : Type 0 where
  pub place : place_of b c ≡ None
  pub chunk : chunk_of (chunks b) c ≡ None

pub data Handle (b : List ℕ) (c : ℕ) : Type 0 where
  Known : (i : ℕ) → IsEntryOf b c i → Handle b c
  Unknown : IsUnknown b c → Handle b c

pub handle-cases : (b : List ℕ) (c : ℕ) → Handle b c
handle-cases b c = elim (cases_lt c 16) [
  | inl low ↦ Unknown (record { place = place-low b c low; chunk = chunk-low b c low })
  | inr ge ↦ elim (cases_eq (c % 2) 0) [
    | inr odd ↦ Unknown (record { place = place-odd b c odd; chunk = chunk-odd b c odd })
    | inl even ↦ elim (cases_lt ((c - 16) / 2) (entries b)) [
      | inr past ↦ Unknown (record { place = place-past b c past; chunk = chunk-past b c past })
      | inl known ↦ Known ((c - 16) / 2) (record { is = omega arith; known = known })
    ]
  ]
]

-- a handle's chunk is the bytes of its place
pub chunk-place : (b : List ℕ) (c : ℕ) → chunk_of (chunks b) c ≡ option_map (bytes_at b) (place_of b c)
chunk-place b c = elim (handle-cases b c) [
  | Known i h ↦ chunk-entry b c i h.is h.known ∙ ap (option_map (bytes_at b)) (sym (place-in b c i h.is h.known))
  | Unknown u ↦ u.chunk ∙ ap (option_map (bytes_at b)) (sym u.place)
]

-- the entry of a handle whose chunk has a place
pub place-entry : (b : List ℕ) (c : ℕ) (p : Place) → place_of b c ≡ Some p → (i : ℕ) × (IsEntryOf b c i × (place_at b (entry b i) ≡ Some p))
place-entry b c p is = elim (handle-cases b c) [
  | Known i h ↦ (i, (h, sym (place-in b c i h.is h.known) ∙ is))
  | Unknown u ↦ absurd (let none : None ≡ Some p = sym u.place ∙ is in cc)
]

-- every place stays where the places of all entries do
pub places-same : (b d : List ℕ) → entries d ≡ entries b → ((i : ℕ) → i < entries b → place_at d (entry d i) ≡ place_at b (entry b i))
    → (c : ℕ) → place_of d c ≡ place_of b c
places-same b d n each c = elim (handle-cases b c) [
  | Known i h ↦ (place-in d c i h.is (omega (arith, n)) ∙ each i h.known ∙ sym (place-in b c i h.is h.known))
  | Unknown u ↦ elim (handle-cases d c) [
    | Known i h ↦ (let known_b : i < entries b = omega (arith, n) in place-in d c i h.is h.known ∙ each i known_b ∙ sym (place-in b c i h.is known_b))
    | Unknown v ↦ v.place ∙ sym u.place
  ]
]

-- the bytes of an entry whose chunk has a place, and what they take
pub placed-chunk : (b : List ℕ) (i : ℕ) (p : Place) → i < entries b → place_at b (entry b i) ≡ Some p → get_or (chunks b) i None ≡ Some (bytes_at b p)
placed-chunk b i p h is = chunks-at b i h ∙ ap (option_map (bytes_at b)) is

pub placed-bytes : (b : List ℕ) (i : ℕ) (p : Place) → i < entries b → place_at b (entry b i) ≡ Some p → entry_bytes (chunks b) i ≡ bytes_at b p
placed-bytes b i p h is = ap (λ x. unwrap_or x []) (placed-chunk b i p h is)

pub placed-length : (b : List ℕ) (p : Place) → p.at + p.len ≤ length b → length (bytes_at b p) ≡ p.len
placed-length b p h = omega (arith, length-take p.len (drop p.at b), length-drop p.at b)

-- the length of an entry's chunk is that of its place
pub entry-length : (b : List ℕ) (i : ℕ) (p : Place) → i < entries b → place_at b (entry b i) ≡ Some p → p.at + p.len ≤ length b
    → length (entry_bytes (chunks b) i) ≡ p.len
entry-length b i p h is fits = ap length (placed-bytes b i p h is) ∙ placed-length b p fits

pub placed-cost : (b : List ℕ) (i : ℕ) (p : Place) → i < entries b → place_at b (entry b i) ≡ Some p → p.at + p.len ≤ length b
    → cost_of (get_or (chunks b) i None) ≡ cost p.len
placed-cost b i p h is fits = ap cost_of (placed-chunk b i p h is) ∙ ap cost (placed-length b p fits)
