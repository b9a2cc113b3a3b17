-- What an entry of the table says.
use Rattle.std.proofs.Common.{◌≡◌, ◌≢◌, ℕ, ◌+◌, ◌-◌, ◌*◌, ◌/◌, ◌%◌, ◌<◌, ◌≤◌, Bool, true, false, if◌then◌else◌, ◌&&◌, nat_le, nat_lt, ◌==◌, List, [], Option, Some, None, length, get_or, refl, ap, sym, ◌∙◌, arith}
use Rattle.std.proofs.lemmas.List.{get_or_past}
use Rattle.std.proofs.lemmas.List.FromFn.{get_or-map-range_with_len, length-map-range_with_len}
use Rattle.std.proofs.lemmas.Bool.Decides.{nat_tests}
use Rattle.geos_terms.proofs.Costs.{cost-least}
use Rattle.geos_terms.proofs.Pieces.{lies, LiesWithin}
use Rattle.geos_terms.specs.Block.{Place, entry, entries, table_end, place_at, place_of, chunk_at, chunks}
use Rattle.geos_terms.specs.Bytes.{word}
use Rattle.geos_terms.specs.Chunks.{chunk_of, entry_of, handle_of}
use Rattle.geos_terms.specs.Heap.{IsOffset, IsHeap}
use Rattle.lmem_raw.specs.Bytes.{part}

pub chunks-at : (b : List ℕ) (i : ℕ) → i < entries b → get_or (chunks b) i None ≡ chunk_at b (entry b i)
chunks-at b i h = get_or-map-range_with_len (λ j. chunk_at b (entry b j)) 0 (entries b) i i None h (omega arith)

pub chunks-past : (b : List ℕ) (i : ℕ) → entries b ≤ i → get_or (chunks b) i None ≡ None
chunks-past b i h = get_or_past (chunks b) i None (omega (arith, length-map-range_with_len (λ j. chunk_at b (entry b j)) 0 (entries b)))

picks_in : (c : ℕ) (x y : Option (List ℕ)) → 16 ≤ c → c % 2 ≡ 0 → x ≡ y → (if nat_le 16 c && (c % 2 == 0) then x else None) ≡ y
picks_in c x y low even e = grind (arith, nat_tests)

picks_none : (t : Bool) (x : Option (List ℕ)) → x ≡ None → (if t then x else None) ≡ None
picks_none true x e = e
picks_none false x e = refl

-- the entry of a handle
pub chunk-in : (b : List ℕ) (c e : ℕ) → 16 ≤ c → c % 2 ≡ 0 → (c - 16) / 2 < entries b → e ≡ word b c → chunk_of (chunks b) c ≡ chunk_at b e
chunk-in b c e low even h is =
    let at : get_or (chunks b) ((c - 16) / 2) None ≡ chunk_at b (entry b ((c - 16) / 2)) = chunks-at b ((c - 16) / 2) h in
    let place : 16 + 2 * ((c - 16) / 2) ≡ c = omega arith in
    let k : entry b ((c - 16) / 2) ≡ e = ap (word b) place ∙ sym is in
    let chunk_is : get_or (chunks b) ((c - 16) / 2) None ≡ chunk_at b e = at ∙ ap (chunk_at b) k in
    picks_in c _ _ low even chunk_is

pub chunk-low : (b : List ℕ) (c : ℕ) → c < 16 → chunk_of (chunks b) c ≡ None
chunk-low b c h = grind (arith, nat_tests)

pub chunk-odd : (b : List ℕ) (c : ℕ) → c % 2 ≢ 0 → chunk_of (chunks b) c ≡ None
chunk-odd b c h = grind (arith, nat_tests)

pub chunk-past : (b : List ℕ) (c : ℕ) → entries b ≤ (c - 16) / 2 → chunk_of (chunks b) c ≡ None
chunk-past b c h = let at : get_or (chunks b) ((c - 16) / 2) None ≡ None = chunks-past b ((c - 16) / 2) h in picks_none _ _ at

-- an entry that tells of a chunk
pub told : (b : List ℕ) (i : ℕ) → IsHeap b → i < entries b → IsOffset (entry b i) → LiesWithin b (entry b i) (table_end b) (length b)
told b i heap h t = lies b (table_end b) (word b 12) heap.1.0 (length b) 0 i heap.1.1.tiles (heap.1.1.all i h t)

-- the chunk at the offset in an entry
pub chunk-told : (b : List ℕ) (e : ℕ) → IsOffset e → chunk_at b e ≡ Some (part b e (word b (e - 2) - 2))
chunk-told b e t = grind (arith, nat_tests, t.0, t.1)

pub chunk-none : (b : List ℕ) (e : ℕ) → e ≡ 0 → chunk_at b e ≡ None
chunk-none b e h = rw h refl

pub chunk-nothing : (b : List ℕ) (e : ℕ) → e ≡ 65535 → chunk_at b e ≡ Some []
chunk-nothing b e h = rw h refl

-- the place of an entry that is an offset
pub place-told : (b : List ℕ) (e : ℕ) → IsOffset e → place_at b e ≡ Some (record { at = e; len = word b (e - 2) - 2 })
place-told b e t = grind (arith, nat_tests, t.0, t.1)

pub place-nothing : (b : List ℕ) (e : ℕ) → e ≡ 65535 → place_at b e ≡ Some (record { at = 0; len = 0 })
place-nothing b e h = rw h refl

pub place-none : (b : List ℕ) (e : ℕ) → e ≡ 0 → place_at b e ≡ None
place-none b e h = rw h refl

picks-place : (b : List ℕ) (c : ℕ) (x y : Option Place) → 16 ≤ c → c % 2 ≡ 0 → (c - 16) / 2 < entries b → x ≡ y
    → (if nat_le 16 c && (c % 2 == 0) && nat_lt (entry_of c) (entries b) then x else None) ≡ y
picks-place b c x y low even known e = grind (arith, nat_tests)

-- the place of a handle is that of its entry
pub place-in : (b : List ℕ) (c i : ℕ) → c ≡ handle_of i → i < entries b → place_of b c ≡ place_at b (entry b i)
place-in b c i is known = picks-place b c _ _ (omega arith) (omega arith) (omega arith) (ap (λ x. place_at b (word b x)) is)

-- an entry that is an offset lies in the block, after the table, and so does its chunk
pub told-within : (b : List ℕ) (i : ℕ) → IsHeap b → i < entries b → IsOffset (entry b i) → (18 ≤ entry b i)
    × (2 ≤ word b (entry b i - 2)) × (entry b i + (word b (entry b i - 2) - 2) ≤ length b)
told-within b i heap h t =
    let l = told b i heap h t in
    let wide = cost-least l.n l.some in
    (omega (arith, l.from), omega (arith, l.says), omega (arith, l.says, l.upto, wide))

-- the chunk of a handle is that of its entry
pub chunk-entry : (b : List ℕ) (c i : ℕ) → c ≡ handle_of i → i < entries b → chunk_of (chunks b) c ≡ chunk_at b (entry b i)
chunk-entry b c i is known =
    let index : (c - 16) / 2 ≡ i = omega arith in
    let here : entry b i ≡ word b c = ap (word b) (sym is) in
    chunk-in b c (entry b i) (omega arith) (omega arith) (omega arith) here

pub place-low : (b : List ℕ) (c : ℕ) → c < 16 → place_of b c ≡ None
place-low b c h = grind (arith, nat_tests)

pub place-odd : (b : List ℕ) (c : ℕ) → c % 2 ≢ 0 → place_of b c ≡ None
place-odd b c h = grind (arith, nat_tests)

pub place-past : (b : List ℕ) (c : ℕ) → entries b ≤ (c - 16) / 2 → place_of b c ≡ None
place-past b c h = grind (arith, nat_tests)
