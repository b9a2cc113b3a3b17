-- The store that a region and a table encode, and its changes by a write or a new entry.
use Rattle.std.proofs.Common.{◌≡◌, ◌≢◌, ℕ, zero, suc, map, ◌+◌, ◌≤◌, ◌⊎◌, List, [], ◌∷◌, ◌++◌, length, take, drop, Option, Some, None, slice_index_or, slice_set, refl, ap, sym, subst, ◌∙◌, arith, inl, inr, length-take, length-drop}
use Rattle.std.proofs.lemmas.List.{map-set, drop-drop}
use Rattle.std.proofs.Math.Seq.{take-add}
use Rattle.lmem_raw.specs.Bytes.{part, with_part}
use Rattle.lmem_raw.proofs.Parts.{length-with_part, part-same, part-before, part-behind}
use Rattle.block_handles.specs.declared.table.Entry.{Entry}
use Rattle.block_handles.specs.Store.{block_at, bytes_in, bytes_of, IsBlock, IsThere, size_of, place_of, end_of, whole}
use Rattle.block_handles.specs.Change.{with_block}
use Rattle.block_handles.specs.Rows.{IsEntry}
use Rattle.block_handles.specs.View.{block_in, store_in, place_in, Lies}

pub at_slot : (region : List ℕ) (table : List (Option Entry)) (i : ℕ) → block_at (store_in region table) i ≡ block_in
    region (slice_index_or table i None)
at_slot region [] i = refl
at_slot region (e ∷ table) zero = refl
at_slot region (e ∷ table) (suc i) = at_slot region table i

pub place_slot : (region : List ℕ) (table : List (Option Entry)) (i : ℕ) → place_of (store_in region table) i ≡ place_in (slice_index_or table i None)
place_slot region [] i = refl
place_slot region (e ∷ table) zero = refl
place_slot region (e ∷ table) (suc i) = place_slot region table i

is_entry : (region : List ℕ) (o : Option Entry) → IsBlock (block_in region o) → IsEntry o
is_entry region (Some e) h = tt
is_entry region None h = h

pub entry_there : (region : List ℕ) (table : List (Option Entry)) (i : ℕ) → IsThere (store_in region table) i → IsEntry (slice_index_or table i None)
entry_there region table i h = is_entry region (slice_index_or table i None) (subst IsBlock (at_slot region table i) h)

pub length-part : (bs : List ℕ) (at n : ℕ) → at + n ≤ length bs → length (part bs at n) ≡ n
length-part bs at n h = omega (arith, length-take n (drop at bs), length-drop at bs)

-- an entry's block lies off a range
abbrev pub OffEntry : Option Entry → ℕ → ℕ → Type 0
OffEntry None a b = Unit {0}
OffEntry (Some e) a b = (e.place + e.size ≤ a) ⊎ (b ≤ e.place)

off_entry : (region : List ℕ) (o : Option Entry) (a b : ℕ) → Lies region o
    → (place_in o + length (bytes_in (block_in region o)) ≤ a) ⊎ (b ≤ place_in o) → OffEntry o a b
off_entry region None a b l h = tt
off_entry region (Some e) a b l (inl h) = inl (omega (arith, h, length-part region e.place e.size l))
off_entry region (Some e) a b l (inr h) = inr h

pub off_slot : (region : List ℕ) (table : List (Option Entry)) (a b j : ℕ) → Lies region (slice_index_or table j None)
    → (end_of (store_in region table) j ≤ a) ⊎ (b ≤ place_of (store_in region table) j) → OffEntry (slice_index_or table j None) a b
off_slot region table a b j l h =
    off_entry region (slice_index_or table j None) a b l
    (subst (λ x. (place_in (slice_index_or table j None) + length (bytes_in x) ≤ a) ⊎ (b ≤ place_in (slice_index_or table j None)))
    (at_slot region table j)
    (subst (λ p. (p + length (bytes_of (store_in region table) j) ≤ a) ⊎ (b ≤ p)) (place_slot region table j) h))

-- a write off an entry's block leaves it
pub off_same : (region : List ℕ) (at : ℕ) (ws : List ℕ) (o : Option Entry) → OffEntry o at (at + length ws)
    → block_in (with_part region at ws) o ≡ block_in region o
off_same region at ws None h = refl
off_same region at ws (Some e) (inl h) = ap (λ bs. Some (record { locks = e.locks; bytes = bs })) (part-before region at ws e.place e.size h)
off_same region at ws (Some e) (inr h) = ap (λ bs. Some (record { locks = e.locks; bytes = bs })) (part-behind region at ws e.place e.size h)

-- a smaller range is off too
pub off_less : (o : Option Entry) (a b c d : ℕ) → a ≤ c → d ≤ b → OffEntry o a b → OffEntry o c d
off_less None a b c d l h o = tt
off_less (Some e) a b c d l h (inl o) = inl (omega (arith, o))
off_less (Some e) a b c d l h (inr o) = inr (omega (arith, o))

blocks-same : (region region' : List ℕ) (table : List (Option Entry))
    → ((j : ℕ) → block_in region' (slice_index_or table j None) ≡ block_in region (slice_index_or table j None))
    → map (block_in region') table ≡ map (block_in region) table
blocks-same region region' [] same = refl
blocks-same region region' (e ∷ table) same = λ k. same 0 k ∷ blocks-same region region' table (λ j. same (suc j)) k

blocks-set : (region region' : List ℕ) (table : List (Option Entry)) (i : ℕ) (o : Option Entry)
    → ((j : ℕ) → j ≢ i → block_in region' (slice_index_or table j None) ≡ block_in region (slice_index_or table j None))
    → map (block_in region') (slice_set table i o) ≡ slice_set (map (block_in region) table) i (block_in region' o)
blocks-set region region' [] i o same = refl
blocks-set region region' (e ∷ table) zero o same = λ k. block_in region' o ∷ blocks-same region region' table
    (λ j. same (suc j) (λ z. absurd (omega (arith, z)))) k
blocks-set region region' (e ∷ table) (suc i) o same = λ k. same 0 (λ z. absurd (omega (arith, z))) k ∷ blocks-set
    region region' table i o (λ j n. same (suc j) (λ z. n (omega (arith, z)))) k

-- a new entry, where every other block is as it was
pub store-set : (region region' : List ℕ) (table : List (Option Entry)) (i : ℕ) (o : Option Entry) → length region' ≡ length region
    → ((j : ℕ) → j ≢ i → block_in region' (slice_index_or table j None) ≡ block_in region (slice_index_or table j None))
    → store_in region' (slice_set table i o) ≡ with_block (store_in region table) i (block_in region' o) (place_in o)
store-set region region' table i o len same = λ k. record {
  blocks = blocks-set region region' table i o same k;
  places =
      map-set place_in table i o k;
  len = whole (len k);
}

-- a part in two
pub part_both : (bs : List ℕ) (at m n : ℕ) → part bs at (m + n) ≡ part bs at m ++ part bs (at + m) n
part_both bs at m n = take-add m n (drop at bs) ∙ ap (λ r. part bs at m ++ take n r) (drop-drop m at bs)

-- two writes side by side
pub part-two : (bs : List ℕ) (to m n : ℕ) (xs zs : List ℕ) → length xs ≡ m → length zs ≡ n → to + (m + n) ≤ length bs
    → part (with_part (with_part bs to xs) (to + m) zs) to (m + n) ≡ xs ++ zs
part-two bs to m n xs zs ex ez h =
    let one : List ℕ = with_part bs to xs in
    let two : List ℕ = with_part one (to + m) zs in
    let first : part two to m ≡ xs = part-before one (to + m) zs to m (omega arith) ∙ ap (λ k. part one to k) (sym ex)
    ∙ part-same bs to xs (omega (arith, ex)) in
    let second : part two (to + m) n ≡ zs = ap (λ k. part two (to + m) k) (sym ez)
    ∙ part-same one (to + m) zs (omega (arith, ez, length-with_part bs to xs)) in
    part_both two to m n ∙ (λ k. first k ++ second k)

-- the bytes of a slot's entry
pub block_there : (region : List ℕ) (table : List (Option Entry)) (i : ℕ) (e : Entry) → slice_index_or table i None ≡ Some e
    → block_at (store_in region table) i ≡ Some (record { locks = e.locks; bytes = part region e.place e.size })
block_there region table i e is = at_slot region table i ∙ ap (block_in region) is

pub bytes_there : (region : List ℕ) (table : List (Option Entry)) (i : ℕ) (e : Entry) → slice_index_or table i None ≡ Some e
    → bytes_of (store_in region table) i ≡ part region e.place e.size
bytes_there region table i e is = ap bytes_in (block_there region table i e is)

pub place_there : (region : List ℕ) (table : List (Option Entry)) (i : ℕ) (e : Entry) → slice_index_or table i None ≡ Some e
    → place_of (store_in region table) i ≡ e.place
place_there region table i e is = place_slot region table i ∙ ap place_in is

pub lies_there : (region : List ℕ) (table : List (Option Entry)) (i : ℕ) (e : Entry) → slice_index_or table i None ≡ Some e
    → Lies region (slice_index_or table i None) → e.place + e.size ≤ length region
lies_there region table i e is l = subst (Lies region) is l

pub size_there : (region : List ℕ) (table : List (Option Entry)) (i : ℕ) (e : Entry) → slice_index_or table i None ≡ Some e
    → Lies region (slice_index_or table i None) → size_of (store_in region table) i ≡ e.size
size_there region table i e is l = ap length (bytes_there region table i e is) ∙ length-part region e.place e.size (lies_there region table i e is l)

-- another region of that length
pub same_lies : (region other : List ℕ) (o : Option Entry) → length other ≡ length region → Lies region o → Lies other o
same_lies region other None e h = tt
same_lies region other (Some entry) e h = omega (arith, e, h)

pub lies_set : (region other : List ℕ) (table : List (Option Entry)) (i : ℕ) (o : Option Entry) → length other ≡ length region
    → Lies other o → ((j : ℕ) → Lies region (slice_index_or table j None)) → (j : ℕ) → Lies other (slice_index_or (slice_set table i o) j None)
lies_set region other [] i o e l all j = same_lies region other None e tt
lies_set region other (x ∷ table) zero o e l all zero = l
lies_set region other (x ∷ table) zero o e l all (suc j) = same_lies region other (slice_index_or table j None) e (all (suc j))
lies_set region other (x ∷ table) (suc i) o e l all zero = same_lies region other x e (all 0)
lies_set region other (x ∷ table) (suc i) o e l all (suc j) = lies_set region other table i o e l (λ k. all (suc k)) j
