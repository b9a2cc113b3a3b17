-- The places of the elements of an array.
use Rattle.std.proofs.Common.{◌≡◌, ℕ, ◌+◌, ◌<◌, ◌≤◌, List, [], ◌∷◌, ◌++◌, Some, length, take, drop, get_or, ap, sym, refl, ◌∙◌, arith, length-append, length-drop}
use Rattle.std.proofs.lemmas.List.{take-append-drop, drop-drop, drop_more, take_at, take_more, take-take}
use Rattle.lmem_raw.specs.Bytes.{part}
use Rattle.std.specs.Prelude.{flat_map}
use Rattle.geos_terms.specs.Bytes.{word_bytes}
use Rattle.geos_terms.specs.Arrays.{Array, arr, first_at, element_at, element, head_words, spelled}
use Rattle.geos_terms.proofs.Joined.{join, length-word_bytes, join-append, drop-join}
use Rattle.geos_terms.proofs.ArraySpells.{element-at, length-head}
use Rattle.geos_terms.proofs.ArrayReads.{Reads}

-- bytes encode at most one array
pub same-array : (bytes : List ℕ) (a b : Array) → arr bytes ≡ Some a → arr bytes ≡ Some b → a ≡ b
same-array bytes a b x y = let e : Some a ≡ Some b = sym x ∙ y in cc

-- the first elements take no more than all
pub join-le : (xs : List (List ℕ)) (i : ℕ) → length (join (take i xs)) ≤ length (join xs)
join-le xs i =
    let e = ap (λ ys. length (join ys)) (sym (take-append-drop i xs)) ∙ ap length (join-append (take i xs) (drop i xs))
    ∙ length-append (join (take i xs)) (join (drop i xs)) in
    omega (arith, e)

-- an element more takes its bytes more
pub join-more : (xs : List (List ℕ)) (i : ℕ) → i < length xs → length (join (take (i + 1) xs)) ≡ length (join (take i xs)) + length (get_or xs i [])
join-more xs i h =
    ap (λ ys. length (join ys)) (take_more xs i [] h) ∙ ap length (join-append (take i xs) (get_or xs i [] ∷ []))
    ∙ length-append (join (take i xs)) (get_or xs i [] ++ []) ∙ (omega (arith, length-append (get_or xs i []) []))

first-least : (a : Array) → 8 ≤ first_at a
first-least a = omega (arith, length-head a)

-- elements lie after the header, and within the bytes
pub element-bounds : (bytes : List ℕ) (a : Array) (i : ℕ) → Reads bytes a → (8 ≤ element_at a i) × (element_at a i ≤ length bytes)
element-bounds bytes a i r =
    let e = element-at a i in
    let l = join-le a.elements i in
    let f = first-least a in
    let whole = ap length r.spells.rest in
    (omega (arith, e, f), omega (arith, e, l, whole, r.spells.fits, length-drop (first_at a) bytes))

-- an element ends where the next one begins
pub element-ends : (a : Array) (i : ℕ) → i < length a.elements → element_at a (i + 1) ≡ element_at a i + length (element a i)
element-ends a i h = omega (arith, join-more a.elements i h, element-at a i, element-at a (i + 1))

-- the bytes from an element on are those of the element and of all later ones
pub drop-elements : (bytes : List ℕ) (a : Array) (i : ℕ) → Reads bytes a → drop (element_at a i) bytes ≡ join (drop i a.elements)
drop-elements bytes a i r =
    let n = length (join (take i a.elements)) in
    ap (λ m. drop m bytes) (element-at a i) ∙ sym (drop-drop n (first_at a) bytes) ∙ ap (drop n) r.spells.rest ∙ drop-join a.elements i n refl

-- the bytes of an element
pub part-element : (bytes : List ℕ) (a : Array) (i : ℕ) → Reads bytes a → i < length a.elements
    → part bytes (element_at a i) (length (element a i)) ≡ element a i
part-element bytes a i r h =
    let rest = drop (i + 1) a.elements in
    ap (take (length (element a i))) (drop-elements bytes a i r ∙ ap join (drop_more a.elements i [] h))
    ∙ take_at (element a i) (join rest) (length (element a i)) refl

-- what an array takes
pub length-spelled : (a : Array) → length (spelled a) ≡ first_at a + length (join a.elements)
unfolding spelled
length-spelled a = omega (
  arith,
  length-head a,
  length-word_bytes (head_words a),
  length-append (flat_map word_bytes (head_words a))
      (join a.elements),
)

-- elements lie in their order
pub element-order : (a : Array) (i j : ℕ) → i ≤ j → element_at a i ≤ element_at a j
element-order a i j h =
    let same = ap (λ xs. length (join xs)) (take-take i j a.elements h) in
    omega (arith, element-at a i, element-at a j, join-le (take j a.elements) i, same)
