-- Arrays in which an element gets another size.
use Rattle.std.proofs.Common.{◌≡◌, ℕ, suc, ◌+◌, ◌*◌, ◌<◌, ◌≤◌, List, ◌++◌, length, take, drop, get_or, set, refl, ap, sym, ◌∙◌, inl, inr, arith, length-set}
use Rattle.std.proofs.lemmas.Bool.{cases_lt}
use Rattle.std.proofs.lemmas.List.{take-set-le, take_all}
use Rattle.lmem_raw.specs.Bytes.{part}
use Rattle.geos_terms.specs.Bytes.{word}
use Rattle.geos_terms.specs.Chunks.{resized}
use Rattle.geos_terms.specs.Arrays.{Array, first_at, element_at, element, spelled}
use Rattle.geos_terms.proofs.Words.{word-bytes}
use Rattle.geos_terms.proofs.Resizes.{length-resized}
use Rattle.geos_terms.proofs.Joined.{join}
use Rattle.geos_terms.proofs.JoinedEdits.{join-set, join-set_behind, drop-front, length-resized_part}
use Rattle.geos_terms.proofs.ArraySpells.{spells, first-varying, element-at}
use Rattle.geos_terms.proofs.ArrayReads.{Reads, reads}
use Rattle.geos_terms.proofs.ArrayPlaces.{element-bounds, element-ends, element-order, drop-elements, part-element, length-spelled}
use Rattle.chunk_array.specs.declared.shape.ElementPlace.{ElementPlace}
use Rattle.chunk_array.specs.declared.shape.Shape.{Shape}
use Rattle.chunk_array.specs.Refits.{HasRefit, with_refit}
use Rattle.chunk_array.specs.Tables.{offset, ShiftsOffsets}
use Rattle.chunk_array.proofs.Inserting.{front-byte, front-word, front-elements, first-le}
use Rattle.chunk_array.proofs.Removing.{same-behind}
use Rattle.chunk_array.proofs.Tables.{shifts-before}

-- what such bytes say of the array
pub record Refit (bytes before : List ℕ) (a : Array) (count i has n : ℕ) : Type 0 where
  pub reads : Reads before a
  pub index : i < length a.elements
  pub within : element_at a i + has ≤ length before
  pub table : 8 + 2 * count ≤ element_at a i
  pub long : length bytes + has ≡ length before + n
  pub offsets : (j : ℕ) → j < count → offset bytes j ≡ element_at a j
  pub room : (j : ℕ) → i + 1 ≤ j → j < count → (has ≤ offset bytes j) × (offset bytes j + n ≤ 65535 + has)

pub refit : (bytes before : List ℕ) (a : Array) (shape : Shape) (place : ElementPlace) (n : ℕ) → HasRefit bytes before a shape place n
    → Refit bytes before a shape.count place.index place.len n
refit bytes before a shape place n h =
    let i = place.index in
    let r = reads before a h.small h.is in
    let index : i < length a.elements = omega (arith, h.count, h.known) in
    let at = element_at a i in
    let e = element-ends a i index in
    let hi = element-bounds before a (i + 1) r in
    let lo = element-bounds before a i r in
    let within : at + place.len ≤ length before = omega (arith, e, h.size, hi.1) in
    let first = first-varying a h.varying in
    let le = first-le a i in
    let table : 8 + 2 * shape.count ≤ at = omega (arith, first, le, h.count) in
    let long = ap (λ xs. length xs + place.len) h.made ∙ length-resized_part before at place.len n within in
    let offsets : (j : ℕ) → j < shape.count → offset bytes j ≡ element_at a j =
    (λ j l. ap (λ x. offset x j) h.made ∙ front-word before (resized (part before at place.len) n ++ drop (at + place.len) before) at
    (8 + 2 * j) (omega arith) (omega arith) ∙ r.spells.offsets h.varying j (omega (arith, h.count))) in
    record {
      reads = r;
      index = index;
      within = within;
      table = table;
      long = long;
      offsets = offsets;
      room = (λ j g l. let o = offsets j l in let b = element-bounds before a j r in let m = element-order a (i + 1) j g in
          (omega (arith, o, m, e, h.size), omega (arith, o, b.1, long, h.few)));
    }

-- where elements begin
refit-before : (a : Array) (i j : ℕ) (z : List ℕ) (b : Array) → b ≡ record a { elements = set a.elements i z }
    → a.element_size ≡ 0 → j ≤ i → element_at b j ≡ element_at a j
refit-before a i j z b is none h =
    let q : Array = record a { elements = set a.elements i z } in
    let same = ap (λ xs. length (join xs)) (take-set-le j a.elements i z h) in
    let here : element_at q j ≡ element_at a j = omega (
      arith,
      same,
      element-at a j,
      element-at q j,
      first-varying a none,
      first-varying q none,
      length-set a.elements i z,
    ) in ap (λ v. element_at v j) is ∙ here

refit-behind : (a : Array) (i j n : ℕ) (z : List ℕ) → length z ≡ n → a.element_size ≡ 0 → i < length a.elements → i < j
    → element_at (record a { elements = set a.elements i z }) j + length (element a i) ≡ element_at a j + n
refit-behind a i j n z long none fits h =
    let q : Array = record a { elements = set a.elements i z } in
    omega (
      arith,
      join-set_behind a.elements i j z h fits,
      long,
      element-at a j,
      element-at q j,
      first-varying a none,
      first-varying q none,
      length-set a.elements i z,
    )

-- once the offsets after the element are corrected, the bytes encode the array
pub refitted : (before old bytes : List ℕ) (a : Array) (shape : Shape) (place : ElementPlace) (n : ℕ)
    → HasRefit old before a shape place n → ShiftsOffsets old bytes (place.index + 1) shape.count place.len n
    → ((k : ℕ) → get_or bytes k 0 < 256) → bytes ≡ spelled (with_refit a place.index n)
refitted before old bytes a shape place n h o small =
    let i = place.index in
    let f = refit old before a shape place n h in
    let s = f.reads.spells in
    let at = element_at a i in
    let z = resized (element a i) n in
    let b = with_refit a i n in
    let more : length b.elements ≡ length a.elements = length-set a.elements i z in
    let first = first-varying a h.varying in
    let first_b = first-varying b h.varying in
    let lz = length-resized (element a i) n in
    let le = first-le a i in
    let rear : List ℕ = resized (part before at place.len) n ++ drop (at + place.len) before in
    let low : (k : ℕ) → k < 8 → get_or bytes k 0 ≡ get_or before k 0 = (λ k l. o.rest k (inl (omega arith))
    ∙ ap (λ x. get_or x k 0) h.made ∙ front-byte before rear at k (omega arith) (omega arith)) in
    let head : (k : ℕ) → k + 2 ≤ 8 → word bytes k ≡ word before k =
    (λ k l. word-bytes before bytes k k (low k (omega arith)) (low (k + 1) (omega arith))) in
    let t = first_at a in
    let behind : drop t bytes ≡ drop t old = same-behind bytes old t o.long (λ k l g. o.rest k (inr (omega (arith, first, h.count)))) in
    let same_part : part before at place.len ≡ element a i = ap (part before at) h.size ∙ part-element before a i f.reads f.index in
    let last : at + place.len ≡ element_at a (suc i) = (omega (arith, element-ends a i f.index, h.size))
    ∙ ap (element_at a) (let q : i + 1 ≡ suc i = omega arith in q) in
    spells bytes b (record {
      small = small;
      count = head 0 (omega arith) ∙ s.count ∙ sym more;
      size = head 2 (omega arith) ∙ s.size;
      zero = head 4 (omega arith) ∙ s.zero;
      eight = head 6 (omega arith) ∙ s.eight;
      offsets = (λ e j l. let in_count : j < shape.count = omega (arith, l, more, h.count) in let was = f.offsets j in_count in elim (cases_lt i j) [
        | inl g ↦ (let x = o.moved j (omega arith) in_count in omega (arith, x, was, refit-behind a i j n z lz h.varying f.index g, h.size))
        | inr g ↦ shifts-before old bytes (i + 1) shape.count place.len n j o (omega arith) ∙ was ∙ sym (refit-before a i j z b refl h.varying g)
      ]);
      fits = omega (arith, first_b, more, h.count, f.table, f.within, f.long, o.long);
      rest = ap (λ m. drop m bytes) (first_b ∙ ap (λ m. 8 + 2 * m) more ∙ sym first) ∙ behind ∙ ap (drop t) h.made
          ∙ drop-front before rear t at le (omega arith)
          ∙ ap (λ xs. xs ++ (resized (part before at place.len) n ++ drop (at + place.len) before)) (front-elements before a i f.reads)
          ∙ ap (λ xs. join (take i a.elements) ++ (resized xs n ++ drop (at + place.len) before)) same_part
          ∙ ap (λ xs. join (take i a.elements) ++ (z ++ xs)) (ap (λ m. drop m before) last ∙ drop-elements before a (suc i) f.reads)
          ∙ sym (join-set a.elements i z f.index);
    })

-- what the array takes then
pub length-refit : (before : List ℕ) (a : Array) (i n : ℕ) → Reads before a → a.element_size ≡ 0 → i < length a.elements
    → length (spelled (with_refit a i n)) + length (element a i) ≡ length before + n
length-refit before a i n r none h =
    let xs = a.elements in
    let z = resized (element a i) n in
    let b = with_refit a i n in
    let m = length xs in
    let s = length-spelled b in
    let l = length-set xs i z in
    let f = first-varying a none in
    let g = first-varying b none in
    let lz = length-resized (element a i) n in
    let e = join-set_behind xs i m z h h in
    let all : length (join (take m (set xs i z))) ≡ length (join (set xs i z)) = ap (λ ys. length (join ys))
    (take_all m (set xs i z) (omega (arith, l))) in
    omega (arith, s, l, f, g, lz, e, all, r.end, element-at a m)
