-- Bytes with the room for an element.
use Rattle.std.proofs.Common.{◌≡◌, ◌≢◌, ℕ, ◌+◌, ◌*◌, ◌<◌, ◌≤◌, List, ◌++◌, length, drop, get_or, replicate, refl, ap, sym, ◌∙◌, subst, inl, inr, arith}
use Rattle.std.proofs.lemmas.Bool.{cases_eq, eq-eqb, ne_eqb}
use Rattle.std.proofs.lemmas.List.Edits.{length-insert}
use Rattle.std.proofs.Math.Nat.{mul-le-mul_left}
use Rattle.geos_terms.specs.Bytes.{with_word}
use Rattle.geos_terms.specs.Chunks.{with_zeros}
use Rattle.geos_terms.specs.Arrays.{Array, element_at, new_length, with_element, spelled}
use Rattle.geos_terms.proofs.Resizes.{length-with_zeros}
use Rattle.geos_terms.proofs.ArraySpells.{first-varying, first-fixed}
use Rattle.geos_terms.proofs.ArrayReads.{Reads, reads}
use Rattle.geos_terms.proofs.ArrayPlaces.{element-bounds}
use Rattle.chunk_array.specs.declared.shape.ElementPlace.{ElementPlace}
use Rattle.chunk_array.specs.declared.shape.Shape.{Shape}
use Rattle.chunk_array.specs.Insertions.{room_of, HasRoom}
use Rattle.chunk_array.specs.Tables.{offset, OpensTable}
use Rattle.chunk_array.proofs.Inserting.{new-varying, new-fixed, first-le, front-word, length-inserted, inserted-varying, inserted-fixed}

pub room-varying : (size n : ℕ) → size ≡ 0 → room_of size n ≡ n + 2
room-varying size n e = rw (eq-eqb size 0 e) refl

pub room-fixed : (size n : ℕ) → size ≢ 0 → room_of size n ≡ size
room-fixed size n ne = rw (ne_eqb size 0 ne) refl

-- a number is at most its product with one that is not 0
mul-some : (n k : ℕ) → k ≢ 0 → n ≤ n * k
mul-some n k some = let h : 1 ≤ k = omega arith in omega (arith, mul-le-mul_left n h)

-- an array has few elements: each takes a byte, or two for its offset
pub few-elements : (bytes : List ℕ) (a : Array) → Reads bytes a → length a.elements ≤ length bytes
few-elements bytes a r = elim (cases_eq a.element_size 0) [
  | inl none ↦ omega (arith, first-varying a none, r.spells.fits)
  | inr some ↦ (let e = r.equal some (length a.elements) (omega arith) in omega (arith, e, r.end, mul-some (length a.elements) a.element_size some))
]

-- what they say of the array that they came from
pub record Room (bytes before : List ℕ) (a : Array) (shape : Shape) (place : ElementPlace) : Type 0 where
  pub reads : Reads before a
  pub within : place.begin ≤ length before
  pub least : 8 ≤ place.begin
  pub long : length bytes ≡ length before + room_of shape.element_size place.len
  pub count : shape.count + 1 < 65536

pub room : (bytes before : List ℕ) (a : Array) (shape : Shape) (place : ElementPlace) → HasRoom bytes before a shape place
    → Room bytes before a shape place
room bytes before a shape place h =
    let r = reads before a h.small h.is in
    let b = element-bounds before a place.index r in
    let w : place.begin ≤ length before = omega (arith, h.begins, b.1) in
    let long = ap length h.made ∙ length-with_zeros before place.begin (room_of shape.element_size place.len) w in
    let few = few-elements before a r in
    record { reads = r; within = w; least = omega (arith, h.begins, b.0); long = long; count = omega (arith, few, h.few, long, h.count) }

-- where sizes vary the table can be opened
pub record Openable (bytes : List ℕ) (count at n : ℕ) : Type 0 where
  pub table : 8 + 2 * count ≤ at
  pub room : at + (n + 2) ≤ length bytes
  pub small : length bytes ≤ 65535
  pub offsets : (j : ℕ) → j < count → offset bytes j + (n + 2) ≤ 65535

pub openable : (bytes before : List ℕ) (a : Array) (shape : Shape) (place : ElementPlace) → HasRoom bytes before a shape place
    → shape.element_size ≡ 0 → Openable bytes shape.count place.begin place.len
openable bytes before a shape place h none =
    let m = room bytes before a shape place h in
    let none_a : a.element_size ≡ 0 = h.size ∙ none in
    let first = first-varying a none_a in
    let le = first-le a place.index in
    let more = room-varying shape.element_size place.len none in
    record {
      table = omega (arith, first, le, h.begins, h.count);
      room = omega (arith, m.long, more, m.within);
      small = omega (arith, h.few);
      offsets = (λ j l.
          let e : offset bytes j ≡ offset before j = ap (λ x. offset x j) h.made
          ∙ front-word before (replicate (room_of shape.element_size place.len) 0 ++ drop place.begin before) place.begin
          (8 + 2 * j) (omega (arith, first, le, h.begins, h.count)) m.within in
          let o = m.reads.spells.offsets none_a j (omega (arith, h.count)) in
          omega (arith, e, o, (element-bounds before a j m.reads).1, m.long, more, h.few));
    }

-- the bytes encode the new array, if the sizes of elements vary
pub spelled-varying : (bytes new done before : List ℕ) (a : Array) (shape : Shape) (place : ElementPlace) (w : ℕ)
    → HasRoom bytes before a shape place → shape.element_size ≡ 0
    → OpensTable bytes new shape.count place.index place.begin place.len → w ≡ shape.count + 1 → done ≡ with_word new 0 w
    → ((k : ℕ) → get_or done k 0 < 256) → done ≡ spelled (with_element a place.index place.len)
spelled-varying bytes new done before a shape place w h none o counts made small =
    let m = room bytes before a shape place h in
    inserted-varying before bytes new done a place.index place.len m.reads (h.size ∙ none) (omega (arith, h.known, h.count))
    (h.made ∙ ap (λ x. with_zeros before x (room_of shape.element_size place.len)) h.begins
    ∙ ap (with_zeros before (element_at a place.index)) (room-varying shape.element_size place.len none))
    (subst (λ (x : ℕ). OpensTable bytes new (length a.elements) place.index x place.len) h.begins
    (subst (λ (x : ℕ). OpensTable bytes new x place.index place.begin place.len) (sym h.count) o))
    (made ∙ ap (with_word new 0) (counts ∙ ap (λ x. x + 1) (sym h.count))) (omega (arith, h.count, m.count)) small

pub spelled-fixed : (bytes done before : List ℕ) (a : Array) (shape : Shape) (place : ElementPlace) (w : ℕ)
    → HasRoom bytes before a shape place → shape.element_size ≢ 0
    → w ≡ shape.count + 1 → done ≡ with_word bytes 0 w → ((k : ℕ) → get_or done k 0 < 256) → done ≡ spelled (with_element a place.index place.len)
spelled-fixed bytes done before a shape place w h some counts made small =
    let m = room bytes before a shape place h in
    inserted-fixed before bytes done a place.index place.len m.reads (λ e. some (sym h.size ∙ e)) (omega (arith, h.known, h.count))
    (h.made ∙ ap (λ x. with_zeros before x (room_of shape.element_size place.len)) h.begins
    ∙ ap (with_zeros before (element_at a place.index)) (room-fixed shape.element_size place.len some ∙ sym h.size))
    (made ∙ ap (with_word bytes 0) (counts ∙ ap (λ x. x + 1) (sym h.count))) (omega (arith, h.count, m.count)) small

-- the new array takes the room
pub length-room : (before : List ℕ) (a : Array) (shape : Shape) (i n : ℕ) → Reads before a → length a.elements ≡ shape.count
    → a.element_size ≡ shape.element_size → i ≤ shape.count
    → length (spelled (with_element a i n)) ≡ length before + room_of shape.element_size n
length-room before a shape i n r count size known =
    let fits : i ≤ length a.elements = omega (arith, count, known) in
    let e = length-inserted before a i n r fits in
    let b = with_element a i n in
    let more = length-insert a.elements i (replicate (new_length a n) 0) fits in
    elim (cases_eq shape.element_size 0) [
      | inl none ↦ (let f = first-varying a (size ∙ none) in let g = first-varying b (size ∙ none) in let new = new-varying a n (size ∙ none) in
          omega (arith, e, f, g, new, room-varying shape.element_size n none, more))
      | inr some ↦ (let ne : a.element_size ≢ 0 = (λ z. some (sym size ∙ z)) in
          omega (arith, e, first-fixed a ne, first-fixed b ne, new-fixed a n ne, room-fixed shape.element_size n some, size))
    ]
