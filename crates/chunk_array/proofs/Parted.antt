-- Bytes out of which an element goes.
use Rattle.std.proofs.Common.{◌≡◌, ◌≢◌, ℕ, ◌+◌, ◌-◌, ◌*◌, ◌<◌, ◌≤◌, List, length, take, drop, get_or, ap, sym, ◌∙◌, subst, inl, inr, arith, length-take}
use Rattle.std.proofs.lemmas.Bool.{cases_eq, cases_lt}
use Rattle.std.proofs.lemmas.List.{get_or-take, get_or-drop, get_or_append_left, get_or-append_right}
use Rattle.geos_terms.specs.Bytes.{with_word}
use Rattle.geos_terms.specs.Chunks.{without_part}
use Rattle.geos_terms.specs.Arrays.{Array, element_at, element}
use Rattle.geos_terms.proofs.ArraySpells.{first-varying}
use Rattle.geos_terms.proofs.ArrayReads.{Reads, reads}
use Rattle.geos_terms.proofs.ArrayPlaces.{element-bounds, element-ends, element-order}
use Rattle.geos_terms.proofs.Words.{length-with_word}
use Rattle.chunk_array.specs.declared.shape.ElementPlace.{ElementPlace}
use Rattle.chunk_array.specs.declared.shape.Shape.{Shape}
use Rattle.chunk_array.specs.Insertions.{room_of}
use Rattle.chunk_array.specs.Removals.{HasPart, SpellsWithout}
use Rattle.chunk_array.specs.Tables.{offset, ClosesTable}
use Rattle.chunk_array.proofs.Inserting.{first-le}
use Rattle.chunk_array.proofs.Removing.{removed-varying, removed-fixed}
use Rattle.chunk_array.proofs.Roomy.{room-varying, room-fixed, few-elements}

-- what they say of the array
pub record Parts (bytes : List ℕ) (a : Array) (shape : Shape) (place : ElementPlace) : Type 0 where
  pub reads : Reads bytes a
  pub index : place.index < length a.elements
  pub long : place.len ≡ length (element a place.index)
  pub least : 8 ≤ place.begin
  pub within : place.begin + place.len ≤ length bytes
  pub fits : room_of shape.element_size place.len ≤ place.begin + place.len

pub parts : (bytes : List ℕ) (a : Array) (shape : Shape) (place : ElementPlace) → HasPart bytes a shape place → Parts bytes a shape place
parts bytes a shape place h =
    let i = place.index in
    let r = reads bytes a h.small h.is in
    let index : i < length a.elements = omega (arith, h.count, h.known) in
    let e = element-ends a i index in
    let long : place.len ≡ length (element a i) = omega (arith, h.begins, h.ends, e) in
    let lo = element-bounds bytes a i r in
    let hi = element-bounds bytes a (i + 1) r in
    let within : place.begin + place.len ≤ length bytes = omega (arith, h.ends, hi.1) in
    let least : 8 ≤ place.begin = omega (arith, h.begins, lo.0) in
    let fits : room_of shape.element_size place.len ≤ place.begin + place.len = (elim (cases_eq shape.element_size 0) [
      | inl none ↦ omega (arith, room-varying shape.element_size place.len none, least)
      | inr some ↦ (let q = room-fixed shape.element_size place.len some in
          let ne : a.element_size ≢ 0 = (λ z. some (sym h.size ∙ z)) in
          let e1 = r.equal ne i (omega arith) in
          let e2 = r.equal ne (i + 1) (omega arith) in
          let m : (i + 1) * a.element_size ≡ i * a.element_size + a.element_size = omega arith in
          omega (arith, q, h.begins, h.ends, e1, e2, m, h.size))
    ]) in
    record { reads = r; index = index; long = long; least = least; within = within; fits = fits }

-- where sizes vary the table can be closed
pub record Closable (bytes : List ℕ) (count : ℕ) (place : ElementPlace) : Type 0 where
  pub table : 8 + 2 * count ≤ place.begin
  pub small : length bytes ≤ 65535
  pub before : (j : ℕ) → j < place.index → (2 ≤ offset bytes j) × (offset bytes j ≤ 65535)
  pub behind : (j : ℕ) → place.index < j → j < count → (place.len + 2 ≤ offset bytes j) × (offset bytes j ≤ 65535)

pub closable : (bytes : List ℕ) (a : Array) (shape : Shape) (place : ElementPlace) → HasPart bytes a shape place
    → shape.element_size ≡ 0 → Closable bytes shape.count place
closable bytes a shape place h none =
    let p = parts bytes a shape place h in
    let none_a : a.element_size ≡ 0 = h.size ∙ none in
    let first = first-varying a none_a in
    let le = first-le a place.index in
    let at : (j : ℕ) → j < shape.count → offset bytes j ≡ element_at a j = (λ j l. p.reads.spells.offsets none_a j (omega (arith, h.count))) in
    record {
      table = omega (arith, first, le, h.begins, h.count);
      small = omega (arith, h.few);
      before = (λ j l. let o = at j (omega (arith, h.known)) in let b = element-bounds bytes a j p.reads in
          (omega (arith, o, b.0), omega (arith, o, b.1, h.few)));
      behind = (λ j g l. let o = at j l in let b = element-bounds bytes a j p.reads in let m = element-order a (place.index + 1) j (omega arith) in
          (omega (arith, o, m, h.ends, first, le, h.begins), omega (arith, o, b.1, h.few)));
    }

-- the bytes that are left are bytes
without-small : (bytes : List ℕ) (at n : ℕ) → ((k : ℕ) → get_or bytes k 0 < 256) → at ≤ length bytes → (k : ℕ)
    → get_or (without_part bytes at n) k 0 < 256
without-small bytes at n small fits k = elim (cases_lt k at) [
  | inl h ↦ (let e = get_or_append_left (take at bytes) (drop (at + n) bytes) 0 k (omega (arith, length-take at bytes))
      ∙ get_or-take at bytes k 0 h in omega (arith, e, small k))
  | inr h ↦ (let e = get_or-append_right (take at bytes) (drop (at + n) bytes) at k 0 (omega (arith, length-take at bytes)) h
      ∙ get_or-drop (at + n) bytes (k - at) 0 in omega (arith, e, small (at + n + (k - at))))
]

-- the bytes encode the array without the element, if the sizes of elements vary
pub spells-varying : (bytes new done : List ℕ) (a : Array) (shape : Shape) (place : ElementPlace) (w : ℕ)
    → HasPart bytes a shape place → shape.element_size ≡ 0
    → ClosesTable bytes new shape.count place.index place.begin place.len → w ≡ shape.count - 1 → done ≡ with_word new 0 w
    → ((k : ℕ) → get_or done k 0 < 256) → SpellsWithout done a shape place
spells-varying bytes new done a shape place w h none o counts made small =
    let n = place.len in
    let p = parts bytes a shape place h in
    let few = few-elements bytes a p.reads in
    record {
      rest = (λ room is.
          let q : room ≡ n + 2 = is ∙ room-varying shape.element_size n none in
          let l = ap length made ∙ length-with_word new 0 w in
          let end = place.begin + n in
          let same : without_part done (end - room) room ≡ without_part done (element_at a (place.index + 1) - (n + 2)) (n + 2) =
          ap (λ x. without_part done (end - x) x) q ∙ ap (λ x. without_part done (x - (n + 2)) (n + 2)) h.ends in
          removed-varying bytes new done (without_part done (end - room) room) a place.index n shape.count w p.reads
          (h.size ∙ none) p.index p.long (sym h.count) (subst (λ (x : ℕ). ClosesTable bytes new shape.count place.index x n) h.begins o) made
          (omega (arith, counts, h.known))
          (omega (arith, counts, few, h.few, h.count)) (without-small done (end - room) room small (omega (arith, l, o.long, p.within))) same);
    }

pub spells-fixed : (bytes done : List ℕ) (a : Array) (shape : Shape) (place : ElementPlace) (w : ℕ) → HasPart bytes a shape place
    → shape.element_size ≢ 0
    → w ≡ shape.count - 1 → done ≡ with_word bytes 0 w → ((k : ℕ) → get_or done k 0 < 256) → SpellsWithout done a shape place
spells-fixed bytes done a shape place w h some counts made small =
    let p = parts bytes a shape place h in
    let few = few-elements bytes a p.reads in
    record {
      rest = (λ room is.
          let q : room ≡ a.element_size = is ∙ room-fixed shape.element_size place.len some ∙ sym h.size in
          let l = ap length made ∙ length-with_word bytes 0 w in
          let end = place.begin + place.len in
          let same : without_part done (end - room) room ≡ without_part done (element_at a (place.index + 1) - a.element_size) a.element_size =
          ap (λ x. without_part done (end - x) x) q ∙ ap (λ x. without_part done (x - a.element_size) a.element_size) h.ends in
          removed-fixed bytes done (without_part done (end - room) room) a place.index w p.reads (λ e. some (sym h.size ∙ e))
          p.index made (omega (arith, counts, h.known, h.count))
          (omega (arith, counts, few, h.few, h.count)) (without-small done (end - room) room small (omega (arith, l, p.within))) same);
    }
