-- A write within the chunk of an entry, as the chunks tell it.
use Rattle.std.proofs.Common.{◌≡◌, ℕ, ◌+◌, ◌<◌, ◌≤◌, List, Some, None, length, drop, set, get_or, refl, ap, sym, ◌∙◌, subst, arith, get_or-set_same, length-set, length-take, length-drop}
use Rattle.std.proofs.lemmas.List.{same_lists, get_or-take, get_or-drop}
use Rattle.lmem_raw.specs.Bytes.{part, with_part}
use Rattle.geos_terms.specs.Chunks.{handle_of, entry_of}
use Rattle.geos_terms.specs.Block.{Place, entry, entries, chunks, handle_word, place_at, place_of, bytes_at}
use Rattle.geos_terms.specs.Heap.{IsHeap}
use Rattle.geos_terms.specs.Writes.{ChangesChunk}
use Rattle.geos_terms.proofs.Sums.{count-chunks}
use Rattle.geos_terms.proofs.Entries.{place-in}
use Rattle.geos_terms.proofs.Places.{placed-chunk}
use Rattle.geos_terms.proofs.Writes.{writes-stay}

-- what a write within the chunk of an entry leaves
pub record WritesEntry (b d : List ℕ) (i : ℕ) (p : Place) (bytes : List ℕ) : Type 0 where
  pub heap : IsHeap d
  pub handle : handle_word d ≡ handle_word b
  pub count : entries d ≡ entries b
  pub place : place_at d (entry d i) ≡ Some p
  pub there : bytes_at d p ≡ bytes
  pub chunks : chunks d ≡ set (chunks b) i (Some bytes)

pub writes-entry : (b d : List ℕ) (i : ℕ) (p : Place) (at : ℕ) (ws : List ℕ) → IsHeap b → i < entries b
    → place_at b (entry b i) ≡ Some p → at + length ws ≤ p.len → d ≡ with_part b (p.at + at) ws → WritesEntry b d i p (with_part (bytes_at b p) at ws)
writes-entry b d i p at ws heap h is room made =
    let c = handle_of i in
    let bytes = with_part (bytes_at b p) at ws in
    let placed : place_of b c ≡ Some p = place-in b c i refl h ∙ is in
    let k : ChangesChunk b d c p at ws = subst (λ (x : List ℕ). ChangesChunk b x c p at ws) (sym made) (writes-stay b c p at ws heap placed room) in
    let index : entry_of c ≡ i = omega arith in
    let spelled : chunks d ≡ set (chunks b) i (Some bytes) = k.chunks ∙ ap (λ x. set (chunks b) x (Some bytes)) index in
    let nb = count-chunks b in
    let count : entries d ≡ entries b = sym (count-chunks d) ∙ ap length spelled ∙ length-set (chunks b) i (Some bytes) ∙ nb in
    let known : i < entries d = omega (arith, count) in
    let place : place_at d (entry d i) ≡ Some p = sym (place-in d c i refl known) ∙ k.places c ∙ placed in
    let some : Some (bytes_at d p) ≡ Some bytes = sym (placed-chunk d i p known place) ∙ ap (λ xs. get_or xs i None) spelled
    ∙ get_or-set_same (chunks b) i (Some bytes) None (omega (arith, nb)) in
    record { heap = k.heap; handle = k.handle; count = count; place = place; there = cc; chunks = spelled }

-- a part of a part
pub part-part : (b : List ℕ) (a len at m : ℕ) → at + m ≤ len → a + len ≤ length b → part (part b a len) at m ≡ part b (a + at) m
part-part b a len at m h fits =
    let inner = part b a len in
    let n1 : length inner ≡ len = omega (arith, length-take len (drop a b), length-drop a b) in
    let n2 : length (part inner at m) ≡ m = omega (arith, length-take m (drop at inner), length-drop at inner, n1) in
    let n3 : length (part b (a + at) m) ≡ m = omega (arith, length-take m (drop (a + at) b), length-drop (a + at) b) in
    same_lists (part inner at m) (part b (a + at) m) (n2 ∙ sym n3) (λ q d l.
    let small : q < m = omega arith in
    let place : a + at + q ≡ a + (at + q) = omega arith in
    get_or-take m (drop at inner) q d small ∙ get_or-drop at inner q d ∙ get_or-take len (drop a b) (at + q) d (omega arith)
    ∙ get_or-drop a b (at + q) d
    ∙ ap (λ x. get_or b x d) (sym place) ∙ sym (get_or-take m (drop (a + at) b) q d small ∙ get_or-drop (a + at) b q d))
