-- The blocks of a directory by their places.
use Rattle.std.proofs.Common.{◌≡◌, ◌≢◌, ◌∙◌, ℕ, zero, suc, ◌<◌, true, cond, List, [], ◌∷◌, length, map, get_or, Option, Some, refl, ap, sym, subst, arith}
use Rattle.std.specs.Prelude.{IsSomeAnd}
use Rattle.std.specs.List.{find}
use Rattle.std.proofs.Math.Dec.{eqb}
use Rattle.std.proofs.lemmas.Bool.{eq-eqb, ne_eqb}
use Rattle.vm_file.specs.declared.directory.Directory.{Directory}
use Rattle.vm_file.specs.declared.directory.Entry.{Entry}
use Rattle.vm_file.specs.Contents.{Block, entry_of}
use Rattle.vm_file.specs.Directories.{are_entries, is_directory, is_entry}
use Rattle.vm_file.specs.State.{HasBlock, bytes_of_block}
use Rattle.vm_file.proofs.DirectoryLaws.{behind_from, has_size, legal_from}
use Rattle.geos_terms.proofs.HeapTests.{both}
use Rattle.geos_dump.specs.Sides.{IsEntryOf, no_block}

get-listed : (bs : List Block) (i : ℕ) (e : Entry) → i < length bs → get_or (map entry_of bs) i e ≡ entry_of (get_or bs i no_block)
get-listed [] i e lt = absurd (omega (arith, lt))
get-listed (b ∷ bs) zero e lt = refl
get-listed (b ∷ bs) (suc i) e lt = get-listed bs i e (omega (arith, lt))

-- each block in the list has a higher handle than the one before the list
above : (bs : List Block) (last i : ℕ) → are_entries last (map entry_of bs) ≡ true → i < length bs → last < (get_or bs i no_block).h
above [] last i legal lt = absurd (omega (arith, lt))
above (b ∷ bs) last zero legal lt = (let s = both (is_entry last (entry_of b)) (are_entries b.h (map entry_of bs)) legal in
    (behind_from last (entry_of b) s.0).above)
above (b ∷ bs) last (suc i) legal lt =
    (let s = both (is_entry last (entry_of b)) (are_entries b.h (map entry_of bs)) legal in
    let here = (behind_from last (entry_of b) s.0).above in
    let there = above bs b.h i s.1 (omega (arith, lt)) in
    omega (arith, here, there))

-- what is found under its handle
bytes-at : (bs : List Block) (last i : ℕ) → are_entries last (map entry_of bs) ≡ true → i < length bs →
    bytes_of_block bs (get_or bs i no_block).h ≡ (get_or bs i no_block).bytes
bytes-at [] last i legal lt = absurd (omega (arith, lt))
bytes-at (b ∷ bs) last zero legal lt = ap (λ t. cond t b.bytes (bytes_of_block bs b.h)) (eq-eqb b.h b.h refl)
bytes-at (b ∷ bs) last (suc i) legal lt =
    (let s = both (is_entry last (entry_of b)) (are_entries b.h (map entry_of bs)) legal in
    let x = get_or bs i no_block in
    let there = above bs b.h i s.1 (omega (arith, lt)) in
    let other : b.h ≢ x.h = (λ q. omega (arith, there, q)) in
    ap (λ t. cond t b.bytes (bytes_of_block bs x.h)) (ne_eqb b.h x.h other) ∙ bytes-at bs b.h i s.1 (omega (arith, lt)))

find-at : (bs : List Block) (last i : ℕ) → are_entries last (map entry_of bs) ≡ true → i < length bs →
    find (λ e. eqb e.h (get_or bs i no_block).h) (map entry_of bs) ≡ Some (entry_of (get_or bs i no_block))
find-at [] last i legal lt = absurd (omega (arith, lt))
find-at (b ∷ bs) last zero legal lt = ap (λ t. cond t (Some (entry_of b)) (find (λ e. eqb e.h b.h) (map entry_of bs))) (eq-eqb b.h b.h refl)
find-at (b ∷ bs) last (suc i) legal lt =
    (let s = both (is_entry last (entry_of b)) (are_entries b.h (map entry_of bs)) legal in
    let x = get_or bs i no_block in
    let there = above bs b.h i s.1 (omega (arith, lt)) in
    let other : b.h ≢ x.h = (λ q. omega (arith, there, q)) in
    ap (λ t. cond t (Some (entry_of b)) (find (λ e. eqb e.h x.h) (map entry_of bs))) (ne_eqb b.h x.h other)
    ∙ find-at bs b.h i s.1 (omega (arith, lt)))

-- the entry at a place of a legal directory
pub entry-of : (d : Directory) (bs : List Block) (i : ℕ) (e x : Entry) → map entry_of bs ≡ d.entries.items → is_directory d ≡ true → i < length bs →
    e ≡ get_or d.entries.items i x → IsEntryOf d bs i e
entry-of d bs i e x lists legal lt is =
    let b = get_or bs i no_block in
    let A : List Entry → Type 0 = λ es. are_entries 0 es ≡ true in
    let entries : are_entries 0 (map entry_of bs) ≡ true = subst A (sym lists) (legal_from d legal).entries in
    let same : entry_of b ≡ e = sym (is ∙ ap (λ es. get_or es i x) (sym lists) ∙ get-listed bs i x lt) in
    let found : find (λ y. eqb y.h b.h) d.entries.items ≡ Some (entry_of b) = ap (find (λ y. eqb y.h b.h)) (sym lists) ∙ find-at bs 0 i entries lt in
    let F : Option Entry → Type 0 = λ o. IsSomeAnd o (λ y. y.len ≡ length b.bytes) in
    let has : HasBlock d b.h (length b.bytes) = subst F (sym found) refl in
    let G : Entry → Type 0 = λ y. HasBlock d y.h y.len in
    let there : HasBlock d e.h e.len = subst G same has in
    let size = has_size d e.h e.len legal there in
    record {
      has = there;
      size = size.1;
      is = ap (λ (y : Entry). let k : Block = record { h = y.h; uid = y.uid; bytes = bytes_of_block bs y.h } in k) (sym same)
          ∙ ap (λ (bytes : List ℕ). let k : Block = record { h = b.h; uid = b.uid; bytes = bytes } in k) (bytes-at bs 0 i entries lt);
    }
