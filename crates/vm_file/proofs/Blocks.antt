-- A block of which the bytes are taken from a source, or read.
use Rattle.std.proofs.Common.{◌≡◌, ℕ, zero, suc, ◌+◌, ◌<◌, ◌≤◌, true, List, [], ◌∷◌, ◌++◌, length, take, map, get_or, Option, Some, None, refl, ap, sym, ◌∙◌, subst, arith, append_assoc}
use Rattle.std.specs.Prelude.{IfSome, unwrap_or}
use Rattle.std.specs.Borrow.{Bor}
use Rattle.std.specs.List.{flat_map, list_all}
use Rattle.std.proofs.lemmas.Bool.{eqb-true}
use Rattle.std.proofs.lemmas.List.{append-nil}
use Rattle.geos_terms.specs.Bytes.{word_bytes}
use Rattle.geos_terms.specs.Block.{handle_word}
use Rattle.geos_terms.specs.Heap.{IsHeap}
use Rattle.vm_file.specs.declared.directory.Entry.{Entry}
use Rattle.vm_file.specs.Committing.{Shows}
use Rattle.vm_file.specs.Contents.{Block, Contents, block_spelling, contents_spelling, is_filled}
use Rattle.vm_file.specs.Directories.{entries_length}
use Rattle.geos_terms.proofs.HeapTests.{both, heap-sound}
use Rattle.vm_file.proofs.Lengths.{entries_length-more}

-- what a source shows is what is resident
pub shown_some : (shown : Bor (List ℕ)) (o : Option (List ℕ)) → Shows (Some shown) o → o ≡ Some shown.now
shown_some shown (Some bytes) is = ap Some (sym is)
shown_some shown None is = absurd is

pub shown_none : (o : Option (List ℕ)) → Shows None o → o ≡ None
shown_none (Some bytes) is = absurd is
shown_none None is = refl

pub some_length : (e : Entry) (o : Option (List ℕ)) (ws : List ℕ) → o ≡ Some ws → IfSome o (λ bytes. length bytes ≡ e.len) → length ws ≡ e.len
some_length e o ws is long = (let P : Option (List ℕ) → Type 0 = λ x. IfSome x (λ bytes. length bytes ≡ e.len) in subst P is long)

-- an entry followed by as many bytes as it lists is a block
pub block_appended : (e : Entry) (bytes ws old mid new : List ℕ) → bytes ≡ ws → length ws ≡ e.len
    → mid ≡ old ++ (word_bytes e.h ++ word_bytes e.uid ++ word_bytes e.len) → new ≡ mid ++ ws →
    new ≡ old ++ block_spelling (let b : Block = record { h = e.h; uid = e.uid; bytes = bytes } in b)
block_appended e bytes ws old mid new is long head body =
    let P : List ℕ → Type 0 = λ xs. new ≡ old ++ block_spelling (let b : Block = record { h = e.h; uid = e.uid; bytes = xs } in b) in
    let H : ℕ → Type 0 = λ n. mid ≡ old ++ (word_bytes e.h ++ word_bytes e.uid ++ word_bytes n) in
    let words = word_bytes e.h ++ word_bytes e.uid ++ word_bytes (length ws) in
    let spelled : (old ++ words) ++ ws ≡ old ++ block_spelling (let b : Block = record { h = e.h; uid = e.uid; bytes = ws } in b) =
    append_assoc old words ws in
    subst P (sym is) (body ∙ ap (λ xs. xs ++ ws) (subst H (sym long) head) ∙ spelled)

-- the count, the blocks and the maps, appended to what was there, are a directory
pub contents_appended : (c : Contents) (n : ℕ) (old one two new : List ℕ) → n ≡ length c.blocks → one ≡ old ++ word_bytes n
    → two ≡ one ++ flat_map block_spelling c.blocks →
    new ≡ two ++ (word_bytes c.map_block ++ word_bytes c.map_item.0 ++ word_bytes c.map_item.1) → new ≡ old ++ contents_spelling c
contents_appended c n old one two new count first second third =
    let blocks = flat_map block_spelling c.blocks in
    let maps = word_bytes c.map_block ++ word_bytes c.map_item.0 ++ word_bytes c.map_item.1 in
    let grouped : ((old ++ word_bytes (length c.blocks)) ++ blocks) ++ maps ≡ old ++ contents_spelling c = simp append_assoc in
    third ∙ ap (λ xs. xs ++ maps) (second ∙ ap (λ xs. xs ++ blocks) (first ∙ ap (λ k. old ++ word_bytes k) count)) ∙ grouped

-- a block that is not resident is filled where its bytes are a heap under its handle
pub filled_stored : (h uid : ℕ) (o : Option (List ℕ)) (stored : List ℕ) → o ≡ None
    → is_filled (let b : Block = record { h = h; uid = uid; bytes = unwrap_or o stored } in b) ≡ true →
    IsHeap stored × (handle_word stored ≡ h)
filled_stored h uid o stored none filled =
    let P : Option (List ℕ) → Type 0 = λ x. is_filled (let b : Block = record { h = h; uid = uid; bytes = unwrap_or x stored } in b) ≡ true in
    let f = both _ _ (subst P none filled) in
    (heap-sound stored f.0, eqb-true _ _ f.1)

-- entries, and a part of them
pub entries_length-take : (n : ℕ) (es : List Entry) → entries_length (take n es) ≤ entries_length es
entries_length-take zero es = omega arith
entries_length-take (suc n) [] = omega arith
entries_length-take (suc n) (e ∷ es) = omega (arith, entries_length-take n es)

pub entry_fits : (es : List Entry) (i : ℕ) (d : Entry) → i < length es → entries_length (take i es) + (6 + (get_or es i d).len) ≤ entries_length es
entry_fits es i d h = omega (arith, entries_length-more es i d h, entries_length-take (i + 1) es)

module _ (f : Entry → Block) where
  -- one more block after those that are written
  spelled_more : (es : List Entry) (i : ℕ) (d : Entry) → i < length es
      → flat_map block_spelling (map f (take (suc i) es)) ≡ flat_map block_spelling (map f (take i es)) ++ block_spelling (f (get_or es i d))
  spelled_more [] i d h = absurd (omega arith)
  spelled_more (e ∷ es) zero d h = append-nil (block_spelling (f e))
  spelled_more (e ∷ es) (suc i) d h =
      ap (λ xs. block_spelling (f e) ++ xs) (spelled_more es i d (omega arith))
      ∙ sym (append_assoc (block_spelling (f e)) (flat_map block_spelling (map f (take i es))) (block_spelling (f (get_or es i d))))

  pub blocks_appended : (es : List Entry) (i : ℕ) (d : Entry) (old mid new : List ℕ) → i < length es
      → mid ≡ old ++ flat_map block_spelling (map f (take i es)) →
      new ≡ mid ++ block_spelling (f (get_or es i d)) → new ≡ old ++ flat_map block_spelling (map f (take (i + 1) es))
  blocks_appended es i d old mid new h so_far one =
      let next : i + 1 ≡ suc i = omega arith in
      one
      ∙ ap (λ xs. xs ++ block_spelling (f (get_or es i d))) so_far
      ∙ append_assoc old (flat_map block_spelling (map f (take i es))) (block_spelling (f (get_or es i d)))
      ∙ ap (λ xs. old ++ xs) (sym (ap (λ j. flat_map block_spelling (map f (take j es))) next ∙ spelled_more es i d h))

  -- each of the blocks is filled
  pub filled_at : (es : List Entry) (i : ℕ) (d : Entry) → i < length es → list_all is_filled (map f es) ≡ true → is_filled (f (get_or es i d)) ≡ true
  filled_at [] i d h all = absurd (omega arith)
  filled_at (e ∷ es) zero d h all = (both (is_filled (f e)) (list_all is_filled (map f es)) all).0
  filled_at (e ∷ es) (suc i) d h all = filled_at es i d (omega arith) (both (is_filled (f e)) (list_all is_filled (map f es)) all).1
