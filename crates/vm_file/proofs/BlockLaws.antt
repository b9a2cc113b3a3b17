-- Where the bytes of a block lie.
use Rattle.std.proofs.Common.{◌≡◌, ℕ, ◌+◌, ◌-◌, ◌≤◌, Bool, true, false, ◌&&◌, cond, List, [], ◌∷◌, length, take, drop, Some, refl, ap, sym, ◌∙◌, subst, arith}
use Rattle.std.specs.Prelude.{IsSomeAnd}
use Rattle.std.specs.List.{find, list_all}
use Rattle.std.proofs.Math.Dec.{eqb}
use Rattle.std.proofs.lemmas.Bool.{eqb-true}
use Rattle.std.proofs.lemmas.List.{drop-drop}
use Rattle.lmem_raw.specs.Bytes.{part}
use Rattle.geos_terms.specs.Block.{handle_word}
use Rattle.geos_terms.specs.Heap.{IsHeap}
use Rattle.vm_file.specs.Device.{Medium}
use Rattle.vm_file.specs.declared.directory.Entry.{Entry}
use Rattle.geos_terms.specs.HeapTest.{is_heap}
use Rattle.vm_file.specs.Contents.{Block, is_filled, listed, blocks_in}
use Rattle.vm_file.specs.Directories.{is_directory, directory_length, entries_length}
use Rattle.vm_file.specs.Reading.{base_of, area_of}
use Rattle.vm_file.specs.State.{FileState, IsSound, pair_of, HasBlock, bytes_of_block, place_in}
use Rattle.geos_terms.proofs.HeapTests.{both, heap-sound}
use Rattle.vm_file.proofs.Lengths.{drop-stretch, take-stretch}
use Rattle.vm_file.proofs.ReadLaws.{pair_ok}

-- the block that is found has the bytes at its place
pub block_there : (es : List Entry) (xs : List ℕ) (h len : ℕ) → IsSomeAnd (find (λ e. eqb e.h h) es) (λ e. e.len ≡ len) →
    (bytes_of_block (blocks_in es xs) h ≡ part xs (place_in es h) len) × (place_in es h + len ≤ entries_length es)
block_there [] xs h len is = absurd is
block_there (e ∷ es) xs h len is = by (block_there es (drop (6 + e.len) xs) h len) (eqb e.h h) is
  where
    by : (IsSomeAnd (find (λ x. eqb x.h h) es) (λ x. x.len ≡ len)
        → (bytes_of_block (blocks_in es (drop (6 + e.len) xs)) h ≡ part (drop (6 + e.len) xs) (place_in es h) len)
        × (place_in es h + len ≤ entries_length es)) →
        (t : Bool) → IsSomeAnd (cond t (Some e) (find (λ x. eqb x.h h) es)) (λ x. x.len ≡ len) →
        (cond t (part xs 6 e.len) (bytes_of_block (blocks_in es (drop (6 + e.len) xs)) h) ≡ part xs (cond t 6 ((6 + e.len) + place_in es h)) len)
        × (cond t 6 ((6 + e.len) + place_in es h) + len ≤ (6 + e.len) + entries_length es)
    by more true same = (ap (λ n. part xs 6 n) same, omega (arith, same))
    by more false here = (let r = more here in (r.0 ∙ ap (take len) (drop-drop (place_in es h) (6 + e.len) xs), omega (arith, r.1)))

-- a block that is found is filled
pub block_filled : (bs : List Block) (xs : List ℕ) (es : List Entry) (h len : ℕ) → blocks_in es xs ≡ bs
    → list_all is_filled bs ≡ true → IsSomeAnd (find (λ e. eqb e.h h) es) (λ e. e.len ≡ len) →
    (is_heap (bytes_of_block bs h) ≡ true) × (handle_word (bytes_of_block bs h) ≡ h)
block_filled bs xs es h len is filled found =
    let P : List Block → Type 0 = λ ys. list_all is_filled ys ≡ true in
    let Q : List Block → Type 0 = λ ys. (is_heap (bytes_of_block ys h) ≡ true) × (handle_word (bytes_of_block ys h) ≡ h) in
    subst Q is (all es xs (subst P (sym is) filled) found)
  where
    all : (es : List Entry) (xs : List ℕ) → list_all is_filled (blocks_in es xs) ≡ true → IsSomeAnd (find (λ e. eqb e.h h) es) (λ e. e.len ≡ len) →
        (is_heap (bytes_of_block (blocks_in es xs) h) ≡ true) × (handle_word (bytes_of_block (blocks_in es xs) h) ≡ h)
    all [] xs f g = absurd g
    all (e ∷ es) xs f g =
        let b : Block = record { h = e.h; uid = e.uid; bytes = part xs 6 e.len } in
        let s = both (is_filled b) (list_all is_filled (blocks_in es (drop (6 + e.len) xs))) f in
        by (all es (drop (6 + e.len) xs) s.1) s.0 (eqb e.h h) refl g
      where
        by : (IsSomeAnd (find (λ x. eqb x.h h) es) (λ x. x.len ≡ len) → (is_heap (bytes_of_block (blocks_in es (drop (6 + e.len) xs)) h) ≡ true)
            × (handle_word (bytes_of_block (blocks_in es (drop (6 + e.len) xs)) h) ≡ h)) →
            (is_heap (part xs 6 e.len) && eqb (handle_word (part xs 6 e.len)) e.h) ≡ true → (t : Bool) → eqb e.h h ≡ t
            → IsSomeAnd (cond t (Some e) (find (λ x. eqb x.h h) es)) (λ x. x.len ≡ len) →
            (is_heap (cond t (part xs 6 e.len) (bytes_of_block (blocks_in es (drop (6 + e.len) xs)) h)) ≡ true)
            × (handle_word (cond t (part xs 6 e.len) (bytes_of_block (blocks_in es (drop (6 + e.len) xs)) h)) ≡ h)
        by more here true is same = (let s = both (is_heap (part xs 6 e.len)) (eqb (handle_word (part xs 6 e.len)) e.h) here in
            (s.0, eqb-true _ _ s.1 ∙ eqb-true _ _ is))
        by more here false is other = more other

-- a part of an area is a part of the image
area_part : (xs : List ℕ) (base area k p len : ℕ) → k + p + len ≤ area → part (drop k (part xs base area)) p len ≡ part xs (base + k + p) len
area_part xs base area k p len fits =
    let n : base + area - base ≡ area = omega arith in
    ap (λ m. part (drop k (take m (drop base xs))) p len) (sym n)
    ∙ ap (λ l. part l p len) (drop-stretch xs base (base + area) k (omega arith))
    ∙ ap (take len) (drop-stretch xs (base + k) (base + area) p (omega arith)) ∙ take-stretch xs (base + k + p) (base + area) len (omega arith)

module _ {D : Type 0} (medium : Medium D) (f : FileState D) (sound : IsSound medium f) where
  -- a block of the current directory
  pub current_there : (h len at : ℕ) → HasBlock f.current h len → at ≡ base_of f.area f.second + 2 + place_in f.current.entries.items h
      → part (medium.image f.device) at len ≡ bytes_of_block (pair_of medium.image f).cur.blocks h
  current_there h len at has is =
      let b = block_there f.current.entries.items (drop 2 (area_of (medium.image f.device) f.area f.second)) h len has in
      let fits = sound.fits in
      ap (λ k. part (medium.image f.device) k len) is
      ∙ sym (b.0 ∙ area_part (medium.image f.device) (base_of f.area f.second) f.area 2 (place_in f.current.entries.items h) len
      (omega (arith, b.1, fits)))

  -- a block of the saved directory
  pub saved_there : (h len at : ℕ) → HasBlock f.saved h len → at ≡ base_of f.area f.second + directory_length
      f.current + 2 + place_in f.saved.entries.items h → part (medium.image f.device) at len ≡ bytes_of_block (pair_of medium.image f).saved.blocks h
  saved_there h len at has is =
      let n = directory_length f.current in
      let area = area_of (medium.image f.device) f.area f.second in
      let two : drop 2 (drop n area) ≡ drop (n + 2) area = drop-drop 2 n area in
      let b = block_there f.saved.entries.items (drop 2 (drop n area)) h len has in
      let fits = sound.fits in
      let place : base_of f.area f.second + (n + 2) + place_in f.saved.entries.items h ≡ at = omega (arith, is) in
      sym (b.0 ∙ ap (λ l. part l (place_in f.saved.entries.items h) len) two ∙ area_part (medium.image f.device)
      (base_of f.area f.second) f.area (n + 2) (place_in f.saved.entries.items h) len (omega (arith, b.1, fits))
      ∙ ap (λ k. part (medium.image f.device) k len) place)

  -- both lie within the device
  pub current_lies : (h len at : ℕ) → HasBlock f.current h len → at ≡ base_of f.area f.second + 2 + place_in f.current.entries.items h
      → at + len ≤ length (medium.image f.device)
  current_lies h len at has is = (let b = block_there f.current.entries.items [] h len has in let within = sound.within in
      omega (arith, b.1, within, is))

  pub saved_lies : (h len at : ℕ) → HasBlock f.saved h len → at ≡ base_of f.area f.second + directory_length
      f.current + 2 + place_in f.saved.entries.items h → at + len ≤ length (medium.image f.device)
  saved_lies h len at has is = (let b = block_there f.saved.entries.items [] h len has in let within = sound.within in omega (arith, b.1, within, is))

  -- the blocks of a pair that the device holds are heaps under their handles
  pub current_heap : (h len : ℕ) → medium.honest f.device → HasBlock f.current h len
      → IsHeap (bytes_of_block (pair_of medium.image f).cur.blocks h) × (handle_word (bytes_of_block (pair_of medium.image f).cur.blocks h) ≡ h)
  current_heap h len good has =
      let p = pair_ok (base_of f.area f.second) (area_of (medium.image f.device) f.area f.second) (pair_of medium.image f) (sound.holds good).pair in
      let c = both (is_directory (listed (pair_of medium.image f).cur)) (list_all is_filled (pair_of medium.image f).cur.blocks) p.cur in
      let r = block_filled (pair_of medium.image f).cur.blocks (drop 2 (area_of (medium.image f.device) f.area f.second))
      f.current.entries.items h len refl c.1 has in
      (heap-sound _ r.0, r.1)

  pub saved_heap : (h len : ℕ) → medium.honest f.device → HasBlock f.saved h len → IsHeap (bytes_of_block (pair_of medium.image f).saved.blocks h)
      × (handle_word (bytes_of_block (pair_of medium.image f).saved.blocks h) ≡ h)
  saved_heap h len good has =
      let p = pair_ok (base_of f.area f.second) (area_of (medium.image f.device) f.area f.second) (pair_of medium.image f) (sound.holds good).pair in
      let c = both (is_directory (listed (pair_of medium.image f).saved)) (list_all is_filled (pair_of medium.image f).saved.blocks) p.saved in
      let r = block_filled (pair_of medium.image f).saved.blocks
      (drop 2 (drop (directory_length f.current) (area_of (medium.image f.device) f.area f.second))) f.saved.entries.items h len refl c.1 has in
      (heap-sound _ r.0, r.1)
