-- The blocks of a directory, as a source and the file have them.
use Rattle.std.proofs.Common.{◌≡◌, ℕ, zero, suc, ◌+◌, ◌<◌, ◌≤◌, Bool, true, ◌&&◌, cond, List, [], ◌∷◌, length, drop, map, get_or, Option, Some, None, refl, ap, sym, ◌∙◌, subst, arith, length-take, length-drop}
use Rattle.std.specs.Prelude.{All, IsSomeAnd, MatchOption, unwrap_or}
use Rattle.std.specs.List.{find, list_all}
use Rattle.std.proofs.Math.Dec.{eqb, ltb, leb}
use Rattle.std.proofs.lemmas.Bool.{eq-eqb, ne_eqb}
use borrow.Author.Tests.{ltb-true}
use Rattle.lmem_raw.specs.Bytes.{part}
use Rattle.geos_terms.specs.Block.{handle_word}
use Rattle.geos_terms.specs.Heap.{IsHeap, is_block_size}
use Rattle.vm_file.specs.Device.{Medium}
use Rattle.vm_file.specs.declared.directory.Entry.{Entry}
use Rattle.vm_file.specs.declared.directory.Directory.{Directory}
use Rattle.vm_file.specs.Committing.{block_from, contents_from, contents_read, IsThere, MayCommit}
use Rattle.vm_file.specs.Contents.{Block, Contents, entry_of, listed, is_filled, is_contents, blocks_in}
use Rattle.vm_file.specs.Directories.{is_directory, is_entry, are_entries, directory_length, may_be_map_block, may_be_map_group, may_be_map_item}
use Rattle.vm_file.specs.Reading.{base_of, area_of}
use Rattle.vm_file.specs.State.{FileState, IsSound, HasBlock, pair_of, bytes_of_block, place_in}
use Rattle.vm_file.proofs.BlockLaws.{block_there, current_there, current_heap, current_lies, saved_lies, saved_there}
use Rattle.geos_terms.proofs.HeapTests.{both, and-true, heap-complete}

-- nothing is resident
abbrev pub nothing : ℕ → Option (List ℕ)
nothing h = None

all_map : (f g : Entry → Block) (es : List Entry) → All (λ e. f e ≡ g e) es → map f es ≡ map g es
all_map f g [] same = refl
all_map f g (e ∷ es) same = ap (λ b. b ∷ map f es) (same 0 e (omega arith))
    ∙ ap (λ bs. g e ∷ bs) (all_map f g es (λ k d l. same (suc k) d (omega arith)))

all_listed : (f : Entry → Block) (es : List Entry) → All (λ e. entry_of (f e) ≡ e) es → map entry_of (map f es) ≡ es
all_listed f [] same = refl
all_listed f (e ∷ es) same = ap (λ x. x ∷ map entry_of (map f es)) (same 0 e (omega arith))
    ∙ ap (λ xs. e ∷ xs) (all_listed f es (λ k d l. same (suc k) d (omega arith)))

all_filled : (f : Entry → Block) (es : List Entry) → All (λ e. is_filled (f e) ≡ true) es → list_all is_filled (map f es) ≡ true
all_filled f [] each = refl
all_filled f (e ∷ es) each = and-true _ _ (each 0 e (omega arith)) (all_filled f es (λ k d l. each (suc k) d (omega arith)))

-- handles ascend
first_above : (last : ℕ) (e : Entry) → is_entry last e ≡ true → last < e.h
first_above last e h =
    let t = both (ltb last e.h && leb e.h 1024) (is_block_size e.len) h in
    ltb-true _ _ (both (ltb last e.h) (leb e.h 1024) t.0).0

above : (last : ℕ) (es : List Entry) (k : ℕ) (d : Entry) → are_entries last es ≡ true → k < length es → last < (get_or es k d).h
above last [] k d h l = absurd (omega arith)
above last (e ∷ es) zero d h l = first_above last e (both (is_entry last e) (are_entries e.h es) h).0
above last (e ∷ es) (suc k) d h l = (let s = both (is_entry last e) (are_entries e.h es) h in
    omega (arith, above e.h es k d s.1 (omega arith), first_above last e s.0))

-- a directory has each of its blocks
own : (es : List Entry) (last k : ℕ) (d : Entry) → are_entries last es ≡ true → k < length es
    → IsSomeAnd (find (λ x. eqb x.h (get_or es k d).h) es) (λ x. x.len ≡ (get_or es k d).len)
own [] last k d h l = absurd (omega arith)
own (e ∷ es) last zero d h l = (let P : Bool → Type 0 = λ t. IsSomeAnd (cond t (Some e) (find (λ x. eqb x.h e.h) es)) (λ x. x.len ≡ e.len) in
    subst P (sym (eq-eqb e.h e.h refl)) refl)
own (e ∷ es) last (suc k) d h l =
    let s = both (is_entry last e) (are_entries e.h es) h in
    let x = get_or es k d in
    let higher = above e.h es k d s.1 (omega arith) in
    let P : Bool → Type 0 = λ t. IsSomeAnd (cond t (Some e) (find (λ y. eqb y.h x.h) es)) (λ y. y.len ≡ x.len) in
    subst P (sym (ne_eqb e.h x.h (λ q. omega (arith, higher, q)))) (own es e.h k d s.1 (omega arith))

pub own_there : (d : Directory) → are_entries 0 d.entries.items ≡ true → All (IsThere nothing d) d.entries.items
own_there d legal = λ k e l. own d.entries.items 0 k e legal l

-- the blocks of a directory, found by their handles, are its blocks
own_from : (es : List Entry) (last : ℕ) (xs : List ℕ) → are_entries last es ≡ true → map (block_from nothing (blocks_in es xs)) es ≡ blocks_in es xs
own_from [] last xs h = refl
own_from (e ∷ es) last xs h =
    let s = both (is_entry last e) (are_entries e.h es) h in
    let b : Block = record { h = e.h; uid = e.uid; bytes = part xs 6 e.len } in
    let rest = blocks_in es (drop (6 + e.len) xs) in
    let here : block_from nothing (b ∷ rest) e ≡ b =
    ap (λ t. let x : Block = record { h = e.h; uid = e.uid; bytes = cond t b.bytes (bytes_of_block rest e.h) } in x) (eq-eqb e.h e.h refl) in
    let behind : map (block_from nothing (b ∷ rest)) es ≡ map (block_from nothing rest) es = all_map _ _ es (λ k d l.
    let x = get_or es k d in
    let higher = above e.h es k d s.1 l in
    ap (λ t. let y : Block = record { h = x.h; uid = x.uid; bytes = cond t b.bytes (bytes_of_block rest x.h) } in y)
    (ne_eqb e.h x.h (λ q. omega (arith, higher, q)))) in
    ap (λ y. y ∷ map (block_from nothing (b ∷ rest)) es) here ∙ ap (λ ys. b ∷ ys) (behind ∙ own_from es e.h (drop (6 + e.len) xs) s.1)

module _ {D : Type 0} (medium : Medium D) (f : FileState D) (sound : IsSound medium f) where
  -- a block that is not resident is read from where the current directory has it
  module _ (resident : ℕ → Option (List ℕ)) (cur : Directory) (may : MayCommit resident f.current cur) where
    pub current_contents : (at : ℕ) → at ≡ base_of f.area f.second + 2 →
        contents_read resident (medium.image f.device) at f.current.entries.items cur ≡ contents_from resident (pair_of medium.image f).cur.blocks cur
    current_contents at is =
        ap (λ bs. let c : Contents = record { blocks = bs; map_block = cur.map_block; map_item = cur.map_item } in c)
        (all_map _ _ cur.entries.items (λ k d l. by (get_or cur.entries.items k d) (resident (get_or cur.entries.items k d).h) (may.there k d l)))
      where
        by : (e : Entry) (o : Option (List ℕ)) → MatchOption o (HasBlock f.current e.h e.len) (λ bytes. IsHeap bytes
            × (handle_word bytes ≡ e.h) × (length bytes ≡ e.len)) →
            (let b : Block = record {
              h = e.h;
              uid = e.uid;
              bytes =
                  unwrap_or o (part (medium.image f.device) (at + place_in f.current.entries.items e.h) e.len);
            } in b)
            ≡ (let b : Block = record { h = e.h; uid = e.uid; bytes = unwrap_or o (bytes_of_block (pair_of medium.image f).cur.blocks e.h) } in b)
        by e (Some bytes) h = refl
        by e None has =
            ap (λ x. let b : Block = record { h = e.h; uid = e.uid; bytes = x } in b)
            (current_there medium f sound e.h e.len (at + place_in f.current.entries.items e.h) has
            (ap (λ k. k + place_in f.current.entries.items e.h) is))

    -- it lies within the device
    pub current_within : (at : ℕ) → at ≡ base_of f.area f.second + 2 →
        All (λ e. MatchOption (resident e.h) (at + place_in f.current.entries.items e.h + e.len ≤ length (medium.image f.device)) (λ bytes. Unit {0}))
        cur.entries.items
    current_within at is = λ k d l. (let e = get_or cur.entries.items k d in by e (resident e.h) (may.there k d l))
      where
        by : (e : Entry) (o : Option (List ℕ)) → MatchOption o (HasBlock f.current e.h e.len) (λ bytes. IsHeap bytes
            × (handle_word bytes ≡ e.h) × (length bytes ≡ e.len)) →
            MatchOption o (at + place_in f.current.entries.items e.h + e.len ≤ length (medium.image f.device)) (λ bytes. Unit {0})
        by e (Some bytes) h = tt
        by e None has = current_lies medium f sound e.h e.len (at + place_in f.current.entries.items e.h) has
            (ap (λ k. k + place_in f.current.entries.items e.h) is)

    -- each block is a heap of its entry's length
    each : medium.honest f.device → (e : Entry) (o : Option (List ℕ)) → MatchOption o (HasBlock f.current e.h e.len)
        (λ bytes. IsHeap bytes × (handle_word bytes ≡ e.h) × (length bytes ≡ e.len)) →
        (let b : Block = record { h = e.h; uid = e.uid; bytes = unwrap_or o (bytes_of_block (pair_of medium.image f).cur.blocks e.h) } in
        (entry_of b ≡ e) × (is_filled b ≡ true))
    each good e (Some bytes) h = (
      ap (λ n. let x : Entry = record { h = e.h; uid = e.uid; len = n } in x) h.2,
      and-true _ _ (heap-complete bytes h.0) (eq-eqb _ _ h.1),
    )
    each good e None has =
        let at = base_of f.area f.second + 2 + place_in f.current.entries.items e.h in
        let there = current_there medium f sound e.h e.len at has refl in
        let heap = current_heap medium f sound e.h e.len good has in
        let place = block_there f.current.entries.items [] e.h e.len has in
        let within = sound.within in
        let long : length (part (medium.image f.device) at e.len) ≡ e.len = length-take e.len (drop at (medium.image f.device))
        ∙ omega (arith, length-drop at (medium.image f.device), place.1, within) in (
          ap (λ n. let x : Entry = record { h = e.h; uid = e.uid; len = n } in x) (ap length (sym there) ∙ long),
          and-true _ _ (heap-complete _ heap.0) (eq-eqb _ _ heap.1),
        )

    pub from_listed : medium.honest f.device → listed (contents_from resident (pair_of medium.image f).cur.blocks cur) ≡ cur
    from_listed good =
        ap (λ es. let d : Directory = record { entries = record { items = es }; map_block = cur.map_block; map_item = cur.map_item } in d)
        (all_listed (block_from resident (pair_of medium.image f).cur.blocks) cur.entries.items
        (λ k d l. (each good (get_or cur.entries.items k d) (resident (get_or cur.entries.items k d).h) (may.there k d l)).0))

    pub from_filled : medium.honest f.device → list_all is_filled (contents_from resident (pair_of medium.image f).cur.blocks cur).blocks ≡ true
    from_filled good = all_filled (block_from resident (pair_of medium.image f).cur.blocks) cur.entries.items
        (λ k d l. (each good (get_or cur.entries.items k d) (resident (get_or cur.entries.items k d).h) (may.there k d l)).1)

    pub from_legal : medium.honest f.device → is_contents (contents_from resident (pair_of medium.image f).cur.blocks cur) ≡ true
    from_legal good = and-true _ _ (ap is_directory (from_listed good) ∙ may.legal) (from_filled good)

  -- the entries of the saved directory are legal
  saved_entries : are_entries 0 f.saved.entries.items ≡ true
  saved_entries =
      let es = f.saved.entries.items in
      let d1 = both (are_entries 0 es && may_be_map_block es f.saved.map_block && may_be_map_group es f.saved.map_item.0)
      (may_be_map_item f.saved.map_item.0 f.saved.map_item.1) sound.saved in
      let d2 = both (are_entries 0 es && may_be_map_block es f.saved.map_block) (may_be_map_group es f.saved.map_item.0) d1.0 in
      (both (are_entries 0 es) (may_be_map_block es f.saved.map_block) d2.0).0

  -- its blocks lie within the device
  pub saved_within : (at : ℕ) → at ≡ base_of f.area f.second + directory_length f.current + 2 →
      All (λ e. at + place_in f.saved.entries.items e.h + e.len ≤ length (medium.image f.device)) f.saved.entries.items
  saved_within at is = λ k d l.
      let es = f.saved.entries.items in
      let e = get_or es k d in
      saved_lies medium f sound e.h e.len (at + place_in es e.h) (own_there f.saved saved_entries k d l) (ap (λ n. n + place_in es e.h) is)

  -- the saved directory is read from its place
  pub saved_contents : (at : ℕ) → at ≡ base_of f.area f.second + directory_length f.current + 2
      → contents_read nothing (medium.image f.device) at f.saved.entries.items f.saved ≡ (pair_of medium.image f).saved
  saved_contents at is =
      let es = f.saved.entries.items in
      let xs = drop 2 (drop (directory_length f.current) (area_of (medium.image f.device) f.area f.second)) in
      let legal = saved_entries in
      let there = own_there f.saved legal in
      ap (λ bs. let c : Contents = record { blocks = bs; map_block = f.saved.map_block; map_item = f.saved.map_item } in c)
      (all_map _ _ es (λ k d l.
      let e = get_or es k d in
      ap (λ x. let b : Block = record { h = e.h; uid = e.uid; bytes = x } in b)
      (saved_there medium f sound e.h e.len (at + place_in es e.h) (there k d l) (ap (λ n. n + place_in es e.h) is)))
      ∙ own_from es 0 xs legal)
