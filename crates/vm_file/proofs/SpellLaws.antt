-- What is encoded is read back, whatever follows it.
use Rattle.std.proofs.Common.{◌≡◌, ℕ, zero, suc, ◌+◌, ◌*◌, ◌/◌, ◌%◌, ◌<◌, ◌≤◌, Bool, true, ◌&&◌, cond, List, [], ◌∷◌, ◌++◌, length, take, drop, map, Result, Ok, Err, refl, ap, ◌∙◌, arith, length-append, append_assoc}
use Rattle.std.specs.List.{list_all, flat_map}
use Rattle.std.proofs.Math.Dec.{leb, ltb, eqb}
use Rattle.std.proofs.lemmas.List.{drop_at, take_at}
use borrow.Author.Tests.{ltb-true}
use Rattle.geos_terms.specs.Bytes.{word, word_bytes}
use Rattle.geos_terms.specs.Block.{handle_word}
use Rattle.vm_file.specs.declared.directory.Entry.{Entry}
use Rattle.geos_terms.specs.Heap.{is_block_size}
use Rattle.geos_terms.specs.HeapTest.{is_heap}
use Rattle.vm_file.specs.Directories.{is_entry, are_entries, entries_length, may_be_map_block, may_be_map_group, may_be_map_item}
use Rattle.vm_file.specs.Contents.{Block, Contents, Pair, entry_of, is_filled, is_contents, contents_length, block_spelling, contents_spelling, pair_spelling}
use Rattle.vm_file.specs.Reading.{◌>>=◌, wanted, word_at, head_at, bytes_at, block_at, blocks_at, maps_at, contents_at, pair_at}
use Rattle.geos_terms.proofs.HeapTests.{both, and-true, le-leb, lt-ltb}
use Rattle.vm_file.proofs.ReadLaws.{leb-le}

-- reading continues after a step that succeeded
pub goes : {A B : Type 0} (r : Result A ℕ) (x : A) (f : A → Result B ℕ) (y : Result B ℕ) → r ≡ Ok x → f x ≡ y → (r >>= f) ≡ y
goes (Ok z) x f y e h = let same : z ≡ x = cc in ap f same ∙ h
goes (Err at) x f y e h = absurd cc

pub wanted_is : {A : Type 0} (at : ℕ) (rule : A → Bool) (r : Result A ℕ) (x : A) → r ≡ Ok x → rule x ≡ true → wanted at rule r ≡ Ok x
wanted_is at rule (Ok z) x e h = let same : z ≡ x = cc in ap (λ w. cond (rule w) (Ok w) (Err at)) same ∙ ap (λ t. cond t (Ok x) (Err at)) h
wanted_is at rule (Err f) x e h = absurd cc

pub word_is : (at : ℕ) (bytes : List ℕ) (k w : ℕ) → k + 1 < length bytes → word bytes k ≡ w → word_at at bytes k ≡ Ok w
word_is at bytes k w h e = ap (λ t. cond t (Ok (word bytes k)) (Err (at + k))) (lt-ltb _ _ h) ∙ ap (λ x. let y : Result ℕ ℕ = Ok x in y) e

halves : (w : ℕ) → w % 256 + 256 * (w / 256) ≡ w
halves w = omega arith

-- the words of six bytes that are written out
first : (a b c : ℕ) (rest : List ℕ) → word (word_bytes a ++ word_bytes b ++ word_bytes c ++ rest) 0 ≡ a
unfolding word
first a b c rest = halves a

second : (a b c : ℕ) (rest : List ℕ) → word (word_bytes a ++ word_bytes b ++ word_bytes c ++ rest) 2 ≡ b
unfolding word
second a b c rest = halves b

third : (a b c : ℕ) (rest : List ℕ) → word (word_bytes a ++ word_bytes b ++ word_bytes c ++ rest) 4 ≡ c
unfolding word
third a b c rest = halves c

six : (a b c : ℕ) (rest : List ℕ) → length (word_bytes a ++ word_bytes b ++ word_bytes c ++ rest) ≡ 6 + length rest
six a b c rest = omega arith

-- a head is read again
pub head_again : (last at : ℕ) (e : Entry) (rest : List ℕ) → is_entry last e ≡ true
    → head_at last at (word_bytes e.h ++ word_bytes e.uid ++ word_bytes e.len ++ rest) ≡ Ok e
unfolding head_at
head_again last at e rest legal =
    let l = both _ _ legal in
    let bytes = word_bytes e.h ++ word_bytes e.uid ++ word_bytes e.len ++ rest in
    let n = six e.h e.uid e.len rest in
    goes _ e.h _ _ (wanted_is at (λ h. ltb last h && leb h 1024) _ e.h (word_is at bytes 0 e.h (omega (arith, n)) (first e.h e.uid e.len rest)) l.0)
    (goes _ e.uid _ _ (word_is at bytes 2 e.uid (omega (arith, n)) (second e.h e.uid e.len rest))
    (goes _ e.len _ _ (wanted_is (at + 4) is_block_size _ e.len (word_is at bytes 4 e.len (omega (arith, n)) (third e.h e.uid e.len rest)) l.1) refl))

-- a block is read again
pub block_again : (last at : ℕ) (b : Block) (rest : List ℕ) → is_entry last (entry_of b) ≡ true → is_filled b ≡ true
    → block_at last at (block_spelling b ++ rest) ≡ Ok b
unfolding block_at bytes_at
block_again last at b rest legal filled =
    let e = entry_of b in
    let spelled : block_spelling b ++ rest ≡ word_bytes b.h ++ word_bytes b.uid ++ word_bytes (length b.bytes) ++ (b.bytes ++ rest) =
    append_assoc (word_bytes b.h ++ word_bytes b.uid ++ word_bytes (length b.bytes)) b.bytes rest in
    let f = both _ _ filled in
    let front : take (length b.bytes) (b.bytes ++ rest) ≡ b.bytes = take_at b.bytes rest (length b.bytes) refl in
    let long : length b.bytes ≤ length (b.bytes ++ rest) = omega (arith, length-append b.bytes rest) in
    let P : List ℕ → Type 0 = λ x. is_heap x && eqb (handle_word x) b.h ≡ true in
    let body : leb (length b.bytes) (length (b.bytes ++ rest)) && is_heap (take (length b.bytes) (b.bytes ++ rest))
    && eqb (handle_word (take (length b.bytes) (b.bytes ++ rest))) b.h ≡ true =
    and-true _ _ (and-true _ _ (le-leb _ _ long) (ap is_heap front ∙ f.0)) (ap (λ x. eqb (handle_word x) b.h) front ∙ f.1) in
    ap (block_at last at) spelled
    ∙ goes _ e _ _ (head_again last at e (b.bytes ++ rest) legal)
    (goes _ b.bytes _ _ (ap (λ t. cond t (Ok (take (length b.bytes) (b.bytes ++ rest))) (Err (at + 6))) body
    ∙ ap (λ x. let y : Result (List ℕ) ℕ = Ok x in y) front) refl)

length-block : (b : Block) → length (block_spelling b) ≡ 6 + length b.bytes
length-block b = omega (arith, length-append (word_bytes b.h ++ word_bytes b.uid ++ word_bytes (length b.bytes)) b.bytes)

-- blocks are read again
pub blocks_again : (bs : List Block) (n last at : ℕ) (rest : List ℕ) → n ≡ length bs → are_entries last (map entry_of bs) ≡ true
    → list_all is_filled bs ≡ true → blocks_at n last at (flat_map block_spelling bs ++ rest) ≡ Ok bs
blocks_again [] zero last at rest e legal filled = refl
blocks_again [] (suc n) last at rest e legal filled = absurd (omega arith)
blocks_again (b ∷ bs) zero last at rest e legal filled = absurd (omega arith)
blocks_again (b ∷ bs) (suc n) last at rest e legal filled =
    let l = both _ _ legal in
    let f = both _ _ filled in
    let more = flat_map block_spelling bs ++ rest in
    let spelled : flat_map block_spelling (b ∷ bs) ++ rest ≡ block_spelling b ++ more = append_assoc (block_spelling b)
    (flat_map block_spelling bs) rest in
    let past : drop (6 + length b.bytes) (block_spelling b ++ more) ≡ more = drop_at (block_spelling b) more (6 + length b.bytes) (length-block b) in
    ap (blocks_at (suc n) last at) spelled
    ∙ goes _ b _ _ (block_again last at b more l.0 f.0)
    (goes _ bs _ _ (ap (blocks_at n b.h (at + (6 + length b.bytes))) past
    ∙ blocks_again bs n b.h (at + (6 + length b.bytes)) rest (omega arith) l.1 f.1) refl)

length-blocks : (bs : List Block) → length (flat_map block_spelling bs) ≡ entries_length (map entry_of bs)
length-blocks [] = refl
length-blocks (b ∷ bs) =
    let sum : entries_length (map entry_of (b ∷ bs)) ≡ (6 + length b.bytes) + entries_length (map entry_of bs) = refl in
    omega (arith, sum, length-append (block_spelling b) (flat_map block_spelling bs), length-block b, length-blocks bs)

-- entries in ascending order are no more than the handles that are left
few : (last : ℕ) (es : List Entry) → are_entries last es ≡ true → last ≤ 1024 → length es + last ≤ 1024
few last [] h l = omega arith
few last (e ∷ es) h l =
    let s = both (is_entry last e) (are_entries e.h es) h in
    let t = both (ltb last e.h && leb e.h 1024) (is_block_size e.len) s.0 in
    let u = both (ltb last e.h) (leb e.h 1024) t.0 in
    let most = leb-le e.h 1024 u.1 in
    omega (arith, ltb-true last e.h u.0, few e.h es s.1 most)

length-map : (bs : List Block) → length (map entry_of bs) ≡ length bs
length-map [] = refl
length-map (b ∷ bs) = ap suc (length-map bs)

count_word : (n : ℕ) (rest : List ℕ) → word (word_bytes n ++ rest) 0 ≡ n
unfolding word
count_word n rest = halves n

-- a directory is read again
pub contents_again : (c : Contents) (at : ℕ) (rest : List ℕ) → is_contents c ≡ true → contents_at at (contents_spelling c ++ rest) ≡ Ok c
unfolding contents_at maps_at
contents_again c at rest legal =
    let l1 = both _ _ legal in
    let l2 = both _ _ l1.0 in
    let l3 = both _ _ l2.0 in
    let l4 = both _ _ l3.0 in
    let es = map entry_of c.blocks in
    let tail = word_bytes c.map_block ++ word_bytes c.map_item.0 ++ word_bytes c.map_item.1 ++ rest in
    let body = flat_map block_spelling c.blocks ++ tail in
    let spelled : contents_spelling c ++ rest ≡ word_bytes (length c.blocks) ++ body = simp append_assoc in
    let bytes = word_bytes (length c.blocks) ++ body in
    let small = few 0 es l4.0 (omega arith) in
    let n : length c.blocks ≤ 1024 = omega (arith, small, length-map c.blocks) in
    let w : word bytes 0 ≡ length c.blocks = count_word (length c.blocks) body in
    let to = at + 2 + entries_length es in
    let past : drop (2 + entries_length es) bytes ≡ tail =
    (let two : 2 + entries_length es ≡ suc (suc (entries_length es)) = omega arith in ap (λ m. drop m bytes) two
    ∙ drop_at (flat_map block_spelling c.blocks) tail (entries_length es) (length-blocks c.blocks)) in
    let k = six c.map_block c.map_item.0 c.map_item.1 rest in
    let maps : maps_at es to tail ≡ Ok (c.map_block, (c.map_item.0, c.map_item.1)) =
    goes _ c.map_block _ _ (wanted_is to (may_be_map_block es) _ c.map_block
    (word_is to tail 0 c.map_block (omega (arith, k)) (first c.map_block c.map_item.0 c.map_item.1 rest)) l4.1)
    (goes _ c.map_item.0 _ _ (wanted_is (to + 2) (may_be_map_group es) _ c.map_item.0
    (word_is to tail 2 c.map_item.0 (omega (arith, k)) (second c.map_block c.map_item.0 c.map_item.1 rest)) l3.1)
    (goes _ c.map_item.1 _ _ (wanted_is (to + 4) (may_be_map_item c.map_item.0) _ c.map_item.1
    (word_is to tail 4 c.map_item.1 (omega (arith, k)) (third c.map_block c.map_item.0 c.map_item.1 rest)) l2.1) refl)) in
    ap (contents_at at) spelled
    ∙ goes _ (length c.blocks) _ _ (wanted_is at (λ m. leb m 1024) _ (length c.blocks) (word_is at bytes 0 (length c.blocks) (omega arith) w)
    (le-leb _ _ n))
    (goes _ c.blocks _ _ (blocks_again c.blocks (length c.blocks) 0 (at + 2) tail refl l4.0 l1.1)
    (goes _ (c.map_block, (c.map_item.0, c.map_item.1)) _ _ (ap (maps_at es to) past ∙ maps) refl))

length-contents : (c : Contents) → length (contents_spelling c) ≡ contents_length c
length-contents c =
    let blocks = flat_map block_spelling c.blocks in
    omega (
      arith,
      length-append (word_bytes (length c.blocks) ++ blocks ++ word_bytes c.map_block ++ word_bytes c.map_item.0) (word_bytes c.map_item.1),
      length-append (word_bytes (length c.blocks) ++ blocks ++ word_bytes c.map_block) (word_bytes c.map_item.0),
      length-append (word_bytes (length c.blocks) ++ blocks) (word_bytes c.map_block),
      length-append (word_bytes (length c.blocks)) blocks,
      length-blocks c.blocks,
    )

-- a pair is read again
pub pair_again : (p : Pair) (at : ℕ) (rest : List ℕ) → is_contents p.cur ≡ true → is_contents p.saved ≡ true
    → pair_at at (pair_spelling p ++ rest) ≡ Ok p
unfolding pair_at
pair_again p at rest cur saved =
    let more = contents_spelling p.saved ++ rest in
    let spelled : pair_spelling p ++ rest ≡ contents_spelling p.cur ++ more = append_assoc (contents_spelling p.cur)
    (contents_spelling p.saved) rest in
    let past : drop (contents_length p.cur) (contents_spelling p.cur ++ more) ≡ more = drop_at (contents_spelling p.cur) more
    (contents_length p.cur) (length-contents p.cur) in
    ap (pair_at at) spelled
    ∙ goes _ p.cur _ _ (contents_again p.cur at more cur)
    (goes _ p.saved _ _ (ap (contents_at (at + contents_length p.cur)) past ∙ contents_again p.saved (at + contents_length p.cur) rest saved) refl)
