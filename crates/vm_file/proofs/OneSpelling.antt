-- Bytes that are read as a pair are its spelling. `SpellLaws` says that a spelling is read as its pair.
use Rattle.std.proofs.Common.{◌≡◌, ◌∙◌, ℕ, zero, suc, ◌+◌, ◌*◌, ◌/◌, ◌%◌, ◌<◌, ◌&&◌, List, [], ◌∷◌, ◌++◌, length, take, drop, map, true, Ok, get_or, refl, ap, sym, subst, arith, append_assoc, length-take}
use Rattle.std.specs.List.{flat_map}
use Rattle.std.proofs.Math.Dec.{leb, ltb}
use Rattle.std.proofs.lemmas.List.{drop-drop, take-append-drop}
use Rattle.geos_terms.specs.Bytes.{AreBytes, word, word_bytes}
use Rattle.vm_file.specs.declared.directory.Entry.{Entry}
use Rattle.vm_file.specs.Contents.{Block, Contents, Pair, block_spelling, contents_length, contents_spelling, entry_of, pair_length, pair_spelling}
use Rattle.vm_file.specs.Directories.{entries_length, may_be_map_block, may_be_map_group, may_be_map_item}
use Rattle.geos_terms.specs.Heap.{is_block_size}
use Rattle.vm_file.specs.Laws.{PairsHaveOneSpelling, is_pair}
use Rattle.vm_file.specs.Reading.{block_at, blocks_at, bytes_at, contents_at, count_at, head_at, maps_at, pair_at, wanted, word_at}
use Rattle.geos_terms.proofs.HeapTests.{and-true, both}
use Rattle.vm_file.proofs.ReadLaws.{after, blocks_ok, bytes_ok, ok_is, pair_ok, wanted_ok, word_ok}
use Rattle.vm_file.proofs.SpellLaws.{pair_again}

-- what is left of bytes are bytes
bytes_left : (n : ℕ) (bytes : List ℕ) → AreBytes bytes → AreBytes (drop n bytes)
bytes_left zero bytes each = each
bytes_left (suc n) [] each = each
bytes_left (suc n) (b ∷ bytes) each = bytes_left n bytes (λ k d l. each (suc k) d (omega arith))

-- so many bytes in front, and then so many more
take_more : (n m : ℕ) (bytes : List ℕ) → take (n + m) bytes ≡ take n bytes ++ take m (drop n bytes)
take_more zero m bytes = (let e : zero + m ≡ m = omega arith in ap (λ k. take k bytes) e)
take_more (suc n) zero [] = (let e : suc n + zero ≡ suc n = omega arith in ap (λ k. take {A = ℕ} k []) e)
take_more (suc n) (suc m) [] = (let e : suc n + suc m ≡ suc (n + suc m) = omega arith in ap (λ k. take {A = ℕ} k []) e)
take_more (suc n) m (b ∷ bytes) = (let e : suc n + m ≡ suc (n + m) = omega arith in ap (λ k. take k (b ∷ bytes)) e
    ∙ ap (λ l. b ∷ l) (take_more n m bytes))

-- the bytes of a word that is read are its two
front_word : (bytes : List ℕ) → AreBytes bytes → 1 < length bytes → take 2 bytes ≡ word_bytes (word bytes 0)
unfolding word
front_word [] each long = absurd (omega arith)
front_word (a ∷ []) each long = absurd (omega arith)
front_word (a ∷ b ∷ bytes) each long =
    let low = each 0 0 (omega arith) in
    let one : (a + 256 * b) % 256 ≡ a = omega (arith, low) in
    let two : (a + 256 * b) / 256 ≡ b = omega (arith, low) in
    ap (λ x. x ∷ b ∷ []) (sym one) ∙ ap (λ y. (a + 256 * b) % 256 ∷ y ∷ []) (sym two)

-- a word at a later offset
word_behind : (k : ℕ) (b : ℕ) (bytes : List ℕ) → word (b ∷ bytes) (suc k) ≡ word bytes k
unfolding word
word_behind k b bytes = let e : suc k + 1 ≡ suc (k + 1) = omega arith in ap (λ i. get_or bytes k 0 + 256 * get_or (b ∷ bytes) i 0) e

word_there : (k : ℕ) (bytes : List ℕ) → AreBytes bytes → k + 1 < length bytes → take 2 (drop k bytes) ≡ word_bytes (word bytes k)
word_there zero bytes each long = front_word bytes each (omega (arith, long))
word_there (suc k) [] each long = absurd (omega arith)
word_there (suc k) (b ∷ bytes) each long = word_there k bytes (λ i d l. each (suc i) d (omega arith)) (omega (arith, long))
    ∙ ap word_bytes (sym (word_behind k b bytes))

-- three words
words_there : (a b c : ℕ) (bytes : List ℕ) → AreBytes bytes → 5 < length bytes → word bytes 0 ≡ a → word bytes 2 ≡ b
    → word bytes 4 ≡ c → take 6 bytes ≡ word_bytes a ++ word_bytes b ++ word_bytes c
words_there a b c bytes each long one two three =
    take_more 2 4 bytes
    ∙ ap (λ l. take 2 bytes ++ l) (take_more 2 2 (drop 2 bytes) ∙ ap (λ l. take 2 (drop 2 bytes) ++ take 2 l) (drop-drop 2 2 bytes))
    ∙ sym (append_assoc (take 2 bytes) (take 2 (drop 2 bytes)) (take 2 (drop 4 bytes)))
    ∙ ap (λ l. l ++ take 2 (drop 2 bytes) ++ take 2 (drop 4 bytes)) (word_there 0 bytes each (omega (arith, long)) ∙ ap word_bytes one)
    ∙ ap (λ l. word_bytes a ++ l ++ take 2 (drop 4 bytes)) (word_there 2 bytes each (omega (arith, long)) ∙ ap word_bytes two)
    ∙ ap (λ l. word_bytes a ++ word_bytes b ++ l) (word_there 4 bytes each (omega (arith, long)) ∙ ap word_bytes three)

head_spelled : (last at : ℕ) (bytes : List ℕ) (e : Entry) → AreBytes bytes → head_at last at bytes ≡ Ok e
    → take 6 bytes ≡ word_bytes e.h ++ word_bytes e.uid ++ word_bytes e.len
unfolding head_at
head_spelled last at bytes e each is =
    after (wanted at (λ h. ltb last h && leb h 1024) (word_at at bytes 0)) _ e is (λ h h_is rest.
    after (word_at at bytes 2) _ e rest (λ uid uid_is rest2.
    after (wanted (at + 4) is_block_size (word_at at bytes 4)) _ e rest2 (λ len len_is rest3.
    let one = word_ok at bytes 0 h (wanted_ok at (λ h. ltb last h && leb h 1024) (word_at at bytes 0) h h_is).0 in
    let two = word_ok at bytes 2 uid uid_is in
    let three = word_ok at bytes 4 len (wanted_ok (at + 4) is_block_size (word_at at bytes 4) len len_is).0 in
    let P : Entry → Type 0 = λ x. take 6 bytes ≡ word_bytes x.h ++ word_bytes x.uid ++ word_bytes x.len in
    subst P (ok_is _ e rest3) (words_there h uid len bytes each (omega (arith, three.0)) one.1 two.1 three.1))))

block_spelled : (last at : ℕ) (bytes : List ℕ) (b : Block) → AreBytes bytes → block_at last at bytes ≡ Ok b
    → take (6 + length b.bytes) bytes ≡ block_spelling b
unfolding block_at
block_spelled last at bytes b each is =
    after (head_at last at bytes) _ b is (λ e e_is rest.
    after (bytes_at e (at + 6) (drop 6 bytes)) _ b rest (λ block block_is rest2.
    let head = head_spelled last at bytes e each e_is in
    let body = bytes_ok e (at + 6) (drop 6 bytes) block block_is in
    let long : length block ≡ e.len = ap length (sym body.2) ∙ length-take e.len (drop 6 bytes) ∙ omega (arith, body.0) in
    let made : Block = record { h = e.h; uid = e.uid; bytes = block } in
    let P : Block → Type 0 = λ x. take (6 + length x.bytes) bytes ≡ block_spelling x in
    let spelled : take (6 + length block) bytes ≡ block_spelling made =
    take_more 6 (length block) bytes
    ∙ ap (λ l. l ++ take (length block) (drop 6 bytes)) head
    ∙ ap (λ l. word_bytes e.h ++ word_bytes e.uid ++ word_bytes e.len ++ l) (ap (λ n. take n (drop 6 bytes)) long ∙ body.2)
    ∙ ap (λ n. word_bytes e.h ++ word_bytes e.uid ++ word_bytes n ++ block) (sym long) in
    subst P (ok_is made b rest2) spelled))

blocks_spelled : (n last at : ℕ) (bytes : List ℕ) (bs : List Block) → AreBytes bytes → blocks_at n last at bytes ≡ Ok bs
    → take (entries_length (map entry_of bs)) bytes ≡ flat_map block_spelling bs
blocks_spelled zero last at bytes bs each is =
    let P : List Block → Type 0 = λ x. take (entries_length (map entry_of x)) bytes ≡ flat_map block_spelling x in
    subst P (ok_is [] bs is) refl
blocks_spelled (suc n) last at bytes bs each is =
    after (block_at last at bytes) _ bs is (λ b b_is rest.
    after (blocks_at n b.h (at + (6 + length b.bytes)) (drop (6 + length b.bytes) bytes)) _ bs rest (λ others o_is rest2.
    let size = 6 + length b.bytes in
    let more = blocks_spelled n b.h (at + size) (drop size bytes) others (bytes_left size bytes each) o_is in
    let P : List Block → Type 0 = λ x. take (entries_length (map entry_of x)) bytes ≡ flat_map block_spelling x in
    let spelled : take (size + entries_length (map entry_of others)) bytes ≡ block_spelling b ++ flat_map block_spelling others =
    take_more size (entries_length (map entry_of others)) bytes
    ∙ ap (λ l. l ++ take (entries_length (map entry_of others)) (drop size bytes)) (block_spelled last at bytes b each b_is)
    ∙ ap (λ l. block_spelling b ++ l) more in
    subst P (ok_is (b ∷ others) bs rest2) spelled))

maps_spelled : (es : List Entry) (at : ℕ) (bytes : List ℕ) (m : ℕ × (ℕ × ℕ)) → AreBytes bytes → maps_at es at bytes ≡ Ok m
    → take 6 bytes ≡ word_bytes m.0 ++ word_bytes m.1.0 ++ word_bytes m.1.1
unfolding maps_at
maps_spelled es at bytes m each is =
    after (wanted at (may_be_map_block es) (word_at at bytes 0)) _ m is (λ h h_is m2.
    after (wanted (at + 2) (may_be_map_group es) (word_at at bytes 2)) _ m m2 (λ g g_is m3.
    after (wanted (at + 4) (may_be_map_item g) (word_at at bytes 4)) _ m m3 (λ item i_is m4.
    let one = word_ok at bytes 0 h (wanted_ok at (may_be_map_block es) (word_at at bytes 0) h h_is).0 in
    let two = word_ok at bytes 2 g (wanted_ok (at + 2) (may_be_map_group es) (word_at at bytes 2) g g_is).0 in
    let three = word_ok at bytes 4 item (wanted_ok (at + 4) (may_be_map_item g) (word_at at bytes 4) item i_is).0 in
    let P : ℕ × (ℕ × ℕ) → Type 0 = λ x. take 6 bytes ≡ word_bytes x.0 ++ word_bytes x.1.0 ++ word_bytes x.1.1 in
    subst P (ok_is _ m m4) (words_there h g item bytes each (omega (arith, three.0)) one.1 two.1 three.1))))

contents_spelled : (at : ℕ) (bytes : List ℕ) (c : Contents) → AreBytes bytes → contents_at at bytes ≡ Ok c
    → take (contents_length c) bytes ≡ contents_spelling c
unfolding contents_at
contents_spelled at bytes c each is =
    after (count_at at bytes) _ c is (λ n n_is rest.
    after (blocks_at n 0 (at + 2) (drop 2 bytes)) _ c rest (λ bs bs_is rest2.
    let size = entries_length (map entry_of bs) in
    after (maps_at (map entry_of bs) (at + 2 + size) (drop (2 + size) bytes)) _ c rest2 (λ maps maps_is rest3.
    let count = word_ok at bytes 0 n (wanted_ok at (λ m. leb m 1024) (word_at at bytes 0) n n_is).0 in
    let number : take 2 bytes ≡ word_bytes (length bs) = word_there 0 bytes each count.0
    ∙ ap word_bytes (count.1 ∙ sym (blocks_ok n 0 (at + 2) (drop 2 bytes) bs bs_is).count) in
    let blocks = blocks_spelled n 0 (at + 2) (drop 2 bytes) bs (bytes_left 2 bytes each) bs_is in
    let mapped = maps_spelled (map entry_of bs) (at + 2 + size) (drop (2 + size) bytes) maps (bytes_left (2 + size) bytes each) maps_is in
    let made : Contents = record { blocks = bs; map_block = maps.0; map_item = maps.1 } in
    let P : Contents → Type 0 = λ x. take (contents_length x) bytes ≡ contents_spelling x in
    let eight : 8 + size ≡ 2 + (size + 6) = omega arith in
    let last = word_bytes maps.0 ++ word_bytes maps.1.0 ++ word_bytes maps.1.1 in
    let spelled : take (8 + size) bytes ≡ word_bytes (length bs) ++ (flat_map block_spelling bs ++ last) =
    ap (λ k. take k bytes) eight
    ∙ take_more 2 (size + 6) bytes
    ∙ ap (λ l. take 2 bytes ++ l) (take_more size 6 (drop 2 bytes) ∙ ap (λ l. take size (drop 2 bytes) ++ take 6 l) (drop-drop size 2 bytes))
    ∙ ap (λ l. l ++ (take size (drop 2 bytes) ++ take 6 (drop (2 + size) bytes))) number
    ∙ ap (λ l. word_bytes (length bs) ++ (l ++ take 6 (drop (2 + size) bytes))) blocks
    ∙ ap (λ l. word_bytes (length bs) ++ (flat_map block_spelling bs ++ l)) mapped in
    let grouped : contents_spelling made ≡ word_bytes (length bs) ++ (flat_map block_spelling bs ++ last) = simp append_assoc in
    subst P (ok_is made c rest3) (spelled ∙ sym grouped))))

-- bytes that are read as a pair begin with its spelling
pub pair_spelled : (at : ℕ) (bytes : List ℕ) (p : Pair) → AreBytes bytes → pair_at at bytes ≡ Ok p → take (pair_length p) bytes ≡ pair_spelling p
unfolding pair_at
pair_spelled at bytes p each is =
    after (contents_at at bytes) _ p is (λ cur cur_is rest.
    after (contents_at (at + contents_length cur) (drop (contents_length cur) bytes)) _ p rest (λ saved saved_is rest2.
    let n = contents_length cur in
    let made : Pair = record { cur = cur; saved = saved } in
    let P : Pair → Type 0 = λ x. take (pair_length x) bytes ≡ pair_spelling x in
    let spelled : take (n + contents_length saved) bytes ≡ contents_spelling cur ++ contents_spelling saved =
    take_more n (contents_length saved) bytes
    ∙ ap (λ l. l ++ take (contents_length saved) (drop n bytes)) (contents_spelled at bytes cur each cur_is)
    ∙ ap (λ l. contents_spelling cur ++ l) (contents_spelled (at + n) (drop n bytes) saved (bytes_left n bytes each) saved_is) in
    subst P (ok_is made p rest2) spelled))

-- so a pair has one spelling: bytes are read as it exactly where they begin with that, and it is legal
pub one-spelling : PairsHaveOneSpelling
one-spelling at bytes p each = (there, back)
  where
    there : pair_at at bytes ≡ Ok p → (is_pair p ≡ true) × (take (pair_length p) bytes ≡ pair_spelling p)
    there is = let read = pair_ok at bytes p is in (and-true _ _ read.cur read.saved, pair_spelled at bytes p each is)

    back : (is_pair p ≡ true) × (take (pair_length p) bytes ≡ pair_spelling p) → pair_at at bytes ≡ Ok p
    back (legal, begins) =
        let parts = both _ _ legal in
        let rest = drop (pair_length p) bytes in
        let whole : bytes ≡ pair_spelling p ++ rest = sym (take-append-drop (pair_length p) bytes) ∙ ap (λ l. l ++ rest) begins in
        ap (pair_at at) whole ∙ pair_again p at rest parts.0 parts.1
