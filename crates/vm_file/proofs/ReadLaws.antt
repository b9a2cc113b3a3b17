-- Reading that did not fail: what was read, and where it lies.
use Rattle.std.proofs.Common.{◌≡◌, ℕ, zero, suc, ◌+◌, ◌%◌, ◌<◌, ◌≤◌, Bool, true, false, ◌&&◌, cond, List, [], ◌∷◌, length, take, drop, map, Result, Ok, Err, refl, ap, sym, ◌∙◌, subst, arith, length-take, length-drop}
use Rattle.std.specs.List.{list_all}
use Rattle.std.proofs.Math.Dec.{leb, ltb, eqb}
use Rattle.std.proofs.lemmas.Bool.Decides.{nat_tests}
use borrow.Author.Tests.{ltb-true}
use Rattle.lmem_raw.specs.Bytes.{part}
use Rattle.geos_terms.specs.Bytes.{word}
use Rattle.geos_terms.specs.Block.{handle_word}
use Rattle.vm_file.specs.declared.directory.Entry.{Entry}
use Rattle.geos_terms.specs.Heap.{is_block_size}
use Rattle.geos_terms.specs.HeapTest.{is_heap}
use Rattle.vm_file.specs.Directories.{AreMaps, is_entry, are_entries, entries_length, may_be_map_block, may_be_map_group, may_be_map_item}
use Rattle.vm_file.specs.Contents.{Block, Contents, Pair, entry_of, listed, is_filled, is_contents, contents_length, pair_length, blocks_in, contents_in, pair_in}
use Rattle.vm_file.specs.Reading.{◌>>=◌, wanted, word_at, head_at, bytes_at, block_at, blocks_at, count_at, maps_at, contents_at, pair_at}
use Rattle.geos_terms.proofs.HeapTests.{both, and-true}

abbrev done : {A : Type 0} → A → Result A ℕ
done x = Ok x

-- two values that were read are one
pub ok_is : {A : Type 0} (x y : A) → done x ≡ done y → x ≡ y
ok_is x y e = cc

-- to use the result of two steps, use the value of the first and the result of the second
pub after : {A B C : Type 0} (r : Result A ℕ) (f : A → Result B ℕ) (y : B) → (r >>= f) ≡ Ok y → ((x : A) → r ≡ Ok x → f x ≡ Ok y → C) → C
after (Ok x) f y e then = then x refl e
after (Err at) f y e then = absurd cc

-- a value was read under a test
pub cond_ok : {A : Type 0} (b : Bool) (at : ℕ) (x y : A) → cond b (Ok x) (Err at) ≡ Ok y → (b ≡ true) × (x ≡ y)
cond_ok true at x y e = (refl, ok_is x y e)
cond_ok false at x y e = absurd cc

pub wanted_ok : {A : Type 0} (at : ℕ) (rule : A → Bool) (r : Result A ℕ) (y : A) → wanted at rule r ≡ Ok y → (r ≡ Ok y) × (rule y ≡ true)
wanted_ok at rule (Ok x) y e = let c = cond_ok (rule x) at x y e in (ap done c.1, subst (λ z. rule z ≡ true) c.1 c.0)
wanted_ok at rule (Err f) y e = absurd cc

pub word_ok : (at : ℕ) (bytes : List ℕ) (k w : ℕ) → word_at at bytes k ≡ Ok w → (k + 1 < length bytes) × (word bytes k ≡ w)
word_ok at bytes k w e = let c = cond_ok (ltb (k + 1) (length bytes)) (at + k) (word bytes k) w e in (ltb-true _ _ c.0, c.1)

pub leb-le : (a b : ℕ) → leb a b ≡ true → a ≤ b
leb-le a b h = grind (arith, nat_tests)

-- a head that was read is an entry, of six bytes
pub head_ok : (last at : ℕ) (bytes : List ℕ) (e : Entry) → head_at last at bytes ≡ Ok e → (is_entry last e ≡ true) × (6 ≤ length bytes)
unfolding head_at
head_ok last at bytes e is =
    after (wanted at (λ h. ltb last h && leb h 1024) (word_at at bytes 0)) _ e is (λ h h_is rest.
    after (word_at at bytes 2) _ e rest (λ uid uid_is rest2.
    after (wanted (at + 4) is_block_size (word_at at bytes 4)) _ e rest2 (λ len len_is rest3.
    let same = ok_is _ e rest3 in
    let rule = (wanted_ok at (λ h. ltb last h && leb h 1024) (word_at at bytes 0) h h_is).1 in
    let size = wanted_ok (at + 4) is_block_size (word_at at bytes 4) len len_is in
    let six = word_ok at bytes 4 len size.0 in
    let P : Entry → Type 0 = λ x. is_entry last x ≡ true in
    (subst P same (and-true _ _ rule size.1), omega (arith, six.0)))))

-- the size of an entry's block
pub entry_size : (last : ℕ) (e : Entry) → is_entry last e ≡ true → (64 ≤ e.len) × (e.len ≤ 65520)
entry_size last e h =
    let a = both (ltb last e.h && leb e.h 1024) (is_block_size e.len) h in
    let b = both (leb 64 e.len && leb e.len 65520) (eqb (e.len % 16) 0) a.1 in
    let c = both (leb 64 e.len) (leb e.len 65520) b.0 in
    (leb-le 64 e.len c.0, leb-le e.len 65520 c.1)

-- the bytes of a block that was read
pub bytes_ok : (e : Entry) (at : ℕ) (bytes block : List ℕ) → bytes_at e at bytes ≡ Ok block →
    (e.len ≤ length bytes) × (is_heap block && eqb (handle_word block) e.h ≡ true) × (take e.len bytes ≡ block)
unfolding bytes_at
bytes_ok e at bytes block is =
    let c = cond_ok _ at (take e.len bytes) block is in
    let h1 = both _ _ c.0 in
    let h2 = both _ _ h1.0 in
    let P : List ℕ → Type 0 = λ x. is_heap x && eqb (handle_word x) e.h ≡ true in
    (leb-le _ _ h2.0, subst P c.1 (and-true _ _ h2.1 h1.1), c.1)

-- a block that was read: its entry, and where its bytes lie
pub record ReadBlock (last : ℕ) (bytes : List ℕ) (b : Block) : Type 0 where
  pub entry : is_entry last (entry_of b) ≡ true
  pub filled : is_filled b ≡ true
  pub long : 6 + length b.bytes ≤ length bytes
  pub there : part bytes 6 (length b.bytes) ≡ b.bytes

pub block_ok : (last at : ℕ) (bytes : List ℕ) (b : Block) → block_at last at bytes ≡ Ok b → ReadBlock last bytes b
unfolding block_at
block_ok last at bytes b is =
    after (head_at last at bytes) _ b is (λ e e_is rest.
    after (bytes_at e (at + 6) (drop 6 bytes)) _ b rest (λ block block_is rest2.
    let head = head_ok last at bytes e e_is in
    let body = bytes_ok e (at + 6) (drop 6 bytes) block block_is in
    let n = length-drop 6 bytes in
    let len : length block ≡ e.len = ap length (sym body.2) ∙ length-take e.len (drop 6 bytes) ∙ omega (arith, n, body.0) in
    let made : Block = record { h = e.h; uid = e.uid; bytes = block } in
    let same : made ≡ b = ok_is made b rest2 in
    let listed_is : e ≡ entry_of made = ap (λ l. let x : Entry = record { h = e.h; uid = e.uid; len = l } in x) (sym len) in
    let E : Entry → Type 0 = λ x. is_entry last x ≡ true in
    let P : Block → Type 0 = λ x. ReadBlock last bytes x in
    subst P same (record {
      entry = subst E listed_is head.0;
      filled = body.1;
      long = omega (arith, len, n, body.0, head.1);
      there =
          ap (λ l. take l (drop 6 bytes)) len ∙ body.2;
    })))

-- blocks that were read
pub record ReadBlocks (last : ℕ) (bytes : List ℕ) (n : ℕ) (bs : List Block) : Type 0 where
  pub count : length bs ≡ n
  pub entries : are_entries last (map entry_of bs) ≡ true
  pub filled : list_all is_filled bs ≡ true
  pub long : entries_length (map entry_of bs) ≤ length bytes
  pub there : blocks_in (map entry_of bs) bytes ≡ bs

pub blocks_ok : (n last at : ℕ) (bytes : List ℕ) (bs : List Block) → blocks_at n last at bytes ≡ Ok bs → ReadBlocks last bytes n bs
blocks_ok zero last at bytes bs is =
    let same : [] ≡ bs = ok_is [] bs is in
    let P : List Block → Type 0 = λ x. ReadBlocks last bytes 0 x in
    subst P same (record { count = refl; entries = refl; filled = refl; long = omega arith; there = refl })
blocks_ok (suc n) last at bytes bs is =
    after (block_at last at bytes) _ bs is (λ b b_is rest.
    after (blocks_at n b.h (at + (6 + length b.bytes)) (drop (6 + length b.bytes) bytes)) _ bs rest (λ others o_is rest2.
    let one = block_ok last at bytes b b_is in
    let more = blocks_ok n b.h (at + (6 + length b.bytes)) (drop (6 + length b.bytes) bytes) others o_is in
    let sum : entries_length (map entry_of (b ∷ others)) ≡ (6 + length b.bytes) + entries_length (map entry_of others) = refl in
    let same : b ∷ others ≡ bs = ok_is (b ∷ others) bs rest2 in
    let P : List Block → Type 0 = λ x. ReadBlocks last bytes (suc n) x in
    let first : blocks_in (map entry_of (b ∷ others)) bytes ≡ b ∷ others =
    ap (λ x. let y : Block = record { h = b.h; uid = b.uid; bytes = x } in y ∷ blocks_in (map entry_of others) (drop (6 + length b.bytes) bytes))
    one.there ∙ ap (λ xs. b ∷ xs) more.there in
    subst P same (record {
      count = ap suc more.count;
      entries = and-true _ _ one.entry more.entries;
      filled = and-true _ _ one.filled more.filled;
      long = omega (arith, sum, one.long, more.long, length-drop (6 + length b.bytes) bytes);
      there = first;
    })))

-- maps that were read, in six bytes
pub maps_ok : (es : List Entry) (at : ℕ) (bytes : List ℕ) (m : ℕ × (ℕ × ℕ)) → maps_at es at bytes ≡ Ok m → (6 ≤ length bytes)
    × AreMaps es m.0 m.1.0 m.1.1
unfolding maps_at
maps_ok es at bytes m is =
    after (wanted at (may_be_map_block es) (word_at at bytes 0)) _ m is (λ h h_is m2.
    after (wanted (at + 2) (may_be_map_group es) (word_at at bytes 2)) _ m m2 (λ g g_is m3.
    after (wanted (at + 4) (may_be_map_item g) (word_at at bytes 4)) _ m m3 (λ item i_is m4.
    let w1 = wanted_ok at (may_be_map_block es) (word_at at bytes 0) h h_is in
    let w2 = wanted_ok (at + 2) (may_be_map_group es) (word_at at bytes 2) g g_is in
    let w3 = wanted_ok (at + 4) (may_be_map_item g) (word_at at bytes 4) item i_is in
    let last = word_ok at bytes 4 item w3.0 in
    let made : ℕ × (ℕ × ℕ) = (h, (g, item)) in
    let same : made ≡ m = ok_is made m m4 in
    let P : ℕ × (ℕ × ℕ) → Type 0 = λ x. AreMaps es x.0 x.1.0 x.1.1 in
    (omega (arith, last.0), subst P same (w1.1, w2.1, w3.1)))))

-- the count of a directory that was read, in two bytes
pub count_ok : (at : ℕ) (bytes : List ℕ) (n : ℕ) → count_at at bytes ≡ Ok n → (2 ≤ length bytes) × (n ≤ 1024)
count_ok at bytes n is =
    let w = wanted_ok at (λ m. leb m 1024) (word_at at bytes 0) n is in
    let k = word_ok at bytes 0 n w.0 in
    (omega (arith, k.0), leb-le n 1024 w.1)

-- a directory that was read
pub record ReadContents (bytes : List ℕ) (c : Contents) : Type 0 where
  pub legal : is_contents c ≡ true
  pub long : contents_length c ≤ length bytes
  pub there : contents_in (listed c) bytes ≡ c

pub contents_ok : (at : ℕ) (bytes : List ℕ) (c : Contents) → contents_at at bytes ≡ Ok c → ReadContents bytes c
unfolding contents_at maps_at
contents_ok at bytes c is =
    after (count_at at bytes) _ c is (λ n n_is rest.
    after (blocks_at n 0 (at + 2) (drop 2 bytes)) _ c rest (λ bs bs_is rest2.
    let es = map entry_of bs in
    let to = at + 2 + entries_length es in
    let tail = drop (2 + entries_length es) bytes in
    after (maps_at es to tail) _ c rest2 (λ maps maps_is rest3.
    after (wanted to (may_be_map_block es) (word_at to tail 0)) _ maps maps_is (λ h h_is m2.
    after (wanted (to + 2) (may_be_map_group es) (word_at to tail 2)) _ maps m2 (λ g g_is m3.
    after (wanted (to + 4) (may_be_map_item g) (word_at to tail 4)) _ maps m3 (λ item i_is m4.
    let blocks = blocks_ok n 0 (at + 2) (drop 2 bytes) bs bs_is in
    let w1 = wanted_ok to (may_be_map_block es) (word_at to tail 0) h h_is in
    let w2 = wanted_ok (to + 2) (may_be_map_group es) (word_at to tail 2) g g_is in
    let w3 = wanted_ok (to + 4) (may_be_map_item g) (word_at to tail 4) item i_is in
    let last = word_ok to tail 4 item w3.0 in
    let n1 = length-drop (2 + entries_length es) bytes in
    let m : ℕ × (ℕ × ℕ) = (h, (g, item)) in
    let told : m ≡ maps = ok_is m maps m4 in
    let made : Contents = record { blocks = bs; map_block = h; map_item = (g, item) } in
    let same : made ≡ c = ap (λ x. let y : Contents = record { blocks = bs; map_block = x.0; map_item = x.1 } in y) told ∙ ok_is _ c rest3 in
    let P : Contents → Type 0 = λ x. ReadContents bytes x in
    let there : contents_in (listed made) bytes ≡ made =
    ap (λ x. let y : Contents = record { blocks = x; map_block = h; map_item = (g, item) } in y) blocks.there in
    subst P same (record {
      legal = and-true _ _ (and-true _ _ (and-true _ _ (and-true _ _ blocks.entries w1.1) w2.1) w3.1) blocks.filled;
      long = omega (arith, last.0, n1);
      there = there;
    })))))))

-- a pair that was read
pub record ReadPair (bytes : List ℕ) (p : Pair) : Type 0 where
  pub cur : is_contents p.cur ≡ true
  pub saved : is_contents p.saved ≡ true
  pub long : pair_length p ≤ length bytes
  pub there : pair_in (listed p.cur) (listed p.saved) bytes ≡ p

pub pair_ok : (at : ℕ) (bytes : List ℕ) (p : Pair) → pair_at at bytes ≡ Ok p → ReadPair bytes p
unfolding pair_at
pair_ok at bytes p is =
    after (contents_at at bytes) _ p is (λ cur cur_is rest.
    after (contents_at (at + contents_length cur) (drop (contents_length cur) bytes)) _ p rest (λ saved saved_is rest2.
    let one = contents_ok at bytes cur cur_is in
    let two = contents_ok (at + contents_length cur) (drop (contents_length cur) bytes) saved saved_is in
    let made : Pair = record { cur = cur; saved = saved } in
    let same : made ≡ p = ok_is made p rest2 in
    let P : Pair → Type 0 = λ x. ReadPair bytes x in
    let there : pair_in (listed cur) (listed saved) bytes ≡ made =
    ap (λ x. let y : Pair = record { cur = x; saved = contents_in (listed saved) (drop (contents_length cur) bytes) } in y) one.there
    ∙ ap (λ x. let y : Pair = record { cur = cur; saved = x } in y) two.there in
    subst P same (record {
      cur = one.legal;
      saved = two.legal;
      long =
          omega (arith, one.long, two.long, length-drop (contents_length cur) bytes);
      there = there;
    })))
