-- A directory that bytes encode has 16-bit words as user IDs and as its map item.
use Rattle.std.proofs.Common.{◌≡◌, ℕ, ◌<◌, List, [], ◌∷◌, ◌++◌, length, map, refl, subst, arith, Ok}
use Rattle.std.specs.Prelude.{All}
use Rattle.std.specs.List.{flat_map}
use Rattle.std.proofs.lemmas.List.{drop_at, take_at}
use Rattle.std.proofs.lemmas.List.Elements.{All-cons, All-drop, All-nil, All-take}
use Rattle.geos_terms.specs.Bytes.{AreBytes, word_bytes}
use Rattle.vm_file.specs.declared.directory.Entry.{Entry}
use Rattle.vm_file.specs.Contents.{Block, Contents, Pair, block_spelling, contents_spelling, entry_of, listed, pair_length, pair_spelling}
use Rattle.vm_file.specs.Reading.{pair_at}
use Rattle.vm_file.proofs.OneSpelling.{pair_spelled}
use Rattle.vm_blocks.specs.Opened.{AreWords}

-- bytes side by side are bytes each
front : (xs ys : List ℕ) → AreBytes (xs ++ ys) → AreBytes xs
front xs ys all = subst AreBytes (take_at xs ys (length xs) refl) (All-take (λ b. b < 256) (length xs) (xs ++ ys) all)

back : (xs ys : List ℕ) → AreBytes (xs ++ ys) → AreBytes ys
back xs ys all = subst AreBytes (drop_at xs ys (length xs) refl) (All-drop (λ b. b < 256) (length xs) (xs ++ ys) all)

-- two bytes encode a word
word-small : (w : ℕ) (rest : List ℕ) → AreBytes (word_bytes w ++ rest) → w < 65536
word-small w rest all = let high = all 1 0 (omega arith) in omega (arith, high)

uid-small : (b : Block) (rest : List ℕ) → AreBytes (block_spelling b ++ rest) → b.uid < 65536
uid-small b rest all = let high = all 3 0 (omega arith) in omega (arith, high)

uids-small : (bs : List Block) → AreBytes (flat_map block_spelling bs) → All (λ (e : Entry). e.uid < 65536) (map entry_of bs)
uids-small [] all = All-nil (λ (e : Entry). e.uid < 65536)
uids-small (b ∷ bs) all =
    All-cons (λ (e : Entry). e.uid < 65536) (entry_of b) (map entry_of bs) (uid-small b (flat_map block_spelling bs) all)
    (uids-small bs (back (block_spelling b) (flat_map block_spelling bs) all))

-- a directory that bytes encode has words
contents-words : (c : Contents) → AreBytes (contents_spelling c) → AreWords (listed c)
contents-words c all =
    let blocks = flat_map block_spelling c.blocks in
    let number = word_bytes (length c.blocks) in
    let item = word_bytes c.map_item.1 in
    let group = word_bytes c.map_item.0 in
    let block = word_bytes c.map_block in
    let first = front (number ++ blocks) block (front (number ++ blocks ++ block) group (front (number ++ blocks ++ block ++ group) item all)) in
    record {
      uids = uids-small c.blocks (back number blocks first);
      item = word-small c.map_item.1 []
          (back (number ++ blocks ++ block ++ group) item all);
    }

-- both directories of a pair that bytes are read as
pub record ArePairWords (p : Pair) : Type 0 where
  pub cur : AreWords (listed p.cur)
  pub saved : AreWords (listed p.saved)

pub read-words : (at : ℕ) (bytes : List ℕ) (p : Pair) → AreBytes bytes → pair_at at bytes ≡ Ok p → ArePairWords p
read-words at bytes p each is =
    let all : AreBytes (pair_spelling p) = subst AreBytes (pair_spelled at bytes p each is) (All-take (λ b. b < 256) (pair_length p) bytes each) in
    record {
      cur = contents-words p.cur (front (contents_spelling p.cur) (contents_spelling p.saved) all);
      saved = contents-words p.saved (back (contents_spelling p.cur) (contents_spelling p.saved) all);
    }
