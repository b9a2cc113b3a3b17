-- The contents of an area: two directories with the bytes of their blocks.
use Rattle.std.specs.Prelude.{ℕ, ◌+◌, Bool, ◌&&◌, ◌==◌, List, [], ◌∷◌, ◌++◌, length, map, drop}
use Rattle.std.specs.List.{flat_map, list_all}
use Rattle.lmem_raw.specs.Bytes.{part}
use Rattle.geos_terms.specs.Bytes.{word_bytes}
use Rattle.geos_terms.specs.Block.{handle_word}
use Rattle.vm_file.specs.declared.directory.Entry.{Entry}
use Rattle.vm_file.specs.declared.directory.Directory.{Directory}
use Rattle.geos_terms.specs.HeapTest.{is_heap}
use Rattle.vm_file.specs.Directories.{is_directory, directory_length}

-- a block: its handle, its user ID and its bytes
pub record Block : Type 0 where
  pub h : ℕ
  pub uid : ℕ
  pub bytes : List ℕ

-- a directory with the bytes of its blocks: these, the map block, and the group and the chunk of the map item
pub record Contents : Type 0 where
  pub blocks : List Block
  pub map_block : ℕ
  pub map_item : ℕ × ℕ

-- a current and a saved directory
pub record Pair : Type 0 where
  pub cur : Contents
  pub saved : Contents

-- how a directory lists a block
abbrev pub entry_of : Block → Entry
entry_of b = record { h = b.h; uid = b.uid; len = length b.bytes }

-- the directory without the bytes
abbrev pub listed : Contents → Directory
listed c = record { entries = record { items = map entry_of c.blocks }; map_block = c.map_block; map_item = c.map_item }

-- each block is a heap, and its handle word is its handle
abbrev pub is_filled : Block → Bool
is_filled b = is_heap b.bytes && (handle_word b.bytes == b.h)

-- a legal directory whose blocks are heaps under their handles
abbrev pub is_contents : Contents → Bool
is_contents c = is_directory (listed c) && list_all is_filled c.blocks

-- what a directory takes in an area
abbrev pub contents_length : Contents → ℕ
contents_length c = directory_length (listed c)

-- what a pair takes in an area
abbrev pub pair_length : Pair → ℕ
pair_length p = contents_length p.cur + contents_length p.saved

-- handle, user ID, length, bytes
abbrev pub block_spelling : Block → List ℕ
block_spelling b = word_bytes b.h ++ word_bytes b.uid ++ word_bytes (length b.bytes) ++ b.bytes

-- the number of blocks, the blocks, the map block, the map item's group, the map item
abbrev pub contents_spelling : Contents → List ℕ
contents_spelling c =
    word_bytes (length c.blocks) ++ flat_map block_spelling c.blocks
    ++ word_bytes c.map_block ++ word_bytes c.map_item.0 ++ word_bytes c.map_item.1

-- the current directory, then the saved one
abbrev pub pair_spelling : Pair → List ℕ
pair_spelling p = contents_spelling p.cur ++ contents_spelling p.saved

-- the blocks of these entries, their bytes cut from the bytes of an area
abbrev pub blocks_in : List Entry → List ℕ → List Block
blocks_in [] bytes = []
blocks_in (e ∷ entries) bytes = record { h = e.h; uid = e.uid; bytes = part bytes 6 e.len } ∷ blocks_in entries (drop (6 + e.len) bytes)

-- a directory that lies at the start of these bytes, with the bytes of its blocks
abbrev pub contents_in : Directory → List ℕ → Contents
contents_in d bytes = record { blocks = blocks_in d.entries.items (drop 2 bytes); map_block = d.map_block; map_item = d.map_item }

-- a current and a saved directory at the start of these bytes, with the bytes of their blocks
abbrev pub pair_in : Directory → Directory → List ℕ → Pair
pair_in cur saved bytes = record { cur = contents_in cur bytes; saved = contents_in saved (drop (directory_length cur) bytes) }
