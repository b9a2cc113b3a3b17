-- The directories of the pair that a commit keeps are those that it was given.
use Rattle.std.proofs.Common.{◌≡◌, ℕ, suc, List, [], ◌∷◌, Option, Some, None, Bool, true, false, length, map, refl, sym, ap, ◌∙◌, subst, arith}
use Rattle.std.specs.Prelude.{All, IsSomeAnd, MatchOption, ◌==◌, find, unwrap_or, if◌then◌else◌}
use Rattle.geos_terms.specs.Block.{handle_word}
use Rattle.geos_terms.specs.Heap.{IsHeap}
use Rattle.vm_file.specs.declared.commit.How.{How}
use Rattle.vm_file.specs.declared.commit.How.TheVariants.{Update, Save, Revert}
use Rattle.vm_file.specs.declared.directory.Directory.{Directory}
use Rattle.vm_file.specs.declared.directory.Entry.{Entry}
use Rattle.vm_file.specs.Committing.{MayCommit, block_from, contents_from, current_after, kept_after, saved_after}
use Rattle.vm_file.specs.Contents.{Block, entry_of, listed}
use Rattle.vm_file.specs.State.{FileState, HasBlock, bytes_of_block, pair_of}
use Rattle.vm_blocks.specs.Commit.{Lists}

-- the bytes of a block that is listed are as long as is listed
found-long : (blocks : List Block) (h len : ℕ) → IsSomeAnd (find (λ e. e.h == h) (map entry_of blocks)) (λ e. e.len ≡ len)
    → length (bytes_of_block blocks h) ≡ len
found-long [] h len has = absurd has
found-long (b ∷ blocks) h len has = on (b.h == h) has (found-long blocks h len)
  where
    on : (t : Bool) → IsSomeAnd (if t then Some (entry_of b) else find (λ e. e.h == h) (map entry_of blocks)) (λ e. e.len ≡ len)
        → (IsSomeAnd (find (λ e. e.h == h) (map entry_of blocks)) (λ e. e.len ≡ len) → length (bytes_of_block blocks h) ≡ len)
        → length (if t then b.bytes else bytes_of_block blocks h) ≡ len
    on true is more = is
    on false is more = more is

all_listed : (f : Entry → Block) (es : List Entry) → All (λ e. entry_of (f e) ≡ e) es → map entry_of (map f es) ≡ es
all_listed f [] same = refl
all_listed f (e ∷ es) same = ap (λ x. x ∷ map entry_of (map f es)) (same 0 e (omega arith))
    ∙ ap (λ xs. e ∷ xs) (all_listed f es (λ k d l. same (suc k) d (omega arith)))

module _ {D : Type 0} (image : D → List ℕ) (f : FileState D) (lists : Lists image f) (resident : ℕ → Option (List ℕ))
    (cur : Directory) (may : MayCommit resident f.current cur) where
  -- each block has its entry's length
  each : (e : Entry) (o : Option (List ℕ)) → MatchOption o (HasBlock f.current e.h e.len) (λ bytes. IsHeap bytes
      × (handle_word bytes ≡ e.h) × (length bytes ≡ e.len))
      → entry_of (let b : Block = record { h = e.h; uid = e.uid; bytes = unwrap_or o (bytes_of_block (pair_of image f).cur.blocks e.h) } in b) ≡ e
  each e (Some bytes) there = ap (λ n. let x : Entry = record { h = e.h; uid = e.uid; len = n } in x) there.2
  each e None has =
      ap (λ n. let x : Entry = record { h = e.h; uid = e.uid; len = n } in x)
      (found-long (pair_of image f).cur.blocks e.h e.len (subst (λ (d : Directory). HasBlock d e.h e.len) (sym lists.cur) has))

  -- the contents to be committed list what was given
  given-listed : listed (contents_from resident (pair_of image f).cur.blocks cur) ≡ cur
  given-listed =
      ap (λ es. let d : Directory = record { entries = record { items = es }; map_block = cur.map_block; map_item = cur.map_item } in d)
      (all_listed (block_from resident (pair_of image f).cur.blocks) cur.entries.items (λ k d l. each _ (resident _) (may.there k d l)))

  pub whole-pair : (how : How) → (listed (kept_after image resident how cur f).cur ≡ current_after how cur f.saved)
      × (listed (kept_after image resident how cur f).saved ≡ saved_after how cur f.saved)
  whole-pair Update = (given-listed, lists.saved)
  whole-pair Save = (given-listed, given-listed)
  whole-pair Revert = (lists.saved, lists.saved)
