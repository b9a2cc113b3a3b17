-- A commit does its row.
use Rattle.std.proofs.Common.{◌≡◌, ◌≢◌, ℕ, suc, zero, ◌+◌, ◌<◌, ◌≤◌, List, ◌++◌, length, Option, Some, None, true, false, refl, sym, ap, ◌∙◌, subst, arith, inl, inr}
use Rattle.std.specs.Prelude.{◌==◌, find, option_map, unwrap_or, IfSome}
use Rattle.std.specs.List.{flat_map, range_with_len}
use Rattle.std.proofs.lemmas.Bool.{cases_eq}
use Rattle.std.proofs.lemmas.Bool.Decides.{nat_tests}
use Rattle.geos_calls.specs.Directories.{VmBlock, kept_block}
use Rattle.geos_calls.specs.Handles.{at_handle}
use Rattle.geos_calls.specs.Legal.{IsLegalListed, IsPair}
use Rattle.geos_calls.specs.Memory.{Memory, listed_at}
use Rattle.geos_calls.specs.VmCalls.{pair_to_keep, written_directory}
use Rattle.geos_calls.proofs.HandleLists.{entry-each}
use Rattle.geos_calls.proofs.LegalDirectories.{written-legal}
use Rattle.std.proofs.lemmas.List.{length-map}
use Rattle.block_handles.specs.Names.{IsHandle}
use Rattle.block_handles.specs.Store.{Block, Store, block_at}
use Rattle.vm_file.specs.Device.{Medium}
use Rattle.vm_file.specs.declared.commit.How.{How}
use Rattle.vm_file.specs.declared.commit.How.TheVariants.{Update, Save, Revert}
use Rattle.vm_file.specs.declared.directory.Entry.{Entry}
use Rattle.vm_file.specs.Committing.{contents_from, current_after, kept_after, saved_after}
use Rattle.vm_file.specs.Contents.{Pair}
use Rattle.vm_file.specs.Contents as file
use Rattle.vm_file.specs.State.{bytes_of_block, pair_of}
use Rattle.vm_file.proofs.DirectoryLaws.{bytes_found}
use Rattle.vm_blocks.specs.declared.entries.Held.{Held}
use Rattle.vm_blocks.specs.View.{VmState, bytes_read, held_at, vm_slot}
use Rattle.vm_blocks.specs.Listed.{directory_of, entries_in, entries_of, len_now, resident_of}
use Rattle.vm_blocks.specs.ListedCalls.{keeper_of}
use Rattle.vm_blocks.specs.Spelled.{heap_read, spelled}
use Rattle.vm_blocks.specs.Matches.{IsListedAs, IsStoredAs, IsDirectoryOf, IsPairOf, entry_at}
use Rattle.vm_blocks.specs.FileOf.{IsMemoryOf}
use Rattle.vm_blocks.proofs.HeapsRead.{read-spelled}

-- What the current directory lists under a handle

abbrev pub entry_for : ℕ → Option Held → Option Block → Option Entry
entry_for h None b = None
entry_for h (Some e) b = Some (record { h = h; uid = e.uid; len = len_now e b })

found-front : (k h : ℕ) (o : Option Held) (b : Option Block) (rest : List Entry) → k ≢ h
    → find (λ e. e.h == h) (entries_in k o b ++ rest) ≡ find (λ e. e.h == h) rest
found-front k h None b rest ne = refl
found-front k h (Some e) b rest ne = let other : (k == h) ≡ false = grind (arith, nat_tests, ne) in rw other refl

found-here : (h : ℕ) (o : Option Held) (b : Option Block) (rest : List Entry) → (find (λ x. x.h == h) rest ≡ None)
    → find (λ x. x.h == h) (entries_in h o b ++ rest) ≡ entry_for h o b
found-here h None b rest none = none
found-here h (Some e) b rest none = let same : (h == h) ≡ true = grind (arith, nat_tests) in rw same refl

module _ {D : Type 0} (v : VmState D) (s : Store) where
  found-behind : (a n h : ℕ) → h < a → find (λ x. x.h == h) (flat_map (entries_of v s) (range_with_len a n)) ≡ None
  found-behind a zero h low = refl
  found-behind a (suc n) h low =
      found-front a h (held_at v a) (block_at s (vm_slot a)) (flat_map (entries_of v s) (range_with_len (a + 1) n)) (λ e. omega (arith, e, low))
      ∙ found-behind (a + 1) n h (omega (arith, low))

  found-from : (a n h : ℕ) → a ≤ h → h < a + n → find (λ x. x.h == h) (flat_map (entries_of v s) (range_with_len a n)) ≡ entry_for h
      (held_at v h) (block_at s (vm_slot h))
  found-from a zero h low high = absurd (omega (arith, low, high))
  found-from a (suc n) h low high = elim (cases_eq a h) [
    | inl same ↦ subst (λ k. find (λ x. x.h == h) (entries_of v s k ++ flat_map (entries_of v s) (range_with_len (a + 1) n)) ≡ entry_for h
        (held_at v h) (block_at s (vm_slot h))) (sym same)
        (found-here h (held_at v h) (block_at s (vm_slot h)) (flat_map (entries_of v s) (range_with_len (a + 1) n))
        (found-behind (a + 1) n h (omega (arith, same))))
    | inr ne ↦ found-front a h (held_at v a) (block_at s (vm_slot a)) (flat_map (entries_of v s) (range_with_len (a + 1) n)) ne
        ∙ found-from (a + 1) n h (omega (arith, low, ne)) (omega (arith, high))
  ]

  pub found-entry : (h : ℕ) → IsHandle h → entry_at (directory_of v s) h ≡ entry_for h (held_at v h) (block_at s (vm_slot h))
  found-entry h p = found-from 1 1024 h p.0 (omega (arith, p.1))

-- The current directory as a commit writes it

module _ {D : Type 0} (medium : Medium D) (v : VmState D) (s : Store) (m : Memory) (is : IsMemoryOf medium v s m) where
  abbrev pub blocks_now : List file.Block
  blocks_now = (contents_from (resident_of s) (pair_of medium.image v.file).cur.blocks (directory_of v s)).blocks

  -- the bytes of a block in the contents to be committed
  pub bytes-now : (h : ℕ) (e : Held) (b : Option Block) → IsHandle h → held_at v h ≡ Some e → block_at s (vm_slot h) ≡ b
      → bytes_of_block blocks_now h ≡ unwrap_or (option_map (λ (x : Block). x.bytes) b) (bytes_read medium.image v.file h)
  bytes-now h e b p listed there =
      let at_h : entry_at (directory_of v s) h ≡ Some (record { h = h; uid = e.uid; len = len_now e b }) = found-entry v s h p
      ∙ ap (λ o. entry_for h o (block_at s (vm_slot h))) listed ∙ ap (entry_for h (Some e)) there in
      bytes_found (resident_of s) (pair_of medium.image v.file).cur.blocks (directory_of v s).entries.items h
      (record { h = h; uid = e.uid; len = len_now e b }) at_h
      ∙ ap (λ o. unwrap_or (option_map (λ (x : Block). x.bytes) o) (bytes_read medium.image v.file h)) there

  abbrev good : Type 0
  good = medium.honest v.file.device

  written-at : (h : ℕ) (o : Option Held) (b : Option Block) (l : Option VmBlock) → IsHandle h → held_at v h ≡ o
      → block_at s (vm_slot h) ≡ b → IfSome l IsLegalListed → IsListedAs good (bytes_read medium.image v.file h) o b l
      → IsStoredAs good (bytes_of_block blocks_now h) (entry_for h o b) (option_map kept_block l)
  written-at h None b l p listed there legal tells = ap (option_map kept_block) tells
  written-at h (Some e) None None p listed there legal tells = absurd tells
  written-at h (Some e) None (Some l) p listed there legal tells = record {
    uid = tells.uid;
    heap = record { size = tells.heap.size; same = λ g. tells.heap.same g ∙ ap (heap_read e.len) (sym (bytes-now h e None p listed there)) };
  }
  written-at h (Some e) (Some b) l p listed there legal tells =
      let own : VmBlock = record { uid = e.uid; marked = e.marked; block = spelled b.locks b.bytes } in
      let fine : IsLegalListed own = subst (λ o. IfSome o IsLegalListed) tells legal in
      subst (λ o. IsStoredAs good (bytes_of_block blocks_now h) (entry_for h (Some e) (Some b)) (option_map kept_block o)) (sym tells) (record {
        uid = refl;
        heap = record {
          size = refl;
          same = λ g. sym (ap (heap_read (length b.bytes)) (bytes-now h e (Some b) p listed there)
              ∙ read-spelled (length b.bytes) b.bytes refl fine.block.heap);
        };
      })

  -- it is the current directory with what is there now
  pub written-is : IsDirectoryOf good (directory_of v s) blocks_now (written_directory m)
  written-is = record {
    handles = length-map m.file.cur.blocks (option_map kept_block) ∙ is.file.cur.handles;
    each = λ h p. subst (λ o. IsStoredAs good (bytes_of_block blocks_now h) o (at_handle None (written_directory m).blocks h))
        (sym (found-entry v s h p))
        (subst (IsStoredAs good (bytes_of_block blocks_now h) (entry_for h (held_at v h) (block_at s (vm_slot h))))
        (sym (entry-each kept_block m.file.cur.blocks h))
        (written-at h (held_at v h) (block_at s (vm_slot h)) (listed_at m h) p refl refl (is.file.legal.cur.blocks h) (is.file.cur.each h p)));
    map_block = is.file.cur.map_block;
    map_group = is.file.cur.map_group;
    map_item = is.file.cur.map_item;
  }

  -- the pair to be committed
  pub kept-is : (how : How) → IsPairOf good (current_after how (directory_of v s) v.file.saved)
      (saved_after how (directory_of v s) v.file.saved) (kept_after medium.image (resident_of s) how (directory_of v s) v.file)
      (pair_to_keep (keeper_of how) m)
  kept-is Update = record { cur = written-is; saved = is.file.saved }
  kept-is Save = record { cur = written-is; saved = written-is }
  kept-is Revert = record { cur = is.file.saved; saved = is.file.saved }

  pub kept-legal : (how : How) → IsPair (pair_to_keep (keeper_of how) m)
  kept-legal Update = (written-legal m.file.cur is.file.legal.cur, is.file.legal.saved)
  kept-legal Save = (written-legal m.file.cur is.file.legal.cur, written-legal m.file.cur is.file.legal.cur)
  kept-legal Revert = (is.file.legal.saved, is.file.legal.saved)
