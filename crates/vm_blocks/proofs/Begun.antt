-- The model's memory of a file that was opened, none of whose blocks is in memory.
use Rattle.std.proofs.Common.{◌≡◌, ◌≢◌, ℕ, suc, ◌<◌, List, [], ◌∷◌, length, map, Option, Some, None, Bool, true, false, not, Result, Ok, Err, refl, sym, ap, ◌∙◌, subst, inl, inr, arith}
use Rattle.std.specs.Prelude.{All, IfSome, IsSomeAnd, ◌==◌, find, if◌then◌else◌, option_map}
use Rattle.std.specs.List.{range_with_len}
use Rattle.std.proofs.lemmas.List.{length-map}
use Rattle.std.proofs.lemmas.List.Elements.{All-drop, All-nil, All-take}
use Rattle.std.proofs.lemmas.List.FromFn.{length-map-range_with_len}
use Rattle.geos_terms.specs.Bytes.{AreBytes}
use Rattle.geos_calls.specs.Directories.{KeptBlock, idle_block, with_each}
use Rattle.geos_terms.specs.Names.{group_uid}
use Rattle.geos_calls.specs.Directories as model
use Rattle.geos_calls.specs.Handles.{at_handle}
use Rattle.geos_calls.specs.Legal.{ArePairs, IsLegalKept, IsPair, IsStored}
use Rattle.geos_calls.specs.VmFile.{Kept, Sure, Unsure}
use Rattle.geos_calls.proofs.HandleLists.{entry-each}
use Rattle.geos_calls.proofs.LegalDirectories.{loaded-legal}
use Rattle.block_handles.specs.Names.{IsHandle}
use Rattle.block_handles.specs.Store.{Store, block_at}
use Rattle.vm_file.specs.Device.{Medium}
use Rattle.vm_file.specs.declared.directory.Directory.{Directory}
use Rattle.vm_file.specs.declared.directory.Entry.{Entry}
use Rattle.vm_file.specs.Contents.{Block, Pair, listed}
use Rattle.vm_file.specs.Directories.{is_directory}
use Rattle.vm_file.specs.Kept.{or_empty, other_pair}
use Rattle.vm_file.specs.Reading.{area_of, base_of, pair_at}
use Rattle.vm_file.specs.Spelling.{empty_contents}
use Rattle.vm_file.specs.State.{bytes_of_block, pair_of}
use Rattle.vm_file.proofs.DirectoryLaws.{found_entry, legal_from}
use Rattle.geos_terms.proofs.HeapTests.{both}
use Rattle.vm_file.proofs.ReadLaws.{pair_ok}
use Rattle.vm_blocks.specs.declared.entries.Held.{Held}
use Rattle.vm_blocks.specs.View.{VmState, bytes_read, held_at, vm_slot}
use Rattle.vm_blocks.specs.Tied.{AreMapped, NoneResident}
use Rattle.vm_blocks.specs.Listed.{IsListOf, as_held, held_in}
use Rattle.vm_blocks.specs.Matches.{IsDirectoryOf, IsListedAs, entry_at, stored_block, stored_directory, stored_pair}
use Rattle.vm_blocks.specs.FileOf.{IsKeptOf, IsMemoryOf}
use Rattle.vm_blocks.specs.Opened.{AreWords, opened_memory, opened_pair}
use Rattle.vm_blocks.proofs.Committed.{idle-away}
use Rattle.vm_blocks.proofs.HeapsRead.{read-legal}
use Rattle.vm_blocks.proofs.Opened.{list-maps}
use Rattle.vm_blocks.proofs.Stored.{directory-is}
use Rattle.vm_blocks.proofs.Tables.{handle-or, table-made, table-past}
use Rattle.vm_blocks.proofs.Words.{read-words}

-- what holds of each entry holds of the one that is found
found-each : (P : Entry → Type 0) (h : ℕ) (es : List Entry) (e : Entry) → All P es → find (λ x. x.h == h) es ≡ Some e → P e
found-each P h [] e all is = absurd cc
found-each P h (x ∷ es) e all is = on (x.h == h) is (found-each P h es e (λ k d l. all (suc k) d (omega (arith, l))))
  where
    on : (t : Bool) → (if t then Some x else find (λ y. y.h == h) es) ≡ Some e → (find (λ y. y.h == h) es ≡ Some e → P e) → P e
    on true is more = let same : x ≡ e = cc in subst P same (all 0 x (omega arith))
    on false is more = more is

module _ {D : Type 0} (v : VmState D) (d : Directory) (blocks : List Block) (legal : is_directory d ≡ true) (words : AreWords d) where
  abbrev stored_at : ℕ → Option KeptBlock
  stored_at h = option_map (stored_block (bytes_of_block blocks h)) (entry_at d h)

  -- what is listed where nothing is in memory
  abbrev begun : VmState D
  begun = record { file = v.file; entries = map (held_in d) (range_with_len 1 1024); map_block = d.map_block; map_item = d.map_item }

  begun-lists : IsListOf begun d
  begun-lists = record { each = λ h p. table-made None (held_in d) h p; map_block = refl; map_item = refl }

  long : length (map stored_at (range_with_len 1 1024)) ≡ 1024
  long = length-map-range_with_len stored_at 1 1024

  long-held : length (map (held_in d) (range_with_len 1 1024)) ≡ 1024
  long-held = length-map-range_with_len (held_in d) 1 1024

  uid-some : (P : ℕ → Type 0) (read : List ℕ) (o : Option Entry) → IsSomeAnd (option_map as_held o) (λ (e : Held). P e.uid)
      → IsSomeAnd (option_map (λ (b : KeptBlock). b.uid) (option_map (stored_block read) o)) P
  uid-some P read None some = some
  uid-some P read (Some e) some = some

  listed-uid : (P : ℕ → Type 0) (h : ℕ) → IsSomeAnd (held_at begun h) (λ (e : Held). P e.uid)
      → IsSomeAnd (option_map (λ (b : KeptBlock). b.uid) (at_handle None (map stored_at (range_with_len 1 1024)) h)) P
  listed-uid P h some = elim (handle-or {X = ℕ} 0 h) [
    | inl p ↦ subst (λ o. IsSomeAnd (option_map (λ (b : KeptBlock). b.uid) o) P) (sym (table-made None stored_at h p))
        (uid-some P (bytes_of_block blocks h) (entry_at d h)
        (subst (λ o. IsSomeAnd o (λ (e : Held). P e.uid)) (table-made None (held_in d) h p) some))
    | inr past ↦ absurd (subst (λ o. IsSomeAnd o (λ (e : Held). P e.uid)) (table-past None (map (held_in d) (range_with_len 1 1024)) h long-held past)
        some)
  ]

  kept-legal-at : (h : ℕ) (o : Option Entry) → entry_at d h ≡ o → IfSome (option_map (stored_block (bytes_of_block blocks h)) o) IsLegalKept
  kept-legal-at h None is = tt
  kept-legal-at h (Some e) is = record {
    uid = found-each (λ x. x.uid < 65536) h d.entries.items e words.uids is;
    heap =
        read-legal e.len (bytes_of_block blocks h) (found_entry d.entries.items 0 h e (legal_from d legal).entries is).1.size;
  }

  pub stored-legal : IsStored (stored_directory d blocks)
  stored-legal =
      let maps : AreMapped begun = list-maps begun d legal begun-lists in
      record {
        handles = long;
        blocks = λ h. elim (handle-or {X = ℕ} 0 h) [
          | inl p ↦ subst (λ o. IfSome o IsLegalKept) (sym (table-made None stored_at h p)) (kept-legal-at h (entry_at d h) refl)
          | inr past ↦ subst (λ o. IfSome o IsLegalKept) (sym (table-past None (map stored_at (range_with_len 1 1024)) h long past)) tt
        ];
        maps = record {
          map_block = λ some. listed-uid (λ u. u ≢ group_uid) d.map_block (maps.block some);
          map_group = λ some. listed-uid (λ u. u ≡ group_uid) d.map_item.0 (maps.group some);
          no_item = maps.no_item;
          word = words.item;
        };
      }

-- what the other area holds
module _ {D : Type 0} (image : D → List ℕ) (v : VmState D) where
  read-legal-pair : (at : ℕ) (bytes : List ℕ) (r : Result Pair ℕ) → AreBytes bytes → pair_at at bytes ≡ r → IsPair (stored_pair (or_empty r))
  read-legal-pair at bytes (Ok p) each is =
      let read = pair_ok at bytes p is in
      let words = read-words at bytes p each is in (
        stored-legal v (listed p.cur) p.cur.blocks (both _ _ read.cur).0 words.cur,
        stored-legal v (listed p.saved) p.saved.blocks (both _ _ read.saved).0 words.saved,
      )
  read-legal-pair at bytes (Err e) each is =
      let words : AreWords (listed empty_contents) = record { uids = All-nil (λ (e : Entry). e.uid < 65536); item = omega arith } in
      let legal = stored-legal v (listed empty_contents) [] refl words in
      (legal, legal)

  other-legal : AreBytes (image v.file.device) → IsPair (stored_pair (other_pair image v.file))
  other-legal each =
      let base = base_of v.file.area (not v.file.second) in
      let area = area_of (image v.file.device) v.file.area (not v.file.second) in
      read-legal-pair base area (pair_at base area) (All-take (λ b. b < 256) v.file.area _ (All-drop (λ b. b < 256) base (image v.file.device) each))
      refl

-- the file, as the device holds it
module _ {D : Type 0} (medium : Medium D) (v : VmState D) (s : Store) (lists : IsListOf v v.file.current)
    (none : NoneResident s) (bytes : AreBytes (medium.image v.file.device))
    (cur_legal : is_directory v.file.current ≡ true) (saved_legal : is_directory v.file.saved ≡ true)
    (cur_words : AreWords v.file.current) (saved_words : AreWords v.file.saved) where
  abbrev cur : model.Directory KeptBlock
  cur = stored_directory v.file.current (pair_of medium.image v.file).cur.blocks

  abbrev saved : model.Directory KeptBlock
  saved = stored_directory v.file.saved (pair_of medium.image v.file).saved.blocks

  one : IsDirectoryOf (medium.honest v.file.device) v.file.current (pair_of medium.image v.file).cur.blocks cur
  one = directory-is (medium.honest v.file.device) v.file.current (pair_of medium.image v.file).cur.blocks

  two : IsDirectoryOf (medium.honest v.file.device) v.file.saved (pair_of medium.image v.file).saved.blocks saved
  two = directory-is (medium.honest v.file.device) v.file.saved (pair_of medium.image v.file).saved.blocks

  cur-is : IsStored cur
  cur-is = stored-legal v v.file.current (pair_of medium.image v.file).cur.blocks cur_legal cur_words

  saved-is : IsStored saved
  saved-is = stored-legal v v.file.saved (pair_of medium.image v.file).saved.blocks saved_legal saved_words

  -- what it keeps
  abbrev kept-if : Bool → Kept
  kept-if b = if b then Sure (opened_pair medium.image v.file) else Unsure (opened_pair medium.image v.file)
      (stored_pair (other_pair medium.image v.file))

  kept-opened : (b : Bool) → v.file.sure ≡ b → IsKeptOf medium.image medium.honest v.file (kept-if b)
  kept-opened true is = (is, record { cur = one; saved = two })
  kept-opened false is = (is, record { cur = one; saved = two }, λ _. refl)

  kept-legal : (b : Bool) → ArePairs (kept-if b)
  kept-legal true = (cur-is, saved-is)
  kept-legal false = ((cur-is, saved-is), other-legal medium.image v bytes)

  -- it is the model's memory
  pub memory-opened : IsMemoryOf medium v s (opened_memory medium.image v.file s)
  memory-opened =
      let fair = medium.honest v.file.device in
      let each : (h : ℕ) → IsHandle h → IsListedAs fair (bytes_read medium.image v.file h) (held_at v h)
      (block_at s (vm_slot h)) (at_handle None (with_each idle_block cur).blocks h) =
      (λ h p. subst (λ x. IsListedAs fair (bytes_read medium.image v.file h) x (block_at s (vm_slot h))
      (at_handle None (with_each idle_block cur).blocks h)) (sym (lists.each h p))
      (subst (λ x. IsListedAs fair (bytes_read medium.image v.file h) (held_in v.file.current h) x
      (at_handle None (with_each idle_block cur).blocks h)) (sym (none h p))
      (subst (IsListedAs fair (bytes_read medium.image v.file h) (held_in v.file.current h) None) (sym (entry-each idle_block cur.blocks h))
      (idle-away fair (bytes_read medium.image v.file h) (entry_at v.file.current h) (at_handle None cur.blocks h) (one.each h p))))) in
      record {
        blocks = refl;
        file = record {
          area = refl;
          cur = record {
            handles = length-map cur.blocks (option_map idle_block) ∙ one.handles;
            each = each;
            map_block = sym lists.map_block;
            map_group = sym (ap (λ (i : ℕ × ℕ). i.0) lists.map_item);
            map_item = sym (ap (λ (i : ℕ × ℕ). i.1) lists.map_item);
          };
          saved = two;
          kept = kept-opened v.file.sure refl;
          legal = record { cur = loaded-legal cur cur-is; saved = saved-is; kept = kept-legal v.file.sure };
        };
        region = refl;
        handles = refl;
      }
