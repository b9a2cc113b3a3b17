-- The model's file stays tied where blocks are discarded, and where the device is read.
use Rattle.std.proofs.Common.{◌≡◌, ◌≢◌, ℕ, ◌<◌, length, map, take, Option, Some, None, true, refl, sym, ap, ◌∙◌, subst, arith, inl, inr, length-take}
use Rattle.std.specs.Prelude.{IfSome, not}
use Rattle.std.proofs.lemmas.Bool.{cases_eq}
use Rattle.std.proofs.lemmas.List.{ext_get_or, get_or-take}
use Rattle.geos_calls.specs.Directories.{VmBlock, Directory}
use Rattle.geos_calls.specs.Handles.{at_handle, with_entry_at}
use Rattle.geos_calls.specs.Legal.{IsLegalListed, IsCurrent}
use Rattle.geos_calls.specs.VmFile.{VmFile, Kept, Sure, Unsure}
use Rattle.geos_calls.proofs.HandleLists.{length-with_entry_at}
use Rattle.geos_calls.proofs.Laws.{entry-other}
use Rattle.block_handles.specs.Layout.{IsLaidOut}
use Rattle.block_handles.specs.Names.{IsHandle}
use Rattle.block_handles.specs.Store.{Block, Store, block_at}
use Rattle.vm_file.specs.Contents.{Pair, pair_in}
use Rattle.vm_file.specs.Device.{Medium}
use Rattle.vm_file.specs.Reading.{area_of, base_of, pair_at}
use Rattle.vm_file.specs.State.{FileState, bytes_of_block, pair_of}
use Rattle.vm_file.specs.Kept.{or_empty, other_pair}
use Rattle.vm_blocks.specs.declared.entries.Held.{Held}
use Rattle.vm_blocks.specs.View.{VmState, bytes_read, held_at, vm_slot, with_device}
use Rattle.vm_blocks.specs.Tied.{IsTied, TiedAt}
use Rattle.vm_blocks.specs.Room.{Goes, StaysOrGoes, Thins, is_idle, is_idle_in}
use Rattle.vm_blocks.specs.Bring.{Keeps, KeptOrGoes}
use Rattle.vm_blocks.specs.Spelled.{block_in, heap_in, heap_read}
use Rattle.vm_blocks.specs.Matches.{IsAway, IsListedAs, IsDirectoryOf, stored_pair}
use Rattle.vm_blocks.specs.FileOf.{IsCurrentOf, IsKeptOf, IsFileOf}
use Rattle.vm_blocks.proofs.HeapsRead.{read-spelled}
use Rattle.vm_blocks.proofs.Matching.{listed-on, directory-on, pair-on}
use Rattle.vm_blocks.proofs.Slots.{idle-parts, slot-one}
use Rattle.vm_blocks.proofs.Tables.{table-own}

-- One block

module _ {D : Type 0} (medium : Medium D) (f : FileState D) (h : ℕ) where
  abbrev IsListed : Option Held → Option Block → Option VmBlock → Type 0
  IsListed e b listed = IsListedAs (medium.honest f.device) (bytes_read medium.image f h) e b listed

  -- a block that may be discarded matches when it was
  pub gone-listed : (e : Option Held) (b : Option Block) (listed : Option VmBlock) → is_idle_in e b ≡ true
      → TiedAt medium f h e b → IfSome listed IsLegalListed → IsListed e b listed → IsListed e None listed
  gone-listed None b listed i t legal is = absurd cc
  gone-listed (Some e) None listed i t legal is = absurd cc
  gone-listed (Some e) (Some b) listed i t legal is =
      let own : VmBlock = record { uid = e.uid; marked = e.marked; block = record { locks = b.locks; heap = heap_in b.bytes } } in
      let parts = idle-parts e b i in
      let clean = t.clean parts.0 in
      let l : IsLegalListed own = subst (λ o. IfSome o IsLegalListed) is legal in
      let away : IsAway (medium.honest f.device) (bytes_read medium.image f h) e own = record {
        uid = refl;
        marked = parts.0;
        locks = parts.1;
        heap = record {
          size = clean.long;
          same = λ good. sym (ap (heap_read e.len) (sym (clean.same good))
              ∙ read-spelled e.len b.bytes clean.long l.block.heap);
        };
      } in
      subst (IsListed (Some e) None) (sym is) away

-- The file

-- if the file of the device is unchanged, the model's file may have another current directory
pub file-cur : {D : Type 0} (medium : Medium D) (v w : VmState D) (s t : Store) (f : VmFile) (cur : Directory VmBlock)
    → w.file ≡ v.file → IsCurrentOf medium.image medium.honest w t cur → IsCurrent cur
    → IsFileOf medium.image medium.honest v s f → IsFileOf medium.image medium.honest w t (record f { cur = cur })
file-cur {D} medium v w s t f cur same now legal is = record {
  area = is.area ∙ sym (ap (λ (x : FileState D). x.area) same);
  cur = now;
  saved = subst (λ (x : FileState D). IsDirectoryOf (medium.honest x.device) x.saved (pair_of medium.image x).saved.blocks f.saved)
      (sym same) is.saved;
  kept = subst (λ (x : FileState D). IsKeptOf medium.image medium.honest x f.kept) (sym same) is.kept;
  legal = record { cur = legal; saved = is.legal.saved; kept = is.legal.kept };
}

module _ {D : Type 0} (medium : Medium D) (v : VmState D) where
  -- what is listed under a handle matches a block of the model
  abbrev pub IsListedIn : Store → ℕ → Option VmBlock → Type 0
  IsListedIn s h listed = IsListedAs (medium.honest v.file.device) (bytes_read medium.image v.file h) (held_at v h) (block_at s (vm_slot h)) listed

  -- in another store, in which the blocks of the file are the same
  pub file-same : (s t : Store) (f : VmFile) → ((h : ℕ) → IsHandle h → block_at t (vm_slot h) ≡ block_at s (vm_slot h))
      → IsFileOf medium.image medium.honest v s f → IsFileOf medium.image medium.honest v t f
  file-same s t f same is =
      let cur : IsCurrentOf medium.image medium.honest v t f.cur = record {
        handles = is.cur.handles;
        each = λ h p. subst (λ b. IsListedAs (medium.honest v.file.device) (bytes_read medium.image v.file h)
            (held_at v h) b (at_handle None f.cur.blocks h)) (sym (same h p)) (is.cur.each h p);
        map_block = is.cur.map_block;
        map_group = is.cur.map_group;
        map_item = is.cur.map_item;
      } in
      file-cur medium v v s t f f.cur refl cur is.legal.cur is

  -- a block stays as listed in the model, in memory or evicted
  pub stays-listed : (s t : Store) (but h : ℕ) (listed : Option VmBlock) → IsHandle h → IsTied medium v s
      → IfSome listed IsLegalListed → IsListedIn s h listed → Goes v s t but (vm_slot h) → IsListedIn t h listed
  stays-listed s t but h listed p tied legal is g =
      let one : h ≡ g.h = slot-one h g.h p g.handle g.slot_is in
      let i : is_idle v s h ≡ true = subst (λ k. is_idle v s k ≡ true) (sym one) g.idle in
      subst (λ b. IsListedAs (medium.honest v.file.device) (bytes_read medium.image v.file h) (held_at v h) b listed) (sym g.gone)
      (gone-listed medium v.file h (held_at v h) (block_at s (vm_slot h)) listed i (tied.each h p) legal is)

  -- blocks that were discarded
  pub file-thins : (s t : Store) (but : ℕ) (f : VmFile) → IsTied medium v s → Thins v s t but
      → IsFileOf medium.image medium.honest v s f → IsFileOf medium.image medium.honest v t f
  file-thins s t but f tied thins is =
      let cur : IsCurrentOf medium.image medium.honest v t f.cur = record {
        handles = is.cur.handles;
        each = λ h p. on h p (thins.each (vm_slot h));
        map_block = is.cur.map_block;
        map_group = is.cur.map_group;
        map_item = is.cur.map_item;
      } in
      file-cur medium v v s t f f.cur refl cur is.legal.cur is
    where
      on : (h : ℕ) → IsHandle h → StaysOrGoes v s t but (vm_slot h) → IsListedIn t h (at_handle None f.cur.blocks h)
      on h p (inl q) = subst (λ b. IsListedAs (medium.honest v.file.device) (bytes_read medium.image v.file h)
          (held_at v h) b (at_handle None f.cur.blocks h)) (sym q.0) (is.cur.each h p)
      on h p (inr g) = stays-listed s t but h (at_handle None f.cur.blocks h) p tied (is.legal.cur.blocks h) (is.cur.each h p) g

  -- the others, where every block but that of a handle is as it was or was discarded
  pub others-listed : (s t : Store) (h k : ℕ) (listed : Option VmBlock) → IsHandle h → IsHandle k → k ≢ h
      → IsTied medium v s → Keeps v s t h → IfSome listed IsLegalListed → IsListedIn s k listed → IsListedIn t k listed
  others-listed s t h k listed q p ne tied keeps legal is = on (keeps.each (vm_slot k) (λ e. ne (slot-one k h p q e)))
    where
      on : KeptOrGoes v s t h (vm_slot k) → IsListedIn t k listed
      on (inl u) = subst (λ b. IsListedAs (medium.honest v.file.device) (bytes_read medium.image v.file k) (held_at v k) b listed) (sym u.0) is
      on (inr g) = stays-listed s t h k listed p tied legal is g

-- The device was read

module _ {D : Type 0} (medium : Medium D) (v : VmState D) (d : D) (same : medium.image d ≡ medium.image v.file.device)
    (was : medium.honest d → medium.honest v.file.device) where
  abbrev now : VmState D
  now = with_device v d

  pair : pair_of medium.image now.file ≡ pair_of medium.image v.file
  pair = ap (λ bytes. pair_in v.file.current v.file.saved (area_of bytes v.file.area v.file.second)) same

  other : other_pair medium.image now.file ≡ other_pair medium.image v.file
  other = ap (λ bytes. or_empty (pair_at (base_of v.file.area (not v.file.second)) (area_of bytes v.file.area (not v.file.second)))) same

  pub kept-device : (kept : Kept) → IsKeptOf medium.image medium.honest v.file kept → IsKeptOf medium.image medium.honest now.file kept
  kept-device (Sure p) k = (
    k.0,
    pair-on (medium.honest v.file.device) (medium.honest d) was v.file.current v.file.saved
        (pair_of medium.image v.file) (pair_of medium.image now.file) p (λ w. pair) k.1,
  )
  kept-device (Unsure p q) k = (
    k.0,
    pair-on (medium.honest v.file.device) (medium.honest d) was v.file.current v.file.saved (pair_of medium.image v.file)
        (pair_of medium.image now.file) p (λ w. pair) k.1,
    λ w. k.2 (was w) ∙ sym (ap stored_pair other),
  )

  pub file-device : (s : Store) (f : VmFile) → IsFileOf medium.image medium.honest v s f → IsFileOf medium.image medium.honest now s f
  file-device s f is = record {
    area = is.area;
    cur = record {
      handles = is.cur.handles;
      each = λ h p. listed-on (medium.honest v.file.device) (medium.honest d) was (bytes_read medium.image v.file h)
          (bytes_read medium.image now.file h) (held_at v h) (block_at s (vm_slot h)) (at_handle None f.cur.blocks h)
          (λ w. ap (λ (q : Pair). bytes_of_block q.cur.blocks h) pair) (is.cur.each h p);
      map_block = is.cur.map_block;
      map_group = is.cur.map_group;
      map_item = is.cur.map_item;
    };
    saved = directory-on (medium.honest v.file.device) (medium.honest d) was v.file.saved (pair_of medium.image v.file).saved.blocks
        (pair_of medium.image now.file).saved.blocks f.saved (λ w. ap (λ (q : Pair). q.saved.blocks) pair) is.saved;
    kept = kept-device f.kept is.kept;
    legal = is.legal;
  }

-- Another block under a handle

module _ {D : Type 0} (medium : Medium D) (w : VmState D) (t : Store) (cur : Directory VmBlock) (h : ℕ) (p : IsHandle h) (x : Option VmBlock) where
  -- the directory has the new entry under its handle, and is otherwise unchanged
  pub current-entry : length cur.blocks ≡ 1024 → (cur.map_block ≡ w.map_block) × (cur.map_group ≡ w.map_item.0)
      × (cur.map_item ≡ w.map_item.1) → IsListedIn medium w t h x
      → ((k : ℕ) → IsHandle k → k ≢ h → IsListedIn medium w t k (at_handle None cur.blocks k))
      → IsCurrentOf medium.image medium.honest w t (record cur { blocks = with_entry_at cur.blocks h x })
  current-entry long maps own others = record {
    handles = length-with_entry_at cur.blocks h x ∙ long;
    each = λ k q. elim (cases_eq k h) [
      | inl same ↦ subst (λ j. IsListedIn medium w t j (at_handle None (with_entry_at cur.blocks h x) j)) (sym same)
          (subst (IsListedIn medium w t h) (sym (table-own None x cur.blocks h long p)) own)
      | inr ne ↦ subst (IsListedIn medium w t k) (sym (entry-other None x cur.blocks h k ne)) (others k q ne)
    ];
    map_block = maps.0;
    map_group = maps.1;
    map_item = maps.2;
  }

-- Memory

-- blocks of global memory are the same where their slots are
pub slots-same : (s t : Store) → IsLaidOut s → IsLaidOut t → ((slot : ℕ) → slot < 1024 → block_at t slot ≡ block_at s slot)
    → map block_in (take 1024 t.blocks) ≡ map block_in (take 1024 s.blocks)
slots-same s t laid now same = ap (map block_in) (ext_get_or None (take 1024 t.blocks) (take 1024 s.blocks) (long t now ∙ sym (long s laid))
    (λ i l. (let less : i < 1024 = omega (arith, l, long t now) in get_or-take 1024 t.blocks i None less ∙ same i less
    ∙ sym (get_or-take 1024 s.blocks i None less))))
  where
    long : (u : Store) → IsLaidOut u → length (take 1024 u.blocks) ≡ 1024
    long u is = omega (arith, length-take 1024 u.blocks, is.slots)
