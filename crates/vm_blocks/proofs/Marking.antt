-- A block that has changed in memory is marked afterwards.
use Rattle.std.proofs.Common.{◌≡◌, ◌≢◌, ◌∙◌, ℕ, Option, Some, None, true, refl, sym, ap, subst, inl, inr}
use Rattle.std.specs.Prelude.{IfSome, option_map}
use Rattle.geos_terms.specs.Block.{handle_word}
use Rattle.geos_terms.specs.Heap.{IsHeap}
use Rattle.geos_calls.specs.Directories.{VmBlock, marked_block}
use Rattle.geos_calls.specs.Handles.{at_handle, with_entry_at}
use Rattle.geos_calls.specs.Legal.{IsLegalListed}
use Rattle.geos_calls.specs.Memory.{Memory, listed_at, with_mark}
use Rattle.geos_calls.proofs.LegalDirectories.{entry-legal}
use Rattle.block_handles.specs.Names.{IsHandle}
use Rattle.block_handles.specs.Store.{Block, Store, IsThere, block_at, bytes_in}
use Rattle.vm_file.specs.Device.{Medium}
use Rattle.vm_blocks.specs.Blocks.{marked}
use Rattle.vm_blocks.specs.Bring.{Keeps, KeptOrGoes}
use Rattle.vm_blocks.specs.Room.{is_idle_in}
use Rattle.vm_blocks.specs.FileOf.{IsMemoryOf}
use Rattle.vm_blocks.specs.Keeping.{IsChanged}
use Rattle.vm_blocks.specs.Matches.{IsListedAs}
use Rattle.vm_blocks.specs.Spelled.{spelled}
use Rattle.vm_blocks.specs.Tied.{IsResident, IsTied, TiedAt}
use Rattle.vm_blocks.specs.View.{VmState, bytes_read, held_at, vm_slot, with_held}
use Rattle.vm_blocks.proofs.Brings.{tied-keeps}
use Rattle.vm_blocks.proofs.Counts.{marked-tied}
use Rattle.vm_blocks.proofs.Files.{IsListedIn, current-entry, file-cur}
use Rattle.vm_blocks.proofs.LockRows.{Known, known}
use Rattle.vm_blocks.proofs.Slots.{some-block}
use Rattle.vm_blocks.proofs.Table.{held-other, held-same}

-- what is preserved under one table is preserved under another that lists the same under other handles
keeps-as : {D : Type 0} (v w : VmState D) (s t : Store) (h : ℕ) → ((k : ℕ) → k ≢ h → held_at w k ≡ held_at v k) → Keeps v s t h → Keeps w s t h
keeps-as {D} v w s t h same keeps = record { each = λ slot ne. on slot (keeps.each slot ne); laid = keeps.laid; len = keeps.len }
  where
    on : (slot : ℕ) → KeptOrGoes v s t h slot → KeptOrGoes w s t h slot
    on slot (inl p) = inl p
    on slot (inr x) = inr (record {
      h = x.h;
      handle = x.handle;
      slot_is = x.slot_is;
      other = x.other;
      idle =
          subst (λ e. is_idle_in e (block_at s (vm_slot x.h)) ≡ true) (sym (same x.h x.other)) x.idle;
      gone = x.gone;
    })

module _ {D : Type 0} (medium : Medium D) (v : VmState D) (s : Store) (h : ℕ) (c : IsChanged medium v s h) where
  -- what it was before
  was : Known v c.before h
  was = known medium v c.before h c.tied c.was

  -- it is listed with a mark then
  abbrev w : VmState D
  w = with_held v h (option_map marked (held_at v h))

  listed : held_at w h ≡ Some (marked was.held)
  listed = held-same v.entries h (option_map marked (held_at v h)) was.handle c.tied.long ∙ ap (option_map marked) was.listed

  other : (k : ℕ) → k ≢ h → held_at w k ≡ held_at v k
  other k ne = held-other v.entries h k (option_map marked (held_at v h)) ne

  -- what it is now
  now_at : (b : Block) × (block_at s (vm_slot h) ≡ Some b)
  now_at = some-block (block_at s (vm_slot h)) c.there

  abbrev block : Block
  block = now_at.0

  pub changed-tied : IsTied medium w s
  changed-tied =
      let same : with_held v h (Some (marked was.held)) ≡ w = ap (λ o. with_held v h (option_map marked o)) (sym was.listed) in
      let before : IsTied medium w c.before = subst (λ x. IsTied medium x c.before) same
      (marked-tied medium v c.before h was.held was.handle c.tied c.was was.listed) in
      let r : IsResident medium v.file h was.held was.block.bytes = subst (λ o. TiedAt medium v.file h o (Some was.block))
      was.listed (subst (TiedAt medium v.file h (held_at v h)) was.there (c.tied.each h was.handle)) in
      let at_h : IsResident medium v.file h (marked was.held) block.bytes = record {
        size = r.size;
        heap = subst (λ o. IsHeap (bytes_in o)) now_at.1 c.heap;
        handle = subst (λ o. handle_word (bytes_in o) ≡ h) now_at.1 c.word;
        kept = λ clean. absurd cc;
        clean = λ clean. absurd cc;
      } in
      tied-keeps medium w c.before s h was.handle before (keeps-as v w c.before s h other c.keeps)
      (subst (TiedAt medium v.file h (held_at w h)) (sym now_at.1) (subst (λ o. TiedAt medium v.file h o (Some block)) (sym listed) at_h))

  module _ (m : Memory) (is : IsMemoryOf medium v s m) where
    abbrev good : Type 0
    good = medium.honest v.file.device

    -- what the model has of it, and what it is to have
    abbrev now : VmBlock
    now = record { uid = was.held.uid; marked = was.held.marked; block = spelled block.locks block.bytes }

    abbrev after : VmBlock
    after = marked_block true now

    told : listed_at m h ≡ Some now
    told = subst (λ o. IsListedAs good (bytes_read medium.image v.file h) o (Some block) (listed_at m h)) was.listed
        (subst (λ o. IsListedAs good (bytes_read medium.image v.file h) (held_at v h) o (listed_at m h)) now_at.1 (is.file.cur.each h was.handle))

    abbrev x : Option VmBlock
    x = option_map (marked_block true) (listed_at m h)

    x-is : x ≡ Some after
    x-is = ap (option_map (marked_block true)) told

    entry : IsListedIn medium w s h x
    entry = subst (λ o. IsListedAs good (bytes_read medium.image v.file h) o (block_at s (vm_slot h)) x) (sym listed)
        (subst (λ o. IsListedAs good (bytes_read medium.image v.file h) (Some (marked was.held)) o x) (sym now_at.1) x-is)

    others : (k : ℕ) → IsHandle k → k ≢ h → IsListedIn medium w s k (at_handle None m.file.cur.blocks k)
    others k q ne = subst (λ o. IsListedAs good (bytes_read medium.image v.file k) o (block_at s (vm_slot k)) (at_handle None m.file.cur.blocks k))
        (sym (other k ne)) (is.file.cur.each k q)

    pub changed-memory : IsMemoryOf medium w s (with_mark m h true)
    changed-memory =
        let cur = m.file.cur in
        let f = is.file in
        let legal : IsLegalListed now = subst (λ o. IfSome o IsLegalListed) told (f.legal.cur.blocks h) in
        let legal_x : IfSome x IsLegalListed = subst (λ o. IfSome o IsLegalListed) (sym x-is)
        (let l : IsLegalListed after = record { uid = legal.uid; block = legal.block } in l) in
        let uid : option_map (λ (l : VmBlock). l.uid) x ≡ option_map (λ (l : VmBlock). l.uid) (listed_at m h) =
        ap (option_map (λ (l : VmBlock). l.uid)) x-is ∙ sym (ap (option_map (λ (l : VmBlock). l.uid)) told) in
        record {
          blocks = is.blocks;
          file = file-cur medium v w s s m.file (record cur { blocks = with_entry_at cur.blocks h x }) refl
              (current-entry medium w s cur h was.handle x f.cur.handles (f.cur.map_block, f.cur.map_group, f.cur.map_item) entry others)
              (entry-legal IsLegalListed (λ (l : VmBlock). l.uid) cur f.legal.cur h x legal_x uid) f;
          region = is.region;
          handles = is.handles;
        }

-- a block that is in memory and as it was has changed into itself
pub stays-changed : {D : Type 0} (medium : Medium D) (v : VmState D) (s : Store) (h : ℕ) → IsTied medium v s
    → IsThere s (vm_slot h) → IsChanged medium v s h
stays-changed medium v s h tied there =
    let k = known medium v s h tied there in
    let r : IsResident medium v.file h k.held k.block.bytes = subst (λ o. TiedAt medium v.file h o (Some k.block))
    k.listed (subst (TiedAt medium v.file h (held_at v h)) k.there (tied.each h k.handle)) in
    record {
      before = s;
      tied = tied;
      was = there;
      keeps = record { each = λ slot ne. inl (refl, λ some. refl); laid = tied.laid; len = refl };
      there = there;
      heap = subst (λ o. IsHeap (bytes_in o)) (sym k.there) r.heap;
      word = subst (λ o. handle_word (bytes_in o) ≡ h) (sym k.there) r.handle;
    }
