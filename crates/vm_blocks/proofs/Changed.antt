-- The model's memory stays tied where one block of the file changes.
use Rattle.std.proofs.Common.{◌≡◌, ◌≢◌, ℕ, ◌<◌, Option, Some, None, Bool, refl, sym, ap, ◌∙◌, subst, arith, inl, inr}
use Rattle.std.specs.Prelude.{IfSome, option_map}
use Rattle.geos_terms.specs.Names.{vm}
use Rattle.geos_calls.specs.Blocks.{Block as ModelBlock}
use Rattle.geos_calls.specs.Directories.{VmBlock, Directory, relisted, marked_block}
use Rattle.geos_calls.specs.Handles.{at_handle, with_entry_at}
use Rattle.geos_calls.specs.Legal.{IsLegalBlock, IsLegalListed, IsCurrent}
use Rattle.geos_calls.specs.Memory.{Memory, listed_at, with_cur, with_mark, with_block, block_of}
use Rattle.geos_calls.specs.Given.{given_memory}
use Rattle.geos_calls.proofs.LegalDirectories.{entry-legal}
use Rattle.geos_calls.proofs.NamedBlocks.{changed_in, relisted-changed}
use Rattle.block_handles.specs.Names.{IsHandle}
use Rattle.block_handles.specs.Store.{Block, Store, block_at}
use Rattle.vm_file.specs.Device.{Medium}
use Rattle.vm_file.specs.State.{FileState}
use Rattle.vm_blocks.specs.declared.entries.Held.{Held}
use Rattle.vm_blocks.specs.View.{VmState, bytes_read, held_at, vm_slot, with_device}
use Rattle.vm_blocks.specs.Tied.{IsTied}
use Rattle.vm_blocks.specs.Room.{StaysOrGoes, Thins}
use Rattle.vm_blocks.specs.Bring.{Keeps, KeptOrGoes}
use Rattle.vm_blocks.specs.Spelled.{spelled}
use Rattle.vm_blocks.specs.Matches.{IsListedAs}
use Rattle.vm_blocks.specs.FileOf.{IsMemoryOf}
use Rattle.vm_blocks.proofs.Files.{IsListedIn, file-cur, file-thins, file-device, others-listed, current-entry, slots-same}
use Rattle.vm_blocks.proofs.Gifts.{GivesFile}
use Rattle.vm_blocks.proofs.Slots.{slot-is}

-- Slots of global memory

-- no block of the file is in one
mem-apart : (h slot : ℕ) → IsHandle h → slot < 1024 → slot ≢ vm_slot h
mem-apart h slot p l e = omega (arith, slot-is h p, p.0, l, e)

pub mem-kept : {D : Type 0} (v : VmState D) (s t : Store) (h slot : ℕ) → IsHandle h → Keeps v s t h → slot < 1024 → block_at t slot ≡ block_at s slot
mem-kept {D} v s t h slot p keeps l = on (keeps.each slot (mem-apart h slot p l))
  where
    on : KeptOrGoes v s t h slot → block_at t slot ≡ block_at s slot
    on (inl u) = u.0
    on (inr g) = absurd (mem-apart g.h slot g.handle l g.slot_is)

pub mem-thinned : {D : Type 0} (v : VmState D) (s t : Store) (but slot : ℕ) → Thins v s t but → slot < 1024 → block_at t slot ≡ block_at s slot
mem-thinned {D} v s t but slot thins l = on (thins.each slot)
  where
    on : StaysOrGoes v s t but slot → block_at t slot ≡ block_at s slot
    on (inl u) = u.0
    on (inr g) = absurd (mem-apart g.h slot g.handle l g.slot_is)

-- Memory

module _ {D : Type 0} (medium : Medium D) (v : VmState D) (s t : Store) (m : Memory) (is : IsMemoryOf medium v s m) where
  -- blocks were discarded
  pub memory-thins : (but : ℕ) → IsTied medium v s → Thins v s t but → IsMemoryOf medium v t m
  memory-thins but tied thins = record {
    blocks = is.blocks ∙ sym (slots-same s t tied.laid thins.laid (λ slot l. mem-thinned v s t but slot thins l));
    file = file-thins medium v s t but m.file tied thins is.file;
    region = is.region ∙ ap (λ l. l.most) (sym thins.len);
    handles = is.handles ∙ ap (λ l. l.handles) (sym thins.len);
  }

  -- the device was read
  pub memory-device : (d : D) → medium.image d ≡ medium.image v.file.device → (medium.honest d → medium.honest v.file.device)
      → IsMemoryOf medium (with_device v d) s m
  memory-device d same was = record { blocks = is.blocks; file = file-device medium v d same was s m.file is.file; region = is.region; handles = is.handles }

  module _ (h : ℕ) (p : IsHandle h) (tied : IsTied medium v s) (keeps : Keeps v s t h) where
    -- something was given for one block
    pub memory-given : (g : GivesFile medium v s t h p m.file tied keeps is.file) → IsMemoryOf medium v t (given_memory g.given m)
    memory-given g = record {
      blocks = is.blocks ∙ sym (slots-same s t tied.laid keeps.laid (λ slot l. mem-kept v s t h slot p keeps l));
      file = g.file;
      region = is.region ∙ ap (λ l. l.most) (sym keeps.len);
      handles = is.handles ∙ ap (λ l. l.handles) (sym keeps.len);
    }

    -- something else is listed under a handle
    module _ (w : VmState D) (file : w.file ≡ v.file) (others : (k : ℕ) → k ≢ h → held_at w k ≡ held_at v k) where
      other : (k : ℕ) → IsHandle k → k ≢ h → IsListedIn medium w t k (at_handle None m.file.cur.blocks k)
      other k q ne =
          let was = others-listed medium v s t h k (at_handle None m.file.cur.blocks k) p q ne tied keeps
          (is.file.legal.cur.blocks k) (is.file.cur.each k q) in
          subst (λ (x : FileState D). IsListedAs (medium.honest x.device) (bytes_read medium.image x k) (held_at w k)
          (block_at t (vm_slot k)) (at_handle None m.file.cur.blocks k)) (sym file)
          (subst (λ e. IsListedAs (medium.honest v.file.device) (bytes_read medium.image v.file k) e (block_at t (vm_slot k))
          (at_handle None m.file.cur.blocks k)) (sym (others k ne)) was)

      pub memory-entry : (a b c : ℕ) (x : Option VmBlock) → (a ≡ w.map_block) × (b ≡ w.map_item.0) × (c ≡ w.map_item.1) → IsListedIn medium w t h x
          → IsCurrent (record { blocks = with_entry_at m.file.cur.blocks h x; map_block = a; map_group = b; map_item = c })
          → IsMemoryOf medium w t (with_cur m (record { blocks = with_entry_at m.file.cur.blocks h x; map_block = a; map_group = b; map_item = c }))
      memory-entry a b c x maps own legal =
          let cur : Directory VmBlock = record { blocks = m.file.cur.blocks; map_block = a; map_group = b; map_item = c } in
          let now : Directory VmBlock = record { blocks = with_entry_at m.file.cur.blocks h x; map_block = a; map_group = b; map_item = c } in
          record {
            blocks = is.blocks ∙ sym (slots-same s t tied.laid keeps.laid (λ slot l. mem-kept v s t h slot p keeps l));
            file = file-cur medium v w s t m.file now file (current-entry medium w t cur h p x is.file.cur.handles maps own other) legal is.file;
            region = is.region ∙ ap (λ l. l.most) (sym keeps.len);
            handles = is.handles ∙ ap (λ l. l.handles) (sym keeps.len);
          }

    -- a block that is in memory
    module _ (e : Held) (listed : held_at v h ≡ Some e) (b : Block) (there : block_at s (vm_slot h) ≡ Some b) where
      -- what the model has of it
      abbrev pub own_listed : VmBlock
      own_listed = record { uid = e.uid; marked = e.marked; block = spelled b.locks b.bytes }

      pub listed-there : listed_at m h ≡ Some own_listed
      listed-there = subst (λ o. IsListedAs (medium.honest v.file.device) (bytes_read medium.image v.file h) o (Some b) (listed_at m h)) listed
          (subst (λ o. IsListedAs (medium.honest v.file.device) (bytes_read medium.image v.file h) (held_at v h) o (listed_at m h)) there
          (is.file.cur.each h p))

      pub own-legal : IsLegalListed own_listed
      own-legal = subst (λ o. IfSome o IsLegalListed) listed-there (is.file.legal.cur.blocks h)

      -- it has other bytes, or is locked so often
      pub memory-changed : (change : ModelBlock → ModelBlock) (c : Block) → block_at t (vm_slot h) ≡ Some c
          → change (spelled b.locks b.bytes) ≡ spelled c.locks c.bytes → IsLegalBlock (spelled c.locks c.bytes)
          → IsMemoryOf medium v t (with_block m (vm h) (option_map change (block_of m (vm h))))
      memory-changed change c now same legal =
          let cur = m.file.cur in
          let x : Option VmBlock = option_map (relisted (listed_at m h)) (option_map change (block_of m (vm h))) in
          let after : VmBlock = record { uid = e.uid; marked = e.marked; block = spelled c.locks c.bytes } in
          let x_is : x ≡ Some after = relisted-changed change (listed_at m h) ∙ ap (option_map (changed_in change)) listed-there
          ∙ (λ k. Some (record { uid = e.uid; marked = e.marked; block = same k })) in
          let own : IsListedIn medium v t h x =
          subst (λ o. IsListedAs (medium.honest v.file.device) (bytes_read medium.image v.file h) o (block_at t (vm_slot h)) x) (sym listed)
          (subst (λ o. IsListedAs (medium.honest v.file.device) (bytes_read medium.image v.file h) (Some e) o x) (sym now) x_is) in
          let good : IfSome x IsLegalListed = subst (λ o. IfSome o IsLegalListed) (sym x_is)
          (let l : IsLegalListed after = record { uid = own-legal.uid; block = legal } in l) in
          let uid : option_map (λ (l : VmBlock). l.uid) x ≡ option_map (λ (l : VmBlock). l.uid) (listed_at m h) =
          ap (option_map (λ (l : VmBlock). l.uid)) x_is ∙ sym (ap (option_map (λ (l : VmBlock). l.uid)) listed-there) in
          memory-entry v refl (λ k ne. refl) cur.map_block cur.map_group cur.map_item x
          (is.file.cur.map_block, is.file.cur.map_group, is.file.cur.map_item) own
          (entry-legal IsLegalListed (λ (l : VmBlock). l.uid) cur is.file.legal.cur h x good uid)

      -- a block becomes marked, or not, and is otherwise unchanged
      pub memory-marked : (w : VmState D) (marked : Bool) → w.file ≡ v.file → ((k : ℕ) → k ≢ h → held_at w k ≡ held_at v k)
          → (w.map_block ≡ v.map_block) → (w.map_item ≡ v.map_item)
          → held_at w h ≡ Some (record e { marked = marked }) → block_at t (vm_slot h) ≡ Some b → IsMemoryOf medium w t (with_mark m h marked)
      memory-marked w marked file others map_block map_item held now =
          let cur = m.file.cur in
          let x : Option VmBlock = option_map (marked_block marked) (listed_at m h) in
          let after : VmBlock = record own_listed { marked = marked } in
          let x_is : x ≡ Some after = ap (option_map (marked_block marked)) listed-there in
          let own : IsListedIn medium w t h x =
          subst (λ o. IsListedAs (medium.honest w.file.device) (bytes_read medium.image w.file h) o (block_at t (vm_slot h)) x) (sym held)
          (subst (λ o. IsListedAs (medium.honest w.file.device) (bytes_read medium.image w.file h) (Some (record e { marked = marked })) o x)
          (sym now) x_is) in
          let good : IfSome x IsLegalListed = subst (λ o. IfSome o IsLegalListed) (sym x_is)
          (let l : IsLegalListed after = record { uid = own-legal.uid; block = own-legal.block } in l) in
          let uid : option_map (λ (l : VmBlock). l.uid) x ≡ option_map (λ (l : VmBlock). l.uid) (listed_at m h) =
          ap (option_map (λ (l : VmBlock). l.uid)) x_is ∙ sym (ap (option_map (λ (l : VmBlock). l.uid)) listed-there) in
          memory-entry w file others cur.map_block cur.map_group cur.map_item x (
            is.file.cur.map_block ∙ sym map_block,
            is.file.cur.map_group ∙ sym (ap (λ (i : ℕ × ℕ). i.0) map_item),
            is.file.cur.map_item
                ∙ sym (ap (λ (i : ℕ × ℕ). i.1) map_item),
          ) own
          (entry-legal IsLegalListed (λ (l : VmBlock). l.uid) cur is.file.legal.cur h x good uid)
