-- The model's memory is unchanged by other changes of the region.
use Rattle.std.proofs.Common.{◌≡◌, ◌≢◌, ℕ, ◌+◌, ◌-◌, Option, Some, None, true, false, refl, sym, ap, ◌∙◌, subst, arith}
use Rattle.std.specs.Prelude.{IfSome, option_map}
use Rattle.geos_terms.specs.Names.{vm}
use Rattle.geos_terms.specs.declared.name.Owner.{Owner}
use Rattle.geos_terms.specs.declared.name.Owner.TheVariants.{Mem, Vm}
use Rattle.geos_calls.specs.Blocks.{Block as ModelBlock}
use Rattle.geos_calls.specs.Directories.{VmBlock, relisted}
use Rattle.geos_calls.specs.Handles.{at_handle, with_entry_at}
use Rattle.geos_calls.specs.Legal.{IsLegalListed}
use Rattle.geos_calls.specs.Memory.{Memory, listed_at, with_block}
use Rattle.geos_calls.specs.Tight.{is_tight}
use Rattle.geos_calls.specs.VmFile.{VmFile}
use Rattle.geos_calls.proofs.LegalDirectories.{entry-legal}
use Rattle.block_handles.specs.Names.{IsHandle, slot_of}
use Rattle.block_handles.specs.Store.{Block, Store, block_at}
use Rattle.block_handles.specs.Stretch.{IsCrowded}
use Rattle.block_handles.proofs.Laws.{slot_of-handle}
use Rattle.vm_file.specs.Device.{Medium}
use Rattle.vm_blocks.specs.declared.entries.Held.{Held}
use Rattle.vm_blocks.specs.View.{VmState, bytes_read, held_at, vm_slot}
use Rattle.vm_blocks.specs.FileOf.{IsFileOf, IsMemoryOf}
use Rattle.vm_blocks.specs.Matches.{IsListedAs}
use Rattle.vm_blocks.specs.MemoryKeeping.{BlocksMayGo, IsSpelled, MarkedMayChange, OthersMayChange, RoomMayWant}
use Rattle.vm_blocks.specs.Room.{NoneIdle, own_handle_of}
use Rattle.vm_blocks.specs.Spelled.{spelled}
use Rattle.vm_blocks.specs.Tied.{TiedAt}
use Rattle.vm_blocks.proofs.Changed.{memory-thins}
use Rattle.vm_blocks.proofs.Files.{IsListedIn, current-entry, file-cur, file-same}
use Rattle.vm_blocks.proofs.HeapsRead.{spelled-legal}
use Rattle.vm_blocks.proofs.Thinning.{tied-thins}
use Rattle.vm_blocks.proofs.Tightness.{tight-mem, tight-vm}

module _ {D : Type 0} (medium : Medium D) (v : VmState D) where
  -- memory over a store, with a file that is the model's there
  memory-of : (t : Store) (n : Memory) (file : VmFile) → IsFileOf medium.image medium.honest v t file → IsSpelled t file n → IsMemoryOf medium v t n
  memory-of t n file is over = record {
    blocks = over.blocks;
    file = subst (IsFileOf medium.image medium.honest v t)
        (sym over.file) is;
    region = over.region;
    handles = over.handles;
  }

  pub others-may-change : OthersMayChange medium v
  others-may-change s t m n is same over =
      memory-of t n m.file (file-same medium v s t m.file (λ h p. same h p (λ z. let some = p.0 in omega (arith, some, z))) is.file) over

  pub blocks-may-go : BlocksMayGo medium v
  blocks-may-go s t but tied thins = (tied-thins medium v s t but tied thins, λ m is. memory-thins medium v s t m is but tied thins)

  pub room-may-want : RoomMayWant medium v
  room-may-want s m name size tied is p none crowded = on name.owner none crowded
    where
      on : (owner : Owner) → NoneIdle v s (own_handle_of owner name.h) → IsCrowded s (slot_of (record { owner = owner; h = name.h })) size
          → is_tight m (record { owner = owner; h = name.h }) size ≡ true
      on Vm none crowded = tight-vm medium v s m tied is name.h size p none crowded
      on Mem none crowded =
          let first : 0 + (name.h - 1) ≡ name.h - 1 = omega arith in
          tight-mem medium v s m tied is name.h size p none (subst (λ slot. IsCrowded s slot size) (slot_of-handle Mem name.h p ∙ first) crowded)

  -- a marked block is in memory
  marked-there : (h : ℕ) (e : Held) (b : Option Block) → e.marked ≡ true → TiedAt medium v.file h (Some e) b → (c : Block) × (b ≡ Some c)
  marked-there h e None is tied = absurd (let x : true ≡ false = sym is ∙ tied.clean in cc)
  marked-there h e (Some c) is tied = (c, refl)

  pub marked-may-change : MarkedMayChange medium v
  marked-may-change s t m n h tied is same own few are over =
      let p = own.handle in
      let e = own.held in
      let cur = m.file.cur in
      let good = medium.honest v.file.device in
      let read = bytes_read medium.image v.file h in
      let was = marked-there h e (block_at s (vm_slot h)) own.marked
      (subst (λ o. TiedAt medium v.file h o (block_at s (vm_slot h))) own.listed (tied.each h p)) in
      let before : VmBlock = record { uid = e.uid; marked = e.marked; block = spelled was.0.locks was.0.bytes } in
      let listed : listed_at m h ≡ Some before = subst (λ o. IsListedAs good read o (Some was.0) (listed_at m h))
      own.listed (subst (λ o. IsListedAs good read (held_at v h) o (listed_at m h)) was.1 (is.file.cur.each h p)) in
      let block : ModelBlock = spelled own.block.locks own.block.bytes in
      let x : Option VmBlock = Some (relisted (listed_at m h) block) in
      let after : VmBlock = record { uid = e.uid; marked = e.marked; block = block } in
      let x_is : x ≡ Some after = ap (λ l. Some (relisted l block)) listed in
      let at_h : IsListedIn medium v t h x = subst (λ o. IsListedAs good read o (block_at t (vm_slot h)) x)
      (sym own.listed) (subst (λ o. IsListedAs good read (Some e) o x) (sym own.at) x_is) in
      let others : (k : ℕ) → IsHandle k → k ≢ h → IsListedIn medium v t k (at_handle None cur.blocks k) =
      (λ k q ne. subst (λ o. IsListedAs good (bytes_read medium.image v.file k) (held_at v k) o (at_handle None cur.blocks k))
      (sym (same k q ne)) (is.file.cur.each k q)) in
      let now = current-entry medium v t cur h p x is.file.cur.handles (is.file.cur.map_block, is.file.cur.map_group, is.file.cur.map_item)
      at_h others in
      let own_legal : IsLegalListed before = subst (λ o. IfSome o IsLegalListed) listed (is.file.legal.cur.blocks h) in
      let legal_after : IsLegalListed after =
      record { uid = own_legal.uid; block = record { heap = spelled-legal own.block.bytes own.heap are; few = few } } in
      let legal_x : IfSome x IsLegalListed = subst (λ o. IfSome o IsLegalListed) (sym x_is) legal_after in
      let uid : option_map (λ (l : VmBlock). l.uid) x ≡ option_map (λ (l : VmBlock). l.uid) (listed_at m h) =
      ap (option_map (λ (l : VmBlock). l.uid)) x_is ∙ sym (ap (option_map (λ (l : VmBlock). l.uid)) listed) in
      let legal = entry-legal IsLegalListed (λ (l : VmBlock). l.uid) cur is.file.legal.cur h x legal_x uid in
      memory-of t n (with_block m (vm h) (Some block)).file
      (file-cur medium v v s t m.file (record cur { blocks = with_entry_at cur.blocks h x }) refl now legal is.file) over
