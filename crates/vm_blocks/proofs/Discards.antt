-- One block that is discarded.
use Rattle.std.proofs.Common.{◌≡◌, ◌≢◌, ℕ, ◌<◌, true, sym, ap, ◌∙◌, subst}
use Rattle.std.specs.Prelude.{◌↔◌, Result, Err, OnOk}
use Rattle.geos_terms.specs.declared.name.Name.{Name}
use Rattle.block_handles.specs.declared.error.HandleError.{HandleError}
use Rattle.block_handles.specs.declared.error.HandleError.TheVariants.{BadHandle, Locked}
use Rattle.block_handles.specs.Change.{without}
use Rattle.block_handles.specs.Layout.{IsLaidOut}
use Rattle.block_handles.specs.Names.{IsHandle, slot_of}
use Rattle.block_handles.specs.Store.{Store, IsBlock, IsThere, locks_in, locks_of, block_at}
use Rattle.geos_terms.specs.Names.{vm}
use Rattle.vm_blocks.specs.View.{VmState, held_at, vm_slot}
use Rattle.vm_blocks.specs.Room.{Thins, is_idle, there_count}
use Rattle.vm_blocks.proofs.Slots.{idle, freed, count-gone}
use Rattle.vm_blocks.proofs.Thinning.{thins-one}

module _ {D : Type 0} (v : VmState D) (old new : Store) (h : ℕ) (name : Name) (r : Result (Unit {0}) HandleError)
    (e : name ≡ vm h) (i : is_idle v old h ≡ true) where
  pub discarded : OnOk r (new ≡ without old (slot_of name)) → ((r ≡ Err BadHandle) ↔ (IsThere old (slot_of name) → ⊥))
      → ((r ≡ Err Locked) ↔ (0 < locks_of old (slot_of name))) → new ≡ without old (vm_slot h)
  discarded ok bad locked =
      let d = idle (held_at v h) (block_at old (vm_slot h)) i in
      let slot : vm_slot h ≡ slot_of name = ap slot_of (sym e) in
      let there : IsThere old (slot_of name) = subst (IsThere old) slot (subst IsBlock (sym d.there) tt) in
      let free : locks_of old (slot_of name) ≡ 0 = subst (λ j. locks_of old j ≡ 0) slot (ap locks_in d.there ∙ d.free) in
      freed old new (slot_of name) r ok bad locked there free ∙ ap (without old) (sym slot)

  pub discarded-thins : (but : ℕ) → IsLaidOut old → IsHandle h → h ≢ but → new ≡ without old (vm_slot h) → Thins v old new but
  discarded-thins but laid p ne gone = subst (λ t. Thins v old t but) (sym gone) (thins-one v old but h laid p ne i)

  pub discarded-fewer : new ≡ without old (vm_slot h) → there_count new < there_count old
  discarded-fewer gone =
      let d = idle (held_at v h) (block_at old (vm_slot h)) i in
      subst (λ t. there_count t < there_count old) (sym gone) (count-gone old.blocks (vm_slot h) (subst IsBlock (sym d.there) tt))
