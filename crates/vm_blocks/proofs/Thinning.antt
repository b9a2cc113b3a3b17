-- What discarding does.
use Rattle.std.proofs.Common.{◌≡◌, ◌≢◌, ℕ, ◌<◌, length, Option, Some, None, true, refl, sym, ◌∙◌, arith, subst, inl, inr}
use Rattle.std.proofs.lemmas.Bool.{cases_eq}
use Rattle.std.proofs.lemmas.List.{get_or-set_other}
use Rattle.block_handles.specs.Change.{without}
use Rattle.block_handles.specs.Layout.{IsLaidOut}
use Rattle.geos_terms.specs.declared.name.Name.{Name}
use Rattle.geos_terms.specs.declared.name.Owner.{Owner}
use Rattle.geos_terms.specs.declared.name.Owner.TheVariants.{Mem, Vm}
use Rattle.block_handles.specs.Names.{IsHandle, slot_of}
use Rattle.block_handles.specs.Store.{Block, Store, block_at, IsBlock, IsThere}
use Rattle.block_handles.proofs.Laws.{slot_of-handle, laid-without, with_block-same, with_block-other}
use Rattle.block_handles.proofs.Layouts.{there_small}
use Rattle.vm_file.specs.Device.{Medium}
use Rattle.vm_blocks.specs.declared.entries.Held.{Held}
use Rattle.vm_blocks.specs.View.{VmState, held_at, vm_slot}
use Rattle.vm_blocks.specs.Tied.{IsTied, TiedAt}
use Rattle.vm_blocks.specs.Room.{Thins, StaysOrGoes, is_idle, is_idle_in, own_handle, own_handle_of}
use Rattle.vm_blocks.proofs.Slots.{slot-is, slot-one, idle, idle-parts}

module _ {D : Type 0} (v : VmState D) where
  -- nothing was discarded
  pub thins-none : (s : Store) (but : ℕ) → IsLaidOut s → Thins v s s but
  thins-none s but laid = record { each = λ slot. inl (refl, refl); laid = laid; len = refl }

  -- first some, then others
  pub thins-more : (a b c : Store) (but : ℕ) → Thins v a b but → Thins v b c but → Thins v a c but
  thins-more a b c but first later = record {
    each = λ slot. on slot (first.each slot) (later.each slot);
    laid =
        later.laid;
    len = later.len ∙ first.len;
  }
    where
      on : (slot : ℕ) → StaysOrGoes v a b but slot → StaysOrGoes v b c but slot → StaysOrGoes v a c but slot
      on slot (inl p) (inl q) = inl (q.0 ∙ p.0, q.1 ∙ p.1)
      on slot (inr g) (inl q) = inr (record { h = g.h; handle = g.handle; slot_is = g.slot_is; other = g.other; idle = g.idle; gone = q.0 ∙ g.gone })
      on slot (inr g) (inr g') = inr (record { h = g.h; handle = g.handle; slot_is = g.slot_is; other = g.other; idle = g.idle; gone = g'.gone })
      on slot (inl p) (inr g) =
          let same : block_at b (vm_slot g.h) ≡ block_at a (vm_slot g.h) = subst (λ i. block_at b i ≡ block_at a i) g.slot_is p.0 in
          inr (record {
            h = g.h;
            handle = g.handle;
            slot_is = g.slot_is;
            other = g.other;
            idle = subst (λ o. is_idle_in (held_at v g.h) o ≡ true) same g.idle;
            gone = g.gone;
          })

  -- one block that may be discarded is
  pub thins-one : (s : Store) (but h : ℕ) → IsLaidOut s → IsHandle h → h ≢ but → is_idle v s h ≡ true → Thins v s (without s (vm_slot h)) but
  thins-one s but h laid p ne i = record { each = on; laid = laid-without s laid (vm_slot h) there; len = refl }
    where
      there : IsThere s (vm_slot h)
      there = let d = idle (held_at v h) (block_at s (vm_slot h)) i in subst IsBlock (sym d.there) tt

      small : vm_slot h < length s.blocks
      small = omega (arith, there_small s (vm_slot h) laid there, laid.slots)

      on : (slot : ℕ) → StaysOrGoes v s (without s (vm_slot h)) but slot
      on slot = elim (cases_eq slot (vm_slot h)) [
        | inl same ↦ inr (record {
          h = h;
          handle = p;
          slot_is = same;
          other = ne;
          idle = i;
          gone =
              subst (λ j. block_at (without s (vm_slot h)) j ≡ None) (sym same) (with_block-same s (vm_slot h) None 0 small);
        })
        | inr other ↦ inl (with_block-other s (vm_slot h) None 0 slot other, get_or-set_other s.places (vm_slot h) slot 0 0 other)
      ]

module _ {D : Type 0} (medium : Medium D) (v : VmState D) where
  pub gone-tied : (h : ℕ) (e : Option Held) (b : Option Block) → is_idle_in e b ≡ true → TiedAt medium v.file h e b → TiedAt medium v.file h e None
  gone-tied h None b i t = absurd cc
  gone-tied h (Some e) None i t = absurd cc
  gone-tied h (Some e) (Some b) i t = let clean = (idle-parts e b i).0 in record { size = t.size; clean = clean; kept = t.kept clean }

  pub tied-thins : (s t : Store) (but : ℕ) → IsTied medium v s → Thins v s t but → IsTied medium v t
  tied-thins s t but tied thins = record { laid = thins.laid; long = tied.long; each = λ h p. on h p (thins.each (vm_slot h)); maps = tied.maps }
    where
      on : (h : ℕ) → IsHandle h → StaysOrGoes v s t but (vm_slot h) → TiedAt medium v.file h (held_at v h) (block_at t (vm_slot h))
      on h p (inl q) = subst (TiedAt medium v.file h (held_at v h)) (sym q.0) (tied.each h p)
      on h p (inr g) =
          let one : h ≡ g.h = slot-one h g.h p g.handle g.slot_is in
          let i : is_idle v s h ≡ true = subst (λ k. is_idle v s k ≡ true) (sym one) g.idle in
          subst (TiedAt medium v.file h (held_at v h)) (sym g.gone) (gone-tied h (held_at v h) (block_at s (vm_slot h)) i (tied.each h p))

-- a block does not go while room is made for it
own-slot : (owner : Owner) (k h : ℕ) → IsHandle k → IsHandle h → h ≢ own_handle_of owner k → slot_of (record { owner = owner; h = k }) ≢ vm_slot h
own-slot Mem k h p q ne same = let low = slot_of-handle Mem k p in let most = p.1 in let some = q.0 in
    let high = slot-is h q in omega (arith, low, most, some, high, same)
own-slot Vm k h p q ne same = ne (sym (slot-one k h p q same))

pub thins-own : {D : Type 0} (v : VmState D) (s t : Store) (name : Name) → IsHandle name.h → Thins v s t (own_handle name)
    → block_at t (slot_of name) ≡ block_at s (slot_of name)
thins-own {D} v s t name p thins = on (thins.each (slot_of name))
  where
    on : StaysOrGoes v s t (own_handle name) (slot_of name) → block_at t (slot_of name) ≡ block_at s (slot_of name)
    on (inl q) = q.0
    on (inr g) = absurd (own-slot name.owner name.h g.h p g.handle g.other g.slot_is)
