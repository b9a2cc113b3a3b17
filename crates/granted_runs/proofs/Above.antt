-- No call makes a block of global memory under a handle above the limit.
use Rattle.std.proofs.Common.{◌≡◌, ◌<◌, ◌≤◌, ◌-◌, ◌+◌, ℕ, Bool, true, false, if◌then◌else◌, Option, Some, None, option_map, refl, sym, ap, subst, ◌∙◌, inl, inr, arith}
use Rattle.std.specs.Prelude.{is_none, nat_le, unwrap_or}
use Rattle.geos_terms.specs.declared.name.Name.{Name}
use Rattle.geos_terms.specs.declared.name.Owner.{Owner}
use Rattle.geos_terms.specs.declared.name.Owner.TheVariants as owner
use Rattle.geos_terms.specs.declared.refusal.Refusal.{Refusal}
use Rattle.geos_terms.specs.Names.{mem, vm}
use Rattle.geos_terms.specs.Refusals.{first_refusal}
use Rattle.geos_calls.specs.Memory.{Block, Memory, at_handle, lowest_of, up_to, owned_block, with_owned_block, block_of, with_block, locks_of, locked_block, rechunked_block, chunks_at}
use Rattle.geos_calls.specs.Effects.{Choice, come_to, outcome}
use Rattle.geos_calls.specs.ChunkCalls.{change_edit, make_edit}
use Rattle.geos_calls.specs.Leaving.{IsWithin, scope_of}
use Rattle.geos_calls.specs.Table.{KernelCall, Mnew, Mlock, Mfree, Unlock, Changes, Makes, Store, Copy, Vnew, LockListed, Vlock, Vdirty, FreeListed, Vfree, Vupdate, Vsave, Vrevert, Gnew, Gfree, ChangesItem, MakesItem, Ilock, row}
use Rattle.geos_calls.proofs.HandleLists.{entry-kept, entry-told, none-is}
use Rattle.geos_calls.proofs.Laws.{change-shape}
use Rattle.geos_calls.proofs.Leaves.{rows_leave}

-- a handle that the limit allows is no higher
allowed-within : (limit : ℕ) (o : Option ℕ) → unwrap_or (up_to limit o) 0 ≤ limit
allowed-within limit None = omega arith
allowed-within limit (Some h) = go (nat_le h limit) refl
  where
    go : (b : Bool) → nat_le h limit ≡ b → unwrap_or (if nat_le h limit then Some h else None) 0 ≤ limit
    go true is = rw is (grind (arith, is))
    go false is = rw is (omega arith)

mapped-none : {A B : Type 0} (f : A → B) (o : Option A) → is_none (option_map f o) ≡ is_none o
mapped-none f None = refl
mapped-none f (Some x) = refl

vm-mem : (h k : ℕ) → vm h ≡ mem k → ⊥
vm-mem h k same = (let never : owner.Vm ≡ owner.Mem = ap (λ (n : Name). n.owner) same in absurd cc)

-- there is no block under a handle above the limit
module _ (choice : Choice) (m : Memory) (h : ℕ) (above : m.handles < h) (none : at_handle None m.blocks h ≡ None) where
  -- memory has no block there either
  abbrev IsFree : Memory → Type 0
  IsFree n = at_handle None n.blocks h ≡ None

  beside : (call : KernelCall) → (IsWithin (scope_of call m) (mem h) → ⊥) → IsFree (outcome (row call choice m)).1
  beside call out = (rows_leave.others call choice m).blocks h out ∙ none

  owned : (o : Owner) (k : ℕ) (f : Block → Block) → IsFree (with_owned_block m o k (option_map f (owned_block m o k)))
  owned owner.Vm k f = none
  owned owner.Mem k f =
      let block = option_map f (at_handle None m.blocks k) in
      none-is (at_handle None (with_owned_block m owner.Mem k block).blocks h)
      (entry-told is_none m.blocks k h block None (mapped-none f (at_handle None m.blocks k)) ∙ ap is_none none)

  mapped : (name : Name) (f : Block → Block) → IsFree (with_block m name (option_map f (block_of m name)))
  mapped name f = owned name.owner name.h f

  done : {A : Type 0} (o : Option Refusal) (after : Memory) (x : A) → IsFree after → IsFree (come_to o (λ why. m) x after).1
  done None after x free = free
  done (Some why) after x free = none

  pub above-free : (call : KernelCall) → IsFree (outcome (row call choice m)).1
  above-free Mnew = beside Mnew (λ same. omega (arith, above, allowed-within m.handles (lowest_of m.blocks), ap (λ (n : Name). n.h) same))
  above-free (Mlock k) = done (first_refusal (row (Mlock k) choice m).refusals) (row (Mlock k) choice m).after tt
      (mapped (mem k) (locked_block (locks_of m (mem k) + 1)))
  above-free (Mfree k) = done (first_refusal (row (Mfree k) choice m).refusals) (row (Mfree k) choice m).after tt
      (entry-kept (λ e. e ≡ None) m.blocks k h None None refl none)
  above-free (Unlock name) = mapped name (locked_block (locks_of m name - 1))
  above-free (Changes name change) = go (first_refusal (row (Changes name change) choice m).refusals)
    where
      go : (o : Option Refusal) → IsFree (come_to o (row (Changes name change) choice m).left
          (row (Changes name change) choice m).answer (row (Changes name change) choice m).after).1
      go None = subst IsFree (sym (change-shape name change m choice).0)
          (mapped name (rechunked_block (change_edit change (chunks_at m name)).chunks))
      go (Some why) = elim (rows_leave.refused (Changes name change) choice m why) [
        | inl same ↦ subst IsFree (sym same) none
        | inr doubt ↦ absurd doubt.2
      ]
  above-free (Makes name make) = done (first_refusal (row (Makes name make) choice m).refusals) (row (Makes name make) choice m).after tt
      (mapped name (rechunked_block (make_edit make (chunks_at m name)).chunks))
  above-free (Store ref i bytes) = mapped ref.name (rechunked_block _)
  above-free (Copy to from n) = mapped to.name (rechunked_block _)
  above-free (Vnew uid) = beside (Vnew uid) (λ e. vm-mem _ h e)
  above-free (LockListed k) = beside (LockListed k) (λ e. vm-mem k h e)
  above-free (Vlock k) = beside (Vlock k) (λ e. vm-mem k h e)
  above-free (Vdirty k) = beside (Vdirty k) (λ e. vm-mem k h e)
  above-free (FreeListed k) = beside (FreeListed k) (λ e. vm-mem k h e)
  above-free (Vfree k) = beside (Vfree k) (λ e. vm-mem k h e)
  above-free Vupdate = beside Vupdate (λ (e : owner.Mem ≡ owner.Vm). absurd cc)
  above-free Vsave = beside Vsave (λ (e : owner.Mem ≡ owner.Vm). absurd cc)
  above-free Vrevert = beside Vrevert (λ (e : owner.Mem ≡ owner.Vm). absurd cc)
  above-free Gnew = beside Gnew (λ e. vm-mem _ h e)
  above-free (Gfree k) = beside (Gfree k) (λ e. vm-mem k h e)
  above-free (ChangesItem k change) = beside (ChangesItem k change) (λ e. vm-mem k h e)
  above-free (MakesItem k make) = beside (MakesItem k make) (λ e. vm-mem k h e)
  above-free (Ilock k i n) = beside (Ilock k i n) (λ e. vm-mem k h e)
  above-free call = beside call (λ e. e)
