-- Whose block the call of an instruction is on, as the row at a moment of a run says.
use Rattle.std.proofs.Common.{◌≡◌, ℕ, ◌⊎◌, true, false, not, Option, Some, None, is_none, option_map, refl, ap, subst, ◌∙◌, inl, inr, true≢false}
use Rattle.std.specs.Prelude.{◌||◌}
use Rattle.std.proofs.lemmas.Bool.{or_parts}
use Rattle.geos_terms.specs.declared.name.Name.{Name}
use Rattle.geos_terms.specs.declared.name.Owner.{Owner}
use Rattle.geos_terms.specs.declared.name.Owner.TheVariants as owner
use Rattle.geos_terms.specs.Names.{named, vm}
use Rattle.geos_calls.specs.Table.{KernelCall, Mnew, Mlock, Mfree, Unlock, Changes, Makes, Store, Copy, Vnew, Vdirty, FreeListed, Vfree, Vrevert, Gnew, Gfree, ChangesItem, MakesItem}
use Rattle.geos_opcodes.specs.declared.opcode.Opcode.{Opcode}
use Rattle.geos_opcodes.specs.declared.opcode.Opcode.TheVariants as op
use Rattle.geos_opcodes.specs.declared.uses.Kind.{Kind}
use Rattle.geos_opcodes.specs.declared.uses.Kind.TheVariants.{MemBlock, VmBlock, DbGroup}
use Rattle.geos_opcodes.specs.Facts.{uses_of}
use Rattle.geos_image.specs.declared.row.Pointer.{Pointer}
use Rattle.geos_verify.specs.Rows.{alike, is_stale, pointer_at}
use Rattle.geos_verify.specs.Rules.{stale_pointer, uses_stale}
use Rattle.geos_verify.specs.Uses.{same_kind}
use Rattle.geos_verify.proofs.Leads.{rules_pass}
use Rattle.geos_semantics.specs.State.{Held, owner_of, SlotReference, State, slot, is_borrowed, kind_at, name_in, name_at, pointer, reference_in, reference_at}
use Rattle.geos_semantics.specs.Meets.{PointerMeets, PointerIsSound, name_held}
use Rattle.geos_semantics.proofs.Moments.{Moment, unfaulted-here}
use Rattle.geos_semantics.proofs.NoFaults.{pointer-known, pointer-sound}
use Rattle.geos_grants.specs.Effects.{uses_memory, locks_by_handle, changes_file, slot_in, pointed_slot, changed_slot}
use Rattle.granted_runs.proofs.Asked.{asked}

-- What slots hold

held-named : (o : Option Held) → is_none (option_map (λ (h : Held). h.kind) o) ≡ false → name_held o ≡ Some (name_in o)
held-named None full = absurd (true≢false full)
held-named (Some held) full = refl

held-of : (o : Option Held) (kind : Kind) → not (alike (option_map (λ (h : Held). h.kind) o) (Some kind)) ≡ false → name_held o ≡ Some (name_in o)
held-of None kind same = absurd (true≢false same)
held-of (Some held) kind same = refl

file-kind : (kind other : Kind) → owner_of other ≡ owner.Vm → not (same_kind kind other) ≡ false → owner_of kind ≡ owner.Vm
file-kind VmBlock other is same = refl
file-kind DbGroup other is same = refl
file-kind MemBlock MemBlock is same = is
file-kind MemBlock VmBlock is same = absurd (true≢false same)
file-kind MemBlock DbGroup is same = absurd (true≢false same)

-- a slot that holds a block of a kind of the VM file
held-in-file : (o : Option Held) (kind : Kind) → owner_of kind ≡ owner.Vm → not (alike (option_map (λ (h : Held). h.kind) o) (Some kind)) ≡ false
    → (name_held o ≡ Some (name_in o)) × ((name_in o).owner ≡ owner.Vm)
held-in-file None kind is same = absurd (true≢false same)
held-in-file (Some held) kind is same = (refl, file-kind held.kind kind is same)

name-vm : (name : Name) → name.owner ≡ owner.Vm → name ≡ vm name.h
name-vm name is = ap (λ (o : Owner). named o name.h) is

-- What pointers lead into

pointer-in : (s : State) (target : Option SlotReference) (q : Option Pointer) → PointerMeets target q → PointerIsSound s.memory s.slots target
    → is_stale q ≡ false → (a : ℕ) × (slot_in q ≡ Some a) × (name_held (slot s a) ≡ Some (reference_in target).name)
pointer-in s target None meets is fresh = absurd (true≢false fresh)
pointer-in s None (Some q) meets is fresh = absurd meets
pointer-in s (Some target) (Some q) meets is fresh = (
  q.slot,
  refl,
  subst (λ (a : ℕ). name_held (slot s a) ≡ Some target.reference.name) meets.0 is.0,
)

module _ (moment : Moment) where
  open moment use {image, legal, accepted, base, state as s, good as G}

  -- the slot whose block the instruction marks or changes has this block
  abbrev pub InSlot : Opcode → Name → Type 0
  InSlot opcode name = (a : ℕ) × (changed_slot G.point.instr (uses_of opcode).slot (uses_of opcode).pointer G.point.row ≡ Some a)
      × (name_held (slot s a) ≡ Some name)

  -- a call that may change blocks is of an instruction that does so in every state, or on the block of the slot
  abbrev pub Aims : Opcode → Option KernelCall → Type 0
  Aims opcode None = Unit {0}
  Aims opcode (Some Mnew) = uses_memory opcode ≡ true
  Aims opcode (Some (Mlock h)) = (uses_memory opcode ≡ true) × (locks_by_handle opcode ≡ true)
  Aims opcode (Some (Mfree h)) = uses_memory opcode ≡ true
  Aims opcode (Some (Unlock name)) =
      (name_held (slot s G.point.instr.a) ≡ Some name) × ((uses_memory opcode ≡ true) ⊎ (name.owner ≡ owner.Vm))
  Aims opcode (Some (Changes name change)) = InSlot opcode name
  Aims opcode (Some (Makes name make)) = InSlot opcode name
  Aims opcode (Some (Store ref at bytes)) = InSlot opcode ref.name
  Aims opcode (Some (Copy to from n)) = InSlot opcode to.name
  Aims opcode (Some (Vdirty h)) = InSlot opcode (vm h)
  Aims opcode (Some (Vnew uid)) = changes_file opcode ≡ true
  Aims opcode (Some (FreeListed h)) = changes_file opcode ≡ true
  Aims opcode (Some (Vfree h)) = changes_file opcode ≡ true
  Aims opcode (Some Vrevert) = changes_file opcode ≡ true
  Aims opcode (Some Gnew) = changes_file opcode ≡ true
  Aims opcode (Some (Gfree g)) = changes_file opcode ≡ true
  Aims opcode (Some (ChangesItem g change)) = changes_file opcode ≡ true
  Aims opcode (Some (MakesItem g make)) = changes_file opcode ≡ true
  Aims opcode (Some _) = Unit {0}

  -- the row knows a pointer that the instruction goes through
  known : (opcode : Opcode) → G.point.instr.opcode ≡ opcode → uses_stale G.point.instr (uses_of opcode).pointer G.point.row ≡ false
  unfolding stale_pointer
  known opcode is =
      let pass = rules_pass image.keyed image legal accepted s.routine s.pc G.routine G.point G.has in
      subst (λ (o : Opcode). uses_stale G.point.instr (uses_of o).pointer G.point.row ≡ false) is pass.fresh

  through : (p : ℕ) → is_stale (pointer_at G.point.row p) ≡ false
      → (a : ℕ) × (pointed_slot G.point.row p ≡ Some a) × (name_held (slot s a) ≡ Some (reference_at s p).name)
  through p fresh = pointer-in s (pointer s p) (pointer_at G.point.row p) (pointer-known s G.point.row p G.meets)
      (pointer-sound base s p G.sound) fresh

  in-slot : is_none (kind_at s G.point.instr.a) ≡ false → name_held (slot s G.point.instr.a) ≡ Some (name_at s G.point.instr.a)
  in-slot full = held-named (slot s G.point.instr.a) full

  marked : (kind : Kind) → owner_of kind ≡ owner.Vm → not (alike (kind_at s G.point.instr.a) (Some kind)) ≡ false
      → name_held (slot s G.point.instr.a) ≡ Some (vm (name_at s G.point.instr.a).h)
  marked kind of right =
      let found = held-in-file (slot s G.point.instr.a) kind of right in
      found.0 ∙ ap (λ (name : Name). Some name) (name-vm (name_at s G.point.instr.a) found.1)

  abbrev Unlocking : Kind → Type 0
  Unlocking kind = (not (alike (kind_at s G.point.instr.a) (Some kind)) || is_borrowed (slot s G.point.instr.a)) ≡ false

  right-kind : (kind : Kind) → Unlocking kind → not (alike (kind_at s G.point.instr.a) (Some kind)) ≡ false
  right-kind kind right = (or_parts (not (alike (kind_at s G.point.instr.a) (Some kind))) (is_borrowed (slot s G.point.instr.a)) right).0

  unlocked : (kind : Kind) → owner_of kind ≡ owner.Vm → Unlocking kind
      → (name_held (slot s G.point.instr.a) ≡ Some (name_at s G.point.instr.a)) × ((name_at s G.point.instr.a).owner ≡ owner.Vm)
  unlocked kind of right = held-in-file (slot s G.point.instr.a) kind of (right-kind kind right)

  pub aims : (opcode : Opcode) → G.point.instr.opcode ≡ opcode → Aims opcode (asked G.point.instr opcode s)
  aims op.Mnew is = refl
  aims op.Mlock is = (refl, refl)
  aims op.Munlock is = (held-of (slot s G.point.instr.a) MemBlock (right-kind MemBlock (unfaulted-here moment op.Munlock is).right), inl refl)
  aims op.Mfree is = refl
  aims op.Lalloc is = (G.point.instr.a, refl, in-slot (unfaulted-here moment op.Lalloc is).right)
  aims op.Lfree is = (G.point.instr.a, refl, in-slot (unfaulted-here moment op.Lfree is).right)
  aims op.Lrealloc is = (G.point.instr.a, refl, in-slot (unfaulted-here moment op.Lrealloc is).right)
  aims op.Lins is = (G.point.instr.a, refl, in-slot (unfaulted-here moment op.Lins is).right)
  aims op.Ldel is = (G.point.instr.a, refl, in-slot (unfaulted-here moment op.Ldel is).right)
  aims op.Lcontract is = (G.point.instr.a, refl, in-slot (unfaulted-here moment op.Lcontract is).right)
  aims op.Stb is = through G.point.instr.b (known op.Stb is)
  aims op.Stw is = through G.point.instr.b (known op.Stw is)
  aims op.Stxb is = through G.point.instr.b (known op.Stxb is)
  aims op.Stxw is = through G.point.instr.b (known op.Stxw is)
  aims op.Stcb is = through G.point.instr.b (known op.Stcb is)
  aims op.Stcw is = through G.point.instr.b (known op.Stcw is)
  aims op.Copy is =
      through G.point.instr.a (or_parts (is_stale (pointer_at G.point.row G.point.instr.a)) (is_stale (pointer_at G.point.row G.point.instr.b))
      (known op.Copy is)).0
  aims op.Canew is = (G.point.instr.a, refl, in-slot (unfaulted-here moment op.Canew is).right)
  aims op.Caadd is = (G.point.instr.a, refl, in-slot (unfaulted-here moment op.Caadd is).right)
  aims op.Cains is = (G.point.instr.a, refl, in-slot (unfaulted-here moment op.Cains is).right)
  aims op.Cadel is = (G.point.instr.a, refl, in-slot (unfaulted-here moment op.Cadel is).right)
  aims op.Cazero is = (G.point.instr.a, refl, in-slot (unfaulted-here moment op.Cazero is).right)
  aims op.Caresize is = (G.point.instr.a, refl, in-slot (unfaulted-here moment op.Caresize is).right)
  aims op.Vnew is = refl
  aims op.Vdirty is = (G.point.instr.a, refl, marked VmBlock refl (unfaulted-here moment op.Vdirty is).right)
  aims op.Vunlock is = (let found = unlocked VmBlock refl (unfaulted-here moment op.Vunlock is).right in (found.0, inr found.1))
  aims op.Vfree is = refl
  aims op.Vrevert is = refl
  aims op.Gnew is = refl
  aims op.Gfree is = refl
  aims op.Inew is = refl
  aims op.Ifree is = refl
  aims op.Irealloc is = refl
  aims op.Iins is = refl
  aims op.Idel is = refl
  aims op.Idirty is = (G.point.instr.a, refl, marked DbGroup refl (unfaulted-here moment op.Idirty is).right)
  aims op.Iunlock is = (let found = unlocked DbGroup refl (unfaulted-here moment op.Iunlock is).right in (found.0, inr found.1))
  aims _ is = tt
