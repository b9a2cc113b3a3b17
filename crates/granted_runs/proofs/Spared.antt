-- What calls leave as it was, where an instruction lacks effects.
use Rattle.std.proofs.Common.{◌≡◌, ◌<◌, ℕ, zero, suc, ◌+◌, ◌-◌, Bool, true, false, cond, not, Option, Some, None, List, [], ◌∷◌, option_map, refl, sym, ap, subst, ◌∙◌, inl, inr, true≢false, arith}
use Rattle.std.specs.Prelude.{nat_lt, is_none, slice_index_or}
use Rattle.std.proofs.lemmas.Bool.{eq-eqb, lt-ltb}
use Rattle.geos_terms.specs.declared.name.Name.{Name}
use Rattle.geos_terms.specs.declared.name.Owner.{Owner}
use Rattle.geos_terms.specs.declared.name.Owner.TheVariants as owner
use Rattle.geos_terms.specs.declared.refusal.Refusal.{Refusal}
use Rattle.geos_terms.specs.declared.refusal.Refusal.TheVariants as refusal
use Rattle.geos_terms.specs.Names.{mem, vm}
use Rattle.geos_terms.specs.Refusals.{first_refusal}
use Rattle.geos_calls.specs.Directories.{VmBlock, kept_block, idle_block, relisted, with_each}
use Rattle.geos_calls.specs.VmFile.{Pair}
use Rattle.geos_calls.specs.Memory.{Memory, at_handle, listed_at, owned_block, with_owned_block, block_of, locks_in, locks_of, locked_block, with_locks}
use Rattle.geos_calls.specs.Effects.{Choice, come_to, outcome}
use Rattle.geos_calls.specs.VmCalls.{committed, in_doubt, keep_current, keep_saved, pair_to_keep, left_by_commit}
use Rattle.geos_calls.specs.Leaving.{IsWithin, scope_of, new_mem}
use Rattle.geos_calls.specs.Table.{KernelCall, Mnew, Mlock, Mfree, Unlock, Changes, Makes, Store, Copy, Vnew, LockListed, Vlock, Vdirty, FreeListed, Vfree, Vupdate, Vsave, Vrevert, Gnew, Gfree, ChangesItem, MakesItem, Ilock, row}
use Rattle.geos_calls.proofs.HandleLists.{allowed-none, entry-told, entry-each}
use Rattle.geos_calls.proofs.NamedBlocks.{changed_in, relisted-changed}
use Rattle.geos_calls.proofs.Leaves.{rows_leave}
use Rattle.geos_opcodes.specs.declared.opcode.Opcode.{Opcode}
use Rattle.geos_opcodes.specs.Facts.{uses_of}
use Rattle.geos_image.specs.declared.row.SlotState.{SlotState}
use Rattle.geos_image.specs.declared.row.SlotState.TheVariants.{Empty, Mem, Vm, Db}
use Rattle.geos_image.specs.Legal.{is_own}
use Rattle.geos_verify.specs.Rows.{slot_state}
use Rattle.geos_semantics.specs.State.{Held, owner_of, name_of, slot}
use Rattle.geos_semantics.specs.Meets.{SlotMeets, name_held, lent_in, lent}
use Rattle.geos_semantics.proofs.Moments.{Moment}
use Rattle.geos_semantics.proofs.NoFaults.{slot-known}
use Rattle.geos_grants.specs.Effects.{uses_memory, locks_by_handle, changes_file, changed_slot, state_at, is_mem, is_own_in_file, lends}
use Rattle.granted_runs.specs.Keeps.{stored_at}
use Rattle.granted_runs.proofs.Aims.{Aims, InSlot}

owners-differ : (name : Name) (h : ℕ) → name.owner ≡ owner.Vm → name ≡ mem h → ⊥
owners-differ name h is same = (let never : owner.Vm ≡ owner.Mem = sym is ∙ ap (λ (n : Name). n.owner) same in absurd cc)

vm-mem : (h k : ℕ) → vm h ≡ mem k → ⊥
vm-mem h k same = owners-differ (vm h) k refl same

mem-vm : (h k : ℕ) → mem h ≡ vm k → ⊥
mem-vm h k same = vm-mem k h (sym same)

-- What a row says of the block that a slot holds

some-name : (name : Name) (o : Option Name) (other : Name) → o ≡ Some name → o ≡ Some other → name ≡ other
some-name name o other e f = (let both : Some name ≡ Some other = sym e ∙ f in cc)

held-owner : (held : Held) (name : Name) → Some (name_of held) ≡ Some name → owner_of held.kind ≡ name.owner
held-owner held name e = (let same : name_of held ≡ name = cc in ap (λ (n : Name). n.owner) same)

-- one of the VM file, where the row does not say that it is one of global memory
not-mem : (m : Memory) (o : Option Held) (state : SlotState) (name : Name) → SlotMeets m o state → is_mem state ≡ false
    → name_held o ≡ Some name → name.owner ≡ owner.Vm
not-mem m None state name meets without is = absurd cc
not-mem m (Some held) Empty name meets without is = absurd meets
not-mem m (Some held) Mem name meets without is = absurd (true≢false without)
not-mem m (Some held) (Vm marked borrowed) name meets without is = sym (held-owner held name is) ∙ ap owner_of meets.0
not-mem m (Some held) (Db marked) name meets without is = sym (held-owner held name is) ∙ ap owner_of meets.0

lent-is : (held : Held) (name : Name) → held.borrowed ≡ true → Some (name_of held) ≡ Some name → lent_in (Some held) ≡ Some name
lent-is held name borrowed is = rw (borrowed, lent_in) is

-- one that is lent, where it is of the VM file and the row does not say that it is the routine's own
not-own : (m : Memory) (o : Option Held) (state : SlotState) (h : ℕ) → SlotMeets m o state → is_own_in_file state ≡ false
    → name_held o ≡ Some (vm h) → (not (is_own state) ≡ true) × (lent_in o ≡ Some (vm h))
not-own m None state h meets without is = absurd cc
not-own m (Some held) Empty h meets without is = absurd meets
not-own m (Some held) Mem h meets without is =
    (let never : owner.Mem ≡ owner.Vm = sym (ap owner_of meets.0) ∙ held-owner held (vm h) is in absurd cc)
not-own m (Some held) (Vm marked true) h meets without is = (refl, lent-is held (vm h) meets.1 is)
not-own m (Some held) (Vm marked false) h meets without is = absurd (true≢false without)
not-own m (Some held) (Db marked) h meets without is = absurd (true≢false without)

pub lent-at : (slots : List (Option Held)) (a : ℕ) → slice_index_or (lent slots) a None ≡ lent_in (slice_index_or slots a None)
lent-at [] a = refl
lent-at (x ∷ slots) zero = refl
lent-at (x ∷ slots) (suc a) = lent-at slots a

-- What is stored, after locks and commits

stored-locked : (n : ℕ) (listed : Option VmBlock) → option_map kept_block (option_map (changed_in (locked_block n)) listed) ≡ option_map kept_block listed
stored-locked n None = refl
stored-locked n (Some l) = refl

owned-locked : (m : Memory) (o : Owner) (k n h : ℕ)
    → stored_at (with_owned_block m o k (option_map (locked_block n) (owned_block m o k))) h ≡ stored_at m h
owned-locked m owner.Mem k n h = refl
owned-locked m owner.Vm k n h =
    entry-told (option_map kept_block) m.file.cur.blocks k h
    (option_map (relisted (listed_at m k)) (option_map (locked_block n) (owned_block m owner.Vm k))) None
    (ap (option_map kept_block) (relisted-changed (locked_block n) (listed_at m k)) ∙ stored-locked n (listed_at m k))

-- a lock more, or less
locks-store : (m : Memory) (name : Name) (n h : ℕ) → stored_at (with_locks m name n) h ≡ stored_at m h
locks-store m name n h = owned-locked m name.owner name.h n h

stored-again : (listed : Option VmBlock)
    → option_map kept_block (option_map idle_block (option_map kept_block listed)) ≡ option_map kept_block listed
stored-again None = refl
stored-again (Some l) = refl

-- the current directory is written
commit-store : (m : Memory) (h : ℕ) (pair : Pair) → pair.cur ≡ with_each kept_block m.file.cur → stored_at (committed m pair) h ≡ stored_at m h
commit-store m h pair cur =
    ap (option_map kept_block) (entry-each idle_block pair.cur.blocks h)
    ∙ ap (λ d. option_map kept_block (option_map idle_block (at_handle None d.blocks h))) cur
    ∙ ap (λ e. option_map kept_block (option_map idle_block e)) (entry-each kept_block m.file.cur.blocks h)
    ∙ stored-again (listed_at m h)

-- a commit is refused
doubt-store : (choice : Choice) (m : Memory) (pair : Pair) (why : Refusal) (h : ℕ) → stored_at (left_by_commit choice m pair why) h ≡ stored_at m h
doubt-store choice m pair refusal.Disk h = by choice.unsure
  where
    by : (late : Bool) → stored_at (cond late (in_doubt m pair) m) h ≡ stored_at m h
    by true = refl
    by false = refl
doubt-store choice m pair why h = refl

committing : (o : Option Refusal) (choice : Choice) (m : Memory) (pair : Pair) (h : ℕ) → pair.cur ≡ with_each kept_block m.file.cur
    → stored_at (come_to {A = Unit {0}} o (left_by_commit choice m pair) tt (committed m pair)).1 h ≡ stored_at m h
committing None choice m pair h cur = commit-store m h pair cur
committing (Some why) choice m pair h cur = doubt-store choice m pair why h

module _ (moment : Moment) (opcode : Opcode) (choice : Choice) where
  open moment use {base, state as s, good as G}

  -- the slot whose block is marked or changed
  abbrev pub changed : Option ℕ
  changed = changed_slot G.point.instr (uses_of opcode).slot (uses_of opcode).pointer G.point.row

  state-is : (a : ℕ) → changed ≡ Some a → state_at G.point.row changed ≡ slot_state G.point.row a
  state-is a is = ap (state_at G.point.row) is

  -- a call is on no block of global memory
  pub spares-memory : (call : KernelCall) → Aims moment opcode (Some call) → uses_memory opcode ≡ false
      → is_mem (state_at G.point.row changed) ≡ false → (h : ℕ) → IsWithin (scope_of call s.memory) (mem h) → ⊥
  spares-memory call aim without own h within = by call aim within
    where
      never : uses_memory opcode ≡ true → ⊥
      never is = true≢false (sym is ∙ without)

      slot-vm : (name : Name) → InSlot moment opcode name → name ≡ mem h → ⊥
      slot-vm name (a, is, held) =
          owners-differ name h (not-mem s.memory (slot s a) (slot_state G.point.row a) name (slot-known s G.point.row a G.meets)
          (ap is_mem (sym (state-is a is)) ∙ own) held)

      by : (call : KernelCall) → Aims moment opcode (Some call) → IsWithin (scope_of call s.memory) (mem h) → ⊥
      by Mnew aim in_it = never aim
      by (Mlock k) aim in_it = never aim.0
      by (Mfree k) aim in_it = never aim
      by (Unlock name) (held, inl is) in_it = never is
      by (Unlock name) (held, inr is) in_it = owners-differ name h is in_it
      by (Changes name change) aim in_it = slot-vm name aim in_it
      by (Makes name make) aim in_it = slot-vm name aim in_it
      by (Store ref at bytes) aim in_it = slot-vm ref.name aim in_it
      by (Copy to from n) aim in_it = slot-vm to.name aim in_it
      by (Vnew uid) aim in_it = vm-mem _ h in_it
      by (LockListed k) aim in_it = vm-mem k h in_it
      by (Vlock k) aim in_it = vm-mem k h in_it
      by (Vdirty k) aim in_it = vm-mem k h in_it
      by (FreeListed k) aim in_it = vm-mem k h in_it
      by (Vfree k) aim in_it = vm-mem k h in_it
      by Vupdate aim in_it = (let e : owner.Mem ≡ owner.Vm = in_it in absurd cc)
      by Vsave aim in_it = (let e : owner.Mem ≡ owner.Vm = in_it in absurd cc)
      by Vrevert aim in_it = (let e : owner.Mem ≡ owner.Vm = in_it in absurd cc)
      by Gnew aim in_it = vm-mem _ h in_it
      by (Gfree k) aim in_it = vm-mem k h in_it
      by (ChangesItem k change) aim in_it = vm-mem k h in_it
      by (MakesItem k make) aim in_it = vm-mem k h in_it
      by (Ilock k i n) aim in_it = vm-mem k h in_it
      by _ aim in_it = in_it

  -- no slot holds this block of global memory
  abbrev pub IsFree : ℕ → Type 0
  IsFree h = (a : ℕ) → name_held (slot s a) ≡ Some (mem h) → ⊥

  -- a block of global memory that others have locked, and that no slot holds, is as it was
  pub spares-locked : (call : KernelCall) → Aims moment opcode (Some call) → locks_by_handle opcode ≡ false → (h : ℕ) → IsFree h
      → 0 < locks_of s.memory (mem h)
      → at_handle None (outcome (row call choice s.memory)).1.blocks h ≡ at_handle None s.memory.blocks h
  spares-locked call aim without h free locked = by call aim
    where
      beside : (call : KernelCall) → (IsWithin (scope_of call s.memory) (mem h) → ⊥)
          → at_handle None (outcome (row call choice s.memory)).1.blocks h ≡ at_handle None s.memory.blocks h
      beside call out = (rows_leave.others call choice s.memory).blocks h out

      not-held : (a : ℕ) (name : Name) → name_held (slot s a) ≡ Some name → name ≡ mem h → ⊥
      not-held a name held same = free a (held ∙ ap (λ (n : Name). Some n) same)

      in-slot : (name : Name) → InSlot moment opcode name → name ≡ mem h → ⊥
      in-slot name (a, is, held) same = not-held a name held same

      made : new_mem s.memory ≡ mem h → ⊥
      made same =
          let none : at_handle None s.memory.blocks h ≡ None =
          subst (λ k. at_handle None s.memory.blocks k ≡ None) (ap (λ (n : Name). n.h) same) (allowed-none s.memory.handles s.memory.blocks) in
          let unlocked : locks_of s.memory (mem h) ≡ 0 = ap locks_in none in
          omega (arith, unlocked, locked)

      freed : (k : ℕ) (o : Option Refusal) → first_refusal (row (Mfree k) choice s.memory).refusals ≡ o
          → at_handle None (come_to {A = Unit {0}} o (λ why. s.memory) tt (row (Mfree k) choice s.memory).after).1.blocks h
          ≡ at_handle None s.memory.blocks h
      freed k (Some why) e = refl
      freed k None e =
          let left = beside (Mfree k) (λ same. not-locked k e (ap (λ (n : Name). locks_of s.memory n) same)) in
          subst (λ (o : Option Refusal). at_handle None
          (come_to {A = Unit {0}} o (λ why. s.memory) tt (row (Mfree k) choice s.memory).after).1.blocks h
          ≡ at_handle None s.memory.blocks h) e left
        where
          not-locked : (k : ℕ) → first_refusal (row (Mfree k) choice s.memory).refusals ≡ None
              → locks_of s.memory (mem k) ≡ locks_of s.memory (mem h) → ⊥
          not-locked k none same = passes (is_none (block_of s.memory (mem k))) (nat_lt 0 (locks_of s.memory (mem k))) none
              (rw same (lt-ltb 0 (locks_of s.memory (mem h)) locked))
            where
              passes : (a b : Bool) → first_refusal ((a, refusal.BadHandle) ∷ (b, refusal.Locked) ∷ []) ≡ None → b ≡ true → ⊥
              passes true b e is = absurd cc
              passes false true e is = absurd cc
              passes false false e is = absurd cc

      by : (call : KernelCall) → Aims moment opcode (Some call)
          → at_handle None (outcome (row call choice s.memory)).1.blocks h ≡ at_handle None s.memory.blocks h
      by Mnew aim = beside Mnew made
      by (Mlock k) aim = absurd (true≢false (sym aim.1 ∙ without))
      by (Mfree k) aim = freed k (first_refusal (row (Mfree k) choice s.memory).refusals) refl
      by (Unlock name) aim = beside (Unlock name) (not-held G.point.instr.a name aim.0)
      by (Changes name change) aim = beside (Changes name change) (in-slot name aim)
      by (Makes name make) aim = beside (Makes name make) (in-slot name aim)
      by (Store ref at bytes) aim = beside (Store ref at bytes) (in-slot ref.name aim)
      by (Copy to from n) aim = beside (Copy to from n) (in-slot to.name aim)
      by (Vnew uid) aim = beside (Vnew uid) (λ e. vm-mem _ h e)
      by (LockListed k) aim = beside (LockListed k) (λ e. vm-mem k h e)
      by (Vlock k) aim = beside (Vlock k) (λ e. vm-mem k h e)
      by (Vdirty k) aim = beside (Vdirty k) (λ e. vm-mem k h e)
      by (FreeListed k) aim = beside (FreeListed k) (λ e. vm-mem k h e)
      by (Vfree k) aim = beside (Vfree k) (λ e. vm-mem k h e)
      by Vupdate aim = beside Vupdate (λ (e : owner.Mem ≡ owner.Vm). absurd cc)
      by Vsave aim = beside Vsave (λ (e : owner.Mem ≡ owner.Vm). absurd cc)
      by Vrevert aim = beside Vrevert (λ (e : owner.Mem ≡ owner.Vm). absurd cc)
      by Gnew aim = beside Gnew (λ e. vm-mem _ h e)
      by (Gfree k) aim = beside (Gfree k) (λ e. vm-mem k h e)
      by (ChangesItem k change) aim = beside (ChangesItem k change) (λ e. vm-mem k h e)
      by (MakesItem k make) aim = beside (MakesItem k make) (λ e. vm-mem k h e)
      by (Ilock k i n) aim = beside (Ilock k i n) (λ e. vm-mem k h e)
      by call aim = beside call (λ e. e)

  -- what is stored of a block that is spared is the same after a call
  pub spares-stored : (call : KernelCall) → Aims moment opcode (Some call) → changes_file opcode ≡ false
      → is_own_in_file (state_at G.point.row changed) ≡ false → (h : ℕ)
      → ((a : ℕ) → slice_index_or base.lends a None ≡ Some (vm h) → lends G.point.row changed a ≡ false)
      → stored_at (outcome (row call choice s.memory)).1 h ≡ stored_at s.memory h
  spares-stored call aim without own h spared = by call aim
    where
      beside : (call : KernelCall) → (IsWithin (scope_of call s.memory) (vm h) → ⊥)
          → stored_at (outcome (row call choice s.memory)).1 h ≡ stored_at s.memory h
      beside call out = ap (option_map kept_block) ((rows_leave.others call choice s.memory).listed h out)

      never : {X : Type 0} → changes_file opcode ≡ true → X
      never is = absurd (true≢false (sym is ∙ without))

      -- the block that is marked or changed is another one
      slot-other : (name : Name) → InSlot moment opcode name → name ≡ vm h → ⊥
      slot-other name (a, is, held) same =
          let found = not-own s.memory (slot s a) (slot_state G.point.row a) h (slot-known s G.point.row a G.meets)
          (ap is_own_in_file (sym (state-is a is)) ∙ own) (held ∙ ap (λ (n : Name). Some n) same) in
          let lent_there : slice_index_or base.lends a None ≡ Some (vm h) =
          ap (λ (xs : List (Option Name)). slice_index_or xs a None) (sym G.sound.lends) ∙ lent-at s.slots a ∙ found.1 in
          let lends_there : lends G.point.row changed a ≡ true = rw (is, lends, eq-eqb a a refl, found.0) refl in
          true≢false (sym lends_there ∙ spared a lent_there)

      locked : (o : Option Refusal) (name : Name) (n : ℕ)
          → stored_at (come_to {A = Unit {0}} o (λ why. s.memory) tt (with_locks s.memory name n)).1 h ≡ stored_at s.memory h
      locked None name n = locks-store s.memory name n h
      locked (Some why) name n = refl

      by : (call : KernelCall) → Aims moment opcode (Some call) → stored_at (outcome (row call choice s.memory)).1 h ≡ stored_at s.memory h
      by Mnew aim = beside Mnew (λ e. mem-vm _ h e)
      by (Mlock k) aim = beside (Mlock k) (λ e. mem-vm k h e)
      by (Mfree k) aim = beside (Mfree k) (λ e. mem-vm k h e)
      by (Unlock name) aim = locks-store s.memory name (locks_of s.memory name - 1) h
      by (Changes name change) aim = beside (Changes name change) (slot-other name aim)
      by (Makes name make) aim = beside (Makes name make) (slot-other name aim)
      by (Store ref at bytes) aim = beside (Store ref at bytes) (slot-other ref.name aim)
      by (Copy to from n) aim = beside (Copy to from n) (slot-other to.name aim)
      by (Vnew uid) aim = never aim
      by (LockListed k) aim =
          locked (first_refusal (row (LockListed k) choice s.memory).refusals) (vm k) (locks_of s.memory (vm k) + 1)
      by (Vlock k) aim = locked (first_refusal (row (Vlock k) choice s.memory).refusals) (vm k) (locks_of s.memory (vm k) + 1)
      by (Vdirty k) aim = beside (Vdirty k) (slot-other (vm k) aim)
      by (FreeListed k) aim = never aim
      by (Vfree k) aim = never aim
      by Vupdate aim =
          committing (first_refusal (row Vupdate choice s.memory).refusals) choice s.memory (pair_to_keep keep_current s.memory) h refl
      by Vsave aim = committing (first_refusal (row Vsave choice s.memory).refusals) choice s.memory (pair_to_keep keep_saved s.memory) h refl
      by Vrevert aim = never aim
      by Gnew aim = never aim
      by (Gfree k) aim = never aim
      by (ChangesItem k change) aim = never aim
      by (MakesItem k make) aim = never aim
      by (Ilock k i n) aim = locked (first_refusal (row (Ilock k i n) choice s.memory).refusals) (vm k) (locks_of s.memory (vm k) + 1)
      by call aim = beside call (λ e. e)
