-- What locks, unlocks, new blocks and freed ones do to a state that is sound and as a row says.
use Rattle.std.proofs.Common.{◌≡◌, ℕ, ◌+◌, ◌-◌, ◌<◌, Bool, true, false, Option, Some, None, get_or, set, refl, sym, ap, ◌∙◌, subst, arith}
use Rattle.std.specs.Prelude.{◌==◌, map, is_none, IsSome}
use Rattle.geos_terms.specs.declared.name.Name.{Name}
use Rattle.geos_terms.specs.declared.name.Owner.TheVariants as owner
use Rattle.geos_terms.specs.Names.{mem}
use Rattle.geos_calls.specs.Memory.{Memory, Block, new_heap, block_of, with_block, locked_block, locks_in, chunks_in, locks_of, with_locks, lowest_handle}
use Rattle.geos_calls.specs.Legal.{IsMemory}
use Rattle.geos_calls.specs.Effects.{Nothing, OfLock}
use Rattle.geos_calls.specs.Leaving.{OneBlock, LeavesOthers}
use Rattle.geos_image.specs.declared.instr.Instr.{Instr}
use Rattle.geos_image.specs.declared.row.Row.{Row}
use Rattle.geos_image.specs.declared.row.Pointer.{Pointer}
use Rattle.geos_image.specs.declared.row.SlotState.{SlotState}
use Rattle.geos_image.specs.declared.row.SlotState.TheVariants.{Empty}
use Rattle.geos_opcodes.specs.declared.uses.Kind.{Kind}
use Rattle.geos_opcodes.specs.declared.uses.Kind.TheVariants.{MemBlock}
use Rattle.geos_opcodes.specs.declared.uses.SlotUse.TheVariants.{LocksNew, Locks, Unlocks}
use Rattle.geos_verify.specs.Rows.{pairs_after, pointers_kept, slots_after, stale_where, slot_state, holds_kind, held_state}
use Rattle.geos_semantics.specs.Lists.{Each2}
use Rattle.geos_semantics.specs.State.{is_borrowed, Held, name_of, SlotReference, State, slot, same_name, kept_pointer, kept_pointers}
use Rattle.geos_semantics.specs.Meets.{Base, Meets, Sound, SlotMeets, PointerMeets, name_held, IsOfKind, SlotIsSound, PointerIsSound}
use Rattle.geos_semantics.proofs.Lists.{each2-set}
use Rattle.geos_semantics.proofs.Memories.{same_name-true, block_of-other, locks_of-set, locks_of-other, chunks_at-locked, lowest-free}
use Rattle.geos_semantics.proofs.Stays.{Stays, kind-some, kind-there, stays-from, stays-mapped, slots-left, meets-held}
use Rattle.geos_semantics.proofs.Kept.{kept-nothing, pointer-kept, each2-map}
use Rattle.geos_semantics.proofs.Locking.{LocksInto, GivesBack, there-some, sound-locked, sound-unlocked, held-stay, sound-freed, leads-there}
use Rattle.geos_semantics.proofs.NoFaults.{slot-sound}
use Rattle.geos_semantics.proofs.Apart.{pairs-without, pairs-new}
use Rattle.geos_semantics.proofs.Fine.{Fine}

none-some : {X : Type 0} (o : Option X) → o ≡ None → IsSome o → ⊥
none-some None e h = absurd cc
none-some (Some x) e h = absurd cc

-- memory after one lock more
pub locks-into : (base : Base) (s : State) (locked : Held) → locked.borrowed ≡ false → IsOfKind s.memory locked.kind (name_of locked)
    → IsMemory (with_locks s.memory (name_of locked) (locks_of s.memory (name_of locked) + 1))
    → LocksInto base s locked (with_locks s.memory (name_of locked) (locks_of s.memory (name_of locked) + 1))
locks-into base s locked own is legal =
    let name = name_of locked in
    let n = locks_of s.memory name + 1 in
    record {
      own = own;
      legal = legal;
      is = (stays-mapped s.memory (locked_block n) name locked).is is;
      once = locks_of-set s.memory name n (kind-there s.memory locked.kind name is);
      locks = λ other ne. locks_of-other s.memory name other n ne;
      held = λ other. stays-mapped s.memory (locked_block n) name other;
      chunks = λ ref h. record { bytes = h.bytes; there = rw (chunks_at-locked s.memory name ref.name n) h.there; fits = h.fits };
    }

-- a block that is there is not the one that is made
not-new : (m : Memory) (name other : Name) → block_of m name ≡ None → is_none (block_of m other) ≡ false → same_name name other ≡ false
not-new m name other none h = go (same_name name other) refl
  where
    go : (b : Bool) → same_name name other ≡ b → b ≡ false
    go false e = refl
    go true e = (let same = same_name-true name other e in let gone : is_none (block_of m other) ≡ true =
        subst (λ n. is_none (block_of m n) ≡ true) same (ap is_none none) in let both : false ≡ true = sym h ∙ gone in absurd cc)

-- a block as it is made and locked
abbrev pub new_block : Block
new_block = record { locks = 1; heap = new_heap }

-- a block of global memory in a slot
abbrev pub held_mem : ℕ → Held
held_mem h = record { kind = MemBlock; handle = h; borrowed = false }

-- what slots know stays so where a block of global memory is made
stays-made : (m : Memory) (h : ℕ) → block_of m (mem h) ≡ None → (held : Held) → Stays m (with_block m (mem h) (Some new_block)) held
stays-made m h free held =
    stays-from m (with_block m (mem h) (Some new_block)) held
    (λ there. ap is_none (block_of-other m (mem h) (name_of held) (Some new_block) (not-new m (mem h) (name_of held) free there)) ∙ there)
    refl refl

-- memory after a block was made and locked
pub makes-into : (base : Base) (s : State) (h : ℕ) → lowest_handle s.memory owner.Mem ≡ Some h
    → IsMemory (with_block s.memory (mem h) (Some new_block)) → LocksInto base s (held_mem h) (with_block s.memory (mem h) (Some new_block))
makes-into base s h lowest legal =
    let free = lowest-free s.memory h (Some new_block) lowest in
    let was : locks_of s.memory (mem h) ≡ 0 = ap locks_in free.0 in
    let now : locks_of (with_block s.memory (mem h) (Some new_block)) (mem h) ≡ 1 = ap locks_in free.1 in
    record {
      own = refl;
      legal = legal;
      is = there-some (block_of (with_block s.memory (mem h) (Some new_block)) (mem h)) (ap is_none free.1);
      once = omega (arith, was, now);
      locks = λ other ne. ap locks_in (block_of-other s.memory (mem h) other (Some new_block) ne);
      held = stays-made s.memory h free.0;
      chunks = λ ref k.
          let ne = not-new s.memory (mem h) ref.name free.0 (leads-there s.memory ref k) in
          record { bytes = k.bytes; there = rw (ap chunks_in (block_of-other s.memory (mem h) ref.name (Some new_block) ne)) k.there; fits = k.fits };
    }

-- memory after an unlock
pub unlocks : (s : State) (name : Name) → is_none (block_of s.memory name) ≡ false
    → IsMemory (with_locks s.memory name (locks_of s.memory name - 1)) → GivesBack s name (with_locks s.memory name (locks_of s.memory name - 1))
unlocks s name there legal =
    let n = locks_of s.memory name - 1 in
    record {
      legal = legal;
      once = locks_of-set s.memory name n there;
      locks = λ other ne. locks_of-other s.memory name other n ne;
      held = λ other. stays-mapped s.memory (locked_block n) name other;
      chunks = λ ref h. record { bytes = h.bytes; there = rw (chunks_at-locked s.memory name ref.name n) h.there; fits = h.fits };
    }

module _ (base : Base) (s : State) (row : Row) (S : Sound base s) (M : Meets s row) (i : Instr) (within : i.a < 4) where
  -- an empty slot gets a block, with the state that the row knows
  locked-slots : (locked : Held) (state : SlotState) (new : Memory) → LocksInto base s locked new
      → SlotMeets new (Some locked) state → Each2 (SlotMeets new) (set s.slots i.a (Some locked)) (set row.slots i.a state)
  locked-slots locked state new L known = each2-set (SlotMeets new) s.slots row.slots i.a (Some locked) state
      (slots-left s.memory new s.slots row.slots (λ k held e. L.held held) M.slots) known

  -- a block is locked once more
  pub fine-locked : (locked : Held) (new : Memory) → slot s i.a ≡ None → LocksInto base s locked new
      → Fine base s (record s { memory = new; slots = set s.slots i.a (Some locked); pointers = kept_pointers i.a Nothing s.pointers })
      (record row { slots = slots_after i (Locks locked.kind) row.slots; pairs = pairs_after i (Locks locked.kind) row })
  fine-locked locked new empty L = record {
    sound = sound-locked base s i.a locked new S within empty L;
    meets = record {
      words = M.words;
      slots = locked-slots locked (held_state locked.kind false) new L (meets-held new locked L.own);
      pointers = kept-nothing i.a s.pointers row.pointers M.pointers;
      pairs = pairs-without s.slots i.a (Some locked) row.pairs M.pairs;
    };
    routine = refl;
    stack = refl;
    counters = refl;
  }

  -- no slot holds a block that is not there
  not-held-yet : (name : Name) → block_of s.memory name ≡ None → (k : ℕ) → name_held (get_or s.slots k None) ≡ Some name → ⊥
  not-held-yet name none k e = go (slot s k) e (slot-sound base s k S)
    where
      go : (o : Option Held) → name_held o ≡ Some name → SlotIsSound s.memory o → ⊥
      go None e h = absurd cc
      go (Some held) e h = (let same : name_of held ≡ name = cc in none-some (block_of s.memory (name_of held))
          (ap (block_of s.memory) same ∙ none) (kind-some s.memory held.kind (name_of held) h))

  -- a block is made and locked
  pub fine-made : (locked : Held) (new : Memory) → slot s i.a ≡ None → block_of s.memory (name_of locked) ≡ None
      → LocksInto base s locked new → SlotMeets new (Some locked) (held_state locked.kind true)
      → Fine base s (record s { memory = new; slots = set s.slots i.a (Some locked); pointers = kept_pointers i.a Nothing s.pointers })
      (record row { slots = slots_after i (LocksNew locked.kind) row.slots; pairs = pairs_after i (LocksNew locked.kind) row })
  fine-made locked new empty free L known = record {
    sound = sound-locked base s i.a locked new S within empty L;
    meets = record {
      words = M.words;
      slots = locked-slots locked (held_state locked.kind true) new L known;
      pointers = kept-nothing i.a s.pointers row.pointers M.pointers;
      pairs = pairs-new s.slots i.a locked (λ b. holds_kind locked.kind (slot_state row b)) row.pairs empty
          (not-held-yet (name_of locked) free) M.pairs;
    };
    routine = refl;
    stack = refl;
    counters = refl;
  }

  unlocked-pointers : (name : Name) → Each2 PointerMeets (kept_pointers i.a (OfLock name) s.pointers) (map (stale_where (λ b. b == i.a)) row.pointers)
  unlocked-pointers name = each2-map (PointerIsSound s.memory s.slots) PointerMeets PointerMeets (kept_pointer i.a (OfLock name))
      (stale_where (λ b. b == i.a)) one s.pointers row.pointers S.pointers M.pointers
    where
      one : (p : Option SlotReference) (q : Option Pointer) → PointerIsSound s.memory s.slots p → PointerMeets p q
          → PointerMeets (kept_pointer i.a (OfLock name) p) (stale_where (λ b. b == i.a) q)
      one p q sound m = pointer-kept i.a (OfLock name) (λ b. b == i.a) p q (λ target is r known slot_is test. rw slot_is test) m

  -- a block is unlocked, and its slot becomes empty
  pub fine-unlocked : (kind : Kind) (name : Name) (new : Memory) → name_held (slot s i.a) ≡ Some name
      → is_borrowed (slot s i.a) ≡ false → GivesBack s name new
      → Fine base s (record s { memory = new; slots = set s.slots i.a None; pointers = kept_pointers i.a (OfLock name) s.pointers })
      (record row {
        slots = slots_after i (Unlocks kind) row.slots;
        pointers = pointers_kept i (Unlocks kind) row;
        pairs =
            pairs_after i (Unlocks kind) row;
      })
  fine-unlocked kind name new full own U = record {
    sound = sound-unlocked base s i.a name new S within full own U;
    meets = record {
      words = M.words;
      slots = each2-set (SlotMeets new) s.slots row.slots i.a None Empty (slots-left s.memory new s.slots row.slots (λ k held e. U.held held) M.slots)
          tt;
      pointers = unlocked-pointers name;
      pairs = pairs-without s.slots i.a None row.pairs M.pairs;
    };
    routine = refl;
    stack = refl;
    counters = refl;
  }

-- a block that no one holds is freed
pub fine-freed : (base : Base) (s : State) (row : Row) (S : Sound base s) (M : Meets s row) (a : ℕ) (name : Name) (new : Memory)
    → locks_of s.memory name ≡ 0 → IsMemory new → LeavesOthers (OneBlock name) s.memory new → locks_of new name ≡ 0
    → Fine base s (record s { memory = new; pointers = kept_pointers a Nothing s.pointers }) row
fine-freed base s row S M a name new free legal L gone = record {
  sound = sound-freed base s a name new S free legal L gone;
  meets = record {
    words = M.words;
    slots = slots-left s.memory new s.slots row.slots (held-stay base s a name new S free legal L gone) M.slots;
    pointers = kept-nothing a s.pointers row.pointers M.pointers;
    pairs = M.pairs;
  };
  routine = refl;
  stack = refl;
  counters = refl;
}
