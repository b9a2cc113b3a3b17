-- Each step of an instruction that writes the VM file goes well.
use Rattle.std.proofs.Common.{Bool, ◌≡◌, ℕ, zero, suc, ◌+◌, false, Option, Some, None, List, [], ◌∷◌, get_or, refl, sym, ap, ◌∙◌, subst, arith}
use Rattle.std.specs.List.{list_any}
use Rattle.std.proofs.lemmas.Bool.{or_parts, cond_both}
use Rattle.std.proofs.lemmas.List.Sums.{sum_by-cons}
use Rattle.geos_terms.specs.declared.name.Name.{Name}
use Rattle.geos_terms.specs.declared.refusal.Refusal.{Refusal}
use Rattle.geos_terms.specs.declared.refusal.Refusal.TheVariants as refusal
use Rattle.geos_terms.specs.Names.{mem, vm}
use Rattle.geos_calls.specs.Directories.{KeptBlock, Directory}
use Rattle.geos_calls.specs.Handles.{at_handle}
use Rattle.geos_calls.specs.VmFile.{Pair}
use Rattle.geos_calls.specs.Memory.{Memory, block_of, chunks_in, locks_of}
use Rattle.geos_calls.specs.Legal.{IsStored, IsPair, IsMemory}
use Rattle.geos_calls.specs.Effects.{Choice, Nothing}
use Rattle.geos_calls.specs.VmCalls.{Keeper, keep_current, keep_saved, keep_reverted, pair_to_keep, committed, in_doubt, left_by_commit, commit}
use Rattle.geos_calls.specs.Leaving.{NoneLocked}
use Rattle.geos_calls.proofs.KeepsFile.{pair-legal, left-legal, commit-kept}
use Rattle.geos_calls.proofs.Counted.{commit-counts}
use Rattle.geos_image.specs.declared.row.Row.{Row}
use Rattle.geos_opcodes.specs.declared.opcode.Opcode.TheVariants as op
use Rattle.geos_opcodes.specs.declared.uses.Kind.{Kind}
use Rattle.geos_opcodes.specs.declared.uses.Kind.TheVariants.{MemBlock, VmBlock, DbGroup}
use Rattle.geos_opcodes.specs.declared.uses.SlotUse.TheVariants.{Commits}
use Rattle.geos_verify.specs.Rows as rows
use Rattle.geos_verify.specs.Potentials.{pays}
use Rattle.geos_calls.proofs.Outcomes.{after-kept}
use Rattle.geos_semantics.specs.State.{Held, owner_of, name_of, SlotReference, State, slot, kept_pointer, kept_pointers}
use Rattle.geos_semantics.specs.Faults.{is_vm, holds_of_file}
use Rattle.geos_semantics.specs.Model.{calls, nowhere}
use Rattle.geos_semantics.specs.Meets.{Base, Meets, Sound, name_held, PointerIsSound, holds_once, holds}
use Rattle.geos_semantics.proofs.Stays.{Stays, HeldStay, slots-sound, slots-left}
use Rattle.geos_semantics.proofs.Kept.{Leaves, each-map, kept-nothing}
use Rattle.geos_verify.proofs.Leads.{Leads}
use Rattle.geos_semantics.proofs.Fine.{Fine, fine-nothing}
use Rattle.geos_semantics.proofs.Moments.{Moment, Well, StepsWell, unfaulted-here, along_edge, branch_edge}
use Rattle.geos_semantics.proofs.KernelSteps.{calls-well}
use Rattle.geos_semantics.proofs.FileSteps.{leaves-blocks}

-- Slots that hold no block of the file

-- none of them does
slot-free : (slots : List (Option Held)) (k : ℕ) → list_any holds_of_file slots ≡ false → holds_of_file (get_or slots k None) ≡ false
slot-free [] k free = refl
slot-free (x ∷ xs) zero free = (or_parts (holds_of_file x) (list_any holds_of_file xs) free).0
slot-free (x ∷ xs) (suc k) free = slot-free xs k (or_parts (holds_of_file x) (list_any holds_of_file xs) free).1

held-once : (h : ℕ) (held : Option Held) → holds_of_file held ≡ false → holds_once (vm h) held ≡ 0
held-once h None free = refl
held-once h (Some held) free = by held.kind refl free
  where
    by : (kind : Kind) → held.kind ≡ kind → is_vm (owner_of kind) ≡ false → holds_once (vm h) (Some held) ≡ 0
    by MemBlock is e = rw is refl
    by VmBlock is e = absurd cc
    by DbGroup is e = absurd cc

-- slots that hold no block of the file do not hold one of its names
pub none-held : (slots : List (Option Held)) (h : ℕ) → list_any holds_of_file slots ≡ false → holds slots (vm h) ≡ 0
none-held [] h free = refl
none-held (x ∷ xs) h free =
    let parts = or_parts (holds_of_file x) (list_any holds_of_file xs) free in
    omega (arith, sum_by-cons (holds_once (vm h)) x xs, held-once h x parts.0, none-held xs h parts.1)

-- then a block in a slot is in global memory
held-mem : (held : Held) → holds_of_file (Some held) ≡ false → held.kind ≡ MemBlock
held-mem held free = by held.kind free
  where
    by : (kind : Kind) → is_vm (owner_of kind) ≡ false → kind ≡ MemBlock
    by MemBlock e = refl
    by VmBlock e = absurd cc
    by DbGroup e = absurd cc

name-mem : (held : Option Held) (name : Name) → holds_of_file held ≡ false → name_held held ≡ Some name → name ≡ mem name.h
name-mem None name free e = absurd cc
name-mem (Some held) name free e =
    let same : name_of held ≡ name = cc in
    let here : name_of held ≡ mem held.handle = rw (held-mem held free) refl in
    let back = ap (λ (n : Name). n.h) (sym here ∙ same) in
    sym same ∙ here ∙ ap mem back

module _ (base : Base) (s : State) (row : Row) (S : Sound base s) (M : Meets s row) (a : ℕ) (free : list_any holds_of_file s.slots ≡ false) where
  -- no block of the file is locked
  none-locked : NoneLocked s.memory
  none-locked h = omega (arith, S.locks (vm h), S.none h, none-held s.slots h free)

  -- whatever becomes of the file, where global memory and the counts are as they were
  fine-beside : (new : Memory) → IsMemory new → new.blocks ≡ s.memory.blocks → ((name : Name) → locks_of new name ≡ locks_of s.memory name)
      → Fine base s (record s { memory = new; pointers = kept_pointers a Nothing s.pointers }) row
  fine-beside new legal blocks locks = record {
    sound = record {
      none = S.none;
      words = S.words;
      memory = legal;
      four = S.four;
      lends = S.lends;
      slots = slots-sound s.memory new s.slots stay S.slots;
      locks = λ name. locks name ∙ S.locks name;
      pointers = each-map (PointerIsSound s.memory s.slots) (PointerIsSound new s.slots) (kept_pointer a Nothing)
          pointer-beside s.pointers S.pointers;
    };
    meets = record {
      words = M.words;
      slots = slots-left s.memory new s.slots row.slots stay M.slots;
      pointers =
          kept-nothing a s.pointers row.pointers M.pointers;
      pairs = M.pairs;
    };
    routine = refl;
    stack = refl;
    counters = refl;
  }
    where
      block-same : (h : ℕ) → block_of new (mem h) ≡ block_of s.memory (mem h)
      block-same h = ap (λ entries. at_handle None entries h) blocks

      stay-mem : (h : ℕ) (borrowed : Bool) → Stays s.memory new (record { kind = MemBlock; handle = h; borrowed = borrowed })
      stay-mem h borrowed = record { is = λ k. rw (block-same h) k; mark = λ k. refl }

      stay : HeldStay s.memory new s.slots
      stay k held e =
          let here : held.kind ≡ MemBlock = held-mem held (ap holds_of_file (sym e) ∙ slot-free s.slots k free) in
          subst (λ kind. Stays s.memory new (record { kind = kind; handle = held.handle; borrowed = held.borrowed }))
          (sym here) (stay-mem held.handle held.borrowed)

      pointer-beside : (p : Option SlotReference) → PointerIsSound s.memory s.slots p → PointerIsSound new s.slots (kept_pointer a Nothing p)
      pointer-beside None k = tt
      pointer-beside (Some target) k =
          let name = target.reference.name in
          let here = name-mem (slot s target.slot) name (slot-free s.slots target.slot free) k.0 in
          let same : block_of new name ≡ block_of s.memory name = subst (λ n. block_of new n ≡ block_of s.memory n) (sym here) (block-same name.h) in
          (k.0, record { bytes = k.1.bytes; there = rw (ap chunks_in same) k.1.there; fits = k.1.fits })

-- what a refusal of a commit leaves has each block as it was
left-leaves : (a : ℕ) (choice : Choice) (m : Memory) (pair : Pair) (why : Refusal) → IsMemory (left_by_commit choice m pair why)
    → Leaves a Nothing m (left_by_commit choice m pair why)
left-leaves a choice m pair refusal.Disk legal =
    cond_both choice.unsure (in_doubt m pair) m (λ new. IsMemory new → Leaves a Nothing m new)
    (λ late is. leaves-blocks a m (in_doubt m pair) is refl refl) (λ early is. leaves-blocks a m m is refl refl) legal
left-leaves a choice m pair why legal = leaves-blocks a m m legal refl refl

module _ (moment : Moment) where
  open moment use {image, base, state as s, good as G}

  commit-well : (keeper : Keeper) → ((cur saved : Directory KeptBlock) → IsStored cur → IsStored saved → IsPair (keeper cur saved))
      → list_any holds_of_file s.slots ≡ false
      → Leads image s.routine G.routine (s.pc + 1) G.point.row (pays G.point.potential)
      → Leads image s.routine G.routine G.point.instr.target (rows.refused G.point.instr Commits G.point.row) (pays G.point.potential)
      → (choice : Choice) → Well moment (calls (commit keeper) nowhere choice G.point.instr s)
  commit-well keeper keeps free L B choice =
      let i = G.point.instr in
      let pair = pair_to_keep keeper s.memory in
      let legal_pair = pair-legal keeper s.memory keeps G.sound.memory in
      calls-well moment Commits G.point.row (commit keeper) nowhere choice L B
      (λ r. fine-nothing base s G.point.row G.sound G.meets i.a _
      (left-leaves i.a choice s.memory pair r (left-legal choice s.memory pair r legal_pair G.sound.memory)))
      (λ e.
      let legal_after = after-kept (commit keeper choice s.memory) (commit-kept keeper keeps choice s.memory G.sound.memory) e in
      let none = none-locked base s G.point.row G.sound G.meets i.a free in
      fine-beside base s G.point.row G.sound G.meets i.a free (committed s.memory pair) legal_after refl (commit-counts s.memory pair none))
      refl

  pub vupdate-well : StepsWell moment op.Vupdate
  vupdate-well is choice = commit-well keep_current (λ cur saved c s. (c, s)) (unfaulted-here moment op.Vupdate is).free
      (along_edge moment op.Vupdate is refl) (branch_edge moment op.Vupdate is refl) choice

  pub vsave-well : StepsWell moment op.Vsave
  vsave-well is choice = commit-well keep_saved (λ cur saved c s. (c, c)) (unfaulted-here moment op.Vsave is).free
      (along_edge moment op.Vsave is refl) (branch_edge moment op.Vsave is refl) choice

  pub vrevert-well : StepsWell moment op.Vrevert
  vrevert-well is choice = commit-well keep_reverted (λ cur saved c s. (s, s)) (unfaulted-here moment op.Vrevert is).free
      (along_edge moment op.Vrevert is refl) (branch_edge moment op.Vrevert is refl) choice
