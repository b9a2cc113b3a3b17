-- Each step of an instruction that locks, marks or unlocks a block of the VM file goes well.
use Rattle.std.proofs.Common.{◌≡◌, ℕ, ◌+◌, Bool, true, false, not, List, Option, Some, None, ◌∷◌, get_or, set, refl, sym, ap, ◌∙◌, subst, arith}
use Rattle.std.specs.Prelude.{◌==◌, IsSome, is_none, option_map}
use Rattle.std.proofs.lemmas.Bool.{not-false}
use Rattle.std.proofs.lemmas.List.{get_or-set_same, set-get_or}
use Rattle.geos_terms.specs.declared.name.Owner.{Owner}
use Rattle.geos_terms.specs.declared.name.Owner.TheVariants as owner
use Rattle.geos_terms.specs.declared.refusal.Refusal.{Refusal}
use Rattle.geos_terms.specs.Names.{named, vm, group_uid}
use Rattle.geos_calls.specs.Directories.{uid_in}
use Rattle.geos_calls.specs.Directories as directories
use Rattle.geos_calls.specs.Memory.{Memory, Block, listed_at, is_group, is_marked, with_mark, block_of, chunks_in, locks_in, locks_of}
use Rattle.geos_calls.specs.Legal.{IsMemory}
use Rattle.geos_calls.specs.Effects.{Choice, Nothing, bringing}
use Rattle.geos_calls.specs.Calls.{locks_full, deref}
use Rattle.geos_calls.specs.VmCalls.{names_group, new_listed, no_listed, vnew}
use Rattle.geos_calls.specs.ItemCalls.{no_group, ilock}
use Rattle.geos_calls.specs.Leaving.{new_vm}
use Rattle.geos_calls.specs.Table.{Vnew}
use Rattle.geos_calls.specs.declared.call.Refer.TheVariants.{Deref}
use Rattle.geos_calls.proofs.HandleLists.{entry-kept, lowest-none}
use Rattle.geos_calls.proofs.Keeps.{rows_keep_memory}
use Rattle.geos_calls.proofs.Outcomes.{after-kept}
use Rattle.geos_calls.proofs.Leaves.{rows_leave}
use Rattle.geos_calls.proofs.NamedBlocks.{locks_of-mark, marked-set}
use Rattle.geos_calls.proofs.Passing.{none-behind}
use Rattle.geos_image.specs.declared.instr.Instr.{Instr}
use Rattle.geos_image.specs.declared.row.Row.{Row}
use Rattle.geos_image.specs.declared.row.SlotState.{SlotState}
use Rattle.geos_image.specs.declared.row.SlotState.TheVariants.{Empty, Vm, Db}
use Rattle.geos_opcodes.specs.declared.opcode.Opcode.TheVariants as op
use Rattle.geos_opcodes.specs.declared.uses.Kind.{Kind}
use Rattle.geos_opcodes.specs.declared.uses.Kind.TheVariants.{VmBlock, DbGroup}
use Rattle.geos_opcodes.specs.declared.uses.SlotUse.TheVariants.{LocksNew, Locks, Marks}
use Rattle.geos_verify.specs.Rows.{alike, marked_state, slot_state, slots_after}
use Rattle.geos_verify.specs.Potentials.{pays}
use Rattle.geos_verify.proofs.Passed.{passed}
use Rattle.geos_semantics.specs.Lists.{Each2}
use Rattle.geos_semantics.specs.State.{Held, owner_of, SlotReference, State, word, with_word, slot, kind_at, name_in, name_at, kept_pointers}
use Rattle.geos_semantics.specs.Faults.{is_unmarked_block}
use Rattle.geos_semantics.specs.Model.{holding, leading, marking}
use Rattle.geos_semantics.specs.Meets.{Base, Meets, Sound, SlotMeets, IsOfKind, SlotIsSound, name_held}
use Rattle.geos_semantics.proofs.Lists.{each2-get, each2-set}
use Rattle.geos_semantics.proofs.Memories.{same_name-is}
use Rattle.geos_semantics.proofs.NoFaults.{slot-sound, word-small}
use Rattle.geos_semantics.proofs.Stays.{block_of-beside, slots-left}
use Rattle.geos_semantics.proofs.Kept.{Leaves, sound-left, kept-nothing}
use Rattle.geos_semantics.proofs.Locking.{LocksInto, leads-there}
use Rattle.geos_semantics.proofs.Bounds.{empty-at}
use Rattle.geos_semantics.proofs.ChunkAnswers.{refer-led}
use Rattle.geos_semantics.proofs.Fine.{Fine, fine-word, fine-pointing}
use Rattle.geos_semantics.proofs.FineLocks.{locks-into, fine-locked, fine-made}
use Rattle.geos_semantics.proofs.Items.{block_of-mark, stays-marked, group-some}
use Rattle.geos_semantics.proofs.NewListed.{new-small, new-free, with_new, new-others, new-apart, stays-new}
use Rattle.geos_verify.proofs.Leads.{Leads}
use Rattle.geos_semantics.proofs.Moments.{Moment, Well, StepsWell, unfaulted-here, fields-here, along_edge, branch_edge, fine-goes}
use Rattle.geos_semantics.proofs.KernelSteps.{fine-unchanged, calls-well}
use Rattle.geos_semantics.proofs.BlockSteps.{locking-well, unlocking-well}

-- Blocks that are listed

listed-some : (listed : Option directories.VmBlock) → is_none listed ≡ false → IsSome (option_map (λ (l : directories.VmBlock). l.block) listed)
listed-some None h = absurd cc
listed-some (Some l) h = refl

some-listed : (listed : Option directories.VmBlock) → IsSome (option_map (λ (l : directories.VmBlock). l.block) listed) → is_none listed ≡ false
some-listed None h = absurd cc
some-listed (Some l) h = refl

locked-some : (o : Option Block) → locks_in o ≡ 1 → IsSome o
locked-some None h = absurd (omega (arith, h))
locked-some (Some b) h = refl

-- a block of the VM file that a slot holds is listed
listed-held : (m : Memory) (kind other : Kind) (h : ℕ) → owner_of kind ≡ owner.Vm → IsOfKind m other (named (owner_of other) h)
    → alike (Some other) (Some kind) ≡ true → is_none (listed_at m h) ≡ false
listed-held m VmBlock VmBlock h of is same = some-listed (listed_at m h) is.0
listed-held m DbGroup DbGroup h of is same = some-listed (listed_at m h) is.0
listed-held m _ _ h of is same = absurd cc

listed-at : (m : Memory) (kind : Kind) (o : Option Held) → owner_of kind ≡ owner.Vm → SlotIsSound m o
    → alike (option_map (λ (held : Held). held.kind) o) (Some kind) ≡ true → is_none (listed_at m (name_in o).h) ≡ false
listed-at m kind None of is same = absurd cc
listed-at m kind (Some held) of is same = listed-held m kind held.kind held.handle of is same

-- Blocks that are marked

marked-owned : (m : Memory) (o : Owner) (h : ℕ) → is_marked m h ≡ true → is_unmarked_block m o h ≡ false
marked-owned m owner.Mem h e = refl
marked-owned m owner.Vm h e = ap not e

-- of a slot whose block was marked its mark is known
slot-marked : (m : Memory) (o : Option Held) (x : SlotState) → SlotMeets m o x → is_marked m (name_in o).h ≡ true → SlotMeets m o (marked_state x)
slot-marked m None (Vm marked borrowed) k e = absurd k
slot-marked m None (Db marked) k e = absurd k
slot-marked m (Some held) (Vm marked borrowed) k e = (k.0, k.1, λ is. marked-owned m (owner_of held.kind) held.handle e)
slot-marked m (Some held) (Db marked) k e = (k.0, k.1, λ is. marked-owned m (owner_of held.kind) held.handle e)
slot-marked m _ _ k e = k

leaves-marked : (a : ℕ) (m : Memory) (h : ℕ) → IsMemory (with_mark m h true) → Leaves a Nothing m (with_mark m h true)
leaves-marked a m h legal = record {
  legal = legal;
  locks = λ name. locks_of-mark m h true name;
  held = λ held. stays-marked m h held;
  chunks = λ target fresh k. record {
    bytes = k.bytes;
    there = rw (ap chunks_in (block_of-mark m h true target.reference.name)) k.there;
    fits =
        k.fits;
  };
}

-- a block that a slot holds was marked
fine-marked : (base : Base) (s : State) (row : Row) (i : Instr) (kind : Kind) → Sound base s → Meets s row
    → is_none (listed_at s.memory (name_at s i.a).h) ≡ false → IsMemory (with_mark s.memory (name_at s i.a).h true)
    → Fine base s (record s { memory = with_mark s.memory (name_at s i.a).h true; pointers = kept_pointers i.a Nothing s.pointers })
    (record row { slots = slots_after i (Marks kind) row.slots })
fine-marked base s row i kind S M listed legal =
    let h = (name_at s i.a).h in
    let new = with_mark s.memory h true in
    let L = leaves-marked i.a s.memory h legal in
    let left = slots-left s.memory new s.slots row.slots (λ k held e. L.held held) M.slots in
    let now = marked-set s.memory h true listed in
    let same = slots-known new left in
    record {
      sound = sound-left base s i.a Nothing new S L;
      meets = record {
        words = M.words;
        slots = subst (λ held. Each2 (SlotMeets new) held (set row.slots i.a (marked_state (slot_state row i.a))))
            (set-get_or s.slots i.a None) (each2-set (SlotMeets new) s.slots row.slots i.a (slot s i.a)
            (marked_state (slot_state row i.a)) left (slot-marked new (slot s i.a) (slot_state row i.a) same now));
        pointers = kept-nothing i.a s.pointers row.pointers M.pointers;
        pairs = M.pairs;
      };
      routine = refl;
      stack = refl;
      counters = refl;
    }
  where
    slots-known : (new : Memory) → Each2 (SlotMeets new) s.slots row.slots → SlotMeets new (slot s i.a) (slot_state row i.a)
    slots-known new left = each2-get (SlotMeets new) s.slots row.slots i.a None Empty left tt

-- A block of the VM file is made and locked

-- a block of the VM file in a slot
abbrev held_vm : ℕ → Held
held_vm h = record { kind = VmBlock; handle = h; borrowed = false }

new-into : (base : Base) (s : State) (uid : ℕ) → (uid == group_uid) ≡ false → IsMemory (with_new s.memory uid 1)
    → locks_of (with_new s.memory uid 1) (new_vm s.memory) ≡ 1
    → LocksInto base s (held_vm (new_vm s.memory).h) (with_new s.memory uid 1)
new-into base s uid plain legal once =
    let m = s.memory in
    let h = (new_vm m).h in
    let new = with_new m uid 1 in
    let none : listed_at m h ≡ None = lowest-none m.file.cur.blocks in
    let was : locks_of m (new_vm m) ≡ 0 = ap locks_in (new-free m) in
    record {
      own = refl;
      legal = legal;
      is = (
        locked-some (block_of new (new_vm m)) once,
        entry-kept (λ l. (uid_in l == group_uid) ≡ false) m.file.cur.blocks h h (Some (new_listed uid 1)) None plain
            (ap (λ l. uid_in l == group_uid) none),
      );
      once = omega (arith, once, was);
      locks = λ other ne. ap locks_in (block_of-beside (new_vm m) m new (new-others m uid 1) other
          (λ same. let both : false ≡ true = sym ne ∙ same_name-is (new_vm m) other same in absurd cc));
      held = stays-new m uid 1;
      chunks = λ ref k.
          let same = block_of-beside (new_vm m) m new (new-others m uid 1) ref.name (new-apart m uid 1 ref.name (leads-there m ref k)) in
          record { bytes = k.bytes; there = rw (ap chunks_in same) k.there; fits = k.fits };
    }

-- a group in a slot
abbrev held_group : ℕ → Held
held_group h = record { kind = DbGroup; handle = h; borrowed = false }

module _ (moment : Moment) where
  open moment use {image, base, state as s, good as G}

  pub vnew-well : StepsWell moment op.Vnew
  vnew-well is choice =
      let i = G.point.instr in
      let uid = word s i.c in
      let a = (fields-here moment op.Vnew is).0 in
      let empty = empty-at s i.a (unfaulted-here moment op.Vnew is).empty in
      let m = s.memory in
      let h = (new_vm m).h in
      calls-well moment (LocksNew VmBlock) _ (vnew uid) (λ h t. holding VmBlock i.a h (with_word i.b h t)) choice
      (along_edge moment op.Vnew is refl) (branch_edge moment op.Vnew is refl) (λ r. fine-unchanged moment)
      (λ e.
      let pass = passed (vnew uid choice m).refusals e in
      let below = word-small base s i.c G.sound in
      let legal_after = after-kept (vnew uid choice m) (rows_keep_memory.by_vnew uid (omega (arith, below)) choice m G.sound.memory) e in
      let once = rows_leave.counts (Vnew uid) choice m tt e in
      let marked = rows_leave.marks (Vnew uid) choice m tt e in
      let L = new-into base s uid pass.0 legal_after once in
      let F = fine-made base s G.point.row G.sound G.meets i a (held_vm h) (with_new m uid 1) empty (new-free m) L
      (refl, refl, λ known. ap not marked) in
      let small = new-small m G.sound.memory in
      fine-word base s _ _ i.b h 65535 F small small)
      refl

  pub vlock-well : StepsWell moment op.Vlock
  vlock-well is =
      let h = word s G.point.instr.b in
      let refusals : Choice → Memory → List (Bool × Refusal) = λ choice m. no_listed m h ∷ names_group m h ∷ locks_full m
      (vm h) ∷ bringing choice m h in
      locking-well moment VmBlock refusals h (fields-here moment op.Vlock is).0 (unfaulted-here moment op.Vlock is).empty
      (along_edge moment op.Vlock is refl) (branch_edge moment op.Vlock is refl) (rows_keep_memory.by_vlock h)
      (λ choice e. let pass = passed (refusals choice s.memory) e in (listed-some (listed_at s.memory h) pass.0, pass.1.0))

  pub ilock-well : StepsWell moment op.Ilock
  ilock-well is choice =
      let i = G.point.instr in
      let m = s.memory in
      let g = word s i.c in
      let item = word s i.d in
      let a = (fields-here moment op.Ilock is).0 in
      let empty = empty-at s i.a (unfaulted-here moment op.Ilock is).empty in
      calls-well moment (Locks DbGroup) _ (ilock g item i.imm) (λ ref t. leading i.b i.a ref (holding DbGroup i.a g t))
      choice (along_edge moment op.Ilock is refl) (branch_edge moment op.Ilock is refl) (λ r. fine-unchanged moment)
      (λ e.
      let group : is_group m g ≡ true = not-false (is_group m g) (passed (ilock g item i.imm choice m).refusals e).0 in
      let own = none-behind (no_group m g ∷ locks_full m (vm g) ∷ bringing choice m g) (deref (vm g) item i.imm choice m).refusals e in
      let led = refer-led choice m (vm g) (Deref item i.imm) G.sound.memory own in
      let legal_after = after-kept (ilock g item i.imm choice m) (rows_keep_memory.by_ilock g item i.imm choice m G.sound.memory) e in
      let L = locks-into base s (held_group g) refl (group-some (listed_at m g) group, group) legal_after in
      let F = fine-locked base s G.point.row G.sound G.meets i a (held_group g) _ empty L in
      let target : SlotReference = record { slot = i.a; reference = (ilock g item i.imm choice m).answer } in
      let held : name_held (get_or (set s.slots i.a (Some (held_group g))) i.a None) ≡ Some (vm g) =
      ap name_held (get_or-set_same s.slots i.a (Some (held_group g)) None (omega (arith, a, G.sound.four))) in
      fine-pointing base s _ _ i.b target i.imm F (held, L.chunks target.reference led.0) led.1)
      refl

  -- the block of slot a, which is one of the VM file, was marked
  marking-well : (kind : Kind) → owner_of kind ≡ owner.Vm → not (alike (kind_at s G.point.instr.a) (Some kind)) ≡ false
      → Leads image s.routine G.routine (s.pc + 1) (record G.point.row { slots = slots_after G.point.instr (Marks kind) G.point.row.slots })
      (pays G.point.potential)
      → (choice : Choice) → Well moment (marking choice G.point.instr s)
  marking-well kind of right L choice =
      let i = G.point.instr in
      let h = (name_at s i.a).h in
      let listed = listed-at s.memory kind (slot s i.a) of (slot-sound base s i.a G.sound) (not-false (alike (kind_at s i.a) (Some kind)) right) in
      fine-goes moment _ (s.pc + 1) _ L (fine-marked base s G.point.row i kind G.sound G.meets listed
      (rows_keep_memory.by_vdirty h choice s.memory G.sound.memory))

  pub vdirty-well : StepsWell moment op.Vdirty
  vdirty-well is choice = marking-well VmBlock refl (unfaulted-here moment op.Vdirty is).right (along_edge moment op.Vdirty is refl) choice

  pub idirty-well : StepsWell moment op.Idirty
  idirty-well is choice = marking-well DbGroup refl (unfaulted-here moment op.Idirty is).right (along_edge moment op.Idirty is refl) choice

  pub vunlock-well : StepsWell moment op.Vunlock
  vunlock-well is choice = unlocking-well moment VmBlock (fields-here moment op.Vunlock is).0
      (unfaulted-here moment op.Vunlock is).right (along_edge moment op.Vunlock is refl) choice

  pub iunlock-well : StepsWell moment op.Iunlock
  iunlock-well is choice = unlocking-well moment DbGroup (fields-here moment op.Iunlock is).0
      (unfaulted-here moment op.Iunlock is).right (along_edge moment op.Iunlock is refl) choice
