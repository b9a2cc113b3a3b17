-- Which call of the kernel an instruction is, if it may change memory.
use Rattle.std.proofs.Common.{◌≡◌, ℕ, Bool, true, false, Option, Some, None, refl}
use Rattle.std.specs.Option.{is_some}
use Rattle.geos_calls.specs.Memory.{Memory}
use Rattle.geos_calls.specs.Leaving.{keeper_of, MapsBlock, MapsItem, Saves}
use Rattle.geos_calls.specs.Table.{KernelCall, Mnew, Mlock, Mfree, Unlock, Changes, Makes, Store, Copy, Vnew, Vlock, Vdirty, FreeListed, Vfree, Vsetmap, Vupdate, Vsave, Vrevert, Gnew, Gfree, ChangesItem, MakesItem, Ilock, Isetmap}
use Rattle.geos_calls.specs.declared.call.Change.{Change}
use Rattle.geos_calls.specs.declared.call.Change.TheVariants as change
use Rattle.geos_calls.specs.declared.call.Make.TheVariants as make
use Rattle.geos_opcodes.specs.declared.opcode.Opcode.{Opcode}
use Rattle.geos_opcodes.specs.declared.opcode.Opcode.TheVariants as op
use Rattle.geos_opcodes.specs.declared.uses.Width.{Width}
use Rattle.geos_opcodes.specs.declared.uses.Width.TheVariants.{Byte, Both}
use Rattle.geos_image.specs.declared.instr.Instr.{Instr}
use Rattle.geos_semantics.specs.State.{State, word, name_at, reference_at}
use Rattle.geos_semantics.specs.Model.{low_bytes}
use Rattle.geos_grants.specs.Effects.{maps, commits}

-- a change of the chunks of the block in slot a
abbrev pub changes_in : Instr → State → Change → Option KernelCall
changes_in i s change = Some (Changes (name_at s i.a) change)

-- a write through pointer b at an offset
abbrev pub writes_at : Instr → State → Width → ℕ → Option KernelCall
writes_at i s width at = Some (Store (reference_at s i.b) at (low_bytes width (word s i.a)))

-- the call that the instruction is, if it may change memory
abbrev pub asked : Instr → Opcode → State → Option KernelCall
asked i op.Mnew s = Some Mnew
asked i op.Mlock s = Some (Mlock (word s i.b))
asked i op.Munlock s = Some (Unlock (name_at s i.a))
asked i op.Mfree s = Some (Mfree (word s i.a))
asked i op.Lalloc s = Some (Makes (name_at s i.a) (make.Lalloc (word s i.c)))
asked i op.Lfree s = changes_in i s (change.Lfree (word s i.b))
asked i op.Lrealloc s = changes_in i s (change.Lrealloc (word s i.b) (word s i.c))
asked i op.Lins s = changes_in i s (change.Lins (word s i.b) (word s i.c) (word s i.d))
asked i op.Ldel s = changes_in i s (change.Ldel (word s i.b) (word s i.c) (word s i.d))
asked i op.Lcontract s = changes_in i s change.Lcontract
asked i op.Stb s = writes_at i s Byte i.imm
asked i op.Stw s = writes_at i s Both i.imm
asked i op.Stxb s = writes_at i s Byte (word s i.c)
asked i op.Stxw s = writes_at i s Both (word s i.c)
asked i op.Stcb s = writes_at i s Byte (word s i.c)
asked i op.Stcw s = writes_at i s Both (word s i.c)
asked i op.Copy s = Some (Copy (reference_at s i.a) (reference_at s i.b) i.imm)
asked i op.Canew s = Some (Makes (name_at s i.a) (make.Canew i.imm))
asked i op.Caadd s = changes_in i s (change.Caadd (word s i.b) (word s i.c))
asked i op.Cains s = changes_in i s (change.Cains (word s i.b) (word s i.c) (word s i.d))
asked i op.Cadel s = changes_in i s (change.Cadel (word s i.b) (word s i.c))
asked i op.Cazero s = changes_in i s (change.Cazero (word s i.b))
asked i op.Caresize s = changes_in i s (change.Caresize (word s i.b) (word s i.c) (word s i.d))
asked i op.Vnew s = Some (Vnew (word s i.c))
asked i op.Vlock s = Some (Vlock (word s i.b))
asked i op.Vdirty s = Some (Vdirty (name_at s i.a).h)
asked i op.Vunlock s = Some (Unlock (name_at s i.a))
asked i op.Vfree s = Some (Vfree (word s i.a))
asked i op.Vsetmap s = Some (Vsetmap (word s i.a))
asked i op.Vupdate s = Some Vupdate
asked i op.Vsave s = Some Vsave
asked i op.Vrevert s = Some Vrevert
asked i op.Gnew s = Some Gnew
asked i op.Gfree s = Some (Gfree (word s i.a))
asked i op.Inew s = Some (MakesItem (word s i.b) (make.Lalloc (word s i.c)))
asked i op.Ifree s = Some (ChangesItem (word s i.a) (change.Lfree (word s i.b)))
asked i op.Irealloc s = Some (ChangesItem (word s i.a) (change.Lrealloc (word s i.b) (word s i.c)))
asked i op.Iins s = Some (ChangesItem (word s i.a) (change.Lins (word s i.b) (word s i.c) (word s i.d)))
asked i op.Idel s = Some (ChangesItem (word s i.a) (change.Ldel (word s i.b) (word s i.c) (word s i.d)))
asked i op.Ilock s = Some (Ilock (word s i.c) (word s i.d) i.imm)
asked i op.Idirty s = Some (Vdirty (name_at s i.a).h)
asked i op.Iunlock s = Some (Unlock (name_at s i.a))
asked i op.Isetmap s = Some (Isetmap (word s i.a) (word s i.b))
asked i _ s = None

-- Commits

-- the call is a commit
abbrev pub is_commit : Option KernelCall → Bool
is_commit None = false
is_commit (Some call) = is_some (keeper_of call)

pub no-commit : (i : Instr) (opcode : Opcode) (s : State) → commits opcode ≡ false → is_commit (asked i opcode s) ≡ false
no-commit i op.Vupdate s h = absurd cc
no-commit i op.Vsave s h = absurd cc
no-commit i op.Vrevert s h = absurd cc
no-commit i _ s h = refl

none-of : {X : Type 0} (o : Option X) → is_some o ≡ false → o ≡ None
none-of None h = refl
none-of (Some x) h = absurd cc

pub no-keeper : (call : KernelCall) → is_commit (Some call) ≡ false → keeper_of call ≡ None
no-keeper call h = none-of (keeper_of call) h

pub no-save : (call : KernelCall) → is_commit (Some call) ≡ false → Saves call → ⊥
no-save Vsave h is = absurd cc
no-save _ h is = is

-- What is mapped

-- the call may change what is mapped
abbrev pub is_map : Option KernelCall → Bool
is_map None = false
is_map (Some (Vsetmap h)) = true
is_map (Some (Isetmap g item)) = true
is_map (Some (FreeListed h)) = true
is_map (Some (Vfree h)) = true
is_map (Some (Gfree g)) = true
is_map (Some Vrevert) = true
is_map (Some _) = false

pub no-map : (i : Instr) (opcode : Opcode) (s : State) → maps opcode ≡ false → is_map (asked i opcode s) ≡ false
no-map i op.Vfree s h = absurd cc
no-map i op.Gfree s h = absurd cc
no-map i op.Vsetmap s h = absurd cc
no-map i op.Isetmap s h = absurd cc
no-map i op.Vrevert s h = absurd cc
no-map i _ s h = refl

pub no-block_map : (call : KernelCall) (memory : Memory) → is_map (Some call) ≡ false → MapsBlock call memory → ⊥
no-block_map (Vsetmap h) memory without is = absurd cc
no-block_map (Isetmap g item) memory without is = absurd cc
no-block_map (FreeListed h) memory without is = absurd cc
no-block_map (Vfree h) memory without is = absurd cc
no-block_map (Gfree g) memory without is = absurd cc
no-block_map Vrevert memory without is = absurd cc
no-block_map _ memory without is = is

pub no-item_map : (call : KernelCall) (memory : Memory) → is_map (Some call) ≡ false → MapsItem call memory → ⊥
no-item_map (Vsetmap h) memory without is = absurd cc
no-item_map (Isetmap g item) memory without is = absurd cc
no-item_map (FreeListed h) memory without is = absurd cc
no-item_map (Vfree h) memory without is = absurd cc
no-item_map (Gfree g) memory without is = absurd cc
no-item_map Vrevert memory without is = absurd cc
no-item_map _ memory without is = is
