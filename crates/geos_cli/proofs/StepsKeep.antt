-- A call that may not commit leaves what the device holds as it was, step by step.
use Rattle.std.proofs.Common.{◌≡◌, ℕ, ◌+◌, ◌-◌, ◌≤◌, ◌==◌, Bool, true, false, if◌then◌else◌, List, [], ◌∷◌, ◌++◌, Option, Some, None, length, refl, sym, ap, ◌∙◌, subst}
use Rattle.std.specs.Prelude.{Result, Ok, Err, nat_le, nat_lt}
use Rattle.geos_terms.specs.declared.refusal.Refusal.{Refusal}
use Rattle.geos_terms.specs.declared.refusal.Refusal.TheVariants.{Full, Range}
use Rattle.geos_terms.specs.Names.{vm}
use Rattle.geos_terms.specs.Refusals.{first_refusal}
use Rattle.geos_calls.specs.Memory.{Memory}
use Rattle.geos_calls.specs.VmFile.{Kept}
use Rattle.geos_calls.specs.Effects.{Choice, Call, Nothing, Reference, come_to, outcome, unchanged}
use Rattle.geos_calls.specs.declared.call.Change.{Change}
use Rattle.geos_calls.specs.declared.call.Change.TheVariants as change
use Rattle.geos_calls.specs.declared.call.Make.{Make}
use Rattle.geos_calls.specs.declared.call.Make.TheVariants as make
use Rattle.geos_calls.specs.declared.call.Ask.{Ask}
use Rattle.geos_calls.specs.declared.call.Ask.TheVariants as ask
use Rattle.geos_calls.specs.declared.call.Refer.{Refer}
use Rattle.geos_calls.specs.declared.call.Refer.TheVariants as refer
use Rattle.geos_calls.specs.Calls.{mnew, mlock, unlock, mfree, load8, load16, store, copy}
use Rattle.geos_calls.specs.VmCalls.{vnew, vlock, vdirty, vfree, vfind, vuid, vgetmap, vsetmap}
use Rattle.geos_calls.specs.ItemCalls.{on_group, gnew, gfree, ilock, igetmap, isetmap}
use Rattle.geos_calls.specs.ChunkCalls.{change_row, make_row, ask_row, refer_row}
use Rattle.geos_calls.specs.Table as table
use Rattle.geos_calls.specs.Leaving.{keeper_of}
use Rattle.geos_calls.proofs.Leaves.{rows_leave}
use Rattle.geos_opcodes.specs.declared.opcode.Opcode.{Opcode}
use Rattle.geos_opcodes.specs.declared.opcode.Opcode.TheVariants as op
use Rattle.geos_opcodes.specs.declared.uses.Kind.TheVariants.{MemBlock, VmBlock, DbGroup}
use Rattle.geos_opcodes.specs.declared.uses.Width.{Width}
use Rattle.geos_opcodes.specs.declared.uses.Width.TheVariants.{Byte, Both}
use Rattle.geos_image.specs.declared.instr.Instr.{Instr}
use Rattle.geos_image.specs.Parts.{Parts, start_of}
use Rattle.geos_verify.specs.Uses.{bytes_in}
use Rattle.geos_semantics.specs.Lists.{Each}
use Rattle.geos_semantics.specs.State.{Frame, SlotReference, State, word, with_word, counter, with_counter, with_slot, name_at, same_name, reference_at, kept_pointers, goto, along}
use Rattle.geos_semantics.specs.Model.{Outcome, Fault, Next, Done, branch, answer, answered, calls, nowhere, holding, leading, return_to, most_returns, most_output, changing, making, asking, referring, unlocking, marking, changing_items, making_item, load, low_bytes, within, reads, writes, reads_within, writes_within, exec}
use Rattle.script_commands.specs.MayCommit.{commits}

-- control is in a routine up to r, and so are all returns on the stack
abbrev pub IsUpTo : ℕ → State → Type 0
IsUpTo r s = (s.routine ≤ r) × Each (λ (frame : Frame). frame.routine ≤ r) s.stack

-- a step leaves the device's contents unchanged
abbrev pub Keeps : Kept → ℕ → Outcome → Type 0
Keeps kept r Fault = Unit {0}
Keeps kept r (Next t) = (t.memory.file.kept ≡ kept) × IsUpTo r t
Keeps kept r (Done t) = t.memory.file.kept ≡ kept

-- the result of a call changes only registers
abbrev Puts : {A : Type 0} → (A → State → State) → Type 0
Puts {A} put = (x : A) (t : State) → ((put x t).memory ≡ t.memory) × ((put x t).routine ≡ t.routine) × ((put x t).stack ≡ t.stack)

-- what a call answers changes nothing in memory
unanswered-same : {A : Type 0} (o : Option Refusal) (left : Refusal → Memory) (x : A) (after : Memory)
    → (come_to {A = Unit {0}} o left tt after).1 ≡ (come_to o left x after).1
unanswered-same None left x after = refl
unanswered-same (Some why) left x after = refl

module _ (kept : Kept) (r : ℕ) (choice : Choice) (i : Instr) (s : State) (same : s.memory.file.kept ≡ kept) (below : IsUpTo r s) where
  branch-keeps : (b : Bool) → Keeps kept r (branch b i s)
  branch-keeps true = (same, below)
  branch-keeps false = (same, below)

  loop-keeps : (b : Bool) (n : ℕ) → Keeps kept r (if b then Next (goto i.target (with_counter i.a n s)) else Next (along s))
  loop-keeps true n = (same, below)
  loop-keeps false n = (same, below)

  out-keeps : (o : Option Refusal) (words : List ℕ) → Keeps kept r (answer i o s (record s { output = words }))
  out-keeps None words = (same, below)
  out-keeps (Some why) words = (same, below)

  call-keeps : (image : Parts) (b : Bool) → i.imm ≤ r
      → Keeps kept r (if b then Next
      (record s { routine = i.imm; pc = start_of image.routines i.imm; stack = record { routine = s.routine; pc = s.pc + 1 } ∷ s.stack }) else
      Fault)
  call-keeps image true low = (same, (low, below))
  call-keeps image false low = tt

  return-keeps : (stack : List Frame) → Each (λ (frame : Frame). frame.routine ≤ r) stack → Keeps kept r (return_to s stack)
  return-keeps [] each = same
  return-keeps (frame ∷ stack) each = (same, each)

  answered-keeps : {A : Type 0} (put : A → State → State) → Puts put → (pointers : List (Option SlotReference)) (p : Result A Refusal × Memory)
      → p.1.file.kept ≡ kept
      → Keeps kept r (answered i put (record s { pointers = pointers }) p)
  answered-keeps put puts pointers (Ok x, memory) k =
      let here = puts x (record s { pointers = pointers; memory = memory }) in (
        ap (λ (m : Memory). m.file.kept) here.0
            ∙ k,
        (subst (λ n. n ≤ r) (sym here.1) below.0, subst (Each (λ (frame : Frame). frame.routine ≤ r)) (sym here.2) below.1),
      )
  answered-keeps put puts pointers (Err why, memory) k = (k, below)

  -- a call of the table that is no commit
  row-keeps : {A : Type 0} (row : Call A) (put : A → State → State) → Puts put → (call : table.KernelCall) → keeper_of call ≡ None
      → (outcome (row choice s.memory)).1 ≡ (outcome (table.row call choice s.memory)).1 → Keeps kept r (calls row put choice i s)
  row-keeps row put puts call none is =
      answered-keeps put puts (kept_pointers i.a (row choice s.memory).stale s.pointers) (outcome (row choice s.memory))
      (ap (λ (m : Memory). m.file.kept) is ∙ (rows_leave.file call choice s.memory).kept none ∙ same)

  told : {A : Type 0} (row : Call A) → (outcome (row choice s.memory)).1 ≡ (outcome (table.unanswered row choice s.memory)).1
  told row =
      let e = row choice s.memory in
      sym (unanswered-same (first_refusal e.refusals) e.left e.answer e.after)

  tested : {A : Type 0} (b : Bool) (why : Refusal) (x : A) (after : Memory) → after.file.kept ≡ kept
      → (come_to (if b then Some why else None) (unchanged s.memory) x after).1.file.kept ≡ kept
  tested true why x after k = same
  tested false why x after k = k

  load-keeps : (width : Width) (at : ℕ) → Keeps kept r (reads width at choice i s)
  load-keeps Byte at = answered-keeps (with_word i.a) (λ x t. (refl, refl, refl)) (kept_pointers i.a Nothing s.pointers)
      (outcome (load8 (reference_at s i.b) at choice s.memory)) same
  load-keeps Both at = answered-keeps (with_word i.a) (λ x t. (refl, refl, refl)) (kept_pointers i.a Nothing s.pointers)
      (outcome (load16 (reference_at s i.b) at choice s.memory)) same

  load_within-keeps : (width : Width) (at : ℕ) → Keeps kept r (reads_within width at choice i s)
  load_within-keeps Byte at =
      let ref = reference_at s i.b in
      answered-keeps (with_word i.a) (λ x t. (refl, refl, refl)) _ (outcome (within ref at Byte (load Byte ref at) choice s.memory))
      (tested (nat_lt ref.len (at + bytes_in Byte)) Range (load8 ref at choice s.memory).answer s.memory same)
  load_within-keeps Both at =
      let ref = reference_at s i.b in
      answered-keeps (with_word i.a) (λ x t. (refl, refl, refl)) _ (outcome (within ref at Both (load Both ref at) choice s.memory))
      (tested (nat_lt ref.len (at + bytes_in Both)) Range (load16 ref at choice s.memory).answer s.memory same)

  stored : (ref : Reference) (at : ℕ) (bytes : List ℕ) → (store ref at bytes choice s.memory).after.file.kept ≡ kept
  stored ref at bytes = (rows_leave.file (table.Store ref at bytes) choice s.memory).kept refl ∙ same

  store-keeps : (width : Width) (at : ℕ) → Keeps kept r (writes width at choice i s)
  store-keeps width at =
      let ref = reference_at s i.b in
      let bytes = low_bytes width (word s i.a) in
      answered-keeps nowhere (λ x t. (refl, refl, refl)) (kept_pointers i.a Nothing s.pointers)
      (outcome (store ref at bytes choice s.memory)) (stored ref at bytes)

  store_within-keeps : (width : Width) (at : ℕ) → Keeps kept r (writes_within width at choice i s)
  store_within-keeps width at =
      let ref = reference_at s i.b in
      let bytes = low_bytes width (word s i.a) in
      answered-keeps nowhere (λ x t. (refl, refl, refl)) _ (outcome (within ref at width (store ref at bytes) choice s.memory))
      (tested (nat_lt ref.len (at + bytes_in width)) Range tt (store ref at bytes choice s.memory).after (stored ref at bytes))

  change-keeps : (change : Change) → Keeps kept r (changing change choice i s)
  change-keeps change = row-keeps (change_row (name_at s i.a) change) nowhere (λ x t. (refl, refl, refl))
      (table.Changes (name_at s i.a) change) refl refl

  make-keeps : (make : Make) → Keeps kept r (making make choice i s)
  make-keeps make = row-keeps (make_row (name_at s i.a) make) (with_word i.b) (λ x t. (refl, refl, refl))
      (table.Makes (name_at s i.a) make) refl (told (make_row (name_at s i.a) make))

  ask-keeps : (ask : Ask) → Keeps kept r (asking ask choice i s)
  ask-keeps ask = row-keeps (ask_row (name_at s i.a) ask) (with_word i.b) (λ x t. (refl, refl, refl))
      (table.Asks (name_at s i.a) ask) refl (told (ask_row (name_at s i.a) ask))

  refer-keeps : (refer : Refer) → Keeps kept r (referring refer choice i s)
  refer-keeps refer = row-keeps (refer_row (name_at s i.a) refer) (leading i.b i.a) (λ x t. (refl, refl, refl))
      (table.Refers (name_at s i.a) refer) refl (told (refer_row (name_at s i.a) refer))

  unlock-keeps : Keeps kept r (unlocking choice i s)
  unlock-keeps = row-keeps (unlock (name_at s i.a)) (λ done t. with_slot i.a None t) (λ x t. (refl, refl, refl))
      (table.Unlock (name_at s i.a)) refl refl

  mark-keeps : Keeps kept r (marking choice i s)
  mark-keeps = row-keeps (vdirty (name_at s i.a).h) nowhere (λ x t. (refl, refl, refl)) (table.Vdirty (name_at s i.a).h) refl refl

  change_item-keeps : (g : ℕ) (change : Change) → Keeps kept r (changing_items g change choice i s)
  change_item-keeps g change = row-keeps (on_group g (change_row (vm g) change)) nowhere (λ x t. (refl, refl, refl))
      (table.ChangesItem g change) refl refl

  make_item-keeps : (g : ℕ) (make : Make) → Keeps kept r (making_item g make choice i s)
  make_item-keeps g make =
      row-keeps (on_group g (make_row (vm g) make)) (with_word i.a) (λ x t. (refl, refl, refl)) (table.MakesItem g make)
      refl (told (on_group g (make_row (vm g) make)))

  -- an instruction that does not commit
  pub exec-keeps : (image : Parts) (opcode : Opcode) → commits opcode ≡ false → (opcode ≡ op.Call → i.imm ≤ r)
      → Keeps kept r (exec image choice i opcode s)
  exec-keeps image op.Ldi never low = (same, below)
  exec-keeps image op.Mov never low = (same, below)
  exec-keeps image op.Add never low = (same, below)
  exec-keeps image op.Sub never low = (same, below)
  exec-keeps image op.And never low = (same, below)
  exec-keeps image op.Shr never low = (same, below)
  exec-keeps image op.Muli never low = (same, below)
  exec-keeps image op.Chk never low = branch-keeps (nat_lt i.imm (word s i.a))
  exec-keeps image op.Jmp never low = (same, below)
  exec-keeps image op.Beq never low = branch-keeps (word s i.a == word s i.b)
  exec-keeps image op.Blt never low = branch-keeps (nat_lt (word s i.a) (word s i.b))
  exec-keeps image op.Setk never low = (same, below)
  exec-keeps image op.Setkw never low = (same, below)
  exec-keeps image op.Loop never low = loop-keeps (nat_lt 0 (counter s i.a)) (counter s i.a - 1)
  exec-keeps image op.Call never low = call-keeps image (nat_lt (length s.stack) most_returns) (low refl)
  exec-keeps image op.Ret never low = return-keeps s.stack below.1
  exec-keeps image op.Out never low = out-keeps (first_refusal ((nat_le most_output (length s.output), Full) ∷ [])) (s.output ++ word s i.a ∷ [])
  exec-keeps image op.Mnew never low = row-keeps mnew (λ h t. holding MemBlock i.a h (with_word i.b h t))
      (λ x t. (refl, refl, refl)) table.Mnew refl (told mnew)
  exec-keeps image op.Mlock never low = row-keeps (mlock (word s i.b)) (λ done t. holding MemBlock i.a (word s i.b) t)
      (λ x t. (refl, refl, refl)) (table.Mlock (word s i.b)) refl refl
  exec-keeps image op.Munlock never low = unlock-keeps
  exec-keeps image op.Mfree never low = row-keeps (mfree (word s i.a)) nowhere (λ x t. (refl, refl, refl)) (table.Mfree (word s i.a)) refl refl
  exec-keeps image op.Sne never low = branch-keeps (same_name (name_at s i.a) (name_at s i.b))
  exec-keeps image op.Lalloc never low = make-keeps (make.Lalloc (word s i.c))
  exec-keeps image op.Lfree never low = change-keeps (change.Lfree (word s i.b))
  exec-keeps image op.Lrealloc never low = change-keeps (change.Lrealloc (word s i.b) (word s i.c))
  exec-keeps image op.Lins never low = change-keeps (change.Lins (word s i.b) (word s i.c) (word s i.d))
  exec-keeps image op.Ldel never low = change-keeps (change.Ldel (word s i.b) (word s i.c) (word s i.d))
  exec-keeps image op.Lsize never low = ask-keeps (ask.Lsize (word s i.c))
  exec-keeps image op.Deref never low = refer-keeps (refer.Deref (word s i.c) i.imm)
  exec-keeps image op.Lcontract never low = change-keeps change.Lcontract
  exec-keeps image op.Ldb never low = load-keeps Byte i.imm
  exec-keeps image op.Ldw never low = load-keeps Both i.imm
  exec-keeps image op.Stb never low = store-keeps Byte i.imm
  exec-keeps image op.Stw never low = store-keeps Both i.imm
  exec-keeps image op.Ldxb never low = load-keeps Byte (word s i.c)
  exec-keeps image op.Ldxw never low = load-keeps Both (word s i.c)
  exec-keeps image op.Stxb never low = store-keeps Byte (word s i.c)
  exec-keeps image op.Stxw never low = store-keeps Both (word s i.c)
  exec-keeps image op.Ldcb never low = load_within-keeps Byte (word s i.c)
  exec-keeps image op.Ldcw never low = load_within-keeps Both (word s i.c)
  exec-keeps image op.Stcb never low = store_within-keeps Byte (word s i.c)
  exec-keeps image op.Stcw never low = store_within-keeps Both (word s i.c)
  exec-keeps image op.Movp never low = (same, below)
  exec-keeps image op.Copy never low =
      row-keeps (copy (reference_at s i.a) (reference_at s i.b) i.imm) nowhere (λ x t. (refl, refl, refl))
      (table.Copy (reference_at s i.a) (reference_at s i.b) i.imm) refl refl
  exec-keeps image op.Plen never low = (same, below)
  exec-keeps image op.Canew never low = make-keeps (make.Canew i.imm)
  exec-keeps image op.Caadd never low = change-keeps (change.Caadd (word s i.b) (word s i.c))
  exec-keeps image op.Cains never low = change-keeps (change.Cains (word s i.b) (word s i.c) (word s i.d))
  exec-keeps image op.Cadel never low = change-keeps (change.Cadel (word s i.b) (word s i.c))
  exec-keeps image op.Cacount never low = ask-keeps (ask.Cacount (word s i.c))
  exec-keeps image op.Caelt never low = refer-keeps (refer.Caelt (word s i.c) (word s i.d) i.imm)
  exec-keeps image op.Cazero never low = change-keeps (change.Cazero (word s i.b))
  exec-keeps image op.Caresize never low = change-keeps (change.Caresize (word s i.b) (word s i.c) (word s i.d))
  exec-keeps image op.Vnew never low = row-keeps (vnew (word s i.c)) (λ h t. holding VmBlock i.a h (with_word i.b h t))
      (λ x t. (refl, refl, refl)) (table.Vnew (word s i.c)) refl (told (vnew (word s i.c)))
  exec-keeps image op.Vlock never low = row-keeps (vlock (word s i.b)) (λ done t. holding VmBlock i.a (word s i.b) t)
      (λ x t. (refl, refl, refl)) (table.Vlock (word s i.b)) refl refl
  exec-keeps image op.Vdirty never low = mark-keeps
  exec-keeps image op.Vunlock never low = unlock-keeps
  exec-keeps image op.Vfree never low = row-keeps (vfree (word s i.a)) nowhere (λ x t. (refl, refl, refl)) (table.Vfree (word s i.a)) refl refl
  exec-keeps image op.Vfind never low = row-keeps (vfind (word s i.b) (word s i.c)) (with_word i.a) (λ x t. (refl, refl, refl))
      (table.Vfind (word s i.b) (word s i.c)) refl (told (vfind (word s i.b) (word s i.c)))
  exec-keeps image op.Vuid never low = row-keeps (vuid (word s i.b)) (with_word i.a) (λ x t. (refl, refl, refl))
      (table.Vuid (word s i.b)) refl (told (vuid (word s i.b)))
  exec-keeps image op.Vgetmap never low = row-keeps vgetmap (with_word i.a) (λ x t. (refl, refl, refl)) table.Vgetmap refl (told vgetmap)
  exec-keeps image op.Vsetmap never low = row-keeps (vsetmap (word s i.a)) nowhere (λ x t. (refl, refl, refl)) (table.Vsetmap (word s i.a)) refl refl
  exec-keeps image op.Vupdate never low = absurd cc
  exec-keeps image op.Vsave never low = absurd cc
  exec-keeps image op.Vrevert never low = absurd cc
  exec-keeps image op.Gnew never low = row-keeps gnew (with_word i.a) (λ x t. (refl, refl, refl)) table.Gnew refl (told gnew)
  exec-keeps image op.Gfree never low = row-keeps (gfree (word s i.a)) nowhere (λ x t. (refl, refl, refl)) (table.Gfree (word s i.a)) refl refl
  exec-keeps image op.Inew never low = make_item-keeps (word s i.b) (make.Lalloc (word s i.c))
  exec-keeps image op.Ifree never low = change_item-keeps (word s i.a) (change.Lfree (word s i.b))
  exec-keeps image op.Irealloc never low = change_item-keeps (word s i.a) (change.Lrealloc (word s i.b) (word s i.c))
  exec-keeps image op.Iins never low = change_item-keeps (word s i.a) (change.Lins (word s i.b) (word s i.c) (word s i.d))
  exec-keeps image op.Idel never low = change_item-keeps (word s i.a) (change.Ldel (word s i.b) (word s i.c) (word s i.d))
  exec-keeps image op.Ilock never low =
      row-keeps (ilock (word s i.c) (word s i.d) i.imm) (λ ref t. leading i.b i.a ref (holding DbGroup i.a (word s i.c) t))
      (λ x t. (refl, refl, refl)) (table.Ilock (word s i.c) (word s i.d) i.imm) refl
      (told (ilock (word s i.c) (word s i.d) i.imm))
  exec-keeps image op.Idirty never low = mark-keeps
  exec-keeps image op.Iunlock never low = unlock-keeps
  exec-keeps image op.Igetmap never low = row-keeps igetmap (λ item t. with_word i.b item.1 (with_word i.a item.0 t))
      (λ x t. (refl, refl, refl)) table.Igetmap refl (told igetmap)
  exec-keeps image op.Isetmap never low = row-keeps (isetmap (word s i.a) (word s i.b)) nowhere (λ x t. (refl, refl, refl))
      (table.Isetmap (word s i.a) (word s i.b)) refl refl
