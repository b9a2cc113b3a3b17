-- A plain instruction leaves the stack as it is, and goes to the next instruction or to its target, whatever the target is.
use Rattle.std.proofs.Common.{◌≡◌, ℕ, ◌+◌, Bool, true, false, cond, Option, Some, None, List, [], ◌∷◌, ◌++◌, length, refl, ap, inl, inr, ◌⊎◌, ◌∙◌, ◌-◌, ◌*◌, ◌/◌, ◌%◌, ◌^◌}
use Rattle.std.specs.Prelude.{bit_and, nat_le, nat_lt, ◌==◌, ◌&&◌, not, Result, Ok, Err}
use Rattle.geos_terms.specs.declared.refusal.Refusal.{Refusal}
use Rattle.geos_terms.specs.declared.refusal.Refusal.TheVariants.{Full}
use Rattle.geos_terms.specs.Names.{vm}
use Rattle.geos_terms.specs.Refusals.{first_refusal, refusal_number}
use Rattle.geos_calls.specs.Memory.{Memory}
use Rattle.geos_calls.specs.Effects.{Choice, Call, outcome}
use Rattle.geos_calls.specs.declared.call.Change.{Change}
use Rattle.geos_calls.specs.declared.call.Change.TheVariants as change
use Rattle.geos_calls.specs.declared.call.Make.{Make}
use Rattle.geos_calls.specs.declared.call.Make.TheVariants as make
use Rattle.geos_calls.specs.declared.call.Ask.{Ask}
use Rattle.geos_calls.specs.declared.call.Ask.TheVariants as ask
use Rattle.geos_calls.specs.declared.call.Refer.{Refer}
use Rattle.geos_calls.specs.declared.call.Refer.TheVariants as refer
use Rattle.geos_calls.specs.Calls.{mnew, mlock, unlock, mfree, copy, store}
use Rattle.geos_calls.specs.VmCalls.{vnew, vlock, vdirty, vfree, vfind, vuid, vgetmap, vsetmap, vupdate, vsave, vrevert}
use Rattle.geos_calls.specs.ItemCalls.{on_group, gnew, gfree, ilock, igetmap, isetmap}
use Rattle.geos_calls.specs.ChunkCalls.{change_row, make_row, ask_row, refer_row}
use Rattle.geos_opcodes.specs.declared.opcode.Opcode.{Opcode}
use Rattle.geos_opcodes.specs.declared.opcode.Opcode.TheVariants as op
use Rattle.geos_opcodes.specs.declared.uses.Kind.TheVariants.{MemBlock, VmBlock, DbGroup}
use Rattle.geos_opcodes.specs.declared.uses.Width.{Width}
use Rattle.geos_opcodes.specs.declared.uses.Width.TheVariants.{Byte, Both}
use Rattle.geos_opcodes.specs.Facts.{uses_of}
use Rattle.geos_image.specs.declared.instr.Instr.{Instr}
use Rattle.geos_image.specs.Parts.{Parts}
use Rattle.geos_semantics.specs.State.{State, SlotReference, word, with_word, with_slot, with_counter, with_pointer, pointer, name_at, same_name, reference_at, kept_pointers, goto, along}
use Rattle.geos_semantics.specs.Faults.{is_fault}
use Rattle.geos_semantics.specs.Model.{Outcome, Fault, Next, Done, branch, answer, answered, calls, nowhere, holding, leading, most_output, load, within, low_bytes, changing, making, asking, referring, unlocking, marking, changing_items, making_item, reads, writes, reads_within, writes_within, exec, tried}
use Rattle.tkv_meaning.specs.Statements.{is_plain, has_target, Continues}
use Rattle.tkv_meaning.specs.Code.{aimed}

-- from a state, an outcome for each target: a fault, or control continues after the instruction, or at the target
abbrev pub Uniform : State → (ℕ → Outcome) → Type 0
Uniform s f = ((to : ℕ) → f to ≡ Fault)
    ⊎ (((t : State) × (t.stack ≡ s.stack) × ((to : ℕ) → f to ≡ Next (goto (s.pc + 1) t)))
    ⊎ ((t : State) × (t.stack ≡ s.stack) × ((to : ℕ) → f to ≡ Next (goto to t))))

-- control continues after the instruction
goes_on : (s t : State) → t.stack ≡ s.stack → t.pc ≡ s.pc → Uniform s (λ to. Next (along t))
goes_on s t same pc = inr (inl (t, same, λ to. ap (λ (p : ℕ). Next (goto (p + 1) t)) pc))

guarded : (b : Bool) (s : State) (f : ℕ → Outcome) → Uniform s f → Uniform s (λ to. cond b Fault (f to))
guarded true s f u = inl (λ to. refl)
guarded false s f u = u

branches : (b : Bool) (i : Instr) (s : State) → Uniform s (λ to. branch b (aimed i to) s)
branches true i s = inr (inr (s, refl, λ to. refl))
branches false i s = inr (inl (s, refl, λ to. refl))

outputs : (o : Option Refusal) (i : Instr) (s : State) (ws : List ℕ) → Uniform s (λ to. answer (aimed i to) o s (record s { output = ws }))
outputs None i s ws = inr (inl (record s { output = ws }, refl, λ to. refl))
outputs (Some refusal) i s ws = inr (inr (with_word 7 (refusal_number refusal) s, refl, λ to. refl))

-- two states have one stack and one pc
abbrev Same : State → State → Type 0
Same u v = (v.stack ≡ u.stack) × (v.pc ≡ u.pc)

answers : {A : Type 0} (i : Instr) (put : A → State → State) (s : State) (ps : List (Option SlotReference))
    → ((x : A) (u : State) → Same u (put x u)) → (r : Result A Refusal × Memory)
    → Uniform s (λ to. answered (aimed i to) put (record s { pointers = ps }) r)
answers i put s ps same (Ok x, memory) =
    let k = same x (record s { pointers = ps; memory = memory }) in goes_on s (put x (record s { pointers = ps; memory = memory })) k.0 k.1
answers i put s ps same (Err refusal, memory) =
    inr (inr (with_word 7 (refusal_number refusal) (record s { pointers = ps; memory = memory }), refl, λ to. refl))

asks : {A : Type 0} (row : Call A) (put : A → State → State) → ((x : A) (u : State) → Same u (put x u))
    → (choice : Choice) (i : Instr) (s : State) → Uniform s (λ to. calls row put choice (aimed i to) s)
asks row put same choice i s =
    answers i put s (kept_pointers i.a (row choice s.memory).stale s.pointers) same (outcome (row choice s.memory))

changing_uniform : (c : Change) (choice : Choice) (i : Instr) (s : State) → Uniform s (λ to. changing c choice (aimed i to) s)
changing_uniform c choice i s =
    asks (change_row (name_at s i.a) c) nowhere (λ x u. (refl, refl)) choice i s

making_uniform : (c : Make) (choice : Choice) (i : Instr) (s : State) → Uniform s (λ to. making c choice (aimed i to) s)
making_uniform c choice i s =
    asks (make_row (name_at s i.a) c) (with_word i.b) (λ x u. (refl, refl)) choice i s

asking_uniform : (c : Ask) (choice : Choice) (i : Instr) (s : State) → Uniform s (λ to. asking c choice (aimed i to) s)
asking_uniform c choice i s =
    asks (ask_row (name_at s i.a) c) (with_word i.b) (λ x u. (refl, refl)) choice i s

referring_uniform : (c : Refer) (choice : Choice) (i : Instr) (s : State) → Uniform s (λ to. referring c choice (aimed i to) s)
referring_uniform c choice i s =
    asks (refer_row (name_at s i.a) c) (leading i.b i.a) (λ x u. (refl, refl)) choice i s

unlocking_uniform : (choice : Choice) (i : Instr) (s : State) → Uniform s (λ to. unlocking choice (aimed i to) s)
unlocking_uniform choice i s =
    asks (unlock (name_at s i.a)) (λ done t. with_slot i.a None t) (λ x u. (refl, refl)) choice i s

marking_uniform : (choice : Choice) (i : Instr) (s : State) → Uniform s (λ to. marking choice (aimed i to) s)
marking_uniform choice i s =
    asks (vdirty (name_at s i.a).h) nowhere (λ x u. (refl, refl)) choice i s

changing_items_uniform : (g : ℕ) (c : Change) (choice : Choice) (i : Instr) (s : State) → Uniform s (λ to. changing_items g c choice (aimed i to) s)
changing_items_uniform g c choice i s =
    asks (on_group g (change_row (vm g) c)) nowhere (λ x u. (refl, refl)) choice i s

making_item_uniform : (g : ℕ) (c : Make) (choice : Choice) (i : Instr) (s : State) → Uniform s (λ to. making_item g c choice (aimed i to) s)
making_item_uniform g c choice i s =
    asks (on_group g (make_row (vm g) c)) (with_word i.a) (λ x u. (refl, refl)) choice i s

reads_uniform : (width : Width) (at : ℕ) (choice : Choice) (i : Instr) (s : State) → Uniform s (λ to. reads width at choice (aimed i to) s)
reads_uniform width at choice i s =
    asks (load width (reference_at s i.b) at) (with_word i.a) (λ x u. (refl, refl)) choice i s

writes_uniform : (width : Width) (at : ℕ) (choice : Choice) (i : Instr) (s : State) → Uniform s (λ to. writes width at choice (aimed i to) s)
writes_uniform width at choice i s =
    asks (store (reference_at s i.b) at (low_bytes width (word s i.a))) nowhere (λ x u. (refl, refl)) choice i s

reads_within_uniform : (width : Width) (at : ℕ) (choice : Choice) (i : Instr) (s : State) → Uniform s (λ to. reads_within width at choice (aimed i to) s)
reads_within_uniform width at choice i s =
    asks (within (reference_at s i.b) at width (load width (reference_at s i.b) at)) (with_word i.a) (λ x u. (refl, refl)) choice i s

writes_within_uniform : (width : Width) (at : ℕ) (choice : Choice) (i : Instr) (s : State) → Uniform s (λ to. writes_within width at choice (aimed i to) s)
writes_within_uniform width at choice i s =
    asks (within (reference_at s i.b) at width (store (reference_at s i.b) at (low_bytes width (word s i.a)))) nowhere (λ x u. (refl, refl)) choice i s

-- two outcomes that are the same for each target are both uniform
uniform_same : (s : State) (f g : ℕ → Outcome) → ((to : ℕ) → f to ≡ g to) → Uniform s g → Uniform s f
uniform_same s f g e (inl u) = inl (λ to. e to ∙ u to)
uniform_same s f g e (inr (inl u)) = inr (inl (u.0, u.1, λ to. e to ∙ u.2 to))
uniform_same s f g e (inr (inr u)) = inr (inr (u.0, u.1, λ to. e to ∙ u.2 to))

-- whether an instruction is a fault does not depend on its target
guard : (image : Parts) (choice : Choice) (i : Instr) (o : Opcode) (s : State)
    → ((to : ℕ) → is_fault (aimed i to) (uses_of o) s ≡ is_fault i (uses_of o) s) → Uniform s (λ to. exec image choice (aimed i to) o s)
    → Uniform s (λ to. cond (is_fault (aimed i to) (uses_of o) s) Fault (exec image choice (aimed i to) o s))
guard image choice i o s e u =
    uniform_same s (λ to. cond (is_fault (aimed i to) (uses_of o) s) Fault (exec image choice (aimed i to) o s))
    (λ to. cond (is_fault i (uses_of o) s) Fault (exec image choice (aimed i to) o s))
    (λ to. ap (λ (b : Bool). cond b Fault (exec image choice (aimed i to) o s)) (e to))
    (guarded (is_fault i (uses_of o) s) s (λ to. exec image choice (aimed i to) o s) u)

step_uniform : (image : Parts) (choice : Choice) (i : Instr) (o : Opcode) (s : State) → is_plain o ≡ true
    → Uniform s (λ to. cond (is_fault (aimed i to) (uses_of o) s) Fault (exec image choice (aimed i to) o s))
step_uniform image choice i op.Ldi s plain = guard image choice i op.Ldi s (λ to. refl) (goes_on s (with_word i.a i.imm s) refl refl)
step_uniform image choice i op.Mov s plain = guard image choice i op.Mov s (λ to. refl) (goes_on s (with_word i.a (word s i.b) s) refl refl)
step_uniform image choice i op.Add s plain =
    guard image choice i op.Add s (λ to. refl)
    (goes_on s (with_word i.a ((word s i.b + word s i.c) % 65536) s) refl refl)
step_uniform image choice i op.Sub s plain =
    guard image choice i op.Sub s (λ to. refl)
    (goes_on s (with_word i.a ((word s i.b + 65536 - word s i.c) % 65536) s) refl refl)
step_uniform image choice i op.And s plain =
    guard image choice i op.And s (λ to. refl)
    (goes_on s (with_word i.a (bit_and (word s i.b) i.imm) s) refl refl)
step_uniform image choice i op.Shr s plain =
    guard image choice i op.Shr s (λ to. refl)
    (goes_on s (with_word i.a (word s i.b / 2 ^ i.imm) s) refl refl)
step_uniform image choice i op.Muli s plain =
    guard image choice i op.Muli s (λ to. refl)
    (goes_on s (with_word i.a ((word s i.b * i.imm) % 65536) s) refl refl)
step_uniform image choice i op.Chk s plain = guard image choice i op.Chk s (λ to. refl) (branches (nat_lt i.imm (word s i.a)) i s)
step_uniform image choice i op.Jmp s plain = absurd cc
step_uniform image choice i op.Beq s plain = guard image choice i op.Beq s (λ to. refl) (branches (word s i.a == word s i.b) i s)
step_uniform image choice i op.Blt s plain = guard image choice i op.Blt s (λ to. refl) (branches (nat_lt (word s i.a) (word s i.b)) i s)
step_uniform image choice i op.Setk s plain = guard image choice i op.Setk s (λ to. refl) (goes_on s (with_counter i.a i.imm s) refl refl)
step_uniform image choice i op.Setkw s plain =
    guard image choice i op.Setkw s (λ to. refl)
    (goes_on s (with_counter i.a (word s i.b) s) refl refl)
step_uniform image choice i op.Loop s plain = absurd cc
step_uniform image choice i op.Call s plain = absurd cc
step_uniform image choice i op.Ret s plain = absurd cc
step_uniform image choice i op.Out s plain =
    guard image choice i op.Out s (λ to. refl)
    (outputs (first_refusal ((nat_le most_output (length s.output), Full) ∷ [])) i s (s.output ++ word s i.a ∷ []))
step_uniform image choice i op.Mnew s plain =
    guard image choice i op.Mnew s (λ to. refl)
    (asks mnew (λ h t. holding MemBlock i.a h (with_word i.b h t)) (λ x u. (refl, refl)) choice i s)
step_uniform image choice i op.Mlock s plain =
    guard image choice i op.Mlock s (λ to. refl)
    (asks (mlock (word s i.b)) (λ done t. holding MemBlock i.a (word s i.b) t) (λ x u. (refl, refl)) choice i s)
step_uniform image choice i op.Munlock s plain = guard image choice i op.Munlock s (λ to. refl) (unlocking_uniform choice i s)
step_uniform image choice i op.Mfree s plain =
    guard image choice i op.Mfree s (λ to. refl)
    (asks (mfree (word s i.a)) nowhere (λ x u. (refl, refl)) choice i s)
step_uniform image choice i op.Sne s plain =
    guard image choice i op.Sne s (λ to. refl)
    (branches (same_name (name_at s i.a) (name_at s i.b)) i s)
step_uniform image choice i op.Lalloc s plain =
    guard image choice i op.Lalloc s (λ to. refl)
    (making_uniform (make.Lalloc (word s i.c)) choice i s)
step_uniform image choice i op.Lfree s plain =
    guard image choice i op.Lfree s (λ to. refl)
    (changing_uniform (change.Lfree (word s i.b)) choice i s)
step_uniform image choice i op.Lrealloc s plain =
    guard image choice i op.Lrealloc s (λ to. refl)
    (changing_uniform (change.Lrealloc (word s i.b) (word s i.c)) choice i s)
step_uniform image choice i op.Lins s plain =
    guard image choice i op.Lins s (λ to. refl)
    (changing_uniform (change.Lins (word s i.b) (word s i.c) (word s i.d)) choice i s)
step_uniform image choice i op.Ldel s plain =
    guard image choice i op.Ldel s (λ to. refl)
    (changing_uniform (change.Ldel (word s i.b) (word s i.c) (word s i.d)) choice i s)
step_uniform image choice i op.Lsize s plain =
    guard image choice i op.Lsize s (λ to. refl)
    (asking_uniform (ask.Lsize (word s i.c)) choice i s)
step_uniform image choice i op.Deref s plain =
    guard image choice i op.Deref s (λ to. refl)
    (referring_uniform (refer.Deref (word s i.c) i.imm) choice i s)
step_uniform image choice i op.Lcontract s plain =
    guard image choice i op.Lcontract s (λ to. refl)
    (changing_uniform change.Lcontract choice i s)
step_uniform image choice i op.Ldb s plain = guard image choice i op.Ldb s (λ to. refl) (reads_uniform Byte i.imm choice i s)
step_uniform image choice i op.Ldw s plain = guard image choice i op.Ldw s (λ to. refl) (reads_uniform Both i.imm choice i s)
step_uniform image choice i op.Stb s plain = guard image choice i op.Stb s (λ to. refl) (writes_uniform Byte i.imm choice i s)
step_uniform image choice i op.Stw s plain = guard image choice i op.Stw s (λ to. refl) (writes_uniform Both i.imm choice i s)
step_uniform image choice i op.Ldxb s plain = guard image choice i op.Ldxb s (λ to. refl) (reads_uniform Byte (word s i.c) choice i s)
step_uniform image choice i op.Ldxw s plain = guard image choice i op.Ldxw s (λ to. refl) (reads_uniform Both (word s i.c) choice i s)
step_uniform image choice i op.Stxb s plain = guard image choice i op.Stxb s (λ to. refl) (writes_uniform Byte (word s i.c) choice i s)
step_uniform image choice i op.Stxw s plain = guard image choice i op.Stxw s (λ to. refl) (writes_uniform Both (word s i.c) choice i s)
step_uniform image choice i op.Ldcb s plain =
    guard image choice i op.Ldcb s (λ to. refl)
    (reads_within_uniform Byte (word s i.c) choice i s)
step_uniform image choice i op.Ldcw s plain =
    guard image choice i op.Ldcw s (λ to. refl)
    (reads_within_uniform Both (word s i.c) choice i s)
step_uniform image choice i op.Stcb s plain =
    guard image choice i op.Stcb s (λ to. refl)
    (writes_within_uniform Byte (word s i.c) choice i s)
step_uniform image choice i op.Stcw s plain =
    guard image choice i op.Stcw s (λ to. refl)
    (writes_within_uniform Both (word s i.c) choice i s)
step_uniform image choice i op.Movp s plain =
    guard image choice i op.Movp s (λ to. refl)
    (goes_on s (with_pointer i.a (pointer s i.b) s) refl refl)
step_uniform image choice i op.Copy s plain =
    guard image choice i op.Copy s (λ to. refl)
    (asks (copy (reference_at s i.a) (reference_at s i.b) i.imm) nowhere (λ x u. (refl, refl)) choice i s)
step_uniform image choice i op.Plen s plain =
    guard image choice i op.Plen s (λ to. refl)
    (goes_on s (with_word i.a (reference_at s i.b).len s) refl refl)
step_uniform image choice i op.Canew s plain = guard image choice i op.Canew s (λ to. refl) (making_uniform (make.Canew i.imm) choice i s)
step_uniform image choice i op.Caadd s plain =
    guard image choice i op.Caadd s (λ to. refl)
    (changing_uniform (change.Caadd (word s i.b) (word s i.c)) choice i s)
step_uniform image choice i op.Cains s plain =
    guard image choice i op.Cains s (λ to. refl)
    (changing_uniform (change.Cains (word s i.b) (word s i.c) (word s i.d)) choice i s)
step_uniform image choice i op.Cadel s plain =
    guard image choice i op.Cadel s (λ to. refl)
    (changing_uniform (change.Cadel (word s i.b) (word s i.c)) choice i s)
step_uniform image choice i op.Cacount s plain =
    guard image choice i op.Cacount s (λ to. refl)
    (asking_uniform (ask.Cacount (word s i.c)) choice i s)
step_uniform image choice i op.Caelt s plain =
    guard image choice i op.Caelt s (λ to. refl)
    (referring_uniform (refer.Caelt (word s i.c) (word s i.d) i.imm) choice i s)
step_uniform image choice i op.Cazero s plain =
    guard image choice i op.Cazero s (λ to. refl)
    (changing_uniform (change.Cazero (word s i.b)) choice i s)
step_uniform image choice i op.Caresize s plain =
    guard image choice i op.Caresize s (λ to. refl)
    (changing_uniform (change.Caresize (word s i.b) (word s i.c) (word s i.d)) choice i s)
step_uniform image choice i op.Vnew s plain =
    guard image choice i op.Vnew s (λ to. refl)
    (asks (vnew (word s i.c)) (λ h t. holding VmBlock i.a h (with_word i.b h t)) (λ x u. (refl, refl)) choice i s)
step_uniform image choice i op.Vlock s plain =
    guard image choice i op.Vlock s (λ to. refl)
    (asks (vlock (word s i.b)) (λ done t. holding VmBlock i.a (word s i.b) t) (λ x u. (refl, refl)) choice i s)
step_uniform image choice i op.Vdirty s plain = guard image choice i op.Vdirty s (λ to. refl) (marking_uniform choice i s)
step_uniform image choice i op.Vunlock s plain = guard image choice i op.Vunlock s (λ to. refl) (unlocking_uniform choice i s)
step_uniform image choice i op.Vfree s plain =
    guard image choice i op.Vfree s (λ to. refl)
    (asks (vfree (word s i.a)) nowhere (λ x u. (refl, refl)) choice i s)
step_uniform image choice i op.Vfind s plain =
    guard image choice i op.Vfind s (λ to. refl)
    (asks (vfind (word s i.b) (word s i.c)) (with_word i.a) (λ x u. (refl, refl)) choice i s)
step_uniform image choice i op.Vuid s plain =
    guard image choice i op.Vuid s (λ to. refl)
    (asks (vuid (word s i.b)) (with_word i.a) (λ x u. (refl, refl)) choice i s)
step_uniform image choice i op.Vgetmap s plain =
    guard image choice i op.Vgetmap s (λ to. refl)
    (asks vgetmap (with_word i.a) (λ x u. (refl, refl)) choice i s)
step_uniform image choice i op.Vsetmap s plain =
    guard image choice i op.Vsetmap s (λ to. refl)
    (asks (vsetmap (word s i.a)) nowhere (λ x u. (refl, refl)) choice i s)
step_uniform image choice i op.Vupdate s plain =
    guard image choice i op.Vupdate s (λ to. refl)
    (asks vupdate nowhere (λ x u. (refl, refl)) choice i s)
step_uniform image choice i op.Vsave s plain =
    guard image choice i op.Vsave s (λ to. refl)
    (asks vsave nowhere (λ x u. (refl, refl)) choice i s)
step_uniform image choice i op.Vrevert s plain =
    guard image choice i op.Vrevert s (λ to. refl)
    (asks vrevert nowhere (λ x u. (refl, refl)) choice i s)
step_uniform image choice i op.Gnew s plain =
    guard image choice i op.Gnew s (λ to. refl)
    (asks gnew (with_word i.a) (λ x u. (refl, refl)) choice i s)
step_uniform image choice i op.Gfree s plain =
    guard image choice i op.Gfree s (λ to. refl)
    (asks (gfree (word s i.a)) nowhere (λ x u. (refl, refl)) choice i s)
step_uniform image choice i op.Inew s plain =
    guard image choice i op.Inew s (λ to. refl)
    (making_item_uniform (word s i.b) (make.Lalloc (word s i.c)) choice i s)
step_uniform image choice i op.Ifree s plain =
    guard image choice i op.Ifree s (λ to. refl)
    (changing_items_uniform (word s i.a) (change.Lfree (word s i.b)) choice i s)
step_uniform image choice i op.Irealloc s plain =
    guard image choice i op.Irealloc s (λ to. refl)
    (changing_items_uniform (word s i.a) (change.Lrealloc (word s i.b) (word s i.c)) choice i s)
step_uniform image choice i op.Iins s plain =
    guard image choice i op.Iins s (λ to. refl)
    (changing_items_uniform (word s i.a) (change.Lins (word s i.b) (word s i.c) (word s i.d)) choice i s)
step_uniform image choice i op.Idel s plain =
    guard image choice i op.Idel s (λ to. refl)
    (changing_items_uniform (word s i.a) (change.Ldel (word s i.b) (word s i.c) (word s i.d)) choice i s)
step_uniform image choice i op.Ilock s plain =
    guard image choice i op.Ilock s (λ to. refl)
    (asks (ilock (word s i.c) (word s i.d) i.imm) (λ ref t. leading i.b i.a ref (holding DbGroup i.a (word s i.c) t)) (λ x u. (refl, refl)) choice i s)
step_uniform image choice i op.Idirty s plain = guard image choice i op.Idirty s (λ to. refl) (marking_uniform choice i s)
step_uniform image choice i op.Iunlock s plain = guard image choice i op.Iunlock s (λ to. refl) (unlocking_uniform choice i s)
step_uniform image choice i op.Igetmap s plain =
    guard image choice i op.Igetmap s (λ to. refl)
    (asks igetmap (λ item t. with_word i.b item.1 (with_word i.a item.0 t)) (λ x u. (refl, refl)) choice i s)
step_uniform image choice i op.Isetmap s plain =
    guard image choice i op.Isetmap s (λ to. refl)
    (asks (isetmap (word s i.a) (word s i.b)) nowhere (λ x u. (refl, refl)) choice i s)

pub tried_uniform : (image : Parts) (choice : Choice) (i : Instr) (s : State) → is_plain i.opcode ≡ true
    → Uniform s (λ to. tried image choice (aimed i to) s)
tried_uniform image choice i s plain = step_uniform image choice i i.opcode s plain

-- An instruction without a target goes to the next one

abbrev pub GoesOn : State → Outcome → Type 0
GoesOn s Fault = Unit {0}
GoesOn s (Next t) = t.pc ≡ s.pc + 1
GoesOn s (Done t) = ⊥

exec_goes : (image : Parts) (choice : Choice) (i : Instr) (o : Opcode) (s : State) → (is_plain o && not (has_target o)) ≡ true
    → GoesOn s (exec image choice i o s)
exec_goes image choice i op.Ldi s is = refl
exec_goes image choice i op.Mov s is = refl
exec_goes image choice i op.Add s is = refl
exec_goes image choice i op.Sub s is = refl
exec_goes image choice i op.And s is = refl
exec_goes image choice i op.Shr s is = refl
exec_goes image choice i op.Muli s is = refl
exec_goes image choice i op.Chk s is = absurd cc
exec_goes image choice i op.Jmp s is = absurd cc
exec_goes image choice i op.Beq s is = absurd cc
exec_goes image choice i op.Blt s is = absurd cc
exec_goes image choice i op.Setk s is = refl
exec_goes image choice i op.Setkw s is = refl
exec_goes image choice i op.Loop s is = absurd cc
exec_goes image choice i op.Call s is = absurd cc
exec_goes image choice i op.Ret s is = absurd cc
exec_goes image choice i op.Out s is = absurd cc
exec_goes image choice i op.Mnew s is = absurd cc
exec_goes image choice i op.Mlock s is = absurd cc
exec_goes image choice i op.Munlock s is = refl
exec_goes image choice i op.Mfree s is = absurd cc
exec_goes image choice i op.Sne s is = absurd cc
exec_goes image choice i op.Lalloc s is = absurd cc
exec_goes image choice i op.Lfree s is = absurd cc
exec_goes image choice i op.Lrealloc s is = absurd cc
exec_goes image choice i op.Lins s is = absurd cc
exec_goes image choice i op.Ldel s is = absurd cc
exec_goes image choice i op.Lsize s is = absurd cc
exec_goes image choice i op.Deref s is = absurd cc
exec_goes image choice i op.Lcontract s is = refl
exec_goes image choice i op.Ldb s is = refl
exec_goes image choice i op.Ldw s is = refl
exec_goes image choice i op.Stb s is = refl
exec_goes image choice i op.Stw s is = refl
exec_goes image choice i op.Ldxb s is = refl
exec_goes image choice i op.Ldxw s is = refl
exec_goes image choice i op.Stxb s is = refl
exec_goes image choice i op.Stxw s is = refl
exec_goes image choice i op.Ldcb s is = absurd cc
exec_goes image choice i op.Ldcw s is = absurd cc
exec_goes image choice i op.Stcb s is = absurd cc
exec_goes image choice i op.Stcw s is = absurd cc
exec_goes image choice i op.Movp s is = refl
exec_goes image choice i op.Copy s is = refl
exec_goes image choice i op.Plen s is = refl
exec_goes image choice i op.Canew s is = absurd cc
exec_goes image choice i op.Caadd s is = absurd cc
exec_goes image choice i op.Cains s is = absurd cc
exec_goes image choice i op.Cadel s is = absurd cc
exec_goes image choice i op.Cacount s is = absurd cc
exec_goes image choice i op.Caelt s is = absurd cc
exec_goes image choice i op.Cazero s is = absurd cc
exec_goes image choice i op.Caresize s is = absurd cc
exec_goes image choice i op.Vnew s is = absurd cc
exec_goes image choice i op.Vlock s is = absurd cc
exec_goes image choice i op.Vdirty s is = refl
exec_goes image choice i op.Vunlock s is = refl
exec_goes image choice i op.Vfree s is = absurd cc
exec_goes image choice i op.Vfind s is = absurd cc
exec_goes image choice i op.Vuid s is = absurd cc
exec_goes image choice i op.Vgetmap s is = refl
exec_goes image choice i op.Vsetmap s is = absurd cc
exec_goes image choice i op.Vupdate s is = absurd cc
exec_goes image choice i op.Vsave s is = absurd cc
exec_goes image choice i op.Vrevert s is = absurd cc
exec_goes image choice i op.Gnew s is = absurd cc
exec_goes image choice i op.Gfree s is = absurd cc
exec_goes image choice i op.Inew s is = absurd cc
exec_goes image choice i op.Ifree s is = absurd cc
exec_goes image choice i op.Irealloc s is = absurd cc
exec_goes image choice i op.Iins s is = absurd cc
exec_goes image choice i op.Idel s is = absurd cc
exec_goes image choice i op.Ilock s is = absurd cc
exec_goes image choice i op.Idirty s is = refl
exec_goes image choice i op.Iunlock s is = refl
exec_goes image choice i op.Igetmap s is = refl
exec_goes image choice i op.Isetmap s is = absurd cc

pub tried_goes : (image : Parts) (choice : Choice) (i : Instr) (s : State) → Continues i.opcode → GoesOn s (tried image choice i s)
tried_goes image choice i s is = go (is_fault i (uses_of i.opcode) s)
  where
    both_are : (p q : Bool) → p ≡ true → q ≡ false → (p && not q) ≡ true
    both_are true false e f = refl
    both_are true true e f = absurd cc
    both_are false q e f = absurd cc

    go : (b : Bool) → GoesOn s (cond b Fault (exec image choice i i.opcode s))
    go true = tt
    go false = exec_goes image choice i i.opcode s (both_are (is_plain i.opcode) (has_target i.opcode) is.0 is.1)

-- a plain instruction does the same in each image
exec_alike : (image other : Parts) (choice : Choice) (i : Instr) (o : Opcode) (s : State) → is_plain o ≡ true
    → exec image choice i o s ≡ exec other choice i o s
exec_alike image other choice i op.Ldi s plain = refl
exec_alike image other choice i op.Mov s plain = refl
exec_alike image other choice i op.Add s plain = refl
exec_alike image other choice i op.Sub s plain = refl
exec_alike image other choice i op.And s plain = refl
exec_alike image other choice i op.Shr s plain = refl
exec_alike image other choice i op.Muli s plain = refl
exec_alike image other choice i op.Chk s plain = refl
exec_alike image other choice i op.Jmp s plain = absurd cc
exec_alike image other choice i op.Beq s plain = refl
exec_alike image other choice i op.Blt s plain = refl
exec_alike image other choice i op.Setk s plain = refl
exec_alike image other choice i op.Setkw s plain = refl
exec_alike image other choice i op.Loop s plain = absurd cc
exec_alike image other choice i op.Call s plain = absurd cc
exec_alike image other choice i op.Ret s plain = absurd cc
exec_alike image other choice i op.Out s plain = refl
exec_alike image other choice i op.Mnew s plain = refl
exec_alike image other choice i op.Mlock s plain = refl
exec_alike image other choice i op.Munlock s plain = refl
exec_alike image other choice i op.Mfree s plain = refl
exec_alike image other choice i op.Sne s plain = refl
exec_alike image other choice i op.Lalloc s plain = refl
exec_alike image other choice i op.Lfree s plain = refl
exec_alike image other choice i op.Lrealloc s plain = refl
exec_alike image other choice i op.Lins s plain = refl
exec_alike image other choice i op.Ldel s plain = refl
exec_alike image other choice i op.Lsize s plain = refl
exec_alike image other choice i op.Deref s plain = refl
exec_alike image other choice i op.Lcontract s plain = refl
exec_alike image other choice i op.Ldb s plain = refl
exec_alike image other choice i op.Ldw s plain = refl
exec_alike image other choice i op.Stb s plain = refl
exec_alike image other choice i op.Stw s plain = refl
exec_alike image other choice i op.Ldxb s plain = refl
exec_alike image other choice i op.Ldxw s plain = refl
exec_alike image other choice i op.Stxb s plain = refl
exec_alike image other choice i op.Stxw s plain = refl
exec_alike image other choice i op.Ldcb s plain = refl
exec_alike image other choice i op.Ldcw s plain = refl
exec_alike image other choice i op.Stcb s plain = refl
exec_alike image other choice i op.Stcw s plain = refl
exec_alike image other choice i op.Movp s plain = refl
exec_alike image other choice i op.Copy s plain = refl
exec_alike image other choice i op.Plen s plain = refl
exec_alike image other choice i op.Canew s plain = refl
exec_alike image other choice i op.Caadd s plain = refl
exec_alike image other choice i op.Cains s plain = refl
exec_alike image other choice i op.Cadel s plain = refl
exec_alike image other choice i op.Cacount s plain = refl
exec_alike image other choice i op.Caelt s plain = refl
exec_alike image other choice i op.Cazero s plain = refl
exec_alike image other choice i op.Caresize s plain = refl
exec_alike image other choice i op.Vnew s plain = refl
exec_alike image other choice i op.Vlock s plain = refl
exec_alike image other choice i op.Vdirty s plain = refl
exec_alike image other choice i op.Vunlock s plain = refl
exec_alike image other choice i op.Vfree s plain = refl
exec_alike image other choice i op.Vfind s plain = refl
exec_alike image other choice i op.Vuid s plain = refl
exec_alike image other choice i op.Vgetmap s plain = refl
exec_alike image other choice i op.Vsetmap s plain = refl
exec_alike image other choice i op.Vupdate s plain = refl
exec_alike image other choice i op.Vsave s plain = refl
exec_alike image other choice i op.Vrevert s plain = refl
exec_alike image other choice i op.Gnew s plain = refl
exec_alike image other choice i op.Gfree s plain = refl
exec_alike image other choice i op.Inew s plain = refl
exec_alike image other choice i op.Ifree s plain = refl
exec_alike image other choice i op.Irealloc s plain = refl
exec_alike image other choice i op.Iins s plain = refl
exec_alike image other choice i op.Idel s plain = refl
exec_alike image other choice i op.Ilock s plain = refl
exec_alike image other choice i op.Idirty s plain = refl
exec_alike image other choice i op.Iunlock s plain = refl
exec_alike image other choice i op.Igetmap s plain = refl
exec_alike image other choice i op.Isetmap s plain = refl

pub tried_alike : (image other : Parts) (choice : Choice) (i : Instr) (s : State) → is_plain i.opcode ≡ true
    → tried image choice i s ≡ tried other choice i s
tried_alike image other choice i s plain =
    ap (cond (is_fault i (uses_of i.opcode) s) Fault) (exec_alike image other choice i i.opcode s plain)
