-- What the state after an instruction is, beside memory, and which call memory comes from.
use Rattle.std.proofs.Common.{◌≡◌, ℕ, zero, suc, ◌+◌, ◌⊎◌, Bool, true, false, cond, Option, Some, None, List, [], ◌∷◌, ◌++◌, set, refl, sym, ap, subst, inl, inr, true≢false}
use Rattle.std.specs.Prelude.{nat_lt, slice_index_or, unwrap_or}
use Rattle.geos_terms.specs.declared.name.Name.{Name}
use Rattle.geos_terms.specs.declared.refusal.Refusal.{Refusal}
use Rattle.geos_terms.specs.declared.refusal.Refusal.TheVariants.{Range}
use Rattle.geos_terms.specs.declared.name.Owner.TheVariants as owner
use Rattle.geos_terms.specs.Names.{mem, vm}
use Rattle.geos_terms.specs.Refusals.{first_refusal}
use Rattle.geos_calls.specs.Memory.{Memory, at_handle, lowest_handle}
use Rattle.geos_calls.proofs.HandleLists.{allowed-none}
use Rattle.geos_calls.specs.Effects.{Choice, Effect, Reference, Call, come_to, outcome}
use Rattle.geos_calls.specs.Calls.{mnew, mlock, unlock, mfree, store, copy}
use Rattle.geos_calls.specs.ChunkCalls.{change_row, make_row, ask_row, refer_row}
use Rattle.geos_calls.specs.VmCalls.{vnew, vlock, vdirty, vfree, vfind, vuid, vgetmap, vsetmap, vupdate, vsave, vrevert}
use Rattle.geos_calls.specs.ItemCalls.{on_group, gnew, gfree, ilock, igetmap, isetmap}
use Rattle.geos_calls.specs.Table.{KernelCall, Mnew, Unlock, Changes, Makes, Store, Vdirty, Gnew, ChangesItem, row, unanswered}
use Rattle.geos_calls.specs.declared.call.Change.{Change}
use Rattle.geos_calls.specs.declared.call.Change.TheVariants as change
use Rattle.geos_calls.specs.declared.call.Make.{Make}
use Rattle.geos_calls.specs.declared.call.Make.TheVariants as make
use Rattle.geos_calls.specs.declared.call.Ask.{Ask}
use Rattle.geos_calls.specs.declared.call.Ask.TheVariants as ask
use Rattle.geos_calls.specs.declared.call.Refer.{Refer}
use Rattle.geos_calls.specs.declared.call.Refer.TheVariants as refer
use Rattle.geos_opcodes.specs.declared.opcode.Opcode.{Opcode}
use Rattle.geos_opcodes.specs.declared.opcode.Opcode.TheVariants as op
use Rattle.geos_opcodes.specs.declared.uses.Kind.{Kind}
use Rattle.geos_opcodes.specs.declared.uses.Kind.TheVariants.{MemBlock, VmBlock, DbGroup}
use Rattle.geos_opcodes.specs.declared.uses.Width.{Width}
use Rattle.geos_opcodes.specs.declared.uses.Width.TheVariants.{Byte, Both}
use Rattle.geos_image.specs.declared.instr.Instr.{Instr}
use Rattle.geos_image.specs.Parts.{Parts}
use Rattle.geos_verify.specs.Touched.{calls}
use Rattle.geos_verify.specs.Uses.{bytes_in}
use Rattle.geos_semantics.specs.Lists.{Each}
use Rattle.geos_semantics.specs.State.{Held, Frame, State, slot, word, with_word, with_slot, name_at, reference_at, kept_pointers, goto, along}
use Rattle.geos_semantics.specs.Meets.{name_held}
use Rattle.geos_semantics.specs.Model.{Outcome, Fault, Next, Done, branch, answer, return_to, call, most_returns, most_output, answered, nowhere, holding, leading, load, low_bytes, within, exec}
use Rattle.geos_semantics.specs.Model as model
use Rattle.geos_grants.specs.Effects.{outputs, locks_by_handle}
use Rattle.granted_runs.proofs.Asked.{asked}

-- memory is as it was, or as the call leaves it
abbrev pub CameOf : Option KernelCall → Choice → Memory → Memory → Type 0
CameOf None choice old new = new ≡ old
CameOf (Some call) choice old new = (new ≡ old) ⊎ (new ≡ (outcome (row call choice old)).1)

-- the fact holds of the state after an instruction
abbrev pub OfNext : (State → Type 0) → Outcome → Type 0
OfNext P Fault = Unit {0}
OfNext P (Next t) = P t
OfNext P (Done t) = P t

-- an answer is put where memory, the output and control are not
pub record PutsBeside {A : Type 0} (put : A → State → State) : Type 0 where
  pub memory : (x : A) (u : State) → (put x u).memory ≡ u.memory
  pub output : (x : A) (u : State) → (put x u).output ≡ u.output
  pub routine : (x : A) (u : State) → (put x u).routine ≡ u.routine
  pub stack : (x : A) (u : State) → (put x u).stack ≡ u.stack

-- and where slots are not, either
pub record PutsStill {A : Type 0} (put : A → State → State) : Type 0 where
  pub beside : PutsBeside put
  pub slots : (x : A) (u : State) → (put x u).slots ≡ u.slots

-- an instruction that locks no block by its handle puts no block of global memory into a slot that was there before
abbrev pub TakesNone : Opcode → State → List (Option Held) → Type 0
TakesNone opcode s slots = locks_by_handle opcode ≡ false → (h a : ℕ) → (at_handle None s.memory.blocks h ≡ None → ⊥)
    → name_held (slice_index_or slots a None) ≡ Some (mem h) → name_held (slot s a) ≡ Some (mem h)

slot-set : (slots : List (Option Held)) (i k : ℕ) (x : Option Held) (name : Name) → (name_held x ≡ Some name → ⊥)
    → name_held (slice_index_or (set slots i x) k None) ≡ Some name → name_held (slice_index_or slots k None) ≡ Some name
slot-set [] i k x name out is = is
slot-set (y ∷ slots) zero zero x name out is = absurd (out is)
slot-set (y ∷ slots) zero (suc k) x name out is = is
slot-set (y ∷ slots) (suc i) zero x name out is = is
slot-set (y ∷ slots) (suc i) (suc k) x name out is = slot-set slots i k x name out is

vm-mem : (h k : ℕ) → Some (vm h) ≡ Some (mem k) → ⊥
vm-mem h k e = (let same : vm h ≡ mem k = cc in let never : owner.Vm ≡ owner.Mem = ap (λ (n : Name). n.owner) same in absurd cc)

none-mem : (k : ℕ) → None ≡ Some (mem k) → ⊥
none-mem k e = absurd cc

-- what is made had no block under its handle
new-none : (m : Memory) (k : ℕ) → Some (mem (unwrap_or (lowest_handle m owner.Mem) 0)) ≡ Some (mem k) → at_handle None m.blocks k ≡ None
new-none m k e =
    let same : mem (unwrap_or (lowest_handle m owner.Mem) 0) ≡ mem k = cc in
    subst (λ h. at_handle None m.blocks h ≡ None) (ap (λ (n : Name). n.h) same) (allowed-none m.handles m.blocks)

-- What calls leave

come-same : {A B : Type 0} (o : Option Refusal) (left : Refusal → Memory) (x : A) (y : B) (after : Memory)
    → (come_to o left x after).1 ≡ (come_to o left y after).1
come-same None left x y after = refl
come-same (Some why) left x y after = refl

-- a call leaves the same memory when its answer is set aside
pub unanswered-same : {A : Type 0} (of : Call A) (choice : Choice) (m : Memory) → (outcome (of choice m)).1 ≡ (outcome (unanswered of choice m)).1
unanswered-same of choice m =
    come-same (first_refusal (of choice m).refusals) (of choice m).left (of choice m).answer tt (of choice m).after

come-still : {A : Type 0} (o : Option Refusal) (left : Refusal → Memory) (x : A) (after m : Memory) → after ≡ m → ((why : Refusal) → left why ≡ m)
    → (come_to o left x after).1 ≡ m
come-still None left x after m same without = same
come-still (Some why) left x after m same without = without why

-- a call that changes nothing leaves memory as it was
still : {A : Type 0} (effect : Effect A) (m : Memory) → effect.after ≡ m → ((why : Refusal) → effect.left why ≡ m) → (outcome effect).1 ≡ m
still effect m same without = come-still (first_refusal effect.refusals) effect.left effect.answer effect.after m same without

-- Q holds of the routines that run
module _ (Q : ℕ → Type 0) (image : Parts) (choice : Choice) (i : Instr) (s : State) where
  -- the state after an instruction: memory comes from the call; only OUT outputs; and the routines that run then are those of before, and
  -- one that is called
  pub record Executed (opcode : Opcode) (of : Option KernelCall) (t : State) : Type 0 where
    pub memory : CameOf of choice s.memory t.memory
    pub output : outputs opcode ≡ false → t.output ≡ s.output
    pub slots : TakesNone opcode s t.slots
    pub routines : Q s.routine → Each (λ (frame : Frame). Q frame.routine) s.stack → (calls opcode ≡ true → Q i.imm)
        → Q t.routine × Each (λ (frame : Frame). Q frame.routine) t.stack

  -- of an instruction that is no call
  abbrev Steps : Opcode → Outcome → Type 0
  Steps opcode o = OfNext (Executed opcode None) o

  -- memory, output and control stay
  stays : (opcode : Opcode) (t : State) → t.memory ≡ s.memory → t.output ≡ s.output → t.routine ≡ s.routine → t.stack ≡ s.stack
      → t.slots ≡ s.slots → Executed opcode None t
  stays opcode t same_memory same_output same_routine same_stack same_slots = record {
    slots = λ without h a there is. subst (λ (slots : List (Option Held)). name_held (slice_index_or slots a None) ≡ Some (mem h)) same_slots is;
    memory = same_memory;
    output = λ h. same_output;
    routines = λ q frames called. (
      subst Q (sym same_routine) q,
      subst (Each (λ (frame : Frame). Q frame.routine)) (sym same_stack) frames,
    );
  }

  branches : (opcode : Opcode) (test : Bool) → Steps opcode (branch test i s)
  branches opcode true = stays opcode (goto i.target s) refl refl refl refl refl
  branches opcode false = stays opcode (along s) refl refl refl refl refl

  -- an instruction that is a call
  calling-by : {A : Type 0} (opcode : Opcode) (of : Option KernelCall) (row_of : Call A) (put : A → State → State) → PutsBeside put
      → ((m : Memory) → TakesNone opcode s (put (row_of choice s.memory).answer
      (record s { memory = m; pointers = kept_pointers i.a (row_of choice s.memory).stale s.pointers })).slots)
      → CameOf of choice s.memory (outcome (row_of choice s.memory)).1
      → OfNext (Executed opcode of) (model.calls row_of put choice i s)
  calling-by {A} opcode of row_of put P takes came = go (first_refusal (row_of choice s.memory).refusals) came
    where
      go : (o : Option Refusal)
          → CameOf of choice s.memory (come_to o (row_of choice s.memory).left (row_of choice s.memory).answer (row_of choice s.memory).after).1
          → OfNext (Executed opcode of)
          (answered i put (record s { pointers = kept_pointers i.a (row_of choice s.memory).stale s.pointers })
          (come_to o (row_of choice s.memory).left (row_of choice s.memory).answer (row_of choice s.memory).after))
      go None c =
          let y = (row_of choice s.memory).answer in
          let v : State = record s {
            memory = (row_of choice s.memory).after;
            pointers = kept_pointers i.a (row_of choice s.memory).stale s.pointers;
          } in
          record {
            memory = subst (CameOf of choice s.memory) (sym (P.memory y v)) c;
            output = λ h. P.output y v;
            slots = takes (row_of choice s.memory).after;
            routines = λ q frames called. (
              subst Q (sym (P.routine y v)) q,
              subst (Each (λ (frame : Frame). Q frame.routine)) (sym (P.stack y v)) frames,
            );
          }
      go (Some why) c = record {
        memory = c;
        output = λ h. refl;
        slots = λ without h a there is. is;
        routines = λ q frames called. (q, frames);
      }

  -- slots stay
  still-slots : (opcode : Opcode) (slots : List (Option Held)) → slots ≡ s.slots → TakesNone opcode s slots
  still-slots opcode slots same without h a there is =
      subst (λ (xs : List (Option Held)). name_held (slice_index_or xs a None) ≡ Some (mem h)) same is

  -- a slot gets something that is not such a block
  slot-takes : (opcode : Opcode) (a : ℕ) (x : Option Held)
      → (locks_by_handle opcode ≡ false → (h : ℕ) → (at_handle None s.memory.blocks h ≡ None → ⊥) → name_held x ≡ Some (mem h) → ⊥)
      → TakesNone opcode s (set s.slots a x)
  slot-takes opcode a x out without h k there is = slot-set s.slots a k x (mem h) (out without h there) is

  -- one whose answer goes into no slot
  calling : {A : Type 0} (opcode : Opcode) (of : Option KernelCall) (row_of : Call A) (put : A → State → State) → PutsStill put
      → CameOf of choice s.memory (outcome (row_of choice s.memory)).1
      → OfNext (Executed opcode of) (model.calls row_of put choice i s)
  calling opcode of row_of put P came =
      calling-by opcode of row_of put P.beside
      (λ m. still-slots opcode (put (row_of choice s.memory).answer
      (record s { memory = m; pointers = kept_pointers i.a (row_of choice s.memory).stale s.pointers })).slots
      (P.slots (row_of choice s.memory).answer
      (record s { memory = m; pointers = kept_pointers i.a (row_of choice s.memory).stale s.pointers }))) came

  puts-nowhere : {A : Type 0} → PutsStill {A = A} nowhere
  puts-nowhere = record { beside = record { memory = λ x u. refl; output = λ x u. refl; routine = λ x u. refl; stack = λ x u. refl }; slots = λ x u. refl }

  puts-word : (a : ℕ) → PutsStill (with_word a)
  puts-word a = record { beside = record { memory = λ x u. refl; output = λ x u. refl; routine = λ x u. refl; stack = λ x u. refl }; slots = λ x u. refl }

  puts-lead : (p a : ℕ) → PutsStill (leading p a)
  puts-lead p a = record { beside = record { memory = λ x u. refl; output = λ x u. refl; routine = λ x u. refl; stack = λ x u. refl }; slots = λ x u. refl }

  puts-held : (kind : Kind) (a b : ℕ) → PutsBeside (λ (h : ℕ) t. holding kind a h (with_word b h t))
  puts-held kind a b = record { memory = λ x u. refl; output = λ x u. refl; routine = λ x u. refl; stack = λ x u. refl }

  puts-locked : {A : Type 0} (kind : Kind) (a h : ℕ) → PutsBeside (λ (done : A) t. holding kind a h t)
  puts-locked kind a h = record { memory = λ x u. refl; output = λ x u. refl; routine = λ x u. refl; stack = λ x u. refl }

  puts-empty : {A : Type 0} (a : ℕ) → PutsBeside (λ (done : A) t. with_slot a None t)
  puts-empty a = record { memory = λ x u. refl; output = λ x u. refl; routine = λ x u. refl; stack = λ x u. refl }

  puts-item : (a b g p : ℕ) → PutsBeside (λ (ref : Reference) t. leading b a ref (holding DbGroup p g t))
  puts-item a b g p = record { memory = λ x u. refl; output = λ x u. refl; routine = λ x u. refl; stack = λ x u. refl }

  puts-pair : (a b : ℕ) → PutsStill (λ (item : ℕ × ℕ) t. with_word b item.1 (with_word a item.0 t))
  puts-pair a b = record { beside = record { memory = λ x u. refl; output = λ x u. refl; routine = λ x u. refl; stack = λ x u. refl }; slots = λ x u. refl }

  -- memory as the call leaves it
  came : (of : KernelCall) → CameOf (Some of) choice s.memory (outcome (row of choice s.memory)).1
  came of = inr refl

  -- Calls on chunks

  changes : (opcode : Opcode) (change : Change) → OfNext (Executed opcode (Some (Changes (name_at s i.a) change))) (model.changing change choice i s)
  changes opcode change = calling opcode (Some (Changes (name_at s i.a) change)) (change_row (name_at s i.a) change) nowhere puts-nowhere (inr refl)

  makes : (opcode : Opcode) (make : Make) → OfNext (Executed opcode (Some (Makes (name_at s i.a) make))) (model.making make choice i s)
  makes opcode make = calling opcode (Some (Makes (name_at s i.a) make)) (make_row (name_at s i.a) make) (with_word i.b) (puts-word i.b)
      (inr (unanswered-same (make_row (name_at s i.a) make) choice s.memory))

  asks : (opcode : Opcode) (ask : Ask) → Steps opcode (model.asking ask choice i s)
  asks opcode ask = calling opcode None (ask_row (name_at s i.a) ask) (with_word i.b) (puts-word i.b)
      (still (ask_row (name_at s i.a) ask choice s.memory) s.memory refl (λ why. refl))

  refers : (opcode : Opcode) (refer : Refer) → Steps opcode (model.referring refer choice i s)
  refers opcode refer = calling opcode None (refer_row (name_at s i.a) refer) (leading i.b i.a) (puts-lead i.b i.a)
      (still (refer_row (name_at s i.a) refer choice s.memory) s.memory refl (λ why. refl))

  unlocks : (opcode : Opcode) → OfNext (Executed opcode (Some (Unlock (name_at s i.a)))) (model.unlocking choice i s)
  unlocks opcode =
      calling-by opcode (Some (Unlock (name_at s i.a))) (unlock (name_at s i.a)) (λ done t. with_slot i.a None t) (puts-empty i.a)
      (λ m. slot-takes opcode i.a None (λ without h there e. none-mem h e)) (inr refl)

  marks : (opcode : Opcode) → OfNext (Executed opcode (Some (Vdirty (name_at s i.a).h))) (model.marking choice i s)
  marks opcode = calling opcode (Some (Vdirty (name_at s i.a).h)) (vdirty (name_at s i.a).h) nowhere puts-nowhere (inr refl)

  changes-item : (opcode : Opcode) (g : ℕ) (change : Change)
      → OfNext (Executed opcode (Some (ChangesItem g change))) (model.changing_items g change choice i s)
  changes-item opcode g change =
      calling opcode (Some (ChangesItem g change)) (on_group g (change_row (vm g) change)) nowhere puts-nowhere (inr refl)

  -- Reads and writes

  load-still : (width : Width) (ref : Reference) (at : ℕ) → (outcome (load width ref at choice s.memory)).1 ≡ s.memory
  load-still Byte ref at = refl
  load-still Both ref at = refl

  within-still : (width : Width) (ref : Reference) (at : ℕ) → (outcome (within ref at width (load width ref at) choice s.memory)).1 ≡ s.memory
  within-still Byte ref at = still (within ref at Byte (load Byte ref at) choice s.memory) s.memory refl (λ why. refl)
  within-still Both ref at = still (within ref at Both (load Both ref at) choice s.memory) s.memory refl (λ why. refl)

  reads : (opcode : Opcode) (width : Width) (at : ℕ) → Steps opcode (model.reads width at choice i s)
  reads opcode width at = calling opcode None (load width (reference_at s i.b) at) (with_word i.a) (puts-word i.a)
      (load-still width (reference_at s i.b) at)

  reads-within : (opcode : Opcode) (width : Width) (at : ℕ) → Steps opcode (model.reads_within width at choice i s)
  reads-within opcode width at =
      calling opcode None (within (reference_at s i.b) at width (load width (reference_at s i.b) at)) (with_word i.a) (puts-word i.a)
      (within-still width (reference_at s i.b) at)

  abbrev stored : Width → ℕ → KernelCall
  stored width at = Store (reference_at s i.b) at (low_bytes width (word s i.a))

  writes : (opcode : Opcode) (width : Width) (at : ℕ) → OfNext (Executed opcode (Some (stored width at))) (model.writes width at choice i s)
  writes opcode width at =
      calling opcode (Some (stored width at)) (store (reference_at s i.b) at (low_bytes width (word s i.a))) nowhere puts-nowhere (inr refl)

  writes-within : (opcode : Opcode) (width : Width) (at : ℕ)
      → OfNext (Executed opcode (Some (stored width at))) (model.writes_within width at choice i s)
  writes-within opcode width at =
      calling opcode (Some (stored width at))
      (within (reference_at s i.b) at width (store (reference_at s i.b) at (low_bytes width (word s i.a)))) nowhere puts-nowhere
      (tested (nat_lt (reference_at s i.b).len (at + bytes_in width)))
    where
      put : Memory
      put = (store (reference_at s i.b) at (low_bytes width (word s i.a)) choice s.memory).after

      tested : (b : Bool) → CameOf (Some (stored width at)) choice s.memory
          (come_to {A = Unit {0}} (first_refusal ((b, Range) ∷ [])) (λ why. s.memory) tt put).1
      tested true = inl refl
      tested false = inr refl

  -- Control

  called : (test : Bool) (t : State) → t.memory ≡ s.memory → t.output ≡ s.output → t.routine ≡ i.imm
      → t.stack ≡ record { routine = s.routine; pc = s.pc + 1 } ∷ s.stack → t.slots ≡ s.slots
      → Steps op.Call (cond test (Next t) Fault)
  called true t same_memory same_output routine stack same_slots = record {
    memory = same_memory;
    slots = still-slots op.Call t.slots same_slots;
    output = λ h. same_output;
    routines = λ q frames called. (
      subst Q (sym routine) (called refl),
      subst (Each (λ (frame : Frame). Q frame.routine)) (sym stack) (q, frames),
    );
  }
  called false t same_memory same_output routine stack same_slots = tt

  returned : (frames : List Frame) → s.stack ≡ frames → Steps op.Ret (return_to s frames)
  returned [] same = record {
    memory = refl;
    output = λ h. refl;
    slots = λ without h a there is. is;
    routines = λ q rest called. (q, rest);
  }
  returned (frame ∷ frames) same = record {
    memory = refl;
    output = λ h. refl;
    slots = λ without h a there is. is;
    routines = λ q rest called. (
      (subst (Each (λ (x : Frame). Q x.routine)) same rest).0,
      (subst (Each (λ (x : Frame). Q x.routine)) same rest).1,
    );
  }

  put-out : (o : Option Refusal) → Steps op.Out (answer i o s (record s { output = s.output ++ word s i.a ∷ [] }))
  put-out None = record { memory = refl; output = λ h. absurd (never h); slots = λ without h a there is. is; routines = λ q frames called. (q, frames) }
    where
      never : outputs op.Out ≡ false → ⊥
      never h = cc
  put-out (Some why) = record { memory = refl; output = λ h. refl; slots = λ without h a there is. is; routines = λ q frames called. (q, frames) }

  looped : (test : Bool) (t u : State) → Executed op.Loop None t → Executed op.Loop None u → Steps op.Loop (cond test (Next t) (Next u))
  looped true t u x y = x
  looped false t u x y = y

  -- each instruction
  pub executed : (opcode : Opcode) → OfNext (Executed opcode (asked i opcode s)) (exec image choice i opcode s)
  executed op.Ldi = stays op.Ldi _ refl refl refl refl refl
  executed op.Mov = stays op.Mov _ refl refl refl refl refl
  executed op.Add = stays op.Add _ refl refl refl refl refl
  executed op.Sub = stays op.Sub _ refl refl refl refl refl
  executed op.And = stays op.And _ refl refl refl refl refl
  executed op.Shr = stays op.Shr _ refl refl refl refl refl
  executed op.Muli = stays op.Muli _ refl refl refl refl refl
  executed op.Chk = branches op.Chk _
  executed op.Jmp = stays op.Jmp _ refl refl refl refl refl
  executed op.Beq = branches op.Beq _
  executed op.Blt = branches op.Blt _
  executed op.Setk = stays op.Setk _ refl refl refl refl refl
  executed op.Setkw = stays op.Setkw _ refl refl refl refl refl
  executed op.Loop = looped _ _ _ (stays op.Loop _ refl refl refl refl refl) (stays op.Loop _ refl refl refl refl refl)
  executed op.Call = called _ _ refl refl refl refl refl
  executed op.Ret = returned s.stack refl
  executed op.Out = put-out _
  executed op.Mnew =
      let h = (mnew choice s.memory).answer in
      calling-by op.Mnew (Some Mnew) mnew (λ (h : ℕ) t. holding MemBlock i.a h (with_word i.b h t)) (puts-held MemBlock i.a i.b)
      (λ m. slot-takes op.Mnew i.a (Some (record { kind = MemBlock; handle = h; borrowed = false }))
      (λ without k there e. there (new-none s.memory k e))) (inr (unanswered-same mnew choice s.memory))
  executed op.Mlock =
      calling-by op.Mlock (asked i op.Mlock s) (mlock (word s i.b)) (λ done t. holding MemBlock i.a (word s i.b) t)
      (puts-locked MemBlock i.a (word s i.b)) (λ m without. absurd (true≢false without)) (inr refl)
  executed op.Munlock = unlocks op.Munlock
  executed op.Mfree = calling op.Mfree (asked i op.Mfree s) (mfree (word s i.a)) nowhere puts-nowhere (inr refl)
  executed op.Sne = branches op.Sne _
  executed op.Lalloc = makes op.Lalloc (make.Lalloc (word s i.c))
  executed op.Lfree = changes op.Lfree (change.Lfree (word s i.b))
  executed op.Lrealloc = changes op.Lrealloc (change.Lrealloc (word s i.b) (word s i.c))
  executed op.Lins = changes op.Lins (change.Lins (word s i.b) (word s i.c) (word s i.d))
  executed op.Ldel = changes op.Ldel (change.Ldel (word s i.b) (word s i.c) (word s i.d))
  executed op.Lsize = asks op.Lsize (ask.Lsize (word s i.c))
  executed op.Deref = refers op.Deref (refer.Deref (word s i.c) i.imm)
  executed op.Lcontract = changes op.Lcontract change.Lcontract
  executed op.Ldb = reads op.Ldb Byte i.imm
  executed op.Ldw = reads op.Ldw Both i.imm
  executed op.Stb = writes op.Stb Byte i.imm
  executed op.Stw = writes op.Stw Both i.imm
  executed op.Ldxb = reads op.Ldxb Byte (word s i.c)
  executed op.Ldxw = reads op.Ldxw Both (word s i.c)
  executed op.Stxb = writes op.Stxb Byte (word s i.c)
  executed op.Stxw = writes op.Stxw Both (word s i.c)
  executed op.Ldcb = reads-within op.Ldcb Byte (word s i.c)
  executed op.Ldcw = reads-within op.Ldcw Both (word s i.c)
  executed op.Stcb = writes-within op.Stcb Byte (word s i.c)
  executed op.Stcw = writes-within op.Stcw Both (word s i.c)
  executed op.Movp = stays op.Movp _ refl refl refl refl refl
  executed op.Copy = calling op.Copy (asked i op.Copy s) (copy (reference_at s i.a) (reference_at s i.b) i.imm) nowhere puts-nowhere (inr refl)
  executed op.Plen = stays op.Plen _ refl refl refl refl refl
  executed op.Canew = makes op.Canew (make.Canew i.imm)
  executed op.Caadd = changes op.Caadd (change.Caadd (word s i.b) (word s i.c))
  executed op.Cains = changes op.Cains (change.Cains (word s i.b) (word s i.c) (word s i.d))
  executed op.Cadel = changes op.Cadel (change.Cadel (word s i.b) (word s i.c))
  executed op.Cacount = asks op.Cacount (ask.Cacount (word s i.c))
  executed op.Caelt = refers op.Caelt (refer.Caelt (word s i.c) (word s i.d) i.imm)
  executed op.Cazero = changes op.Cazero (change.Cazero (word s i.b))
  executed op.Caresize = changes op.Caresize (change.Caresize (word s i.b) (word s i.c) (word s i.d))
  executed op.Vnew =
      let h = (vnew (word s i.c) choice s.memory).answer in
      calling-by op.Vnew (asked i op.Vnew s) (vnew (word s i.c)) (λ (h : ℕ) t. holding VmBlock i.a h (with_word i.b h t)) (puts-held VmBlock i.a i.b)
      (λ m. slot-takes op.Vnew i.a (Some (record { kind = VmBlock; handle = h; borrowed = false })) (λ without k there e. vm-mem h k e))
      (inr (unanswered-same (vnew (word s i.c)) choice s.memory))
  executed op.Vlock =
      calling-by op.Vlock (asked i op.Vlock s) (vlock (word s i.b)) (λ done t. holding VmBlock i.a (word s i.b) t)
      (puts-locked VmBlock i.a (word s i.b))
      (λ m. slot-takes op.Vlock i.a (Some (record { kind = VmBlock; handle = word s i.b; borrowed = false }))
      (λ without k there e. vm-mem (word s i.b) k e)) (inr refl)
  executed op.Vdirty = marks op.Vdirty
  executed op.Vunlock = unlocks op.Vunlock
  executed op.Vfree = calling op.Vfree (asked i op.Vfree s) (vfree (word s i.a)) nowhere puts-nowhere (inr refl)
  executed op.Vfind = calling op.Vfind None (vfind (word s i.b) (word s i.c)) (with_word i.a) (puts-word i.a)
      (still (vfind (word s i.b) (word s i.c) choice s.memory) s.memory refl (λ why. refl))
  executed op.Vuid = calling op.Vuid None (vuid (word s i.b)) (with_word i.a) (puts-word i.a)
      (still (vuid (word s i.b) choice s.memory) s.memory refl (λ why. refl))
  executed op.Vgetmap = calling op.Vgetmap None vgetmap (with_word i.a) (puts-word i.a) refl
  executed op.Vsetmap = calling op.Vsetmap (asked i op.Vsetmap s) (vsetmap (word s i.a)) nowhere puts-nowhere (inr refl)
  executed op.Vupdate = calling op.Vupdate (asked i op.Vupdate s) vupdate nowhere puts-nowhere (inr refl)
  executed op.Vsave = calling op.Vsave (asked i op.Vsave s) vsave nowhere puts-nowhere (inr refl)
  executed op.Vrevert = calling op.Vrevert (asked i op.Vrevert s) vrevert nowhere puts-nowhere (inr refl)
  executed op.Gnew = calling op.Gnew (Some Gnew) gnew (with_word i.a) (puts-word i.a) (inr (unanswered-same gnew choice s.memory))
  executed op.Gfree = calling op.Gfree (asked i op.Gfree s) (gfree (word s i.a)) nowhere puts-nowhere (inr refl)
  executed op.Inew =
      let of = on_group (word s i.b) (make_row (vm (word s i.b)) (make.Lalloc (word s i.c))) in
      calling op.Inew (asked i op.Inew s) of (with_word i.a) (puts-word i.a) (inr (unanswered-same of choice s.memory))
  executed op.Ifree = changes-item op.Ifree (word s i.a) (change.Lfree (word s i.b))
  executed op.Irealloc = changes-item op.Irealloc (word s i.a) (change.Lrealloc (word s i.b) (word s i.c))
  executed op.Iins = changes-item op.Iins (word s i.a) (change.Lins (word s i.b) (word s i.c) (word s i.d))
  executed op.Idel = changes-item op.Idel (word s i.a) (change.Ldel (word s i.b) (word s i.c) (word s i.d))
  executed op.Ilock =
      calling-by op.Ilock (asked i op.Ilock s) (ilock (word s i.c) (word s i.d) i.imm)
      (λ (ref : Reference) t. leading i.b i.a ref (holding DbGroup i.a (word s i.c) t)) (puts-item i.a i.b (word s i.c) i.a)
      (λ m. slot-takes op.Ilock i.a (Some (record { kind = DbGroup; handle = word s i.c; borrowed = false }))
      (λ without k there e. vm-mem (word s i.c) k e))
      (inr (unanswered-same (ilock (word s i.c) (word s i.d) i.imm) choice s.memory))
  executed op.Idirty = marks op.Idirty
  executed op.Iunlock = unlocks op.Iunlock
  executed op.Igetmap = calling op.Igetmap None igetmap _ (puts-pair i.a i.b) refl
  executed op.Isetmap = calling op.Isetmap (asked i op.Isetmap s) (isetmap (word s i.a) (word s i.b)) nowhere puts-nowhere (inr refl)
