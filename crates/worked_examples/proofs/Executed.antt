-- What each instruction on words and counters does, on values that a wrong definition would
-- show itself at.
use Rattle.std.proofs.Common.{◌≡◌, refl, ℕ, List, [], ◌∷◌, ◌++◌, replicate, None}
use Rattle.geos_opcodes.specs.declared.opcode.Opcode.TheVariants.{Ldi, Mov, Add, Sub, And, Shr, Muli, Chk, Jmp, Beq, Blt, Setk, Setkw, Loop, Call, Ret, Out}
use Rattle.geos_image.specs.declared.instr.Instr.{Instr}
use Rattle.geos_semantics.specs.State.{Frame, State}
use Rattle.geos_semantics.specs.Model.{Outcome, Fault, Next, Done, step}
use Rattle.worked_examples.proofs.Images.{instr}
use Rattle.worked_examples.proofs.States.{willing, alone, no_blocks}

-- a state with no block, no block in a slot and no pointer
abbrev pub state : List ℕ → List ℕ → ℕ → List ℕ → State
state words counters pc output = record {
  memory = no_blocks;
  words = words;
  counters = counters;
  slots = replicate 4 None;
  pointers = replicate 4 None;
  routine = 0;
  pc = pc;
  stack = [];
  output = output;
}

-- w0 to w7, where w2 holds n
abbrev pub words : ℕ → List ℕ
words n = 65535 ∷ 3 ∷ n ∷ 40961 ∷ 9 ∷ 9 ∷ 21845 ∷ 1 ∷ []

-- k0 to k3, where k1 holds n
abbrev pub counters : ℕ → List ℕ
counters n = 0 ∷ n ∷ 65535 ∷ 1 ∷ []

-- before each example
abbrev pub before : State
before = state (words 500) (counters 5) 0 (8 ∷ [])

-- with n in w2, on at the next instruction
abbrev pub with_w2 : ℕ → Outcome
with_w2 n = Next (state (words n) (counters 5) 1 (8 ∷ []))

-- with n in k1, at a pc
abbrev pub with_k1 : ℕ → ℕ → Outcome
with_k1 n pc = Next (state (words 500) (counters n) pc (8 ∷ []))

-- with nothing changed, at a pc
abbrev pub at : ℕ → Outcome
at pc = Next (state (words 500) (counters 5) pc (8 ∷ []))

-- the step that is the instruction with these fields a, b, c, imm and target
abbrev pub stepped : Instr → Outcome
stepped i = step (alone i) willing before

-- 1,024 words are out
abbrev pub full : List ℕ → State
full registers = state registers (counters 5) 0 (replicate 1024 8)

-- one word less is out
abbrev pub almost_full : State
almost_full = state (words 500) (counters 5) 0 (replicate 1023 8)

-- before each example, within so many calls, each from pc 16 of routine 3
abbrev pub within : ℕ → State
within calls = record before { stack = replicate calls (record { routine = 3; pc = 17 }) }

-- the return to the instruction after the CALL
abbrev pub behind : Frame
behind = record { routine = 0; pc = 1 }

-- the state with one call more, of the routine by itself
abbrev pub called : State → State
called s = record s { stack = behind ∷ s.stack }

pub record Executed : Type 0 where
  pub ldi : stepped (instr Ldi 2 0 0 7 0) ≡ with_w2 7
  pub mov : stepped (instr Mov 2 3 0 0 0) ≡ with_w2 40961
  pub add : stepped (instr Add 2 1 4 0 0) ≡ with_w2 12
  pub add_wraps : stepped (instr Add 2 0 1 0 0) ≡ with_w2 2
  pub sub : stepped (instr Sub 2 0 1 0 0) ≡ with_w2 65532
  pub sub_wraps : stepped (instr Sub 2 1 0 0 0) ≡ with_w2 4
  pub and : stepped (instr And 2 6 0 255 0) ≡ with_w2 85
  pub shr : stepped (instr Shr 2 3 0 13 0) ≡ with_w2 5
  pub shr_all_but_one : stepped (instr Shr 2 0 0 15 0) ≡ with_w2 1
  pub muli : stepped (instr Muli 2 1 0 7 0) ≡ with_w2 21
  pub muli_wraps : stepped (instr Muli 2 3 0 5 0) ≡ with_w2 8197
  pub chk_above : stepped (instr Chk 2 0 0 499 7) ≡ at 7
  pub chk_at : stepped (instr Chk 2 0 0 500 7) ≡ at 1
  pub jmp : stepped (instr Jmp 0 0 0 0 7) ≡ at 7
  pub beq_equal : stepped (instr Beq 4 5 0 0 7) ≡ at 7
  pub beq_other : stepped (instr Beq 4 1 0 0 7) ≡ at 1
  pub blt_below : stepped (instr Blt 1 4 0 0 7) ≡ at 7
  pub blt_equal : stepped (instr Blt 4 5 0 0 7) ≡ at 1
  pub blt_above : stepped (instr Blt 4 1 0 0 7) ≡ at 1
  pub setk : stepped (instr Setk 1 0 0 1024 0) ≡ with_k1 1024 1
  pub setkw : stepped (instr Setkw 1 3 0 0 0) ≡ with_k1 40961 1
  pub loop_above : stepped (instr Loop 1 0 0 0 7) ≡ with_k1 4 7
  pub loop_at_0 : stepped (instr Loop 0 0 0 0 7) ≡ at 1
  -- control goes to the callee's first instruction, and will return to the instruction after the CALL
  pub call : stepped (instr Call 0 0 0 0 0) ≡ Next (called before)
  pub call_32nd : step (alone (instr Call 0 0 0 0 0)) willing (within 31) ≡ Next (called (within 31))
  pub call_33rd : step (alone (instr Call 0 0 0 0 0)) willing (within 32) ≡ Fault
  -- the outermost return
  pub ret : stepped (instr Ret 0 0 0 0 0) ≡ Done before
  pub ret_to_caller : step (alone (instr Ret 0 0 0 0 0)) willing (within 1) ≡ Next (record before { routine = 3; pc = 17 })
  pub out : stepped (instr Out 6 0 0 0 7) ≡ Next (state (words 500) (counters 5) 1 (8 ∷ 21845 ∷ []))
  pub out_1024th : step (alone (instr Out 6 0 0 0 7)) willing almost_full ≡ Next (state (words 500) (counters 5) 1 (replicate 1023 8 ++ 21845 ∷ []))
  -- w7 has the refusal, and there is no output
  pub out_1025th : step (alone (instr Out 6 0 0 0 7)) willing (full (words 500)) ≡ Next
      (record (full (65535 ∷ 3 ∷ 500 ∷ 40961 ∷ 9 ∷ 9 ∷ 21845 ∷ 10 ∷ [])) { pc = 7 })
  -- where there is no instruction
  pub past_the_end : step (alone (instr Ret 0 0 0 0 0)) willing (record before { pc = 1 }) ≡ Fault

pub examples : Executed
examples = record {
  ldi = refl;
  mov = refl;
  add = refl;
  add_wraps = refl;
  sub = refl;
  sub_wraps = refl;
  and = refl;
  shr = refl;
  shr_all_but_one = refl;
  muli = refl;
  muli_wraps = refl;
  chk_above = refl;
  chk_at = refl;
  jmp = refl;
  beq_equal = refl;
  beq_other = refl;
  blt_below = refl;
  blt_equal = refl;
  blt_above = refl;
  setk = refl;
  setkw = refl;
  loop_above = refl;
  loop_at_0 = refl;
  call = refl;
  call_32nd = refl;
  call_33rd = refl;
  ret = refl;
  ret_to_caller = refl;
  out = refl;
  out_1024th = refl;
  out_1025th = refl;
  past_the_end = refl;
}
