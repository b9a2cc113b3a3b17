-- Each step of an instruction that works on words, counters or output goes well.
use Rattle.std.proofs.Common.{◌≡◌, ℕ, ◌+◌, ◌%◌, ◌≤◌, Bool, true, false, Option, Some, None, [], ◌∷◌, ◌++◌, length, refl, subst, arith, ◌-◌, ◌*◌, ◌/◌, ◌^◌, set, ◌<◌}
use Rattle.std.specs.Prelude.{nat_le, nat_lt, min, bit_and, ◌==◌}
use Rattle.std.proofs.lemmas.Bool.{ltb-false, cond_both, ltb-true}
use Rattle.std.proofs.lemmas.List.{set-get_or}
use Rattle.std.proofs.lemmas.Nat.{and_le_l}
use Rattle.std.proofs.Math.Nat.{div-le_self}
use Rattle.geos_terms.specs.declared.refusal.Refusal.{Refusal}
use Rattle.geos_terms.specs.declared.refusal.Refusal.TheVariants.{Full}
use Rattle.geos_terms.specs.Refusals.{refusal_number, first_refusal}
use Rattle.geos_opcodes.specs.declared.opcode.Opcode.{Opcode}
use Rattle.geos_opcodes.specs.declared.opcode.Opcode.TheVariants as op
use Rattle.geos_image.specs.declared.potential.Potential.{Potential}
use Rattle.geos_verify.specs.Rows.{bound, with_bound, or_any}
use Rattle.geos_verify.specs.Touched.{counts, touches}
use Rattle.geos_verify.specs.Potentials.{pays, pays_setting, pays_taking, value}
use Rattle.geos_verify.proofs.Noted.{touches-own}
use Rattle.geos_semantics.specs.State.{word, with_word, counter, with_counter, goto, along}
use Rattle.geos_semantics.specs.Model.{Next, answer, branch, most_output}
use Rattle.geos_semantics.proofs.Chains.{kept-set}
use Rattle.geos_verify.proofs.Paid.{pays_setting-value, pays_taking-value}
use Rattle.geos_semantics.proofs.NoFaults.{word-small}
use Rattle.geos_semantics.proofs.Rows.{word-bound, sum-bound, meets-capped, product-bound, and-bound, shift-bound}
use Rattle.geos_verify.proofs.Leads.{Leads}
use Rattle.geos_semantics.proofs.Fine.{fine-word}
use Rattle.geos_semantics.proofs.Bounds.{refusal_number-le}
use Rattle.geos_semantics.proofs.Moments.{Moment, Well, StepsWell, fields-here, along_edge, branch_edge, now, came, fine-goes, fine-here}

module _ (moment : Moment) where
  open moment use {image, legal, root, base, state as s, good as G}

  -- Words

  -- a word was written, within the bound that is known of it
  word_written : (v n : ℕ) → Leads image s.routine G.routine (s.pc + 1) (with_bound G.point.instr.a n G.point.row) (pays G.point.potential)
      → v ≤ n → v ≤ 65535 → Well moment (Next (along (with_word G.point.instr.a v s)))
  word_written v n L le small = fine-goes moment (with_word G.point.instr.a v s) (s.pc + 1) (with_bound G.point.instr.a n G.point.row) L
      (fine-word base s s G.point.row G.point.instr.a v n (fine-here moment) le small)

  pub ldi-well : StepsWell moment op.Ldi
  ldi-well is choice = word_written G.point.instr.imm G.point.instr.imm (along_edge moment op.Ldi is refl) (omega arith)
      (let below = (fields-here moment op.Ldi is).4 in omega (arith, below))

  pub mov-well : StepsWell moment op.Mov
  mov-well is choice = let i = G.point.instr in word_written (word s i.b) (bound G.point.row i.b) (along_edge moment op.Mov is refl)
      (word-bound s G.point.row i.b G.meets) (word-small base s i.b G.sound)

  pub add-well : StepsWell moment op.Add
  add-well is choice =
      let i = G.point.instr in
      let most = sum-bound (word s i.b) (word s i.c) (bound G.point.row i.b) (bound G.point.row i.c)
      (word-bound s G.point.row i.b G.meets) (word-bound s G.point.row i.c G.meets) in
      word_written ((word s i.b + word s i.c) % 65536) (or_any (bound G.point.row i.b + bound G.point.row i.c))
      (along_edge moment op.Add is refl) most (omega arith)

  pub sub-well : StepsWell moment op.Sub
  sub-well is choice = let i = G.point.instr in word_written ((word s i.b + 65536 - word s i.c) % 65536) 65535
      (along_edge moment op.Sub is refl) (omega arith) (omega arith)

  pub and-well : StepsWell moment op.And
  and-well is choice =
      let i = G.point.instr in
      word_written (bit_and (word s i.b) i.imm) (min (bound G.point.row i.b) i.imm) (along_edge moment op.And is refl)
      (and-bound (word s i.b) (bound G.point.row i.b) i.imm (word-bound s G.point.row i.b G.meets))
      (omega (arith, and_le_l (word s i.b) i.imm, word-small base s i.b G.sound))

  pub shr-well : StepsWell moment op.Shr
  shr-well is choice =
      let i = G.point.instr in
      word_written (word s i.b / 2 ^ i.imm) (bound G.point.row i.b / 2 ^ i.imm) (along_edge moment op.Shr is refl)
      (shift-bound (word s i.b) (bound G.point.row i.b) i.imm (word-bound s G.point.row i.b G.meets))
      (let less = div-le_self (word s i.b) (2 ^ i.imm) in omega (arith, less, word-small base s i.b G.sound))

  pub muli-well : StepsWell moment op.Muli
  muli-well is choice =
      let i = G.point.instr in
      word_written ((word s i.b * i.imm) % 65536) (or_any (bound G.point.row i.b * i.imm)) (along_edge moment op.Muli is refl)
      (product-bound (word s i.b) (bound G.point.row i.b) i.imm (word-bound s G.point.row i.b G.meets)) (omega arith)

  -- Branches

  -- control goes to the target if the test holds, otherwise to the next instruction, and nothing changes
  branch-well : (test : Bool) → Leads image s.routine G.routine G.point.instr.target G.point.row (pays G.point.potential)
      → Leads image s.routine G.routine (s.pc + 1) G.point.row (pays G.point.potential) → Well moment (branch test G.point.instr s)
  branch-well true B L = fine-goes moment s G.point.instr.target G.point.row B (fine-here moment)
  branch-well false B L = fine-goes moment s (s.pc + 1) G.point.row L (fine-here moment)

  pub chk-well : StepsWell moment op.Chk
  chk-well is choice =
      let i = G.point.instr in
      cond_both (nat_lt i.imm (word s i.a)) (Next (goto i.target s)) (Next (along s)) (Well moment)
      (λ test. fine-goes moment s i.target G.point.row (branch_edge moment op.Chk is refl) (fine-here moment))
      (λ test.
      let F = fine-here moment in
      fine-goes moment s (s.pc + 1) _ (along_edge moment op.Chk is refl)
      (record {
        sound = F.sound;
        meets = meets-capped s G.point.row i.a i.imm G.meets (ltb-false i.imm (word s i.a) test);
        routine =
            F.routine;
        stack = F.stack;
        counters = F.counters;
      }))

  pub jmp-well : StepsWell moment op.Jmp
  jmp-well is choice = fine-goes moment s G.point.instr.target G.point.row (branch_edge moment op.Jmp is refl) (fine-here moment)

  pub beq-well : StepsWell moment op.Beq
  beq-well is choice = branch-well (word s G.point.instr.a == word s G.point.instr.b) (branch_edge moment op.Beq is refl)
      (along_edge moment op.Beq is refl)

  pub blt-well : StepsWell moment op.Blt
  blt-well is choice = branch-well (nat_lt (word s G.point.instr.a) (word s G.point.instr.b)) (branch_edge moment op.Blt is refl)
      (along_edge moment op.Blt is refl)

  -- Counters

  -- the counter that the instruction names is one that its routine touches
  own_counter : (opcode : Opcode) → G.point.instr.opcode ≡ opcode → counts opcode ≡ true → (G.point.instr.a < 4)
      × (touches image G.point.instr.a s.routine ≡ true)
  own_counter opcode is counting = (few opcode is counting, touches-own image s.routine s.pc G.routine G.point G.has (rw is counting))
    where
      few : (opcode : Opcode) → G.point.instr.opcode ≡ opcode → counts opcode ≡ true → G.point.instr.a < 4
      few op.Setk is counting = (fields-here moment op.Setk is).0
      few op.Setkw is counting = (fields-here moment op.Setkw is).0
      few op.Loop is counting = (fields-here moment op.Loop is).0
      few _ is counting = absurd cc

  -- it was set, and what is owed is less
  counted : (opcode : Opcode) → G.point.instr.opcode ≡ opcode → counts opcode ≡ true → (v to : ℕ) (paid : Potential → Bool)
      → (L : Leads image s.routine G.routine to G.point.row paid)
      → value L.point.potential (set s.counters G.point.instr.a v) + 1 ≤ value G.point.potential s.counters
      → Well moment (Next (goto to (with_counter G.point.instr.a v s)))
  counted opcode is counting v to paid L le =
      let k = G.point.instr.a in
      let own = own_counter opcode is counting in
      let now_owed = now moment in
      let same = kept-set image root s.routine G.frames s.counters k v G.chain own.0 own.1 in
      came moment (with_counter k v s) to G.point.row paid L
      (record {
        none = G.sound.none;
        words = G.sound.words;
        memory = G.sound.memory;
        four = G.sound.four;
        lends =
            G.sound.lends;
        slots = G.sound.slots;
        locks = G.sound.locks;
        pointers = G.sound.pointers;
      })
      (record { words = G.meets.words; slots = G.meets.slots; pointers = G.meets.pointers; pairs = G.meets.pairs }) refl refl
      (omega (arith, now_owed, same, le))

  pub setk-well : StepsWell moment op.Setk
  setk-well is choice =
      let i = G.point.instr in
      let L = along_edge moment op.Setk is refl in
      counted op.Setk is refl i.imm (s.pc + 1) (pays_setting i.a i.imm G.point.potential) L
      (pays_setting-value G.point.potential L.point.potential s.counters i.a i.imm i.imm L.pays (omega arith))

  pub setkw-well : StepsWell moment op.Setkw
  setkw-well is choice =
      let i = G.point.instr in
      let L = along_edge moment op.Setkw is refl in
      counted op.Setkw is refl (word s i.b) (s.pc + 1) (pays_setting i.a (bound G.point.row i.b) G.point.potential) L
      (pays_setting-value G.point.potential L.point.potential s.counters i.a (bound G.point.row i.b) (word s i.b) L.pays
      (word-bound s G.point.row i.b G.meets))

  pub loop-well : StepsWell moment op.Loop
  loop-well is choice =
      let i = G.point.instr in
      let L = along_edge moment op.Loop is refl in
      let B = branch_edge moment op.Loop is refl in
      let k = counter s i.a in
      cond_both (nat_lt 0 k) (Next (goto i.target (with_counter i.a (k - 1) s))) (Next (along s)) (Well moment)
      (λ test. counted op.Loop is refl (k - 1) i.target (pays_taking i.a G.point.potential) B
      (pays_taking-value G.point.potential B.point.potential s.counters i.a B.pays (ltb-true 0 k test)))
      (λ test.
      let none : k ≡ 0 = (let le = ltb-false 0 k test in omega (arith, le)) in
      let paid = pays_setting-value G.point.potential L.point.potential s.counters i.a 0 k L.pays (omega (arith, none)) in
      subst (λ ks. Well moment (Next (goto (s.pc + 1) (record s { counters = ks })))) (set-get_or s.counters i.a 0)
      (counted op.Loop is refl k (s.pc + 1) (pays_setting i.a 0 G.point.potential) L paid))

  -- Output

  pub out-well : StepsWell moment op.Out
  out-well is choice = go (first_refusal ((nat_le most_output (length s.output), Full) ∷ []))
    where
      go : (o : Option Refusal) → Well moment (answer G.point.instr o s (record s { output = s.output ++ word s G.point.instr.a ∷ [] }))
      go None =
          fine-goes moment (record s { output = s.output ++ word s G.point.instr.a ∷ [] }) (s.pc + 1) G.point.row
          (along_edge moment op.Out is refl) (record {
            sound = record {
              none = G.sound.none;
              words = G.sound.words;
              memory = G.sound.memory;
              four =
                  G.sound.four;
              lends = G.sound.lends;
              slots = G.sound.slots;
              locks = G.sound.locks;
              pointers = G.sound.pointers;
            };
            meets = record { words = G.meets.words; slots = G.meets.slots; pointers = G.meets.pointers; pairs = G.meets.pairs };
            routine = refl;
            stack = refl;
            counters = refl;
          })
      go (Some refusal) =
          fine-goes moment (with_word 7 (refusal_number refusal) s) G.point.instr.target (with_bound 7 15 G.point.row)
          (branch_edge moment op.Out is refl)
          (fine-word base s s G.point.row 7 (refusal_number refusal) 15 (fine-here moment) (refusal_number-le refusal)
          (omega (arith, refusal_number-le refusal)))
