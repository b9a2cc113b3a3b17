-- Each step of an instruction that reads, writes, copies or measures through a pointer goes well.
use Rattle.std.proofs.Common.{◌≡◌, ℕ, ◌+◌, ◌≤◌, false, take, refl, arith, zero, suc, ◌<◌}
use Rattle.std.specs.Prelude.{is_none}
use Rattle.std.proofs.lemmas.Bool.{or_parts}
use Rattle.std.proofs.lemmas.List.Elements.{All-take}
use Rattle.geos_calls.specs.Memory.{Memory}
use Rattle.geos_calls.specs.Legal.{AreBytes, IsMemory}
use Rattle.geos_calls.specs.Effects.{Choice, Reference, Nothing}
use Rattle.geos_calls.specs.Calls.{store, named_bytes, written}
use Rattle.geos_calls.proofs.Keeps.{named_bytes-legal}
use Rattle.geos_opcodes.specs.declared.opcode.Opcode.TheVariants as op
use Rattle.geos_opcodes.specs.declared.uses.Width.{Width}
use Rattle.geos_opcodes.specs.declared.uses.Width.TheVariants.{Byte, Both}
use Rattle.geos_opcodes.specs.declared.uses.SlotUse.TheVariants.{NoSlot}
use Rattle.geos_verify.specs.Rows.{with_bound, pointer_at}
use Rattle.geos_verify.specs.Rows as rows
use Rattle.geos_verify.specs.Potentials.{pays}
use Rattle.geos_semantics.specs.State.{word, pointer, with_pointer, reference_at, kept_pointers}
use Rattle.geos_semantics.specs.Model.{reads, writes, reads_within, writes_within, nowhere, load, low_bytes, within}
use Rattle.geos_semantics.specs.Meets.{PointerMeets, PointerIsSound}
use Rattle.geos_semantics.proofs.Lists.{each2-set}
use Rattle.geos_verify.proofs.Leads.{Leads}
use Rattle.geos_semantics.proofs.Locking.{each-set}
use Rattle.geos_semantics.proofs.NoFaults.{pointer-sound, pointer-known}
use Rattle.geos_semantics.proofs.Bounds.{byte-most, word-most, led-at, led-most}
use Rattle.geos_semantics.proofs.Fine.{Fine, fine-word}
use Rattle.geos_semantics.proofs.Moments.{Moment, Well, StepsWell, unfaulted-here, along_edge, branch_edge, fine-goes, fine-here}
use Rattle.geos_semantics.proofs.KernelSteps.{LeavesAll, fine-unchanged, calls-well, telling-well, fine-written}

-- the bytes of a word are bytes
low-bytes : (width : Width) (n : ℕ) → AreBytes (low_bytes width n)
low-bytes Byte n zero d lt = omega arith
low-bytes Byte n (suc k) d lt = absurd (omega (arith, lt))
low-bytes Both n zero d lt = omega arith
low-bytes Both n (suc zero) d lt = omega arith
low-bytes Both n (suc (suc k)) d lt = absurd (omega (arith, lt))

-- the greatest number in so many bytes
abbrev most_in : Width → ℕ
most_in Byte = 255
most_in Both = 65535

most_in-le : (width : Width) → most_in width ≤ 65535
most_in-le Byte = omega arith
most_in-le Both = omega arith

load-leaves : (width : Width) (ref : Reference) (at : ℕ) (choice : Choice) (m : Memory) → LeavesAll (load width ref at choice m) m
load-leaves Byte ref at choice m = (refl, refl, λ r. refl)
load-leaves Both ref at choice m = (refl, refl, λ r. refl)

load-most : (width : Width) (ref : Reference) (at : ℕ) (choice : Choice) (m : Memory) → IsMemory m
    → (load width ref at choice m).answer ≤ most_in width
load-most Byte ref at choice m legal = byte-most (named_bytes m ref) at (named_bytes-legal m ref legal)
load-most Both ref at choice m legal = word-most (named_bytes m ref) at (named_bytes-legal m ref legal)

module _ (moment : Moment) where
  open moment use {image, base, state as s, good as G}

  -- Reads and writes whose offset the verifier knows of

  read-well : (width : Width) (at : ℕ) (choice : Choice) → Leads image s.routine G.routine (s.pc + 1)
      (with_bound G.point.instr.a (most_in width) G.point.row) (pays G.point.potential) → Well moment (reads width at choice G.point.instr s)
  read-well width at choice L = go width L
    where
      go : (width : Width) → Leads image s.routine G.routine (s.pc + 1) (with_bound G.point.instr.a (most_in width) G.point.row)
          (pays G.point.potential) → Well moment (reads width at choice G.point.instr s)
      go Byte L = fine-goes moment _ (s.pc + 1) _ L (fine-word base s _ G.point.row G.point.instr.a _ 255
          (fine-unchanged moment) (load-most Byte (reference_at s G.point.instr.b) at choice s.memory G.sound.memory)
          (omega (arith, load-most Byte (reference_at s G.point.instr.b) at choice s.memory G.sound.memory)))
      go Both L = fine-goes moment _ (s.pc + 1) _ L (fine-word base s _ G.point.row G.point.instr.a _ 65535
          (fine-unchanged moment) (load-most Both (reference_at s G.point.instr.b) at choice s.memory G.sound.memory)
          (load-most Both (reference_at s G.point.instr.b) at choice s.memory G.sound.memory))

  pub ldb-well : StepsWell moment op.Ldb
  ldb-well is choice = read-well Byte G.point.instr.imm choice (along_edge moment op.Ldb is refl)

  pub ldw-well : StepsWell moment op.Ldw
  ldw-well is choice = read-well Both G.point.instr.imm choice (along_edge moment op.Ldw is refl)

  pub ldxb-well : StepsWell moment op.Ldxb
  ldxb-well is choice = read-well Byte (word s G.point.instr.c) choice (along_edge moment op.Ldxb is refl)

  pub ldxw-well : StepsWell moment op.Ldxw
  ldxw-well is choice = read-well Both (word s G.point.instr.c) choice (along_edge moment op.Ldxw is refl)

  -- the low bytes of a word go where a pointer leads
  stored-fine : (width : Width) (at : ℕ) → is_none (pointer s G.point.instr.b) ≡ false
      → Fine base s (record s {
        memory = written s.memory (reference_at s G.point.instr.b) at (low_bytes width (word s G.point.instr.a));
        pointers =
            kept_pointers G.point.instr.a Nothing s.pointers;
      }) G.point.row
  stored-fine width at fresh = fine-written moment (reference_at s G.point.instr.b) at (low_bytes width (word s G.point.instr.a))
      (led-at base s G.point.instr.b G.sound fresh) (low-bytes width (word s G.point.instr.a))

  write-well : (width : Width) (at : ℕ) (choice : Choice) → is_none (pointer s G.point.instr.b) ≡ false
      → Leads image s.routine G.routine (s.pc + 1) G.point.row (pays G.point.potential) → Well moment (writes width at choice G.point.instr s)
  write-well width at choice fresh L = fine-goes moment _ (s.pc + 1) G.point.row L (stored-fine width at fresh)

  pub stb-well : StepsWell moment op.Stb
  stb-well is choice = write-well Byte G.point.instr.imm choice (unfaulted-here moment op.Stb is).fresh (along_edge moment op.Stb is refl)

  pub stw-well : StepsWell moment op.Stw
  stw-well is choice = write-well Both G.point.instr.imm choice (unfaulted-here moment op.Stw is).fresh (along_edge moment op.Stw is refl)

  pub stxb-well : StepsWell moment op.Stxb
  stxb-well is choice = write-well Byte (word s G.point.instr.c) choice (unfaulted-here moment op.Stxb is).fresh (along_edge moment op.Stxb is refl)

  pub stxw-well : StepsWell moment op.Stxw
  stxw-well is choice = write-well Both (word s G.point.instr.c) choice (unfaulted-here moment op.Stxw is).fresh (along_edge moment op.Stxw is refl)

  -- Reads and writes whose offset is tested

  tested-read-well : (width : Width) (choice : Choice) → Leads image s.routine G.routine (s.pc + 1)
      (with_bound G.point.instr.a (most_in width) G.point.row) (pays G.point.potential)
      → Leads image s.routine G.routine G.point.instr.target (rows.refused G.point.instr NoSlot G.point.row) (pays G.point.potential)
      → Well moment (reads_within width (word s G.point.instr.c) choice G.point.instr s)
  tested-read-well width choice L B =
      let ref = reference_at s G.point.instr.b in
      let at = word s G.point.instr.c in
      telling-well moment NoSlot refl G.point.instr.a (most_in width) (most_in-le width) L B
      (within ref at width (load width ref at)) choice (load-leaves width ref at choice s.memory)
      (λ e. load-most width ref at choice s.memory G.sound.memory)

  pub ldcb-well : StepsWell moment op.Ldcb
  ldcb-well is choice = tested-read-well Byte choice (along_edge moment op.Ldcb is refl) (branch_edge moment op.Ldcb is refl)

  pub ldcw-well : StepsWell moment op.Ldcw
  ldcw-well is choice = tested-read-well Both choice (along_edge moment op.Ldcw is refl) (branch_edge moment op.Ldcw is refl)

  tested-write-well : (width : Width) (choice : Choice) → is_none (pointer s G.point.instr.b) ≡ false
      → Leads image s.routine G.routine (s.pc + 1) G.point.row (pays G.point.potential)
      → Leads image s.routine G.routine G.point.instr.target (rows.refused G.point.instr NoSlot G.point.row) (pays G.point.potential)
      → Well moment (writes_within width (word s G.point.instr.c) choice G.point.instr s)
  tested-write-well width choice fresh L B =
      let ref = reference_at s G.point.instr.b in
      let at = word s G.point.instr.c in
      calls-well moment NoSlot G.point.row (within ref at width (store ref at (low_bytes width (word s G.point.instr.a))))
      nowhere choice L B (λ r. fine-unchanged moment) (λ e. stored-fine width at fresh) refl

  pub stcb-well : StepsWell moment op.Stcb
  stcb-well is choice = tested-write-well Byte choice (unfaulted-here moment op.Stcb is).fresh (along_edge moment op.Stcb is refl)
      (branch_edge moment op.Stcb is refl)

  pub stcw-well : StepsWell moment op.Stcw
  stcw-well is choice = tested-write-well Both choice (unfaulted-here moment op.Stcw is).fresh (along_edge moment op.Stcw is refl)
      (branch_edge moment op.Stcw is refl)

  -- Pointers as a whole

  pub movp-well : StepsWell moment op.Movp
  movp-well is choice =
      let i = G.point.instr in
      fine-goes moment (with_pointer i.a (pointer s i.b) s) (s.pc + 1) _ (along_edge moment op.Movp is refl) (record {
        sound = record {
          memory = G.sound.memory;
          none = G.sound.none;
          words = G.sound.words;
          four = G.sound.four;
          lends = G.sound.lends;
          slots = G.sound.slots;
          locks = G.sound.locks;
          pointers = each-set (PointerIsSound s.memory s.slots) s.pointers i.a (pointer s i.b) G.sound.pointers (pointer-sound base s i.b G.sound);
        };
        meets = record {
          words = G.meets.words;
          slots = G.meets.slots;
          pointers = each2-set PointerMeets s.pointers G.point.row.pointers i.a (pointer s i.b) (pointer_at G.point.row i.b)
              G.meets.pointers (pointer-known s G.point.row i.b G.meets);
          pairs = G.meets.pairs;
        };
        routine = refl;
        stack = refl;
        counters = refl;
      })

  pub copy-well : StepsWell moment op.Copy
  copy-well is choice =
      let i = G.point.instr in
      let fresh = (or_parts (is_none (pointer s i.a)) (is_none (pointer s i.b)) (unfaulted-here moment op.Copy is).fresh).0 in
      let from = reference_at s i.b in
      let ws = take i.imm (named_bytes s.memory from) in
      fine-goes moment _ (s.pc + 1) G.point.row (along_edge moment op.Copy is refl)
      (fine-written moment (reference_at s i.a) 0 ws (led-at base s i.a G.sound fresh)
      (All-take (λ b. b < 256) i.imm (named_bytes s.memory from) (named_bytes-legal s.memory from G.sound.memory)))

  pub plen-well : StepsWell moment op.Plen
  plen-well is choice =
      let i = G.point.instr in
      let led = led-at base s i.b G.sound (unfaulted-here moment op.Plen is).fresh in
      fine-goes moment _ (s.pc + 1) _ (along_edge moment op.Plen is refl)
      (fine-word base s s G.point.row i.a (reference_at s i.b).len 65535 (fine-here moment)
      (led-most s.memory (reference_at s i.b) G.sound.memory led) (led-most s.memory (reference_at s i.b) G.sound.memory led))
