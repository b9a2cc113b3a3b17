-- Each step of an instruction that works on chunks of a block goes well.
use Rattle.std.proofs.Common.{◌≡◌, ◌+◌, false, refl, sym, arith}
use Rattle.std.specs.Prelude.{is_none}
use Rattle.geos_calls.specs.Memory.{chunks_at}
use Rattle.geos_calls.specs.declared.call.Change.{Change}
use Rattle.geos_calls.specs.declared.call.Change.TheVariants as change
use Rattle.geos_calls.specs.declared.call.Make.{Make}
use Rattle.geos_calls.specs.declared.call.Ask.{Ask}
use Rattle.geos_calls.specs.declared.call.Refer.{Refer}
use Rattle.geos_calls.specs.ChunkCalls.{change_edit, change_row, make_edit, make_row, ask_row, refer_row, least}
use Rattle.geos_calls.specs.Effects.{Choice}
use Rattle.geos_calls.specs.Keeping.{HasWordSize}
use Rattle.geos_calls.proofs.Keeps.{rows_keep_memory}
use Rattle.geos_calls.proofs.Laws.{change-shape}
use Rattle.geos_opcodes.specs.declared.opcode.Opcode.TheVariants as op
use Rattle.geos_opcodes.specs.declared.uses.SlotUse.TheVariants.{Moves, LooksAt}
use Rattle.geos_verify.specs.Rows.{with_bound}
use Rattle.geos_verify.specs.Rows as rows
use Rattle.geos_verify.specs.Potentials.{pays}
use Rattle.geos_semantics.specs.State.{kind_at, name_at}
use Rattle.geos_semantics.specs.Model.{changing, making, asking, referring}
use Rattle.geos_semantics.proofs.ChunkAnswers.{make-most, ask-most, refer-led}
use Rattle.geos_verify.proofs.Leads.{Leads}
use Rattle.geos_semantics.proofs.Moments.{Moment, Well, StepsWell, unfaulted-here, along_edge, fine-goes}
use Rattle.geos_semantics.proofs.KernelSteps.{moved_row, pointing_row, telling-well, pointing-well, fine-rechunked, rechunking-well, remaking-well}

module _ (moment : Moment) where
  open moment use {image, state as s, good as G}

  pub changing-well : is_none (kind_at s G.point.instr.a) ≡ false → Leads image s.routine G.routine (s.pc + 1)
      (moved_row moment) (pays G.point.potential)
      → Leads image s.routine G.routine G.point.instr.target (rows.refused G.point.instr Moves G.point.row) (pays G.point.potential)
      → (change : Change) (choice : Choice) → Well moment (changing change choice G.point.instr s)
  changing-well full L B change choice =
      let name = name_at s G.point.instr.a in
      rechunking-well moment full L B (change_row name change) (change_edit change (chunks_at s.memory name)).chunks
      (rows_keep_memory.by_change name change) (change-shape name change s.memory) choice

  -- no contraction is refused
  pub lcontract-well : StepsWell moment op.Lcontract
  lcontract-well is choice =
      let name = name_at s G.point.instr.a in
      let F = fine-rechunked moment (unfaulted-here moment op.Lcontract is).right (change_row name change.Lcontract)
      (chunks_at s.memory name) (rows_keep_memory.by_change name change.Lcontract) (λ choice. (refl, refl, λ r. refl)) choice in
      fine-goes moment _ (s.pc + 1) _ (along_edge moment op.Lcontract is refl) (F.1 refl)

  pub making-well : is_none (kind_at s G.point.instr.a) ≡ false → Leads image s.routine G.routine (s.pc + 1)
      (with_bound G.point.instr.b 65535 (moved_row moment)) (pays G.point.potential)
      → Leads image s.routine G.routine G.point.instr.target (rows.refused G.point.instr Moves G.point.row) (pays G.point.potential)
      → (make : Make) → HasWordSize make → (choice : Choice) → Well moment (making make choice G.point.instr s)
  making-well full L B make word choice =
      let name = name_at s G.point.instr.a in
      remaking-well moment full L B (make_row name make) (make_edit make (chunks_at s.memory name)).chunks
      (rows_keep_memory.by_make name make word) (λ choice. (refl, refl, λ r. refl)) choice
      (make-most choice s.memory name make)

  pub asking-well : Leads image s.routine G.routine (s.pc + 1) (with_bound G.point.instr.b 65535 G.point.row) (pays G.point.potential)
      → Leads image s.routine G.routine G.point.instr.target (rows.refused G.point.instr LooksAt G.point.row) (pays G.point.potential)
      → (ask : Ask) (choice : Choice) → Well moment (asking ask choice G.point.instr s)
  asking-well L B ask choice =
      let name = name_at s G.point.instr.a in
      telling-well moment LooksAt refl G.point.instr.b 65535 (omega arith) L B (ask_row name ask) choice
      (refl, refl, λ r. refl) (ask-most choice s.memory name ask G.sound.memory)

  -- the row has at least as many bytes for the pointer as the instruction requires
  pub referring-well : is_none (kind_at s G.point.instr.a) ≡ false → Leads image s.routine G.routine (s.pc + 1)
      (pointing_row moment) (pays G.point.potential)
      → Leads image s.routine G.routine G.point.instr.target (rows.refused G.point.instr LooksAt G.point.row) (pays G.point.potential)
      → (refer : Refer) → least refer ≡ G.point.instr.imm → (choice : Choice) → Well moment (referring refer choice G.point.instr s)
  referring-well full L B refer wanted choice =
      let name = name_at s G.point.instr.a in
      pointing-well moment full L B (refer_row name refer) choice (refl, refl, λ r. refl)
      refl (rw (sym wanted) (refer-led choice s.memory name refer G.sound.memory))
