use Rattle.std.proofs.Common.{◌≡◌, ℕ, Bool, List}
use Rattle.std.specs.Prelude.{slice_index}
use Rattle.geos_opcodes.specs.declared.opcode.Opcode.TheVariants as op
use Rattle.tkv_names.specs.Named.{holds}
use Rattle.tkv_names.specs.Seen.{Decides, IsBranch, leaves_if, agreed}
use Rattle.tkv_names.proofs.Cases.{some_map}
use Rattle.tkv_names.proofs.Tests.{on_registers, on_left, on_right}
use Rattle.tkv_names.proofs.tested.decides.Goals as goal

pub returns-in-Register-Register : goal.returns-in-Register-Register
returns-in-Register-Register c = some_map
    (λ (same : Bool). IsBranch c.args.instr.opcode × ((words : List ℕ) → leaves_if c.args.instr.opcode c.args.instr words
    ≡ agreed same (holds c.args.test (slice_index words c.in-Register-Register.left) (slice_index words c.in-Register-Register.right))))
    (λ (same : Bool). Decides c.args.test c.args.seen c.args.instr same)
    (λ same made. on_registers c.args.test c.args.seen c.args.instr same c.in-Register-Register.left c.in-Register-Register.right
    c.in-Register-Register.is-0 c.in-Register-Register.is-1 made) c.compares.result c.compares.ensures

pub returns-in_ok-limit_of-in-Register-Constant : goal.returns-in_ok-limit_of-in-Register-Constant
returns-in_ok-limit_of-in-Register-Constant c = some_map
    (λ (same : Bool). (c.args.instr.opcode ≡ op.Chk) × (c.args.instr.a ≡ c.in-Register-Constant.word)
    × (c.args.instr.imm ≡ c.in_ok-limit_of-in-Register-Constant.field-0.most) × (same ≡ c.in_ok-limit_of-in-Register-Constant.field-0.same))
    (λ (same : Bool). Decides c.args.test c.args.seen c.args.instr same)
    (λ same made. on_left c.args.test c.args.seen c.args.instr same c.in-Register-Constant.word c.in-Register-Constant.number
    c.in_ok-limit_of-in-Register-Constant.field-0.most c.in_ok-limit_of-in-Register-Constant.field-0.same
    c.in-Register-Constant.is-0 c.in-Register-Constant.is-1 c.in_ok-limit_of-in-Register-Constant.ensures made) c.bounds.result c.bounds.ensures

pub returns-in_ok-limit_of-in-Constant-Register : goal.returns-in_ok-limit_of-in-Constant-Register
returns-in_ok-limit_of-in-Constant-Register c = some_map
    (λ (same : Bool). (c.args.instr.opcode ≡ op.Chk) × (c.args.instr.a ≡ c.in-Constant-Register.word)
    × (c.args.instr.imm ≡ c.in_ok-limit_of-in-Constant-Register.field-0.most) × (same ≡ c.in_ok-limit_of-in-Constant-Register.field-0.same))
    (λ (same : Bool). Decides c.args.test c.args.seen c.args.instr same)
    (λ same made. on_right c.args.test c.args.seen c.args.instr same c.in-Constant-Register.word c.in-Constant-Register.number
    c.in_ok-limit_of-in-Constant-Register.field-0.most c.in_ok-turned-in-Constant-Register.field-0 c.in_ok-limit_of-in-Constant-Register.field-0.same
    c.in-Constant-Register.is-0 c.in-Constant-Register.is-1 c.in_ok-turned-in-Constant-Register.ensures
    c.in_ok-limit_of-in-Constant-Register.ensures made) c.bounds-in-Constant-Register.result c.bounds-in-Constant-Register.ensures
