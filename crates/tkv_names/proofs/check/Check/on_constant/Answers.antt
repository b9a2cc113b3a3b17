use Rattle.std.proofs.Common.{◌≡◌, sym, ◌∙◌}
use Rattle.geos_opcodes.specs.contracts.opcode.Opcode.{the_type}
use denote.Enum.Bare.{differs_false}
use Rattle.tkv_names.specs.declared.seen.Known.TheVariants as known
use Rattle.tkv_names.specs.declared.seen.Seen.{Seen}
use Rattle.tkv_names.specs.Seen.{Leads, pushed}
use Rattle.tkv_names.proofs.Cases.{some_map, immediate_leads}
use Rattle.tkv_names.proofs.check.Check.on_constant.Goals as goal

pub returns : goal.returns
returns c there beside = some_map (λ (next : Seen). next ≡ pushed c.in_ok-bare.bare (known.Register c.in_ok-instr.instr.a))
    (λ (next : Seen). Leads c.args.self.now.text.now c.args.self.now.items.now c.args.self.now.placed.now c.args.seen next)
    (immediate_leads c.args.self.now.text.now c.args.self.now.items.now c.args.self.now.placed.now c.args.seen c.args.item.now c.in_ok-instr.instr c.args.register c.args.number c.in_ok-by.by.0 c.in_ok-by.by.1 there beside
    c.in_ok-by.ensures c.in_ok-instr.ensures (differs_false the_type tt c.in_ok-instr.instr.opcode c.in_ok-by.by.0 (sym c.ne.ensures ∙ c.if-ne.false))
    c.if-instr-register.false c.if-instr-imm.false c.popped.result c.popped-2.result c.in_ok-bare.bare c.popped.ensures c.popped-2.ensures c.in_ok-bare.ensures)
    c.pushed.result c.pushed.ensures
