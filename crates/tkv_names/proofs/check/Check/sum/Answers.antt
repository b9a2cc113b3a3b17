use Rattle.geos_opcodes.specs.declared.opcode.Opcode.TheVariants as op
use Rattle.tkv_names.specs.declared.seen.Seen.{Seen}
use Rattle.tkv_names.specs.Seen.{Leads, OnBoth}
use Rattle.tkv_names.proofs.Cases.{some_map, sum_leads}
use Rattle.tkv_names.proofs.check.Check.sum.Goals as goal

pub returns : goal.returns
returns c there is = some_map (λ (next : Seen). OnBoth c.args.self.now.text.now c.args.self.now.items.now c.args.self.now.placed.now op.Add c.args.seen next)
    (λ (next : Seen). Leads c.args.self.now.text.now c.args.self.now.items.now c.args.self.now.placed.now c.args.seen next)
    (λ next made. sum_leads c.args.self.now.text.now c.args.self.now.items.now c.args.self.now.placed.now c.args.seen c.args.item.now next there is made)
    c.on_both.result c.on_both.ensures
