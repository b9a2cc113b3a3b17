use Rattle.tkv_names.proofs.Leads.{reaches}
use Rattle.tkv_names.proofs.check.Check.settled.Goals as goal

pub returns-clause-leads : goal.returns-clause-leads
returns-clause-leads c = reaches c.args.self.now.text.now c.args.self.now.items.now c.args.self.now.placed.now c.args.seen c.instruction_from-spot.result.index
    c.instruction_from-spot.result.level c.instruction_from-spot.ensures
