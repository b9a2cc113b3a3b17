use Rattle.std.proofs.Common.{◌≡◌}
use Rattle.tkv_names.specs.declared.seen.Known.TheVariants as known
use Rattle.tkv_names.specs.declared.seen.Seen.{Seen}
use Rattle.tkv_names.specs.Seen.{Leads, pushed}
use Rattle.tkv_names.proofs.Cases.{some_map, number_leads}
use Rattle.tkv_names.proofs.check.Check.number.Goals as goal

pub returns : goal.returns
returns c there is = some_map (λ (next : Seen). next ≡ pushed c.args.seen (known.Constant c.args.item.now.a))
    (λ (next : Seen). Leads c.args.self.now.text.now c.args.self.now.items.now c.args.self.now.placed.now c.args.seen next)
    (λ next e. number_leads c.args.self.now.text.now c.args.self.now.items.now c.args.self.now.placed.now c.args.seen c.args.item.now next there is e)
    c.pushed.result c.pushed.ensures
