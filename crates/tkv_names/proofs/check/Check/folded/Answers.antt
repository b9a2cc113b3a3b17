use Rattle.std.proofs.Common.{◌≡◌}
use Rattle.tkv_names.specs.declared.seen.Known.TheVariants as known
use Rattle.tkv_names.specs.declared.seen.Seen.{Seen}
use Rattle.tkv_names.specs.Seen.{Leads, pushed}
use Rattle.tkv_names.proofs.Cases.{some_map, fold_leads}
use Rattle.tkv_names.proofs.check.Check.folded.Goals as goal

pub returns : goal.returns
returns c there left right = some_map (λ (next : Seen). next ≡ pushed c.popped-2.result (known.Constant c.in_ok-word.word))
    (λ (next : Seen). Leads c.args.self.now.text.now c.args.self.now.items.now c.args.self.now.placed.now c.args.seen next)
    (fold_leads c.args.self.now.text.now c.args.self.now.items.now c.args.self.now.placed.now c.args.seen c.args.item.now c.args.left c.args.right c.in_ok-word.word c.popped.result c.popped-2.result there c.in_ok-word.ensures
    left right c.popped.ensures c.popped-2.ensures) c.pushed.result c.pushed.ensures
