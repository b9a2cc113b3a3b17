use Rattle.std.proofs.Common.{◌∙◌, ap, sym}
use Rattle.geos_source.specs.Texts.{Draft}
use Rattle.geos_source.specs.Tallies.{fault_in, told}
use Rattle.geos_source.specs.Views.{draft_in}
use Rattle.geos_source.proofs.Noted.{drop_labels-told}
use Rattle.geos_source.proofs.tally.Tally.drop_labels.Goals as goal

pub returns : goal.returns
returns c =
    let faults = fault_in c.args.self.now.faults in
    let before = draft_in c.args.self.now.draft in
    c.settle.ensures.told
    ∙ ap (λ p. let d : Draft = record before { progress = p } in told faults d) c.drop_labels-self.ensures
    ∙ sym (drop_labels-told faults before)
