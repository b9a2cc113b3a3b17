use Rattle.std.proofs.Common.{◌∙◌, ap, sym}
use Rattle.geos_source.specs.Tallies.{fault_in, told}
use Rattle.geos_source.specs.Views.{draft_in}
use Rattle.geos_source.proofs.Noted.{begin-told}
use Rattle.geos_source.proofs.tally.Tally.begin.Goals as goal

pub returns : goal.returns
returns c =
    let faults = fault_in c.args.self.now.faults in
    c.settle.ensures.told ∙ ap (told faults) c.begin.ensures.said ∙ sym (begin-told c.args.line c.args.read faults (draft_in c.args.self.now.draft))
