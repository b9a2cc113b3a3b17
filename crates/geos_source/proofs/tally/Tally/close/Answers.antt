use Rattle.std.proofs.Common.{◌∙◌, ap, sym}
use Rattle.geos_source.specs.Texts.{close}
use Rattle.geos_source.specs.Tallies.{fault_in, told}
use Rattle.geos_source.specs.Views.{draft_in}
use Rattle.geos_source.specs.Tallies.{told_in}
use Rattle.geos_source.proofs.Noted.{close-told, close-dropped}
use Rattle.geos_source.proofs.tally.Tally.close.Goals as goal

pub returns-clause-told : goal.returns-clause-told
returns-clause-told c =
    let dropped = c.drop_labels.new.self in
    c.settle.ensures.told
    ∙ ap (told (fault_in dropped.faults)) c.in_ok-close.ensures.said
    ∙ sym (close-told (fault_in dropped.faults) (draft_in dropped.draft))
    ∙ ap close c.drop_labels.ensures
    ∙ close-dropped (told_in c.args.self.now)
