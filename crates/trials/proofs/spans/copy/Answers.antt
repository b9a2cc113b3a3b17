use Rattle.trials.proofs.spans.copy.Goals as goal

pub copy-requires-clause-to : goal.copy-requires-clause-to
copy-requires-clause-to g c = (c.in_ok-to.ensures.writable c.requires.marked, c.in_ok-to.ensures.stands.1)
