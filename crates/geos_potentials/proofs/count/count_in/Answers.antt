use Rattle.std.proofs.Common.{sym, ap, ◌∙◌}
use Rattle.std.specs.Prelude.{is_some}
use Rattle.std.proofs.lemmas.Bool.{false≢true}
use Rattle.geos_potentials.proofs.count.count_in.Goals as goal

pub returns-in-None-clause-reason : goal.returns-in-None-clause-reason
returns-in-None-clause-reason c = (
  c.has_loops.ensures.none c.if-not-has_loops.true,
  λ want forward holds. false≢true (sym (ap is_some c.in-None.is) ∙ (c.sweep.ensures.counts want forward holds).0),
)

pub returns-in-Ok-count_loops-clause-touched : goal.returns-in-Ok-count_loops-clause-touched
returns-in-Ok-count_loops-clause-touched c = rw (c.replace.ensures.after, c.in-Ok-count_loops.ensures.touched) c.in-Ok.ensures
