use Rattle.std.proofs.Common.{sym, refl, ◌∙◌}
use Rattle.std.proofs.lemmas.Bool.{false≢true}
use Rattle.geos_rows.proofs.rounds.flow_on.Goals as goal

pub returns-then-not-pass_from : goal.returns-then-not-pass_from
returns-then-not-pass_from c = λ meet all.
    let so_far = c.loop-branch.invariant meet all in
    absurd (false≢true (sym c.if-not-pass_from.true ∙ (c.pass_from.ensures meet so_far.1).0))

pub loop-branch-preserved : goal.loop-branch-preserved
loop-branch-preserved c = λ meet all. (refl, (c.pass_from.ensures meet (c.loop-branch.invariant meet all).1).1)

pub loop-preserved : goal.loop-preserved
loop-preserved c = c.loop-branch.invariant
