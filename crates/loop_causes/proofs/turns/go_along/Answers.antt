use Rattle.std.proofs.Common.{Bool, subst}
use Rattle.geos_code.specs.Edges.{LeadsTo}
use Rattle.loop_causes.proofs.turns.go_along.Goals as goal

pub returns-in-Some : goal.returns-in-Some
returns-in-Some c = λ to leads. c.in-Some.ensures to
    (subst (λ (b : Bool). LeadsTo c.args.loops.now.body.image.now c.args.pc b to) c.if-not-branch.true leads)

pub returns : goal.returns
returns c = c.go_on.ensures
