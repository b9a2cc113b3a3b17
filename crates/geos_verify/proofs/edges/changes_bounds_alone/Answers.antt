use Rattle.std.proofs.lemmas.Bool.{not-true}
use Rattle.geos_verify.proofs.GivenAgain.{bounds-alone}
use Rattle.geos_verify.proofs.edges.changes_bounds_alone.Goals as goal

pub returns-then-not-sets_pointer-clause-alone : goal.returns-then-not-sets_pointer-clause-alone
returns-then-not-sets_pointer-clause-alone c = λ e image row. bounds-alone image c.args.i.now c.args.i.now.opcode c.args.uses row c.requires c.in-NoSlot.is
    (c.sets_pointer.ensures.keeps c.if-not-sets_pointer.true) c.calls.result (not-true c.calls.result e) c.calls.ensures
