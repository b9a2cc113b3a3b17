use Rattle.std.proofs.Common.{sym, subst}
use Rattle.geos_rows.specs.Reached.{AreAtMostAny}
use Rattle.geos_rows.proofs.strongest.go_all.Goals.{then-body-pc+then-pc-body, else-body-pc}
use Rattle.geos_rows.proofs.strongest.go_all.Goals as goal

pub loop-preserved : goal.loop-preserved
loop-preserved c = elim c.if-body-pc.branch [
  | then-body-pc+then-pc-body w ↦ subst (AreAtMostAny c.args.body.now.image.now c.args.body.now.r) (sym w.rows-is) w.go-then-pc-body.ensures
  | else-body-pc w ↦ subst (AreAtMostAny c.args.body.now.image.now c.args.body.now.r) (sym w.rows-is) c.loop.invariant
]
