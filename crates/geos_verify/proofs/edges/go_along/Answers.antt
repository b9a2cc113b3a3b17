use Rattle.std.proofs.Common.{refl}
use Rattle.geos_verify.proofs.Along.{row_along-used}
use Rattle.geos_verify.proofs.edges.go_along.Goals as goal

pub returns-in_default : goal.returns-in_default
returns-in_default c =
    let by_uses = row_along-used c.args.image.now c.args.i.now c.args.i.now.opcode c.args.row.now c.in_default.not-Call in
    rw (c.apply_uses.ensures, c.bound_result.ensures, c.requires.uses, by_uses) refl
