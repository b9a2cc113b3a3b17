use Rattle.std.proofs.Common.{sym}
use Rattle.geos_machine.proofs.LentBlocks.{has-told, has-none}
use Rattle.geos_machine.proofs.lent.has_block.Goals as goal

pub returns-in-Ok : goal.returns-in-Ok
returns-in-Ok g c =
    let known = c.memory_is_legal.ensures.file in
    sym (has-told (g.D.Device.medium.honest c.args.kernel.now.device) c.args.kernel.now.core known.0 c.args.h c.in-Ok.uid
    (c.in-Ok.ensures.answers known.0 known.1))

pub returns-in-Err : goal.returns-in-Err
returns-in-Err g c =
    let known = c.memory_is_legal.ensures.file in
    sym (has-none (g.D.Device.medium.honest c.args.kernel.now.device) c.args.kernel.now.core known.0 c.args.h c.in-Err.field-0
    (c.in-Err.ensures.answers known.0 known.1))
