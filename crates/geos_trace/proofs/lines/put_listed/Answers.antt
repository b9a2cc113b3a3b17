use Rattle.geos_listing.proofs.Limits.{KeepsLimits-at}
use Rattle.geos_trace.proofs.lines.put_listed.Goals as goal

pub put_code-requires : goal.put_code-requires
put_code-requires c = KeepsLimits-at c.args.image.now c.args.pc c.instr.result.now c.len.ensures.legal c.requires c.instr.ensures.there
