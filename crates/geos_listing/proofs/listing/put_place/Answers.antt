use Rattle.std.proofs.Common.{arith}
use Rattle.std.proofs.lemmas.Grind.{common_steps}
use Rattle.geos_listing.specs.Instrs.{instr_line}
use Rattle.geos_listing.proofs.Limits.{KeepsLimits-at, instr-at}
use Rattle.geos_listing.proofs.listing.put_place.Goals as goal

pub put_instr-requires : goal.put_instr-requires
put_instr-requires c = KeepsLimits-at c.args.image.now c.args.pc c.instr.result.now c.requires.legal c.requires.within c.instr.ensures.there

pub returns : goal.returns
returns c =
    let image = c.args.image.now in
    rw (instr-at (instr_line image.routines) image.points c.args.pc c.instr.result.now c.requires.within c.instr.ensures.there)
    (grind (arith, common_steps))
