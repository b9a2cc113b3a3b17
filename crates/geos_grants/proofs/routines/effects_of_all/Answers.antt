use Rattle.std.proofs.Common.{◌<◌, length, ◌∙◌, arith}
use Rattle.std.proofs.lemmas.List.{length-set}
use Rattle.geos_image.proofs.Instrs.{image_parts}
use Rattle.geos_grants.proofs.Closed.{go-down, notes-next}
use Rattle.geos_grants.proofs.routines.effects_of_all.Goals as goal

pub loop-r-preserved : goal.loop-r-preserved
loop-r-preserved c =
    let image = c.args.image.now in
    let r = c.loop-r.r in
    let few = (image_parts image c.requires.0).few in
    let within : r < length image.routines = omega (arith, c.loop-r-test.true, c.count-r-end.ensures.count) in (
      rw c.from.ensures (notes-next image (go-down image c.requires) c.loop-r.table r c.effects_in.result
          (omega (arith, within, few, c.loop-r.invariant.1)) within c.loop-r.invariant.0 c.effects_in.ensures),
      length-set c.loop-r.table c.from.result c.effects_in.result ∙ c.loop-r.invariant.1,
    )
