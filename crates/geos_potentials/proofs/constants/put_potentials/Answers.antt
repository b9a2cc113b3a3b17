use Rattle.std.proofs.Common.{◌+◌, [], length, refl, ap, ◌∙◌, arith}
use Rattle.std.proofs.lemmas.List.{length-set}
use Rattle.geos_image.specs.declared.potential.Potential.{Potential}
use Rattle.geos_potentials.specs.Numbers.{numbers_of}
use Rattle.geos_potentials.proofs.Numbered.{numbers-set}
use Rattle.geos_potentials.proofs.Counts.{stays-refl, stays-set}
use Rattle.geos_potentials.proofs.Priced.{put-more}
use Rattle.geos_potentials.proofs.constants.put_potentials.Goals as goal

pub loop-pc-init : goal.loop-pc-init
loop-pc-init c = (let body = c.args.body.now in (
  c.lengths.ensures,
  stays-refl body.end (numbers_of c.args.potentials.now),
  λ pc within lt. absurd (omega (arith, within.above, body.begins)),
))

pub loop-pc-preserved : goal.loop-pc-preserved
loop-pc-preserved c =
    let body = c.args.body.now in
    let p = c.loop-pc.pc in
    let next : Potential = record { constant = c.steps-length.result; coefficients = c.at.result } in
    let few = c.loop-pc.invariant.0 in (
      ap length c.set.ensures ∙ length-set c.loop-pc.potentials p next ∙ few,
      rw (c.set.ensures, numbers-set c.loop-pc.potentials p next)
          (stays-set body.end p next.constant next.coefficients (numbers_of c.args.potentials.now)
          (numbers_of c.loop-pc.potentials) c.loop-pc-test.true c.loop-pc.invariant.1),
      rw c.set.ensures (put-more body.image.now body.r c.args.units.now.pay c.args.units.now.lengths.ways c.loop-pc.potentials p
          (p + 1) next refl (omega (arith, few, c.loop-pc-test.true, body.room, body.short)) c.steps-length.ensures
          (c.at.ensures []) c.loop-pc.invariant.2),
    )
