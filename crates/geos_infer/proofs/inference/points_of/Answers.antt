use Rattle.std.proofs.Common.{None, refl, ◌∙◌, ap, arith}
use Rattle.geos_code.specs.Known.{row_of}
use Rattle.geos_potentials.specs.Numbers.{numbers_of}
use Rattle.geos_potentials.proofs.Numbered.{numbers-at}
use Rattle.geos_infer.proofs.Copies.{made-none, made-more, made-all, point_of}
use Rattle.geos_infer.proofs.inference.points_of.Goals as goal

pub loop-pc-init : goal.loop-pc-init
loop-pc-init c = made-none c.args.image.now c.args.known.now (numbers_of c.args.potentials.now) c.in_ok-points.points.items
    c.in_ok-points.ensures.items

pub loop-pc-preserved : goal.loop-pc-preserved
loop-pc-preserved c =
    let p = c.at-in-loop-pc in
    let numbers = numbers-at c.args.potentials.now c.loop-pc.pc p.result p.ensures in
    made-more c.args.image.now c.args.known.now (numbers_of c.args.potentials.now) c.loop-pc.pc c.loop-pc.points.items
    c.push.new.self.items (point_of c.instr.result.now c.row_of.result p.result.constant p.result.coefficients)
    c.row_of.result c.in_ok-push.ensures.items
    c.instr.ensures.there refl (c.row_of.ensures.value ∙ ap row_of (c.at.ensures None)) c.row_of.ensures.legal numbers.0 numbers.1 c.loop-pc.invariant

pub returns : goal.returns
returns c = made-all c.args.image.now c.args.known.now (numbers_of c.args.potentials.now) c.loop-pc.pc c.loop-pc.points.items
    (omega (arith, c.len-pc-end.ensures.len)) c.loop-pc.invariant
