use Rattle.std.proofs.Common.{arith}
use Rattle.vm_file.specs.State.{pair_of}
use Rattle.geos_dump.specs.Sides.{contents_on}
use Rattle.geos_dump.proofs.Equal.{contents_same}
use Rattle.geos_dump.proofs.compare.same_contents.Goals as goal

pub returns-clause-same : goal.returns-clause-same
returns-clause-same g c = λ h k done.
    let a = contents_on c.args.sides.one (pair_of g.D.Device.medium.image c.args.one.now) in
    let b = contents_on c.args.sides.other (pair_of g.E.Device.medium.image c.args.other.now) in
    let maps = c.if-not-same_maps.ensures in
    contents_same a b (maps.count done)
    (λ j lt. c.loop-i.invariant.same h k j (omega (arith, lt, c.count-i-end.ensures.blocks, c.loop-i-test.false, c.loop-i.auto.i-end)))
    (maps.block done) (maps.item done)
