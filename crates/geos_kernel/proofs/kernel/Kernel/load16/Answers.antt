use Rattle.std.proofs.Common.{◌+◌, ap, arith}
use Rattle.geos_kernel.proofs.AccessReads.{span-region, span-word}
use Rattle.geos_kernel.proofs.kernel.Kernel.load16.Goals as goal

pub overflow_add-span : goal.overflow_add-span
overflow_add-span g c =
    let d = g.D.Device in
    omega (
      arith,
      span-region d.medium c.self.inside.vm c.self.inside.blocks c.args.self.now c.self.view_is
          c.self.invariant c.args.span c.args.at 2 c.requires.stands (omega (arith, c.requires.within)) (omega arith),
      c.self.invariant.small,
      c.from.ensures,
    )

pub read16-requires : goal.read16-requires
read16-requires g c =
    let d = g.D.Device in
    omega (
      arith,
      span-region d.medium c.self.inside.vm c.self.inside.blocks c.args.self.now c.self.view_is
          c.self.invariant c.args.span c.args.at 2 c.requires.stands (omega (arith, c.requires.within)) (omega arith),
      c.from.ensures,
    )

pub returns : goal.returns
returns g c =
    let d = g.D.Device in
    let span = c.args.span in
    span-word d.medium c.self.inside.vm c.self.inside.blocks c.args.self.now c.self.view_is c.self.invariant span c.args.at
    (span.at + c.from.result) c.read16.result (omega (arith, c.requires.within)) (ap (λ j. span.at + j) c.from.ensures) c.read16.ensures
