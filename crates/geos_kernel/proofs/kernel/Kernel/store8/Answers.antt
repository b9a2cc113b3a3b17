use Rattle.std.proofs.Common.{◌+◌, [], ◌∷◌, ap, subst, arith}
use Rattle.geos_calls.proofs.Laws.{willing}
use Rattle.geos_kernel.specs.Kernel.{Remain}
use Rattle.geos_kernel.proofs.AccessReads.{span-region}
use Rattle.geos_kernel.proofs.AccessWrites.{byte-bytes, span-stores, span-written}
use Rattle.geos_kernel.proofs.Remaining.{written-remain}
use Rattle.geos_kernel.proofs.kernel.Kernel.store8.Goals as goal

pub overflow_add-span : goal.overflow_add-span
overflow_add-span g c =
    let d = g.D.Device in
    omega (
      arith,
      span-region d.medium c.self.inside.vm c.self.inside.blocks c.args.self.now c.self.view_is
          c.self.invariant c.args.span c.args.at 1 (c.requires.stands.0, c.requires.stands.1) (omega (arith, c.requires.within))
          (omega arith),
      c.self.invariant.small,
      c.from.ensures,
    )

pub write8-requires : goal.write8-requires
write8-requires g c =
    let d = g.D.Device in
    omega (
      arith,
      span-region d.medium c.self.inside.vm c.self.inside.blocks c.args.self.now c.self.view_is
          c.self.invariant c.args.span c.args.at 1 (c.requires.stands.0, c.requires.stands.1) (omega (arith, c.requires.within))
          (omega arith),
      c.from.ensures,
    )

pub invariant_of-self : goal.invariant_of-self
invariant_of-self g c =
    let d = g.D.Device in
    let span = c.args.span in
    let done = c.write8 in
    span-written d.medium c.self.inside.vm c.self.inside.blocks done.new.self c.args.self.now c.self.view_is
    c.self.invariant span c.args.at (span.at + c.from.result) (c.args.byte ∷ [])
    (omega (arith, c.requires.within)) (omega arith) (ap (λ j. span.at + j) c.from.ensures)
    (byte-bytes c.args.byte (omega (arith, c.ranges.byte))) done.ensures.covered c.requires.stands

pub returns-clause-row : goal.returns-clause-row
returns-clause-row g c =
    let d = g.D.Device in
    let span = c.args.span in
    let done = c.write8 in
    span-stores d.medium c.self.inside.vm c.self.inside.blocks done.new.self c.args.self.now c.self.view_is
    c.self.invariant span c.args.at (span.at + c.from.result) (c.args.byte ∷ [])
    (omega (arith, c.requires.within)) (omega arith) (ap (λ j. span.at + j) c.from.ensures)
    (byte-bytes c.args.byte (omega (arith, c.ranges.byte))) done.ensures.covered

pub returns-clause-spans : goal.returns-clause-spans
returns-clause-spans g c = let stands = c.requires.stands in λ f tied. (returns-clause-row g c stands.0 stands.1).spans f tied willing

pub returns-clause-remain : goal.returns-clause-remain
returns-clause-remain g c = subst (λ k. Remain k.core.blocks c.write8.new.self 0) c.self.view_is
    (written-remain c.self.inside.blocks c.write8.new.self (c.args.span.at + c.from.result) (c.args.byte ∷ [])
    c.self.invariant.laid c.write8.ensures.written)
