use Rattle.std.proofs.Common.{◌<◌, Ok, subst, arith}
use Rattle.block_handles.specs.Offsets.{CopiesCovered}
use Rattle.geos_calls.specs.Effects.{Reference}
use Rattle.geos_calls.specs.Calls as table
use Rattle.geos_calls.proofs.Laws.{willing}
use Rattle.geos_kernel.specs.Kernel.{Calls, Remain}
use Rattle.geos_kernel.specs.Spans.{Stands}
use Rattle.geos_kernel.specs.View.{core_of}
use Rattle.chunk_calls.proofs.Values.{values-of}
use Rattle.geos_kernel.proofs.AccessReads.{span-region}
use Rattle.geos_kernel.proofs.AccessCopies.{nothing-copied, span-copied, span-copies}
use Rattle.geos_kernel.proofs.Remaining.{written-remain}
use Rattle.geos_kernel.proofs.kernel.Kernel.copy.Goals as goal

pub returns-then-len-eq0-clause-row : goal.returns-then-len-eq0-clause-row
returns-then-len-eq0-clause-row g c =
    subst (λ k. (target source : Reference) → Stands k.core c.args.to target → Stands k.core c.args.from source
    → Calls (g.D.Device.medium.honest k.device) (table.copy target source c.args.len) (Ok tt) k.core
    (core_of g.D.Device.medium c.self.inside.vm c.self.inside.blocks)) c.self.view_is
    (λ target source t u. nothing-copied g.D.Device.medium c.self.inside.vm c.self.inside.blocks c.args.to target
    source c.args.len c.self.invariant c.if-len-eq0.true t)

pub copy-requires : goal.copy-requires
copy-requires g c =
    let d = g.D.Device in
    let n = c.args.len in
    let q = c.requires in
    let some : 0 < n = omega (arith, c.if-len-eq0.false) in
    let region = span-region d.medium c.self.inside.vm c.self.inside.blocks c.args.self.now c.self.view_is c.self.invariant in (
      omega (arith, region c.args.from 0 n q.from.0 (omega (arith, q.from.1)) some, c.from.ensures),
      omega (arith, region c.args.to 0 n (q.to.0.0, q.to.0.1) (omega (arith, q.to.1)) some, c.from.ensures),
    )

pub invariant_of-self-2 : goal.invariant_of-self-2
invariant_of-self-2 g c =
    let d = g.D.Device in
    let blocks = c.self.inside.blocks in
    let new = c.copy.new.self in
    let q = c.requires in
    let copied : CopiesCovered blocks new c.args.from.at c.args.to.at c.args.len =
    subst (CopiesCovered blocks new c.args.from.at c.args.to.at) c.from.ensures c.copy.ensures.covered in
    span-copied d.medium c.self.inside.vm blocks new c.args.self.now c.self.view_is c.self.invariant c.args.to
    c.args.from c.args.len (omega (arith, c.if-len-eq0.false)) q.to.1 q.from.1
    (λ slot. values-of blocks slot c.region.result.now c.region.ensures.region c.region.ensures.bytes) copied q.to.0 q.from.0

pub returns-clause-row : goal.returns-clause-row
returns-clause-row g c =
    let d = g.D.Device in
    let blocks = c.self.inside.blocks in
    let new = c.copy.new.self in
    let q = c.requires in
    let copied : CopiesCovered blocks new c.args.from.at c.args.to.at c.args.len =
    subst (CopiesCovered blocks new c.args.from.at c.args.to.at) c.from.ensures c.copy.ensures.covered in
    span-copies d.medium c.self.inside.vm blocks new c.args.self.now c.self.view_is c.self.invariant c.args.to
    c.args.from c.args.len (omega (arith, c.if-len-eq0.false)) q.to.1 q.from.1
    (λ slot. values-of blocks slot c.region.result.now c.region.ensures.region c.region.ensures.bytes) copied

pub returns-clause-spans : goal.returns-clause-spans
returns-clause-spans g c = let to = c.requires.to.0 in let from = c.requires.from.0 in
    λ f tied. (returns-clause-row g c to.0 from.0 to.1 from.1).spans f tied willing

pub returns-clause-remain : goal.returns-clause-remain
returns-clause-remain g c = subst (λ k. Remain k.core.blocks c.copy.new.self 0) c.self.view_is
    (written-remain c.self.inside.blocks c.copy.new.self c.args.to.at c.copy.ensures.copied.bytes c.self.invariant.laid c.copy.ensures.copied.wrote)
