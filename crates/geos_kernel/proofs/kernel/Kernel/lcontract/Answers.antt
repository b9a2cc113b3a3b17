use Rattle.std.proofs.Common.{subst, sym}
use Rattle.block_handles.specs.Names.{slot_of}
use Rattle.chunk_calls.proofs.Values.{values-of}
use Rattle.geos_kernel.specs.View.{MayChange}
use Rattle.geos_kernel.specs.Kernel.{Remain}
use Rattle.geos_kernel.proofs.Chunks.{contracted, seen-heap}
use Rattle.geos_kernel.proofs.Remaining.{rechunked-remain}
use Rattle.geos_kernel.proofs.Seen.{calls-seen}
use Rattle.geos_kernel.proofs.kernel.Kernel.lcontract.Goals as goal

pub contract-requires : goal.contract-requires
contract-requires g c =
    let d = g.D.Device in seen-heap d.medium c.self.inside.vm c.self.inside.blocks c.args.self.now c.self.view_is
    c.args.name c.self.invariant c.requires.locked

pub invariant_of-self : goal.invariant_of-self
invariant_of-self g c =
    let d = g.D.Device in
    let v = c.self.inside.vm in
    let s = c.self.inside.blocks in
    let new = c.contract.new.blocks in
    let holds = seen-heap d.medium v s c.args.self.now c.self.view_is c.args.name c.self.invariant c.requires.locked in
    let are = values-of new (slot_of c.args.name) c.region.result.now c.region.ensures.region c.region.ensures.bytes in
    let marked = subst (λ k. MayChange k.core c.args.name) (sym c.self.view_is) c.requires.marked in
    (contracted d.medium v s new c.args.name c.self.invariant holds c.contract.ensures.tries are marked).0

pub returns-clause-calls : goal.returns-clause-calls
returns-clause-calls g c =
    let d = g.D.Device in
    let v = c.self.inside.vm in
    let s = c.self.inside.blocks in
    let new = c.contract.new.blocks in
    let holds = seen-heap d.medium v s c.args.self.now c.self.view_is c.args.name c.self.invariant c.requires.locked in
    let are = values-of new (slot_of c.args.name) c.region.result.now c.region.ensures.region c.region.ensures.bytes in
    let marked = subst (λ k. MayChange k.core c.args.name) (sym c.self.view_is) c.requires.marked in
    calls-seen d.medium v s c.args.self.now c.self.view_is
    (contracted d.medium v s new c.args.name c.self.invariant holds c.contract.ensures.tries are marked).1

pub returns-clause-remain : goal.returns-clause-remain
returns-clause-remain g c =
    let d = g.D.Device in
    let s = c.self.inside.blocks in
    let new = c.contract.new.blocks in
    let holds = seen-heap d.medium c.self.inside.vm s c.args.self.now c.self.view_is c.args.name c.self.invariant c.requires.locked in
    subst (λ k. Remain k.core.blocks new 0) c.self.view_is (rechunked-remain s new (slot_of c.args.name) _ _ holds.there c.contract.ensures.tries.1)
