use Rattle.std.proofs.Common.{subst, sym, refl}
use Rattle.geos_calls.specs.ChunkCalls.{make_edit, make_row}
use Rattle.chunk_calls.proofs.Asking.{make-asks}
use Rattle.geos_kernel.specs.View.{MayChange, chunks_at, core_of}
use Rattle.geos_kernel.specs.Kernel.{HasNoRoomFor, StaysIfRefused}
use Rattle.geos_kernel.proofs.Chunks.{seen-heap, others-calls, others-kernel, comes-no_room}
use Rattle.geos_kernel.proofs.Seen.{blocks-alone, calls-seen}
use Rattle.geos_kernel.proofs.kernel.Kernel.make_chunk.Goals as goal

pub make_chunk-requires : goal.make_chunk-requires
make_chunk-requires g c =
    let d = g.D.Device in
    record {
      tied = c.self.invariant.tied;
      heap = seen-heap d.medium c.self.inside.vm c.self.inside.blocks c.args.self.now
          c.self.view_is c.args.name c.self.invariant c.requires.locked;
    }

pub invariant_of-self : goal.invariant_of-self
invariant_of-self g c =
    let d = g.D.Device in
    let v = c.self.inside.vm in
    let s = c.self.inside.blocks in
    let done = c.make_chunk in
    let holds = seen-heap d.medium v s c.args.self.now c.self.view_is c.args.name c.self.invariant c.requires.locked in
    let marked = subst (λ k. MayChange k.core c.args.name) (sym c.self.view_is) c.requires.marked in
    others-kernel d.medium v s done.new.blocks c.args.name c.self.invariant holds done.ensures.calls.keeps
    (make_row c.args.name c.args.make) done.result (done.ensures.calls.tied marked) done.ensures.calls.row

pub returns-clause-calls : goal.returns-clause-calls
returns-clause-calls g c =
    let d = g.D.Device in
    let v = c.self.inside.vm in
    let s = c.self.inside.blocks in
    let done = c.make_chunk in
    let holds = seen-heap d.medium v s c.args.self.now c.self.view_is c.args.name c.self.invariant c.requires.locked in
    calls-seen d.medium v s c.args.self.now c.self.view_is
    (others-calls d.medium v s done.new.blocks c.args.name c.self.invariant holds done.ensures.calls.keeps
    (make_row c.args.name c.args.make) done.result (λ choice m. refl) done.ensures.calls.row)

pub returns-clause-no_room : goal.returns-clause-no_room
returns-clause-no_room g c = λ refused.
    let d = g.D.Device in
    let v = c.self.inside.vm in
    let new = c.make_chunk.new.blocks in
    let edit = make_edit c.args.make in
    subst (λ k. HasNoRoomFor (core_of d.medium v new) c.args.name (edit (chunks_at k.core.blocks c.args.name)).chunks) c.self.view_is
    (comes-no_room d.medium v edit c.self.inside.blocks new c.args.name (make-asks c.args.make) c.make_chunk.result
    c.make_chunk.ensures.comes refused)

pub returns-clause-vm : goal.returns-clause-vm
returns-clause-vm g c = blocks-alone g.D.Device.medium c.self.inside.vm c.self.inside.blocks c.make_chunk.new.blocks c.args.self.now c.self.view_is

pub returns-clause-refused : goal.returns-clause-refused
returns-clause-refused g c = subst (λ k. StaysIfRefused c.make_chunk.result k.core.blocks c.make_chunk.new.blocks)
    c.self.view_is c.make_chunk.ensures.calls.refused
