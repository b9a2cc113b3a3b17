use Rattle.std.proofs.Common.{subst, sym}
use Rattle.geos_calls.specs.ChunkCalls.{change_edit, change_row}
use Rattle.geos_calls.specs.Given.{given_memory}
use Rattle.geos_calls.proofs.Laws.{change-shape}
use Rattle.chunk_calls.specs.Edits.{Carries}
use Rattle.chunk_calls.proofs.Asking.{change-asks}
use Rattle.geos_kernel.specs.View.{MayChange, chunks_at, core_of}
use Rattle.geos_kernel.specs.Kernel.{HasNoRoomFor, StaysIfRefused, Remain}
use Rattle.geos_kernel.proofs.Chunks.{seen-heap, others-calls, others-kernel, carries-no_room}
use Rattle.geos_kernel.proofs.Seen.{blocks-alone, calls-seen}
use Rattle.geos_kernel.proofs.Remaining.{changes-remain}
use Rattle.geos_kernel.proofs.kernel.Kernel.change.Goals as goal

pub change-requires : goal.change-requires
change-requires g c =
    let d = g.D.Device in
    record {
      tied = c.self.invariant.tied;
      heap = seen-heap d.medium c.self.inside.vm c.self.inside.blocks c.args.self.now
          c.self.view_is c.args.name c.self.invariant c.requires.locked;
    }

pub invariant_of-self : goal.invariant_of-self
invariant_of-self g c =
    let d = g.D.Device in
    let v = c.self.inside.vm in
    let s = c.self.inside.blocks in
    let done = c.change in
    let holds = seen-heap d.medium v s c.args.self.now c.self.view_is c.args.name c.self.invariant c.requires.locked in
    let marked = subst (λ k. MayChange k.core c.args.name) (sym c.self.view_is) c.requires.marked in
    others-kernel d.medium v s done.new.blocks c.args.name c.self.invariant holds done.ensures.calls.keeps
    (change_row c.args.name c.args.change) done.result (done.ensures.calls.tied marked) done.ensures.calls.row

pub returns-clause-calls : goal.returns-clause-calls
returns-clause-calls g c =
    let d = g.D.Device in
    let v = c.self.inside.vm in
    let s = c.self.inside.blocks in
    let done = c.change in
    let holds = seen-heap d.medium v s c.args.self.now c.self.view_is c.args.name c.self.invariant c.requires.locked in
    calls-seen d.medium v s c.args.self.now c.self.view_is
    (others-calls d.medium v s done.new.blocks c.args.name c.self.invariant holds done.ensures.calls.keeps
    (change_row c.args.name c.args.change) done.result (λ choice m. (change-shape c.args.name c.args.change (given_memory choice.given m) choice).1)
    done.ensures.calls.row)

pub returns-clause-no_room : goal.returns-clause-no_room
returns-clause-no_room g c = λ refused.
    let d = g.D.Device in
    let v = c.self.inside.vm in
    let new = c.change.new.blocks in
    let edit = change_edit c.args.change in
    subst (λ k. HasNoRoomFor (core_of d.medium v new) c.args.name (edit (chunks_at k.core.blocks c.args.name)).chunks) c.self.view_is
    (carries-no_room d.medium v edit c.self.inside.blocks new c.args.name (change-asks c.args.change) _ c.change.result
    c.change.ensures.carries refused)

pub returns-clause-vm : goal.returns-clause-vm
returns-clause-vm g c = blocks-alone g.D.Device.medium c.self.inside.vm c.self.inside.blocks c.change.new.blocks c.args.self.now c.self.view_is

pub returns-clause-refused : goal.returns-clause-refused
returns-clause-refused g c = subst (λ k. StaysIfRefused c.change.result k.core.blocks c.change.new.blocks) c.self.view_is
    c.change.ensures.calls.refused

pub returns-clause-remain : goal.returns-clause-remain
returns-clause-remain g c = λ stays.
    let d = g.D.Device in
    let s = c.self.inside.blocks in
    let new = c.change.new.blocks in
    let edit = change_edit c.args.change in
    let holds = seen-heap d.medium c.self.inside.vm s c.args.self.now c.self.view_is c.args.name c.self.invariant c.requires.locked in
    let carries = subst (λ grows. Carries grows c.self.inside.vm edit s new c.args.name c.change.result) stays c.change.ensures.carries in
    subst (λ k. Remain k.core.blocks new 0) c.self.view_is (changes-remain s new edit c.args.name c.change.result holds.there carries)
