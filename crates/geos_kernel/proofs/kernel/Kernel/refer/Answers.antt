use Rattle.std.proofs.Common.{◌+◌, subst, sym}
use Rattle.std.specs.Prelude.{Ok, Err}
use Rattle.geos_terms.specs.Heap.{IsHeap}
use Rattle.geos_calls.specs.Calls.{in_block}
use Rattle.geos_calls.specs.ChunkCalls.{refer_edit, refer_row}
use Rattle.chunk_calls.specs.Edits.{Finds}
use Rattle.geos_kernel.specs.Kernel.{GivesSpan}
use Rattle.geos_kernel.specs.declared.span.Span.{Span}
use Rattle.geos_kernel.specs.Spans.{IsWritable}
use Rattle.geos_kernel.specs.View.{IsLocked, MayChange, chunks_at, core_of}
use Rattle.geos_kernel.proofs.Chunks.{seen-heap}
use Rattle.geos_kernel.proofs.Looks.{found, found-stands, refers-not, gives-standing}
use Rattle.geos_kernel.proofs.kernel.Kernel.refer.Goals as goal

pub bytes-requires : goal.bytes-requires
bytes-requires g c =
    let d = g.D.Device in (seen-heap d.medium c.self.inside.vm c.self.inside.blocks c.args.self.now c.self.view_is
    c.args.name c.self.invariant c.requires).there

pub find-requires : goal.find-requires
find-requires g c =
    let d = g.D.Device in subst IsHeap (sym c.bytes.ensures)
    (seen-heap d.medium c.self.inside.vm c.self.inside.blocks c.args.self.now c.self.view_is c.args.name c.self.invariant c.requires).heap

pub place-requires : goal.place-requires
place-requires g c =
    let d = g.D.Device in (seen-heap d.medium c.self.inside.vm c.self.inside.blocks c.args.self.now c.self.view_is
    c.args.name c.self.invariant c.requires).there

pub returns-in-Ok-clause-gives : goal.returns-in-Ok-clause-gives
returns-in-Ok-clause-gives g c =
    let d = g.D.Device in
    let v = c.self.inside.vm in
    let s = c.self.inside.blocks in
    let k = c.args.self.now in
    let edit = refer_edit c.args.refer in
    let at = c.in-Ok.at in
    let len = c.in-Ok.len in
    let holds = seen-heap d.medium v s k c.self.view_is c.args.name c.self.invariant c.requires in
    let locked = subst (λ k. IsLocked k.core c.args.name) (sym c.self.view_is) c.requires in
    let finds = subst (λ bytes. Finds edit bytes (Ok (at, len))) c.bytes.ensures c.in-Ok.ensures.finds in
    subst (λ k. GivesSpan (d.medium.honest k.device) (refer_row c.args.name c.args.refer)
    (Ok (record { at = c.place.result + at; len = len })) k.core) c.self.view_is
    (found d.medium v s c.args.name c.self.invariant holds locked edit at len c.place.result c.place.ensures.place finds)

pub returns-in-Ok-clause-stands : goal.returns-in-Ok-clause-stands
returns-in-Ok-clause-stands g c = (
  gives-standing (g.D.Device.medium.honest c.args.self.now.device) (refer_row c.args.name c.args.refer)
      (record { at = c.place.result + c.in-Ok.at; len = c.in-Ok.len }) c.args.self.now.core (returns-in-Ok-clause-gives g c),
  c.in-Ok.ensures.within.1,
)

pub returns-in-Ok-clause-writable : goal.returns-in-Ok-clause-writable
returns-in-Ok-clause-writable g c =
    let s = c.self.inside.blocks in
    let edit = refer_edit c.args.refer in
    let span : Span = record { at = c.place.result + c.in-Ok.at; len = c.in-Ok.len } in
    let locked = subst (λ k. IsLocked k.core c.args.name) (sym c.self.view_is) c.requires in
    let finds = subst (λ bytes. Finds edit bytes (Ok (c.in-Ok.at, c.in-Ok.len))) c.bytes.ensures c.in-Ok.ensures.finds in
    let stands = found-stands (core_of g.D.Device.medium c.self.inside.vm s) c.args.name locked edit c.in-Ok.at
    c.in-Ok.len c.place.result c.place.ensures.place finds in
    subst (λ k. MayChange k.core c.args.name → IsWritable k.core span) c.self.view_is
    (λ may. (in_block c.args.name (edit (chunks_at s c.args.name)).answer, stands, may))

pub returns-in-Err-clause-gives : goal.returns-in-Err-clause-gives
returns-in-Err-clause-gives g c =
    let d = g.D.Device in
    let v = c.self.inside.vm in
    let s = c.self.inside.blocks in
    let k = c.args.self.now in
    let edit = refer_edit c.args.refer in
    let why = c.in-Err.refusal in
    let holds = seen-heap d.medium v s k c.self.view_is c.args.name c.self.invariant c.requires in
    let finds = subst (λ bytes. Finds edit bytes (Err why)) c.bytes.ensures c.in-Err.ensures.finds in
    subst (λ k. GivesSpan (d.medium.honest k.device) (refer_row c.args.name c.args.refer) (Err why) k.core) c.self.view_is
    (refers-not d.medium v s c.args.name c.self.invariant holds edit why finds)
