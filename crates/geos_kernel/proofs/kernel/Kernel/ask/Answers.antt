use Rattle.std.proofs.Common.{subst, sym}
use Rattle.geos_terms.specs.Block.{chunks}
use Rattle.geos_terms.specs.Heap.{IsHeap}
use Rattle.geos_calls.specs.ChunkCalls.{ask_edit, ask_row}
use Rattle.chunk_calls.specs.Edits.{Tells}
use Rattle.geos_kernel.specs.Kernel.{Calls}
use Rattle.geos_kernel.proofs.Chunks.{seen-heap}
use Rattle.geos_kernel.proofs.Looks.{told}
use Rattle.geos_kernel.proofs.kernel.Kernel.ask.Goals as goal

pub bytes-requires : goal.bytes-requires
bytes-requires g c =
    let d = g.D.Device in (seen-heap d.medium c.self.inside.vm c.self.inside.blocks c.args.self.now c.self.view_is
    c.args.name c.self.invariant c.requires).there

pub tell-requires : goal.tell-requires
tell-requires g c =
    let d = g.D.Device in subst IsHeap (sym c.bytes.ensures)
    (seen-heap d.medium c.self.inside.vm c.self.inside.blocks c.args.self.now c.self.view_is c.args.name c.self.invariant c.requires).heap

pub returns : goal.returns
returns g c =
    let d = g.D.Device in
    let v = c.self.inside.vm in
    let s = c.self.inside.blocks in
    let k = c.args.self.now in
    let holds = seen-heap d.medium v s k c.self.view_is c.args.name c.self.invariant c.requires in
    let tells = subst (λ bytes. Tells (ask_edit c.args.ask) (chunks bytes) c.tell.result) c.bytes.ensures c.tell.ensures in
    subst (λ k. Calls (d.medium.honest k.device) (ask_row c.args.name c.args.ask) c.tell.result k.core k.core) c.self.view_is
    (told d.medium v s c.args.name c.self.invariant holds (ask_edit c.args.ask) c.tell.result tells)
