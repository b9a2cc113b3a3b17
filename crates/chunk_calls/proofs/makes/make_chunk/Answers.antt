use Rattle.std.proofs.Common.{subst}
use Rattle.std.specs.Prelude.{Err}
use Rattle.block_handles.specs.Names.{slot_of}
use Rattle.geos_calls.specs.ChunkCalls.{make_edit}
use Rattle.chunk_calls.specs.Edits.{DiscardsAndEdits, Tries}
use Rattle.chunk_calls.proofs.Asking.{make-asks}
use Rattle.chunk_calls.proofs.Changing.{comes-keeps}
use Rattle.chunk_calls.proofs.Coming.{comes-at_once, comes-refused}
use Rattle.chunk_calls.proofs.Kept.{named-tied}
use Rattle.chunk_calls.proofs.Rows.{comes-row}
use Rattle.chunk_calls.proofs.Values.{values-of, where_ok}
use Rattle.chunk_calls.proofs.makes.make_chunk.Goals.{in-Ok, in-Err-Refused, in-Err-Room}
use Rattle.chunk_calls.proofs.makes.make_chunk.Goals as goal

pub returns-clause-comes : goal.returns-clause-comes
returns-clause-comes g c =
    let v = c.args.vm.now in
    let edit = make_edit c.args.make in
    let old = c.args.blocks.now in
    let name = c.args.name in
    let tried = c.try_make.new.blocks in
    elim c.match-try_make.branch [
      | in-Ok w ↦ rw (w.blocks-is, w.made-is) (comes-at_once v edit old name c.requires.tied.laid tried w.in-Ok.c w.in-Ok.ensures)
      | in-Err-Refused w ↦ (let i = w.in-Err-Refused in
          rw (w.blocks-is, w.made-is) (comes-refused v edit old name c.requires.tied.laid (make-asks c.args.make)
          tried i.refusal (subst (λ o. Tries edit old tried name (Err o)) i.field-0-is i.ensures)))
      | in-Err-Room w ↦ (let m = w.grow_and_make-made in
          rw (w.blocks-is, w.made-is) (subst (λ s. DiscardsAndEdits v edit s m.new.blocks name m.result) w.in-Err-Room.ensures.1 m.ensures.comes))
    ]

pub returns-clause-calls : goal.returns-clause-calls
returns-clause-calls g c =
    let d = g.D.Device in
    let q = c.requires in
    let v = c.args.vm.now in
    let edit = make_edit c.args.make in
    let name = c.args.name in
    let old = c.args.blocks.now in
    let made = c.match-try_make.made in
    let new = c.match-try_make.blocks in
    let comes = returns-clause-comes g c in
    let keeps = comes-keeps v edit old new name q.tied.laid q.heap made comes in
    record {
      refused = elim c.match-try_make.branch [
        | in-Ok w ↦ rw (w.blocks-is, w.made-is) (λ other. tt)
        | in-Err-Refused w ↦ rw (w.blocks-is, w.made-is) (λ other. w.in-Err-Refused.ensures.1)
        | in-Err-Room w ↦ rw (w.blocks-is, w.made-is, ← w.in-Err-Room.ensures.1) w.grow_and_make-made.ensures.refused
      ];
      keeps = keeps;
      tied = λ marked. named-tied d.medium v old new name q.tied q.heap.there keeps marked;
      row = comes-row d.medium v edit old new name q.tied q.heap made comes
          (where_ok made (values-of new (slot_of name) c.region.result.now c.region.ensures.region c.region.ensures.bytes));
    }
