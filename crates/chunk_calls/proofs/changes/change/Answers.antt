use Rattle.std.proofs.Common.{◌≡◌, ◌∙◌, true, false, ap, sym, subst}
use Rattle.std.specs.Prelude.{Err}
use Rattle.block_handles.specs.Names.{slot_of}
use Rattle.geos_calls.specs.ChunkCalls.{change_edit, may_grow}
use Rattle.chunk_calls.specs.Edits.{DiscardsAndEdits, IsOwn, Tries}
use Rattle.chunk_calls.proofs.Asking.{change-asks}
use Rattle.chunk_calls.proofs.Changing.{carries-keeps}
use Rattle.chunk_calls.proofs.Coming.{carries-done, carries-refused, carries-grown, own-grows}
use Rattle.chunk_calls.proofs.Kept.{named-tied}
use Rattle.chunk_calls.proofs.Rows.{carries-row}
use Rattle.chunk_calls.proofs.Values.{values-of, where_ok}
use Rattle.chunk_calls.proofs.changes.change.Goals.{in-Ok, in-Err-Refused, in-Err-Room}
use Rattle.chunk_calls.proofs.changes.change.Goals as goal

pub returns-clause-carries : goal.returns-clause-carries
returns-clause-carries g c =
    let v = c.args.vm.now in
    let grows = may_grow c.args.change in
    let edit = change_edit c.args.change in
    let old = c.args.blocks.now in
    let name = c.args.name in
    let tried = c.try_change.new.blocks in
    elim c.match-try_change.branch [
      | in-Ok w ↦ rw (w.blocks-is, w.done-is) (carries-done v grows edit old tried name c.requires.tied.laid tt w.in-Ok.ensures.tries)
      | in-Err-Refused w ↦ (let i = w.in-Err-Refused in
          rw (w.blocks-is, w.done-is) (carries-refused v grows edit old tried name c.requires.tied.laid
          (change-asks c.args.change) i.refusal (subst (λ o. Tries edit old tried name (Err o)) i.field-0-is i.ensures.tries)))
      | in-Err-Room w ↦ (let i = w.in-Err-Room in let e = w.grow_and_change-done in
          let may = own-grows grows i.room (subst (λ o. IsOwn grows (Err o)) i.field-0-is i.ensures.own) in
          rw (w.blocks-is, w.done-is) (carries-grown v grows edit old e.new.blocks name c.requires.tied.laid e.result may
          (subst (λ s. DiscardsAndEdits v edit s e.new.blocks name e.result) i.ensures.tries.1 e.ensures.comes)))
    ]

pub returns-clause-calls : goal.returns-clause-calls
returns-clause-calls g c =
    let d = g.D.Device in
    let q = c.requires in
    let v = c.args.vm.now in
    let edit = change_edit c.args.change in
    let name = c.args.name in
    let old = c.args.blocks.now in
    let done = c.match-try_change.done in
    let new = c.match-try_change.blocks in
    let carries = returns-clause-carries g c in
    let keeps = carries-keeps v edit old new name q.tied.laid q.heap (may_grow c.args.change) done carries in
    record {
      refused = elim c.match-try_change.branch [
        | in-Ok w ↦ rw (w.blocks-is, w.done-is) (λ other. tt)
        | in-Err-Refused w ↦ rw (w.blocks-is, w.done-is) (λ other. w.in-Err-Refused.ensures.tries.1)
        | in-Err-Room w ↦ rw (w.blocks-is, w.done-is, ← w.in-Err-Room.ensures.tries.1) w.grow_and_change-done.ensures.refused
      ];
      keeps = keeps;
      tied = λ marked. named-tied d.medium v old new name q.tied q.heap.there keeps marked;
      row = carries-row d.medium v edit old new name q.tied q.heap (may_grow c.args.change) done carries
          (where_ok done (values-of new (slot_of name) c.region.result.now c.region.ensures.region c.region.ensures.bytes));
    }

pub returns-clause-compact : goal.returns-clause-compact
returns-clause-compact g c =
    elim c.match-try_change.branch [
      | in-Ok w ↦ rw w.blocks-is w.in-Ok.ensures.compact
      | in-Err-Refused w ↦ rw w.blocks-is w.in-Err-Refused.ensures.compact
      | in-Err-Room w ↦ (let i = w.in-Err-Room in
          let may = own-grows (may_grow c.args.change) i.room (subst (λ o. IsOwn (may_grow c.args.change) (Err o)) i.field-0-is i.ensures.own) in
          λ is. absurd (let no : false ≡ true = ap may_grow (sym is) ∙ may in cc))
    ]
