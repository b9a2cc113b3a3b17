use Rattle.geos_terms.specs.Names.{vm}
use Rattle.std.proofs.Common.{get_or}
use Rattle.geos_calls.specs.ChunkCalls.{change_row}
use Rattle.geos_calls.specs.ItemCalls.{on_group}
use Rattle.geos_calls.specs.Memory.{is_group}
use Rattle.geos_machine.proofs.OfFile.{group-plain}
use Rattle.geos_machine.proofs.files.change_item.Goals as goal

pub returns-clause-answers : goal.returns-clause-answers
returns-clause-answers g c =
    let i = c.args.i.now in
    let change = c.change_at-change.result in
    record {
      row = on_group (get_or c.args.m.now.words i.a 0) (change_row (vm (get_or c.args.m.now.words i.a 0)) change);
      plain = λ choice memory. group-plain (is_group memory (get_or c.args.m.now.words i.a 0)) (vm (get_or c.args.m.now.words i.a 0));
      does = c.change_at-change.ensures.items c.requires.changes;
      answers = rw c.requires.a at c.item_change.ensures.calls;
    }

pub returns-clause-between : goal.returns-clause-between
returns-clause-between g c = c.item_change.ensures.device.between
