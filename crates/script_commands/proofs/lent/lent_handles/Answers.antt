use Rattle.script_commands.proofs.LentHandles.{four-read, lent-four}
use Rattle.script_commands.proofs.lent.lent_handles.Goals as goal

pub returns : goal.returns
returns c =
    lent-four _ _ _ _ _ _ _ _ c.args.states.now c.args.handles.now c.new-lent.result.items c.lend.new.lent.items
    c.lend-2.new.lent.items c.lend-3.new.lent.items c.lend-4.new.lent.items
    (four-read c.args.states.now _ c.told-states) (four-read c.args.handles.now _ c.told-handles) c.new-lent.ensures
    c.lend.ensures.items c.lend-2.ensures.items c.lend-3.ensures.items c.lend-4.ensures.items
