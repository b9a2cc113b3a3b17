use Rattle.std.proofs.Common.{arith}
use Rattle.block_handles.proofs.Searches.{empty_sound, empty_seen}
use Rattle.block_handles.proofs.arena.Arena.new.Goals as goal

pub invariant_of-result : goal.invariant_of-result
invariant_of-result c = empty_sound c.in_ok-new.field-0 c.in_ok-new-2.field-0 c.in_ok-empty_index.field-0.items
    c.args.len c.in_ok-new.ensures c.in_ok-new-2.ensures.0 c.in_ok-new-2.ensures.1 c.in_ok-empty_index.ensures.0
    c.in_ok-empty_index.ensures.1 (omega arith)

pub returns : goal.returns
returns c = empty_seen c.in_ok-new.field-0 c.in_ok-new-2.field-0 c.in_ok-empty_index.field-0.items
    c.args.len c.in_ok-new.ensures c.in_ok-new-2.ensures.0 c.in_ok-new-2.ensures.1 c.in_ok-empty_index.ensures.0
    c.in_ok-empty_index.ensures.1 (omega arith)
