use Rattle.std.proofs.Common.{arith}
use Rattle.chunk_array.proofs.Refitting.{refit, refitted}
use Rattle.chunk_array.proofs.change.spell_refitted.Goals as goal

pub shift_offsets-requires-clause-order : goal.shift_offsets-requires-clause-order
shift_offsets-requires-clause-order c = omega (arith, c.requires.refit.has_refit.known)

pub shift_offsets-requires-clause-within : goal.shift_offsets-requires-clause-within
shift_offsets-requires-clause-within c =
    let r = c.requires.refit in
    let f = refit c.args.bytes.now r.before r.array c.args.shape c.args.element c.args.n r.has_refit in
    omega (arith, f.table, f.within, f.long)

pub shift_offsets-requires-clause-room : goal.shift_offsets-requires-clause-room
shift_offsets-requires-clause-room c = let r = c.requires.refit in
    (refit c.args.bytes.now r.before r.array c.args.shape c.args.element c.args.n r.has_refit).room

pub returns : goal.returns
returns c before a h = refitted before c.args.bytes.now c.shift_offsets.new.bytes a c.args.shape c.args.element
    c.args.n h c.shift_offsets.ensures (λ k. let t = c.type_inv.bytes k in omega arith)
