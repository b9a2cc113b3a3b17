use Rattle.std.proofs.Common.{◌∙◌, sym, ap, refl}
use Rattle.block_handles.specs.Store.{bytes_of}
use Rattle.block_handles.proofs.Views.{bytes_there}
use Rattle.block_handles.proofs.Writes.{bytes_seen}
use Rattle.block_handles.proofs.arena.Arena.bytes_mut.Goals as goal

pub invariant_of-self-lent : goal.invariant_of-self-lent
invariant_of-self-lent c w = (bytes_seen c.self.inside.limits c.self.inside.region c.self.inside.table c.self.inside.index.items
    c.args.self.now c.self.view_is c.self.invariant c.args.slot c.entry_of-entry.result
    c.entry_of-entry.ensures w).sound

pub returns : goal.returns
returns c = (
  (
    refl,
    λ w. (bytes_seen c.self.inside.limits c.self.inside.region c.self.inside.table c.self.inside.index.items c.args.self.now
        c.self.view_is c.self.invariant c.args.slot c.entry_of-entry.result c.entry_of-entry.ensures w).is,
  ),
  record {
    writes_back = tt;
    value = c.slice_mut.ensures.value
        ∙ sym (bytes_there c.self.inside.region c.self.inside.table c.args.slot c.entry_of-entry.result
        c.entry_of-entry.ensures) ∙ ap (λ v. bytes_of v c.args.slot) c.self.view_is;
  },
)
