use Rattle.std.proofs.Common.{◌-◌, arith}
use Rattle.block_handles.proofs.Searches.{entry_found, last_found}
use Rattle.block_handles.proofs.arena.Arena.last_in.Goals as goal

pub entry_of-place-requires : goal.entry_of-place-requires
entry_of-place-requires c = (entry_found c.self.inside.limits c.self.inside.region c.self.inside.table
    c.self.inside.index.items c.args.self.now c.self.view_is c.self.invariant (c.loop-granule.granule - 1) c.in-Some.slot
    c.args.until c.index.result.now (omega arith) c.requires c.index.ensures c.in-Some.is)

pub returns-then-place-until-clause-found : goal.returns-then-place-until-clause-found
returns-then-place-until-clause-found c = last_found c.self.inside.limits c.self.inside.region c.self.inside.table c.self.inside.index.items
    c.args.self.now c.self.view_is c.self.invariant (c.loop-granule.granule - 1) c.in-Some.slot c.args.until c.index.result.now
    (omega arith) c.requires c.index.ensures c.in-Some.is c.entry_of-place.result c.entry_of-place.ensures
    c.args.from c.if-from-place.true c.if-place-until.true (λ j some low high. let l = c.loop-granule.invariant.1 j some low high in omega (arith, l))
