use Rattle.std.proofs.Common.{◌+◌, ◌-◌, ◌∙◌, ap, length, replicate, arith}
use Rattle.lmem_raw.specs.Bytes.{part, with_part}
use Rattle.lmem_raw.proofs.Parts.{length-with_part}
use Rattle.block_handles.proofs.Steps.{entry_seen, granule_seen, lies_seen, relocate_put, size_seen}
use Rattle.block_handles.proofs.arena.Arena.relocate.Goals as goal

pub fill-requires : goal.fill-requires
fill-requires c =
    let size = size_seen c.self.inside.limits c.self.inside.region c.self.inside.table c.self.inside.index.items c.args.self.now
    c.self.view_is c.self.invariant c.args.slot c.entry_of-entry.result c.entry_of-entry.ensures in
    omega (
      arith,
      size,
      c.requires.room,
      c.requires.legal.0,
      ap length c.move_to.ensures,
      length-with_part c.self.inside.region c.args.to (part c.self.inside.region c.entry_of-entry.result.place c.entry_of-entry.result.size),
      ap (λ s. s.len.region) c.self.view_is,
    )

pub invariant_of-self : goal.invariant_of-self
invariant_of-self c = (relocate_put c.self.inside.limits c.self.inside.region c.self.inside.table c.self.inside.index.items
    c.args.self.now c.self.view_is c.self.invariant c.args.slot c.entry_of-entry.result
    c.entry_of-entry.ensures c.args.to c.args.size c.requires.legal c.requires.room
    c.requires.free c.fill.new.self (c.fill.ensures
    ∙ ap (λ r. with_part r (c.args.to + c.entry_of-entry.result.size) (replicate (c.args.size - c.entry_of-entry.result.size) 0))
    c.move_to.ensures) c.put_place.new.self c.put_place.ensures).sound

pub returns-clause-store : goal.returns-clause-store
returns-clause-store c = (relocate_put c.self.inside.limits c.self.inside.region c.self.inside.table c.self.inside.index.items
    c.args.self.now c.self.view_is c.self.invariant c.args.slot c.entry_of-entry.result
    c.entry_of-entry.ensures c.args.to c.args.size c.requires.legal c.requires.room
    c.requires.free c.fill.new.self (c.fill.ensures
    ∙ ap (λ r. with_part r (c.args.to + c.entry_of-entry.result.size) (replicate (c.args.size - c.entry_of-entry.result.size) 0))
    c.move_to.ensures) c.put_place.new.self c.put_place.ensures).is

pub returns-clause-laid : goal.returns-clause-laid
returns-clause-laid c = (relocate_put c.self.inside.limits c.self.inside.region c.self.inside.table c.self.inside.index.items
    c.args.self.now c.self.view_is c.self.invariant c.args.slot c.entry_of-entry.result
    c.entry_of-entry.ensures c.args.to c.args.size c.requires.legal c.requires.room
    c.requires.free c.fill.new.self (c.fill.ensures
    ∙ ap (λ r. with_part r (c.args.to + c.entry_of-entry.result.size) (replicate (c.args.size - c.entry_of-entry.result.size) 0))
    c.move_to.ensures) c.put_place.new.self c.put_place.ensures).laid

pub entry_of-entry-requires : goal.entry_of-entry-requires
entry_of-entry-requires c = (entry_seen c.self.inside.limits c.self.inside.region c.self.inside.table
    c.self.inside.index.items c.args.self.now c.self.view_is c.self.invariant c.args.slot c.requires.there)

pub move_to-requires : goal.move_to-requires
move_to-requires c =
    let len = ap (λ s. s.len.region) c.self.view_is in (
      omega (
        arith,
        lies_seen c.self.inside.limits c.self.inside.region c.self.inside.table c.self.inside.index.items c.args.self.now
            c.self.view_is c.self.invariant c.args.slot c.entry_of-entry.result c.entry_of-entry.ensures,
        len,
      ),
      omega (
        arith,
        size_seen c.self.inside.limits c.self.inside.region c.self.inside.table c.self.inside.index.items c.args.self.now
            c.self.view_is c.self.invariant c.args.slot c.entry_of-entry.result c.entry_of-entry.ensures,
        c.requires.legal.0,
        c.requires.room,
        len,
      ),
    )

pub overflow_add-to : goal.overflow_add-to
overflow_add-to c = omega (
  arith,
  size_seen c.self.inside.limits c.self.inside.region c.self.inside.table c.self.inside.index.items
      c.args.self.now c.self.view_is c.self.invariant c.args.slot c.entry_of-entry.result c.entry_of-entry.ensures,
  c.requires.legal.0,
  c.requires.room,
  c.self.invariant.short,
  ap (λ s. s.len.region) c.self.view_is,
)

pub overflow_sub-size : goal.overflow_sub-size
overflow_sub-size c = omega (
  arith,
  size_seen c.self.inside.limits c.self.inside.region c.self.inside.table c.self.inside.index.items
      c.args.self.now c.self.view_is c.self.invariant c.args.slot c.entry_of-entry.result c.entry_of-entry.ensures,
  c.requires.legal.0,
)

pub index_mut-requires : goal.index_mut-requires
index_mut-requires c =
    let low = lies_seen c.self.inside.limits c.self.inside.region c.self.inside.table c.self.inside.index.items c.args.self.now
    c.self.view_is c.self.invariant c.args.slot c.entry_of-entry.result c.entry_of-entry.ensures in
    omega (
      arith,
      granule_seen c.self.inside.limits c.self.inside.region c.self.inside.table c.self.inside.index.items c.args.self.now
          c.self.view_is c.self.invariant c.args.slot c.entry_of-entry.result.place (omega (arith, low)),
      c.self.inside.index.ok.0,
    )
