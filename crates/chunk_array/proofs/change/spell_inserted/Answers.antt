use Rattle.std.proofs.Common.{ℕ, ◌+◌, ◌<◌, length, get_or, refl, ap, ◌∙◌, arith}
use Rattle.geos_terms.specs.Bytes.{with_word}
use Rattle.chunk_array.proofs.Roomy.{room, openable, spelled-varying, spelled-fixed}
use Rattle.chunk_array.proofs.change.spell_inserted.Goals as goal
use Rattle.chunk_array.proofs.change.spell_inserted.Goals.{then-shape-eq0, else-shape-eq0}

pub open_table-requires : goal.open_table-requires
open_table-requires c =
    let r = c.requires in
    let o = openable c.args.bytes.now r.before r.array c.args.shape c.args.element r.has c.if-shape-eq0.true in
    record { order = r.has.known; table = o.table; room = o.room; small = o.small; offsets = o.offsets }

pub overflow_add-shape : goal.overflow_add-shape
overflow_add-shape c = omega (arith, (room c.args.bytes.now c.requires.before c.requires.array c.args.shape c.args.element c.requires.has).count)

pub put16-requires : goal.put16-requires
put16-requires c =
    let m = room c.args.bytes.now c.requires.before c.requires.array c.args.shape c.args.element c.requires.has in
    elim c.if-shape-eq0.branch [
      | then-shape-eq0 w ↦ (let l = ap length w.bytes-is in omega (arith, l, w.open_table.ensures.long, m.long, m.least, m.within))
      | else-shape-eq0 w ↦ (let l = ap length w.bytes-is in omega (arith, l, m.long, m.least, m.within))
    ]

pub returns : goal.returns
returns c before a h =
    let d = c.put16.new.block in
    let w1 = c.args.shape.count + 1 in
    let small : (k : ℕ) → get_or d k 0 < 256 = (λ k. let t = c.type_inv.bytes k in omega arith) in
    elim c.if-shape-eq0.branch [
      | then-shape-eq0 w ↦ spelled-varying c.args.bytes.now w.open_table.new.bytes d before a c.args.shape c.args.element
          w1 h w.if-shape-eq0.true w.open_table.ensures refl
          (c.put16.ensures ∙ ap (λ x. with_word x 0 w1) w.bytes-is) small
      | else-shape-eq0 w ↦ spelled-fixed c.args.bytes.now d before a c.args.shape c.args.element w1 h w.if-shape-eq0.false
          refl (c.put16.ensures ∙ ap (λ x. with_word x 0 w1) w.bytes-is) small
    ]
