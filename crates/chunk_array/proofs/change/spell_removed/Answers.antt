use Rattle.std.proofs.Common.{ℕ, ◌-◌, ◌<◌, length, get_or, refl, ap, ◌∙◌, arith}
use Rattle.geos_terms.specs.Bytes.{with_word}
use Rattle.chunk_array.proofs.Parted.{parts, closable, spells-varying, spells-fixed}
use Rattle.chunk_array.proofs.change.spell_removed.Goals as goal
use Rattle.chunk_array.proofs.change.spell_removed.Goals.{then-shape-eq0, else-shape-eq0}

pub close_table-requires : goal.close_table-requires
close_table-requires c =
    let r = c.requires in
    let p = parts c.args.bytes.now r.array c.args.shape c.args.element r.has in
    let o = closable c.args.bytes.now r.array c.args.shape c.args.element r.has c.if-shape-eq0.true in
    record { order = r.has.known; table = o.table; room = p.within; small = o.small; before = o.before; behind = o.behind }

pub put16-requires : goal.put16-requires
put16-requires c =
    let p = parts c.args.bytes.now c.requires.array c.args.shape c.args.element c.requires.has in
    elim c.if-shape-eq0.branch [
      | then-shape-eq0 w ↦ (let l = ap length w.bytes-is in omega (arith, l, w.close_table.ensures.long, p.least, p.within))
      | else-shape-eq0 w ↦ (let l = ap length w.bytes-is in omega (arith, l, p.least, p.within))
    ]

pub returns : goal.returns
returns c a h =
    let d = c.put16.new.block in
    let w1 = c.args.shape.count - 1 in
    let small : (k : ℕ) → get_or d k 0 < 256 = (λ k. let t = c.type_inv.bytes k in omega arith) in
    elim c.if-shape-eq0.branch [
      | then-shape-eq0 w ↦ spells-varying c.args.bytes.now w.close_table.new.bytes d a c.args.shape c.args.element
          w1 h w.if-shape-eq0.true w.close_table.ensures refl
          (c.put16.ensures ∙ ap (λ x. with_word x 0 w1) w.bytes-is) small
      | else-shape-eq0 w ↦ spells-fixed c.args.bytes.now d a c.args.shape c.args.element w1 h w.if-shape-eq0.false
          refl (c.put16.ensures ∙ ap (λ x. with_word x 0 w1) w.bytes-is) small
    ]
