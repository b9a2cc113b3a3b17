use Rattle.std.proofs.Common.{◌+◌, ◌*◌, refl, sym, ◌∙◌, arith}
use Rattle.chunk_array.proofs.Offsets.{other-first, table-past, rise-seen, risen}
use Rattle.chunk_array.proofs.shape.are_offsets.Goals as goal
use Rattle.chunk_array.proofs.shape.are_offsets.Goals.{then-first-bytes-via-then-first-bytes, then-first-bytes-via-else-first-bytes+then-get16-first}

pub returns-then-first-bytes : goal.returns-then-first-bytes
returns-then-first-bytes c =
    elim c.then-first-bytes.branch [
      | then-first-bytes-via-then-first-bytes w ↦ sym (table-past c.args.bytes.now c.args.count (omega (arith, c.if-count-eq0.false)) (omega arith))
      | then-first-bytes-via-else-first-bytes+then-get16-first w ↦
          (sym (other-first c.args.bytes.now c.args.count (omega (arith, c.if-count-eq0.false)) (λ e. w.if-get16-first.true (w.get16.ensures ∙ e))))
    ]

pub loop-i-preserved : goal.loop-i-preserved
loop-i-preserved c = c.loop-i.invariant ∙ rise-seen c.args.bytes.now c.loop-i.i c.args.count c.loop-i.last
    c.get16-at.result c.loop-i-test.true c.get16-at.ensures c.if-at-last.false

pub loop-i-init : goal.loop-i-init
loop-i-init c =
    let within = c.rising_offsets-rising.ensures.within in
    risen c.args.bytes.now c.args.count (8 + 2 * c.args.count) c.rising_offsets-rising.result c.get16-last.result
    (omega (arith, c.if-count-eq0.false)) refl (sym c.get16.ensures ∙ c.if-get16-first.false) within.0 within.1
    c.rising_offsets-rising.ensures.rise c.get16-last.ensures
