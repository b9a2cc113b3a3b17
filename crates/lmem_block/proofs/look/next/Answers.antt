use Rattle.std.proofs.Common.{◌≡◌, ◌-◌, ◌/◌, ◌%◌, ◌≤◌, ◌∙◌, arith}
use Rattle.geos_terms.proofs.Nexts.{no-chunk, some-chunk}
use Rattle.lmem_block.proofs.look.next.Goals as goal
use Rattle.lmem_block.proofs.look.next.Goals.{then-chunk-lt-TABLE, else-chunk-lt-TABLE}

pub returns : goal.returns
returns c h above =
    let low : 16 ≤ h → h % 2 ≡ 0 → c.if-chunk-lt-TABLE.first ≤ (h - 16) / 2 =
    (λ g even. elim c.if-chunk-lt-TABLE.branch [
      | then-chunk-lt-TABLE w ↦ omega (arith, w.first-is)
      | else-chunk-lt-TABLE
          w ↦ omega (arith, w.first-is, w.if-chunk-lt-TABLE.false)
    ]) in
    no-chunk c.args.block.now h (λ g even l. c.loop-i.invariant ((h - 16) / 2) (low g even) (omega (arith, c.entries-i-end.ensures.value)))

pub returns-then-entry-ne0 : goal.returns-then-entry-ne0
returns-then-entry-ne0 c =
    let from : c.if-chunk-lt-TABLE.first ≤ c.loop-i.i = c.loop-i.auto.i in (
      (elim c.if-chunk-lt-TABLE.branch [
        | then-chunk-lt-TABLE w ↦ omega (arith, w.first-is, w.if-chunk-lt-TABLE.true, c.handle_of.ensures)
        | else-chunk-lt-TABLE w ↦ omega (arith, w.first-is, w.if-chunk-lt-TABLE.false, c.handle_of.ensures)
      ]),
      some-chunk c.args.block.now c.loop-i.i c.handle_of.result (omega (arith, c.entries-i-end.ensures.value))
          (λ e. c.if-entry-ne0.true (c.entry.ensures ∙ e)) c.handle_of.ensures,
      (λ h above below.
          let low : 16 ≤ h → h % 2 ≡ 0 → c.if-chunk-lt-TABLE.first ≤ (h - 16) / 2 =
          (λ g even. elim c.if-chunk-lt-TABLE.branch [
            | then-chunk-lt-TABLE w ↦ omega (arith, w.first-is)
            | else-chunk-lt-TABLE w ↦ omega (arith, w.first-is, w.if-chunk-lt-TABLE.false)
          ]) in
          no-chunk c.args.block.now h (λ g even l. c.loop-i.invariant ((h - 16) / 2) (low g even) (omega (arith, c.handle_of.ensures)))),
    )
