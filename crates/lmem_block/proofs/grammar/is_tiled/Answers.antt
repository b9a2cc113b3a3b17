use Rattle.std.proofs.Common.{◌≡◌, ◌%◌, length, refl, sym, ◌∙◌, arith}
use Rattle.std.proofs.lemmas.Bool.{false≢true}
use Rattle.lmem_block.proofs.Walking.{before, behind, start, end-forward, end-back}
use Rattle.lmem_block.proofs.grammar.is_tiled.Goals as goal
use Rattle.lmem_block.proofs.grammar.is_tiled.Goals.{then-free-ne0-via-then-free-ne0, then-free-ne0-via-else-free-ne0+then-sum-total, then-free-ne0-via-else-free-ne0+else-sum-total+then-left-ne0}

pub loop-at-init : goal.loop-at-init
loop-at-init c =
    let at = c.table_end-at.result in
    let is = c.table_end-at.ensures.value in
    let fours : at % 4 ≡ 0 = omega (arith, is, c.requires.header.pairs) in
    let first = start c.args.block.now at c.get16-free.result c.args.starts.now c.requires.marks is c.get16-free.ensures in
    let none = c.requires.counted ∙ before c.args.block.now at c.args.starts.now c.requires.marks fours is in
    record {
      same = ((λ full. (first.0 full, sym none)), (λ can. first.1 can.0));
      marks = omega (arith, none);
      fours = fours;
      from = omega (arith, is);
      upto = omega (arith, is, c.requires.header.fits);
      small = omega arith;
    }

pub returns-then-free-ne0 : goal.returns-then-free-ne0
returns-then-free-ne0 c = (
  (λ t. absurd (false≢true t)),
  (λ full. let can = c.loop-at.invariant.same.0 full in let e = end-forward c.args.block.now c.loop-at.at c.loop-at.free
      c.loop-at.sum c.loop-at-test.false can.0 in
      let none = behind c.args.block.now c.loop-at.at c.args.starts.now c.requires.marks c.loop-at-test.false c.loop-at.invariant.fours in
      elim c.then-free-ne0.branch [
        | then-free-ne0-via-then-free-ne0 w ↦ absurd (w.if-free-ne0.true e.0)
        | then-free-ne0-via-else-free-ne0+then-sum-total w ↦ absurd (w.if-sum-total.true (e.1 ∙ sym c.get16-total.ensures))
        | then-free-ne0-via-else-free-ne0+else-sum-total+then-left-ne0 w ↦ absurd (w.if-left-ne0.true (sym can.1 ∙ none))
      ]),
)

pub returns : goal.returns
returns c =
    let i = c.loop-at.invariant in
    let end : c.loop-at.at ≡ length c.args.block.now = omega (arith, i.upto) in
    let none = behind c.args.block.now c.loop-at.at c.args.starts.now c.requires.marks c.loop-at-test.false i.fours in (
      (λ t. i.same.1 (
        end-back c.args.block.now c.loop-at.at c.loop-at.free c.loop-at.sum c.args.starts.now c.requires.marks end
            (omega arith) (omega (arith, c.get16-total.ensures)),
        omega (arith, none),
      )),
      (λ full. refl),
    )
