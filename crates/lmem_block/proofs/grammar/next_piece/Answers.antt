use Rattle.std.proofs.Common.{◌+◌, ◌*◌, ◌/◌, refl, arith}
use Rattle.lmem_block.proofs.Walking.{used-forward, used-goes, free-forward, free-goes}
use Rattle.lmem_block.proofs.grammar.next_piece.Goals as goal
use Rattle.lmem_block.proofs.grammar.next_piece.Goals.{then-word-lt3-via-then-word-lt3, then-word-lt3-via-else-word-lt3+then-end-block}
use Rattle.lmem_block.proofs.grammar.next_piece.Goals.{then-free-at-via-then-free-at, then-free-at-via-else-free-at+then-size-eq0, then-free-at-via-else-free-at+else-size-eq0+then-size-ne0}
use Rattle.lmem_block.proofs.grammar.next_piece.Goals.{then-free-at-via-else-free-at+else-size-eq0+else-size-ne0+then-next-end, then-free-at-via-else-free-at+else-size-eq0+else-size-ne0+else-next-end+then-end-block-2}

pub returns-then-word-lt3 : goal.returns-then-word-lt3
returns-then-word-lt3 c can =
    let f = used-forward c.args.block.now c.args.at c.args.free c.args.sum c.get16-word.result c.args.starts.now
    c.requires.marks c.requires.fours c.requires.inside.1 c.get16-word.ensures c.if-starts-at.true can in
    elim c.then-word-lt3.branch [
      | then-word-lt3-via-then-word-lt3 w ↦ omega (arith, f.0, w.if-word-lt3.true)
      | then-word-lt3-via-else-word-lt3+then-end-block w ↦ omega (arith, f.1, w.if-end-block.true)
    ]

pub returns-then-starts-at : goal.returns-then-starts-at
returns-then-starts-at c =
    let end = (c.args.at + c.get16-word.result + 3) / 4 * 4 in
    used-goes c.args.block.now c.args.at c.args.free c.args.sum c.get16-word.result end c.args.starts.now c.requires.marks
    c.requires.fours c.requires.inside.1 c.get16-word.ensures c.if-starts-at.true c.if-word-lt3.false refl c.if-end-block.false

pub returns-then-free-at : goal.returns-then-free-at
returns-then-free-at c can =
    let f = free-forward c.args.block.now c.args.at c.args.free c.args.sum c.get16-size.result c.get16-next.result
    c.args.starts.now c.requires.marks c.requires.fours (omega (arith, c.requires.inside.0)) c.requires.inside.1
    c.get16-size.ensures c.get16-next.ensures c.if-starts-at.false can in
    elim c.then-free-at.branch [
      | then-free-at-via-then-free-at w ↦ w.if-free-at.true f.0
      | then-free-at-via-else-free-at+then-size-eq0 w ↦ omega (arith, f.1, w.if-size-eq0.true)
      | then-free-at-via-else-free-at+else-size-eq0+then-size-ne0 w ↦ w.if-size-ne0.true f.2
      | then-free-at-via-else-free-at+else-size-eq0+else-size-ne0+then-next-end w ↦ f.3 w.if-next-end.true
      | then-free-at-via-else-free-at+else-size-eq0+else-size-ne0+else-next-end+then-end-block-2 w ↦ omega (arith, f.4, w.if-end-block-2.true)
    ]

pub returns : goal.returns
returns c =
    free-goes c.args.block.now c.args.at c.args.free c.args.sum c.get16-size.result c.get16-next.result c.args.starts.now
    c.requires.marks c.requires.fours (omega (arith, c.requires.inside.0)) c.requires.inside.1
    c.get16-size.ensures c.get16-next.ensures c.if-starts-at.false c.if-free-at.false (omega arith) c.if-size-ne0.false
    c.if-next-end.false c.if-end-block-2.false
