use Rattle.std.proofs.Common.{◌∙◌, refl, sym, ap, arith}
use Rattle.script_commands.specs.Reading.{words_of}
use Rattle.script_commands.specs.Lines.{from_blocks}
use Rattle.script_commands.proofs.Registers.{from-block, from-number}
use Rattle.script_commands.proofs.lines.from_blocks.Goals as goal

pub loop-word-init : goal.loop-word-init
loop-word-init c = refl

pub loop-word-smaller : goal.loop-word-smaller
loop-word-smaller c = rw c.in-Some.ensures.some (omega arith)

pub loop-word-preserved : goal.loop-word-preserved
loop-word-preserved c = c.loop-word.invariant ∙ ap from_blocks c.in-Some.ensures.some
    ∙ from-number c.in-Some.word.now (words_of c.in-Some.behind) (sym c.names_block.ensures ∙ c.if-names_block.false)

pub returns-then-names_block : goal.returns-then-names_block
returns-then-names_block c =
    let more = c.in-Some.ensures.some in
    sym (c.loop-word.invariant ∙ ap from_blocks more ∙ from-block c.in-Some.word.now (words_of c.in-Some.behind)
    (sym c.names_block.ensures ∙ c.if-names_block.true) ∙ sym more)
