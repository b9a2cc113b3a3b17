use Rattle.std.proofs.Common.{length-set, arith, sym, ap, ◌∙◌, ◌≡◌, ◌++◌, ◌∷◌, length, ◌+◌, ◌<◌, take, set}
use Rattle.std.specs.Prelude.{option_map, Some}
use Rattle.script_commands.specs.Reading.{words_of}
use Rattle.geos_text.specs.Numbers.{number_of}
use Rattle.script_commands.specs.Lines.{before_blocks, numbers_of}
use Rattle.script_commands.proofs.Registers.{before-number, numbers-more, numbers-end, zeros-behind}
use Rattle.script_commands.proofs.lines.registers_of.Goals as goal

pub loop-i-preserved : goal.loop-i-preserved
loop-i-preserved c =
    let so_far = c.loop-i.invariant in
    let all = before_blocks (words_of c.args.numbers) in
    let rest = before_blocks (words_of c.in-Some.behind) in
    let registers = c.loop-i.registers in
    let i = c.loop-i.i in
    let n = c.in_ok-registers.field-0 in
    let more = ap before_blocks c.in-Some.ensures.some ∙ before-number c.in-Some.word.now (words_of c.in-Some.behind)
    (sym c.names_block.ensures ∙ c.if-names_block.false) in
    let says : number_of c.in-Some.word.now ≡ Some n = sym c.number.ensures ∙ c.in_ok-registers.was in
    let inside : i < length registers = rw so_far.0 c.loop-i-test.true in
    let kept : length (set registers i n) ≡ 8 = length-set registers i n ∙ so_far.0 in
    let length_more : length all ≡ i + 1 + length rest = omega (arith, so_far.2, ap length more) in
    let numbers : numbers_of all ≡ option_map (λ ns. take i registers ++ ns) (numbers_of (c.in-Some.word.now ∷ rest)) = so_far.1
    ∙ ap (λ ws. option_map (λ ns. take i registers ++ ns) (numbers_of ws)) more in
    (kept, numbers-more all rest c.in-Some.word.now registers i n inside says numbers, length_more, zeros-behind registers i n so_far.3)

pub returns-in-None : goal.returns-in-None
returns-in-None c =
    let so_far = c.loop-i.invariant in
    let i = c.loop-i.i in
    let none = ap before_blocks c.in-None.ensures.none in
    let numbers = so_far.1 ∙ ap (λ ws. option_map (λ ns. take i c.loop-i.registers ++ ns) (numbers_of ws)) none in
    sym (numbers-end (before_blocks (words_of c.args.numbers)) c.loop-i.registers i so_far.0 c.loop-i.auto.i-end
    (so_far.2 ∙ ap (λ ws. i + length ws) none) so_far.3 numbers)
