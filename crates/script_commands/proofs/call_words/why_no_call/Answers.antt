use Rattle.std.proofs.Common.{◌≡◌, ◌∙◌, true, false, take, sym, subst, arith}
use Rattle.std.proofs.lemmas.List.{take_all}
use Rattle.script_commands.specs.Lines.{before_blocks}
use Rattle.script_commands.specs.CallWords.{IsFirstWrong, takes}
use Rattle.script_commands.specs.Reading.{texts}
use Rattle.script_commands.proofs.CallWords.{below-more, length-texts, taken-texts}
use Rattle.script_commands.proofs.call_words.why_no_call.Goals as goal

pub loop-numbers-preserved : goal.loop-numbers-preserved
loop-numbers-preserved c =
    let image = c.args.checked.now in
    let name = c.args.name.now in
    let numbers = take c.numbers_in.result c.args.words.now in
    let w = c.loop-numbers.word in
    let named : takes image name (before_blocks (texts (take w numbers))) ≡ true = cc in
    let here = subst (λ ws. takes image name ws ≡ true) (taken-texts w numbers (texts c.args.words.now) c.numbers_in.ensures.numbers) named in (
      omega (arith, c.loop-numbers.invariant.0, c.if-word-numbers.false),
      below-more (λ k. takes image name (take k (texts numbers)) ≡ true) w c.loop-numbers.invariant.1 here,
    )

pub returns : goal.returns
returns c =
    let image = c.args.checked.now in
    let name = c.args.name.now in
    let numbers = take c.numbers_in.result c.args.words.now in
    let w = c.loop-numbers.word in
    let named : takes image name (before_blocks (texts (take w numbers))) ≡ false = cc in
    let here = subst (λ ws. takes image name ws ≡ false) (taken-texts w numbers (texts c.args.words.now) c.numbers_in.ensures.numbers) named in
    let first : IsFirstWrong image name (texts numbers) w =
    record { there = omega (arith, c.loop-numbers.invariant.0, length-texts numbers); wrong = here; good = c.loop-numbers.invariant.1 } in
    subst (λ ns. IsFirstWrong image name ns w) (sym c.numbers_in.ensures.numbers) first

pub returns-then-word-numbers : goal.returns-then-word-numbers
returns-then-word-numbers c =
    let image = c.args.checked.now in
    let name = c.args.name.now in
    let numbers = take c.numbers_in.result c.args.words.now in
    let w = c.loop-numbers.word in
    let named : takes image name (before_blocks (texts (take w numbers))) ≡ true = cc in
    let here = subst (λ ws. takes image name ws ≡ true) (taken-texts w numbers (texts c.args.words.now) c.numbers_in.ensures.numbers) named in
    let all = take_all w (texts numbers) (omega (arith, length-texts numbers, c.if-word-numbers.true)) in
    (subst (λ ws. takes image name ws ≡ true) (all ∙ sym c.numbers_in.ensures.numbers) here, c.requires, c.borrowed.ensures)
