use Rattle.std.proofs.Common.{◌≡◌, ◌∙◌, List, ℕ, drop, Option, refl, sym, ap, inl, inr, subst, arith}
use Rattle.std.specs.Prelude.{not, unwrap_or}
use Rattle.std.specs.List.{count_by}
use Rattle.geos_image.specs.Legal.{is_own}
use Rattle.geos_image.specs.declared.routine.Routine.{Routine}
use Rattle.geos_text.specs.Words.{words}
use Rattle.geos_scripts.specs.Faults.{command_words}
use Rattle.geos_scripts.specs.Walks.{IsWalked}
use Rattle.geos_scripts.proofs.Walked.{call-fits, lends-others, none-walked}
use Rattle.geos_scripts.proofs.calls.words_fault.Goals as goal

pub loop-word-init : goal.loop-word-init
loop-word-init c = (c.requires.from, omega arith, λ routine there. none-walked c.args.names.now.uses routine _)

pub returns-in-Err : goal.returns-in-Err
returns-in-Err c = λ name routine named there public.
    let uses = c.args.names.now.uses in
    let all = command_words uses (words (drop c.args.from c.args.line.now)) in
    let walked = subst (λ (ws : List (List ℕ)). IsWalked uses routine all ws c.loop-word.passed) c.in-Some.ensures.some
    (c.loop-word.invariant.2 routine there) in
    inl (c.in-Err.ensures.so routine all (command_words uses (words (drop c.in-Some.word.end c.args.line.now))) walked)

pub returns-then-passed-wanted : goal.returns-then-passed-wanted
returns-then-passed-wanted c = λ name routine named there public.
    let uses = c.args.names.now.uses in
    let all = command_words uses (words (drop c.args.from c.args.line.now)) in
    let walked = subst (λ (ws : List (List ℕ)). IsWalked uses routine all ws c.loop-word.passed) c.in_default.ensures.none
    (c.loop-word.invariant.2 routine there) in
    let same : c.routine.result.now ≡ routine = ap (λ (o : Option Routine). unwrap_or o routine) (sym c.routine.ensures ∙ there) in
    let borrows = c.borrowed-wanted.ensures ∙ ap (λ (x : Routine). count_by (λ state. not (is_own state)) x.entry.slots) same in
    call-fits uses c.args.image.now name all c.loop-word.passed c.args.r routine walked named there c.borrowed-wanted.result borrows public
    (omega (arith, c.if-passed-wanted.true))

pub returns-else-passed-wanted : goal.returns-else-passed-wanted
returns-else-passed-wanted c = λ name routine named there public.
    let uses = c.args.names.now.uses in
    let all = command_words uses (words (drop c.args.from c.args.line.now)) in
    let walked = subst (λ (ws : List (List ℕ)). IsWalked uses routine all ws c.loop-word.passed) c.in_default.ensures.none
    (c.loop-word.invariant.2 routine there) in
    let same : c.routine.result.now ≡ routine = ap (λ (o : Option Routine). unwrap_or o routine) (sym c.routine.ensures ∙ there) in
    let borrows = c.borrowed-wanted.ensures ∙ ap (λ (x : Routine). count_by (λ state. not (is_own state)) x.entry.slots) same in
    inr (
      c.loop-word.passed.blocks,
      c.borrowed-wanted.result,
      refl,
      lends-others uses c.args.image.now name all c.loop-word.passed c.args.r routine walked named there c.borrowed-wanted.result borrows
          (λ e. omega (arith, e, c.if-passed-wanted.false)),
    )
