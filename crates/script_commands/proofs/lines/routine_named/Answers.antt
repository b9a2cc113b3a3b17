use Rattle.std.proofs.Common.{arith, sym, ap, ◌∙◌, ◌≡◌, ◌≤◌}
use Rattle.std.specs.Prelude.{Bool, bytes_eq, length, true, false}
use Rattle.std.specs.List.{position_from}
use Rattle.std.proofs.lemmas.List.{drop_all}
use Rattle.std.proofs.lemmas.Iterator.Adapters.{position_from-zero}
use Rattle.geos_image.specs.declared.routine.Routine.{Routine}
use Rattle.script_commands.specs.Lines.{name_text}
use Rattle.script_commands.proofs.Searches.{position_from-found, position_from-more}
use Rattle.script_commands.proofs.lines.routine_named.Goals as goal

pub loop-r-init : goal.loop-r-init
loop-r-init c = position_from-zero _ c.args.image.now.routines

pub returns-then-eq-clause-named : goal.returns-then-eq-clause-named
returns-then-eq-clause-named c =
    let test : Routine → Bool = λ r. bytes_eq (name_text r) c.args.name.now in
    let passes : test c.routine.result.now ≡ true = cc in
    sym (c.loop-r.invariant ∙ position_from-found test c.args.image.now.routines c.loop-r.r c.loop-r.r c.routine.result.now c.routine.ensures passes)

pub loop-r-preserved : goal.loop-r-preserved
loop-r-preserved c =
    let test : Routine → Bool = λ r. bytes_eq (name_text r) c.args.name.now in
    let fails : test c.routine.result.now ≡ false = cc in
    c.loop-r.invariant ∙ position_from-more test c.args.image.now.routines c.loop-r.r c.loop-r.r c.routine.result.now c.routine.ensures fails

pub returns-clause-named : goal.returns-clause-named
returns-clause-named c =
    let test : Routine → Bool = λ r. bytes_eq (name_text r) c.args.name.now in
    let routines = c.args.image.now.routines in
    let all : length routines ≤ c.loop-r.r = omega (arith, c.loop-r-test.false, c.count-r-end.ensures.count) in
    sym (c.loop-r.invariant ∙ ap (position_from test c.loop-r.r) (drop_all c.loop-r.r routines all))
