-- One record more, if there is one.
use Rattle.std.proofs.Common.{◌≡◌, ◌∙◌, ◌≤◌, ap, sym, arith, length, Some}
use Rattle.takhvoi.specs.Records.{records_below, with_some}
use Rattle.takhvoi.specs.Routines.{routine_in}
use Rattle.takhvoi.proofs.Listed.{few-records, records-more, records-none}
use Rattle.takhvoi.proofs.routines.routines_of.Goals as goal

pub loop-r-init : goal.loop-r-init
loop-r-init c = c.new-routines.ensures.items ∙ sym (records-none (routine_in c.args.image.now))

pub loop-r-preserved : goal.loop-r-preserved
loop-r-preserved c =
    c.in_ok-push_some.ensures
    ∙ ap (λ xs. with_some xs (Some c.routine_in.result)) c.loop-r.invariant
    ∙ ap (λ o. with_some (records_below (routine_in c.args.image.now) c.loop-r.r) o) c.routine_in.ensures
    ∙ sym (records-more (routine_in c.args.image.now) c.loop-r.r)

pub returns-clause-few : goal.returns-clause-few
returns-clause-few c =
    let is : length c.loop-r.routines.items ≡ length (records_below (routine_in c.args.image.now) c.loop-r.r) = ap (λ xs. length xs) c.loop-r.invariant in
    let few : length (records_below (routine_in c.args.image.now) c.loop-r.r) ≤ c.loop-r.r = few-records (routine_in c.args.image.now) c.loop-r.r in
    let end = c.loop-r.auto.r-end in
    omega (arith, is, few, end)
