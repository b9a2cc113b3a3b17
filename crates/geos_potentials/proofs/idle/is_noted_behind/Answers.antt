use Rattle.std.proofs.Common.{◌≡◌, true, sym, ◌∙◌, subst}
use Rattle.std.specs.Prelude.{slice_get}
use Rattle.std.proofs.lemmas.Bool.{false≢true}
use Rattle.geos_image.specs.declared.instr.Instr.{Instr}
use Rattle.geos_verify.proofs.Places.{if_some}
use Rattle.geos_counters.specs.Idle.{calls_touching}
use Rattle.geos_potentials.proofs.idle.is_noted_behind.Goals as goal

pub returns-then-not-may_touch : goal.returns-then-not-may_touch
returns-then-not-may_touch c = λ is within passes.
    let image = c.args.body.now.image.now in
    let i = c.instr.result.now in
    let same : i ≡ passes.0.instr = if_some (λ point. i ≡ point.instr) (slice_get image.points c.args.pc) passes.0 passes.1 c.instr.ensures.there in
    let touching : calls_touching image c.args.counter i ≡ true = subst (λ (x : Instr). calls_touching image c.args.counter x ≡ true)
    (sym same) passes.2 in
    absurd (false≢true (sym c.if-not-may_touch.true ∙ c.may_touch.ensures image c.requires.touched.possible touching))
