use Rattle.std.proofs.Common.{◌≡◌, ℕ, true, sym, ◌∙◌, subst}
use Rattle.std.specs.Prelude.{slice_get}
use Rattle.std.proofs.lemmas.Bool.{false≢true}
use Rattle.std.proofs.lemmas.Option.{none-some, same_Some}
use Rattle.geos_image.specs.declared.instr.Instr.{Instr}
use Rattle.geos_verify.proofs.Places.{if_some}
use Rattle.geos_potentials.specs.Ranks.{noted_idle}
use Rattle.geos_counters.specs.Trails.{keeps_counter}
use Rattle.geos_potentials.proofs.idle.goes_on.Goals as goal

pub returns-then-not-is_idle : goal.returns-then-not-is_idle
returns-then-not-is_idle c = λ is to lead e. absurd (false≢true (sym c.if-not-is_idle.true ∙ c.is_idle.ensures ∙ e))

pub returns-then-not-may_keep : goal.returns-then-not-may_keep
returns-then-not-may_keep c = λ is to lead e.
    let image = c.args.body.now.image.now in
    let i = c.instr.result.now in
    let same : i ≡ lead.leads.point.instr = if_some (λ point. i ≡ point.instr) (slice_get image.points c.args.pc)
    lead.leads.point lead.leads.there c.instr.ensures.there in
    let kept : keeps_counter image c.args.counter i i.opcode c.args.branch ≡ true =
    subst (λ (x : Instr). keeps_counter image c.args.counter x x.opcode c.args.branch ≡ true) (sym same)
    (lead.kept lead.leads.point lead.leads.there) in
    absurd (false≢true (sym c.if-not-may_keep.true ∙ c.may_keep.ensures image c.requires.touched.certain kept))

pub returns-in-Some : goal.returns-in-Some
returns-in-Some c = λ is to lead e.
    let same : c.in-Some.to ≡ to = same_Some c.in-Some.to to (sym c.in-Some.is ∙ c.lead.ensures.all to lead.leads lead.stays) in
    subst (λ (n : ℕ). noted_idle c.args.classes.now n c.args.counter ≡ true) same (sym c.is_idle-in-Some.ensures ∙ is)

pub returns-in-None : goal.returns-in-None
returns-in-None c = λ is to lead e. absurd (none-some to (sym c.in-None.is ∙ c.lead.ensures.all to lead.leads lead.stays))
