use Rattle.std.proofs.Common.{◌≡◌, ◌<◌, Bool, true, sym, ap, ◌∙◌, subst}
use Rattle.std.specs.Prelude.{◌&&◌, slice_get}
use Rattle.std.proofs.lemmas.Bool.{and_parts, false≢true}
use Rattle.geos_opcodes.specs.declared.opcode.Opcode.{Opcode}
use Rattle.geos_image.specs.Fields.{FieldsFit}
use Rattle.geos_image.specs.declared.instr.Instr.{Instr}
use Rattle.geos_verify.proofs.Places.{if_some}
use Rattle.geos_code.specs.Code.{is_loop}
use Rattle.geos_counters.specs.Idle.{MayNotPay}
use Rattle.geos_code.proofs.Back.{loop-only}
use Rattle.geos_code.proofs.Bodies.{in-body}
use Rattle.geos_potentials.proofs.Idling.{leads-idle}
use Rattle.geos_potentials.proofs.Rising.{idle-noted}
use Rattle.geos_potentials.proofs.idle.lead_idle.Goals as goal

pub returns-then-not-branch-clause-only : goal.returns-then-not-branch-clause-only
returns-then-not-branch-clause-only c = λ noted.
    let body = c.args.body.now in
    let i = c.instr-i.result.now in
    leads-idle body.image.now body.r c.args.pc c.args.branch i c.instr-i.ensures.there
    (λ loops. absurd (false≢true (sym (ap (λ (b : Bool). b && is_loop i.opcode) c.if-not-branch.true) ∙ loops)))
    c.lead-there.result c.lead-there.ensures.leads c.lead-there.ensures.stays

pub returns-then-not-is_loop-clause-only : goal.returns-then-not-is_loop-clause-only
returns-then-not-is_loop-clause-only c = λ noted.
    let body = c.args.body.now in
    let i = c.instr-i.result.now in
    leads-idle body.image.now body.r c.args.pc c.args.branch i c.instr-i.ensures.there
    (λ loops. absurd (false≢true (sym (sym c.is_loop.ensures ∙ c.if-not-is_loop.true) ∙ (and_parts c.args.branch (is_loop i.opcode) loops).1)))
    c.lead-there.result c.lead-there.ensures.leads c.lead-there.ensures.stays

pub returns-then-is_idle-clause-only : goal.returns-then-is_idle-clause-only
returns-then-is_idle-clause-only c = λ noted.
    let body = c.args.body.now in
    let i = c.instr-i.result.now in
    leads-idle body.image.now body.r c.args.pc c.args.branch i c.instr-i.ensures.there
    (λ loops. noted c.args.pc i.a (in-body body c.args.pc c.requires.above c.requires.below) (sym c.is_idle.ensures ∙ c.if-is_idle.true))
    c.lead-there.result c.lead-there.ensures.leads c.lead-there.ensures.stays

pub returns-then-not-branch-clause-all : goal.returns-then-not-branch-clause-all
returns-then-not-branch-clause-all c = λ to noted idle. c.lead-there.ensures.all to idle.leads idle.stays

pub returns-then-not-is_loop-clause-all : goal.returns-then-not-is_loop-clause-all
returns-then-not-is_loop-clause-all c = λ to noted idle. c.lead-there.ensures.all to idle.leads idle.stays

pub returns-then-is_idle-clause-all : goal.returns-then-is_idle-clause-all
returns-then-is_idle-clause-all c = λ to noted idle. c.lead-there.ensures.all to idle.leads idle.stays

pub returns-else-is_idle-clause-all : goal.returns-else-is_idle-clause-all
returns-else-is_idle-clause-all c = λ to noted idle.
    let body = c.args.body.now in
    let image = body.image.now in
    let pc = c.args.pc in
    let i = c.instr-i.result.now in
    let point = idle.leads.point in
    let same : i ≡ point.instr = if_some (λ point. i ≡ point.instr) (slice_get image.points pc) point idle.leads.there c.instr-i.ensures.there in
    let loops : is_loop i.opcode ≡ true = sym c.is_loop.ensures ∙ c.if-not-is_loop.false in
    let both : (c.args.branch && is_loop point.instr.opcode) ≡ true = ap (λ (b : Bool). b && is_loop point.instr.opcode) c.if-not-branch.false
    ∙ ap (λ (x : Instr). is_loop x.opcode) (sym same) ∙ loops in
    let may = subst (λ (x : Instr). MayNotPay image body.r x.a pc) (sym same) (idle.idle both) in
    let few : i.a < 4 = (subst (λ (o : Opcode). FieldsFit o i) (loop-only i.opcode loops) c.instr-i.ensures.fields).0 in
    let is = idle-noted image body.r c.args.classes.now noted i.a pc few (in-body body pc c.requires.above c.requires.below) may in
    absurd (false≢true (sym c.if-is_idle.false ∙ c.is_idle.ensures ∙ is))
