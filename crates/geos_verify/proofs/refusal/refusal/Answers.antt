use Rattle.std.proofs.Common.{◌≡◌}
use Rattle.geos_verify.specs.declared.place.Place.{Place}
use Rattle.geos_verify.specs.Rules as rules
use Rattle.geos_verify.proofs.Known.{by-parts}
use Rattle.geos_verify.proofs.refusal.refusal.Goals as goal

pub returns : goal.returns
returns c =
    let body = c.args.body.now in
    by-parts body.image.now c.args.pc c.instr.result.now c.args.row.now c.potential.result.now
    (λ (place : Place). c.refusal_of.result ≡ rules.refusal body.image.now body.r body.routine.now body.start c.args.pc place)
    c.instr.ensures.there c.requires.known c.potential.ensures c.requires.there c.refusal_of.ensures
