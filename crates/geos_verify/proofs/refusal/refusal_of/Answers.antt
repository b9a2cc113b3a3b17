use Rattle.std.proofs.Common.{refl}
use Rattle.geos_verify.proofs.Within.{goes-within}
use Rattle.geos_verify.proofs.refusal.refusal_of.Goals as goal

pub edge_misfits-requires-clause-within : goal.edge_misfits-requires-clause-within
edge_misfits-requires-clause-within c =
    let body = c.args.body.now in
    goes-within body.image.now body.r body.start c.args.pc body.routine.now c.args.i.now body.end body.short c.requires.there
    c.requires.fields c.requires.target c.requires.callee (c.if-leaves_routine.ensures.stays refl) (c.if-call_misfits.ensures.lower refl)

pub edge_unpaid-requires : goal.edge_unpaid-requires
edge_unpaid-requires c =
    let body = c.args.body.now in
    goes-within body.image.now body.r body.start c.args.pc body.routine.now c.args.i.now body.end body.short c.requires.there
    c.requires.fields c.requires.target c.requires.callee (c.if-leaves_routine.ensures.stays refl) (c.if-call_misfits.ensures.lower refl)
