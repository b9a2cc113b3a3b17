use Rattle.std.proofs.Common.{◌≡◌, refl}
use Rattle.geos_explain.proofs.Below.{KnownPlace, by-parts, KeepsLimits-at}
use Rattle.geos_explain.specs.Places.{Place, place_at}
use Rattle.geos_explain.proofs.routines.place_at.Goals as goal

pub invariant_of-result-clause-is : goal.invariant_of-result-clause-is
invariant_of-result-clause-is c =
    let within = c.args.within.now in
    let here = c.instr.ensures in
    record {
      within = within.there.within;
      room = within.there.room;
      start = within.there.start;
      there = c.requires;
      short = within.there.short;
      here = here.there;
      fields = here.fields;
      callee = here.callee;
      limits = KeepsLimits-at within.explained.now.image.now c.args.pc c.instr.result.now within.there.legal c.requires here.there;
    }

pub returns-clause-known : goal.returns-clause-known
returns-clause-known c =
    let within = c.args.within.now in
    let image = within.explained.now.image.now in
    let known : KnownPlace = record { instr = c.instr.result.now; row = c.row.result.now; potential = c.potential.result.now } in
    let of : KnownPlace → Place = place_at image within.r within.routine.now c.args.pc in
    by-parts image c.args.pc known.instr known.row known.potential (λ (x : KnownPlace). of known ≡ of x)
    c.instr.ensures.there c.row.ensures c.potential.ensures c.requires refl
