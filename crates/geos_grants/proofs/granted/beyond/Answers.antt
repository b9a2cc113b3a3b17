use Rattle.std.proofs.Common.{sym, ◌∙◌}
use Rattle.geos_grants.proofs.Sets.{plain-some, all-granted}
use Rattle.geos_grants.proofs.granted.beyond.Goals as goal

pub returns-in-Some-clause-some : goal.returns-in-Some-clause-some
returns-in-Some-clause-some c = plain-some c.args.found.now c.args.grants.now c.in-Some.effect (sym c.plain_beyond.ensures ∙ c.in-Some.is)

pub returns-in-None-clause-none : goal.returns-in-None-clause-none
returns-in-None-clause-none c =
    all-granted c.args.found.now c.args.grants.now (sym c.plain_beyond.ensures ∙ c.in_default.is) c.in_default-slot_beyond.ensures.none
    c.in-None.ensures.none
