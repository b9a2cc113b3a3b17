use Rattle.std.proofs.Common.{inl}
use Rattle.geos_scripts.proofs.numbers.number_fault.Goals as goal

pub returns-in-Some : goal.returns-in-Some
returns-in-Some c = inl (c.in-Some.ensures.some c.args.image.now)
