use Rattle.geos_verify.specs.Refused.{KnowsTouchedWithin}
use Rattle.geos_verify.proofs.refused.touched_by_all.Given as goal

-- the table says what chains of calls so long as there were rounds touch
abbrev pub invariant-loop-round : goal.invariant-loop-round
invariant-loop-round l = KnowsTouchedWithin l.image l.table l.round
