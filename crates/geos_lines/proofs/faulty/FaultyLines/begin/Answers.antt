use Rattle.std.proofs.Common.{[], sym, subst, rules}
use Rattle.geos_lines.specs.Faulty.{IsFound, listed}
use Rattle.geos_lines.proofs.Found.{none-found}
use Rattle.geos_lines.proofs.faulty.FaultyLines.begin.Goals as goal

pub returns-in_ok-take_line-in-Some-clause-found : goal.returns-in_ok-take_line-in-Some-clause-found
returns-in_ok-take_line-in-Some-clause-found c =
    let new = c.take_line.new.self in
    subst (λ o. IsFound (listed o) new.lines.items new.more) (sym c.in-Some.is)
    (c.in_ok-take_line-in-Some.ensures.found [] (none-found c.new.result.items (search rules)))

pub returns-in-None-clause-found : goal.returns-in-None-clause-found
returns-in-None-clause-found c =
    subst (λ o. IsFound (listed o) c.new.result.items 0) (sym c.in-None.is) (none-found c.new.result.items (search rules))
