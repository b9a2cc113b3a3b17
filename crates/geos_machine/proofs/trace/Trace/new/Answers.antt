use Rattle.std.proofs.Common.{refl, rules}
use Rattle.geos_machine.proofs.trace.Trace.new.Goals as goal

pub returns : goal.returns
returns c =
    let counts = c.in_ok-counts.ensures.items_if_clones_equal (λ y clone. search rules) in
    rw (c.in_ok-noted.ensures.items, counts) refl
