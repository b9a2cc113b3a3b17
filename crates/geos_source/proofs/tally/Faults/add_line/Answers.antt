use Rattle.std.proofs.Common.{◌∙◌, ap}
use Rattle.geos_source.specs.Faults.{first}
use Rattle.geos_source.specs.Tallies.{fault_in, first_in}
use Rattle.geos_source.proofs.FirstLaws.{first_in-push}
use Rattle.geos_source.proofs.tally.Faults.add_line.Goals as goal

pub returns : goal.returns
unfolding fault_in
returns c =
    let rest = c.args.self.now.rest in
    ap (λ x. first (first_in 1 x) rest) c.in_ok-push.ensures.items ∙ ap (λ x. first x rest) (first_in-push 1 c.args.self.now.lines.items)
