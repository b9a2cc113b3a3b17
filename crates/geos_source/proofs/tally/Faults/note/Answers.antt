use Rattle.std.proofs.Common.{◌≡◌, ◌∙◌, ◌<◌, ◌+◌, ◌-◌, length, Some, ap, sym, arith}
use Rattle.geos_source.specs.Faults.{first}
use Rattle.geos_source.specs.Tallies.{fault_in, first_in}
use Rattle.geos_source.proofs.FirstLaws.{first-assoc, first_in-set, swap}
use Rattle.std.proofs.Math.ListN.{set}
use Rattle.geos_source.proofs.tally.Faults.note.Goals as goal

pub returns-then-fault-len : goal.returns-then-fault-len
unfolding fault_in
returns-then-fault-len c =
    let whys = c.args.self.now.lines.items in
    let rest = c.args.self.now.rest in
    let fault = c.in-Some.fault in
    let place : fault.line ≡ 1 + (fault.line - 1) = omega arith in
    let within : fault.line - 1 < length whys = omega arith in
    ap (λ x. first (first_in 1 (set whys (fault.line - 1) x)) rest) c.least.ensures
    ∙ ap (λ x. first x rest) (first_in-set 1 fault.line whys (fault.line - 1) c.index-why.result.now fault.why place within c.index-why.ensures)
    ∙ swap (first_in 1 whys) (Some fault) rest
    ∙ ap (first (first (first_in 1 whys) rest)) (sym c.in-Some.is)

pub returns-else-fault-gt0 : goal.returns-else-fault-gt0
unfolding fault_in
returns-else-fault-gt0 c =
    let before = first_in 1 c.args.self.now.lines.items in
    let rest = c.args.self.now.rest in
    ap (first before) c.first-self.ensures
    ∙ sym (first-assoc before rest (Some c.in-Some.fault))
    ∙ ap (first (first before rest)) (sym c.in-Some.is)
