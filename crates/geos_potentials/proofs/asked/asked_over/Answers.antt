use Rattle.std.proofs.Common.{◌≡◌, Some, None, ap, ◌∙◌, arith}
use Rattle.geos_image.specs.declared.row.Row.{Row}
use Rattle.geos_verify.specs.Potentials.{asked_along}
use Rattle.geos_potentials.specs.Constants.{row_known}
use Rattle.geos_code.specs.Known.{strongest, row_of}
use Rattle.geos_potentials.proofs.Priced.{asked-one}
use Rattle.geos_potentials.specs.Numbers.{numbers_of}
use Rattle.geos_potentials.proofs.Asks.{asks-none, asks-some}
use Rattle.geos_code.proofs.Back.{ahead-alone}
use Rattle.geos_potentials.proofs.Numbered.{numbers-at}
use Rattle.geos_potentials.proofs.asked.asked_over.Goals as goal

pub returns-else-branch-clause-steps : goal.returns-else-branch-clause-steps
returns-else-branch-clause-steps c = λ forward none.
    let body = c.args.body.now in
    let inside = c.in_ok-edge.ensures.inside in
    let next = numbers-at c.args.potentials.now c.in_ok-edge.edge.to c.at-next.result c.at-next.ensures in
    asks-some body.image.now body.end c.args.pc c.args.branch (omega (arith, body.room)) c.in_ok-edge.edge
    c.asked_along.result c.instr-i.result.now c.row_of-row.result c.at-next.result (numbers_of c.args.potentials.now) none
    inside.inside (ahead-alone body forward c.args.pc c.args.branch (Some c.in_ok-edge.edge) c.requires.above
    c.requires.below c.in_ok-edge.ensures.value) c.instr-i.ensures.there next.0 next.1 (rw c.if-branch.false c.asked_along.ensures)

pub returns-then-branch-clause-steps : goal.returns-then-branch-clause-steps
returns-then-branch-clause-steps c = λ forward none.
    let body = c.args.body.now in
    let inside = c.in_ok-edge.ensures.inside in
    let next = numbers-at c.args.potentials.now c.in_ok-edge.edge.to c.at-next.result c.at-next.ensures in
    asks-some body.image.now body.end c.args.pc c.args.branch (omega (arith, body.room)) c.in_ok-edge.edge
    c.asked_branching.result c.instr-i.result.now strongest c.at-next.result (numbers_of c.args.potentials.now) none
    inside.inside (ahead-alone body forward c.args.pc c.args.branch (Some c.in_ok-edge.edge) c.requires.above
    c.requires.below c.in_ok-edge.ensures.value) c.instr-i.ensures.there next.0 next.1 (rw c.if-branch.true c.asked_branching.ensures)

pub returns-in_err-edge-clause-steps : goal.returns-in_err-edge-clause-steps
returns-in_err-edge-clause-steps c = λ forward none.
    let body = c.args.body.now in
    rw c.from_residual.ensures (asks-none body.image.now body.end c.args.pc c.args.branch (omega (arith, body.room))
    (numbers_of c.args.potentials.now).steps (ahead-alone body forward c.args.pc c.args.branch None c.requires.above
    c.requires.below c.in_err-edge.ensures.value))

pub returns-else-branch-clause-asks : goal.returns-else-branch-clause-asks
returns-else-branch-clause-asks c =
    let body = c.args.body.now in
    let next = numbers-at c.args.potentials.now c.in_ok-edge.edge.to c.at-next.result c.at-next.ensures in
    let i = c.instr-i.result.now in
    let row : c.row_of-row.result ≡ row_known c.args.known.now c.args.pc = c.row_of-row.ensures.value ∙ ap row_of (c.at.ensures None) in
    asked-one body.image.now body.r c.args.known.now (numbers_of c.args.potentials.now) c.args.pc c.args.branch i
    c.in_ok-edge.edge.to c.at-next.result c.asked_along.result c.instr-i.ensures.there c.in_ok-edge.ensures.leads next.0 next.1
    (rw c.if-branch.false (c.asked_along.ensures ∙ ap (λ (x : Row). asked_along body.image.now i i.opcode x c.at-next.result) row))

pub returns-then-branch-clause-asks : goal.returns-then-branch-clause-asks
returns-then-branch-clause-asks c =
    let body = c.args.body.now in
    let next = numbers-at c.args.potentials.now c.in_ok-edge.edge.to c.at-next.result c.at-next.ensures in
    asked-one body.image.now body.r c.args.known.now (numbers_of c.args.potentials.now) c.args.pc c.args.branch
    c.instr-i.result.now c.in_ok-edge.edge.to c.at-next.result c.asked_branching.result c.instr-i.ensures.there
    c.in_ok-edge.ensures.leads next.0 next.1
    (rw c.if-branch.true c.asked_branching.ensures)
