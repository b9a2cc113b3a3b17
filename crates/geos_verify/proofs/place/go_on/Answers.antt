use Rattle.std.proofs.Common.{◌+◌, ◌<◌, length, false, refl, arith}
use Rattle.geos_verify.specs.Rows.{after}
use Rattle.geos_verify.proofs.Known.{row-past, row-chosen, goes-on}
use Rattle.geos_verify.proofs.GivenAgain.{known-again}
use Rattle.geos_verify.proofs.place.go_on.Goals as goal

pub returns-then-next-len-clause-row : goal.returns-then-next-len-clause-row
returns-then-next-len-clause-row c =
    row-past c.args.image.now (c.args.pc + 1) c.args.row.now (omega (arith, c.if-next-len.true, c.len-len.ensures.len))

pub returns-then-repeats-clause-row : goal.returns-then-repeats-clause-row
returns-then-repeats-clause-row c =
    let image = c.args.image.now in
    let lt : c.args.pc + 1 < length image.points = omega (arith, c.if-next-len.false, c.len-len.ensures.len, c.requires.there) in
    known-again image c.args.pc c.args.row.now lt (c.repeats.ensures c.if-repeats.true) c.requires.here

pub take_given-requires-clause-edge : goal.take_given-requires-clause-edge
take_given-requires-clause-edge c =
    let image = c.args.image.now in
    let lt : c.args.pc + 1 < length image.points = omega (arith, c.if-next-len.false, c.len-len.ensures.len, c.requires.there) in
    goes-on image c.len-len.ensures.legal c.args.pc c.given.result.now lt c.given.ensures

pub returns-clause-row : goal.returns-clause-row
returns-clause-row c =
    let image = c.args.image.now in
    let lt : c.args.pc + 1 < length image.points = omega (arith, c.if-next-len.false, c.len-len.ensures.len, c.requires.there) in
    let computed = after image c.args.pc c.args.row.now false in
    rw c.take_given.ensures.row
    (row-chosen image c.args.pc c.args.row.now c.given.result.now computed c.requires.here lt c.given.ensures (λ none. refl))
