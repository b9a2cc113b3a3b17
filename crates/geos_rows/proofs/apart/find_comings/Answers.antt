use Rattle.std.proofs.Common.{◌<◌, length, arith}
use Rattle.geos_rows.proofs.Meeting.{spread-first}
use Rattle.geos_rows.proofs.apart.find_comings.Goals as goal

pub first_apart-requires : goal.first_apart-requires
first_apart-requires c =
    let body = c.args.body.now in
    let known = c.in_ok-known.known in
    let waits = c.in_ok-known.waits in
    let in_known : body.start < length known = omega (arith, c.lengths.ensures, body.some, body.room, body.short) in
    let in_waits : body.start < length waits = omega (arith, c.lengths-2.ensures, body.some, body.room, body.short) in
    rw (c.set.ensures, c.set-2.ensures)
    (spread-first body.image.now body.r body.start c.routine.result.now known waits body.begins c.routine.ensures
    c.in_ok-known.ensures.one c.in_ok-known.ensures.other in_known in_waits)
