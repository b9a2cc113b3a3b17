use Rattle.std.proofs.Common.{sym}
use Rattle.geos_rows.proofs.Meeting.{spread-on}
use Rattle.geos_rows.proofs.apart.go_on.Goals as goal

pub returns-then-along-clause-spread : goal.returns-then-along-clause-spread
returns-then-along-clause-spread c =
    let body = c.args.body.now in
    let one = c.in_ok-along.ensures in
    let two = c.in_ok-aside.ensures in
    spread-on body.image.now body.r c.args.pc c.args.known.now c.go.new.known c.go-2.new.known c.args.waits.now
    c.go.new.waits c.go-2.new.waits c.in_ok-along.along c.in_ok-aside.aside c.requires.spread
    (rw (sym c.set.ensures) one.ok) one.gone two.ok two.gone c.go-2.ensures.come

pub returns-else-along-clause-spread : goal.returns-else-along-clause-spread
returns-else-along-clause-spread c =
    let body = c.args.body.now in
    let one = c.in_ok-along.ensures in
    let two = c.in_ok-aside.ensures in
    spread-on body.image.now body.r c.args.pc c.args.known.now c.go.new.known c.go-2.new.known c.args.waits.now
    c.go.new.waits c.go-2.new.waits c.in_ok-along.along c.in_ok-aside.aside c.requires.spread
    (rw (sym c.set.ensures) one.ok) one.gone two.ok two.gone c.go-2.ensures.come
