use Rattle.geos_rows.proofs.Meeting.{nothing-apart, all-gone}
use Rattle.geos_rows.proofs.apart.first_apart.Goals as goal

pub returns-in-Ok-false-clause-none : goal.returns-in-Ok-false-clause-none
returns-in-Ok-false-clause-none c =
    let ok = c.in-Ok-false.ensures in
    nothing-apart c.args.body.now c.go_all.new.known c.go_all.new.waits ok.spread (ok.settled c.in-Ok-false.field-0-test)

pub returns-in-Ok-false-clause-gone : goal.returns-in-Ok-false-clause-gone
returns-in-Ok-false-clause-gone c =
    let ok = c.in-Ok-false.ensures in
    all-gone c.args.body.now c.go_all.new.known c.go_all.new.waits ok.spread (ok.settled c.in-Ok-false.field-0-test)
