use Rattle.geos_verify.proofs.Places.{item_at}
use Rattle.geos_rows.proofs.Strong.{at-first}
use Rattle.geos_rows.proofs.strongest.Strongest.find.Goals as goal

pub go_all-requires : goal.go_all-requires
go_all-requires c =
    let body = c.args.body.now in
    let routine = item_at body.image.now.routines body.r body.there in
    at-first body.image.now body.r routine.0 routine.1 c.seed_entry.new.known c.seed_entry.ensures.seeded
