use Rattle.std.proofs.Common.{◌+◌, List, Option, None, refl, sym, subst, arith}
use Rattle.geos_image.specs.declared.row.Row.{Row}
use Rattle.geos_rows.specs.Reached.{Copies}
use Rattle.geos_rows.proofs.Seeding.{copies-none, copies-more, copies-to}
use Rattle.geos_rows.proofs.seeds.copy_rows.Goals as goal

pub loop-pc-init : goal.loop-pc-init
loop-pc-init c = copies-none c.args.body.now.start c.args.from.now c.args.known.now

pub loop-pc-preserved : goal.loop-pc-preserved
loop-pc-preserved c =
    let body = c.args.body.now in
    let from = c.args.from.now in
    let pc = c.loop-pc.pc in
    let more = copies-more body.start pc (pc + 1) from c.args.known.now c.loop-pc.known c.at.result refl c.loop-pc.auto.pc
    (omega (arith, c.loop-pc.invariant.len, c.lengths.ensures, c.loop-pc-test.true, body.room, body.short))
    (c.at.ensures None) c.loop-pc.invariant in
    subst (λ (next : List (Option Row)). Copies body.start (pc + 1) from c.args.known.now next) (sym c.set.ensures) more

pub returns : goal.returns
returns c = copies-to c.args.body.now.start c.loop-pc.pc c.args.body.now.end c.args.from.now c.args.known.now c.loop-pc.known
    (omega (arith, c.loop-pc-test.false)) c.loop-pc.invariant
