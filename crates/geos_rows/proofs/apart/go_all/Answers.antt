use Rattle.std.proofs.Common.{false, sym}
use Rattle.geos_rows.proofs.Meeting.{going-past, going-on}
use Rattle.geos_rows.proofs.apart.go_all.Goals.{then-at+in_ok-further, else-at}
use Rattle.geos_rows.proofs.apart.go_all.Goals as goal

pub loop-pc-preserved : goal.loop-pc-preserved
loop-pc-preserved c =
    let image = c.args.body.now.image.now in
    let r = c.args.body.now.r in
    let before = c.args.known.now in
    let at = c.loop-pc in
    elim c.if-at.branch [
      | then-at+in_ok-further w ↦
          let ok = w.in_ok-further.ensures in
          rw (w.known-is, w.waits-is, w.further-is) (going-on image r before at.known at.waits at.pc w.go_on.new.known
          w.go_on.new.waits at.further w.in_ok-further.field-0 at.invariant ok.spread ok.ok)
      | else-at w ↦ rw (w.known-is, w.waits-is, w.further-is)
          (going-past image r before at.known at.waits at.pc at.further at.invariant (sym (w.if-at.ensures false)))
    ]
