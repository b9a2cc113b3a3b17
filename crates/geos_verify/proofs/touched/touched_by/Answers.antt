use Rattle.geos_verify.proofs.Noted.{noted-all}
use Rattle.geos_verify.proofs.touched.touched_by.Goals as goal

pub returns : goal.returns
returns c =
    let body = c.args.body.now in
    rw (c.noted.ensures, c.noted-2.ensures, c.noted-3.ensures, c.noted-4.ensures)
    (noted-all body.image.now body.touched.now body.r c.args.callee body.table c.requires)
