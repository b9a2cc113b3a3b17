use Rattle.std.proofs.Common.{length, ap, refl}
use Rattle.std.specs.Prelude.{is_none}
use Rattle.chunk_calls.proofs.Looked.{deref-finds, element-finds, element-refused, enough-within}
use Rattle.chunk_calls.proofs.looks.find.Goals as goal

pub returns-in-Ok : goal.returns-in-Ok
returns-in-Ok c =
    let d = c.in-Deref in
    let e = c.in-Ok.ensures in
    let place = c.in-Ok.place in
    rw (c.enough.ensures, d.is)
    (record {
      finds = deref-finds c.args.block.now d.c d.n place.0 place.1 e.place e.bytes e.within;
      within =
          enough-within (length c.args.block.now) d.n place e.within;
    })

pub returns-in-Err : goal.returns-in-Err
returns-in-Err c = rw (c.in-Deref.is, ap is_none c.in-Err.ensures.bytes) (record { finds = refl; within = tt })

pub returns-in-Ok-element : goal.returns-in-Ok-element
returns-in-Ok-element c =
    let x = c.in-Caelt in
    let e = c.in-Ok-element.ensures in
    let at = c.in-Ok-element.at in
    let len = c.in-Ok-element.len in
    rw (c.enough-in-Ok-element.ensures, c.from.ensures, x.is) (record {
      finds = element-finds c.args.block.now x.c x.i x.n at len e.ok e.place;
      within = enough-within (length c.args.block.now) x.n (at, len) e.within;
    })

pub returns-in-Err-element : goal.returns-in-Err-element
returns-in-Err-element c =
    let x = c.in-Caelt in
    let e = c.in-Err-element in
    rw (c.why_no_element.ensures, x.is) (record { finds = element-refused c.args.block.now x.c x.i x.n e.why e.ensures.refused; within = tt })
