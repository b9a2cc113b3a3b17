use Rattle.geos_cli.proofs.BytesWays.{got-there, opened-locked}
use Rattle.geos_cli.proofs.bytes.get_bytes.Goals as goal

pub load-bytes-requires : goal.load-bytes-requires
load-bytes-requires g c = (c.in-Ok.ensures.opened.ref, c.in-Ok.ensures.opened.stands)

pub close-requires : goal.close-requires
close-requires g c = opened-locked g.D.Device.medium c.args.place 0 c.args.kernel.now c.open.new.kernel c.in-Ok.span c.in-Ok.ensures.opened

pub returns-in_ok-bytes-in-Ok-clause-got : goal.returns-in_ok-bytes-in-Ok-clause-got
returns-in_ok-bytes-in-Ok-clause-got g c =
    let medium = g.D.Device.medium in
    let old = c.args.kernel.now in
    let opened = c.open.new.kernel in
    got-there medium old opened c.close.new.kernel c.args.place c.in-Ok.span c.in_ok-bytes-in-Ok.field-0.items c.in-Ok.ensures.opened
    (g.met.D.Device.at_once opened.device) c.memory_is_legal.ensures.kept c.in_ok-bytes-in-Ok.ensures.loads c.in_ok-bytes-in-Ok.ensures.long
    c.close.ensures.leads
