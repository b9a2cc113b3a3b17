use Rattle.geos_machine.proofs.Honest.{alike-on}
use Rattle.geos_cli.proofs.BytesPut.{unwritten_on}
use Rattle.geos_cli.proofs.BytesWays.{measured, opened-locked}
use Rattle.geos_cli.proofs.bytes.measure.Goals as goal

pub close-requires : goal.close-requires
close-requires g c = opened-locked g.D.Device.medium c.args.place 0 c.args.kernel.now c.open.new.kernel c.in_ok-span.span c.in_ok-span.ensures.opened

pub returns : goal.returns
returns g c =
    let medium = g.D.Device.medium in
    let old = c.args.kernel.now in
    let opened = c.open.new.kernel in
    let new = c.close.new.kernel in
    let o = c.in_ok-span.ensures.opened in
    record {
      measured = measured medium old opened new c.args.place c.in_ok-span.span o c.close.ensures.leads;
      refused = tt;
      honest = alike-on _ _ _ c.close.ensures.honest o.alike;
      unwritten = unwritten_on medium old.device opened.device new.device c.open.ensures.unwritten c.close.ensures.unwritten;
    }
