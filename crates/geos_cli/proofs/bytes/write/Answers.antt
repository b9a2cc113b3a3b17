use Rattle.std.proofs.Common.{arith, subst}
use Rattle.std.specs.Prelude.{IfErr}
use Rattle.geos_terms.specs.declared.name.Name.{Name}
use Rattle.geos_kernel.specs.View.{IsLocked}
use Rattle.geos_cli.specs.Bytes.{NotOpened}
use Rattle.geos_cli.specs.Script.{LeadsOn}
use Rattle.geos_cli.proofs.BytesMarks.{opened-mark}
use Rattle.geos_cli.proofs.BytesPut.{unwritten_on}
use Rattle.geos_cli.proofs.BytesWays.{written-there}
use Rattle.geos_cli.proofs.Sessions.{passed-on}
use Rattle.geos_cli.proofs.bytes.write.Goals as goal

pub store-requires-clause-writable : goal.store-requires-clause-writable
store-requires-clause-writable g c =
    let o = c.in_ok-span.ensures.opened in
    o.writable (opened-mark g.D.Device.medium c.args.kernel.now c.open.new.kernel c.args.place c.args.end c.in_ok-span.span o c.requires.marked)

pub store-requires-clause-within : goal.store-requires-clause-within
store-requires-clause-within g c = omega (arith, c.in_ok-span.ensures.opened.long, c.requires.end)

pub close-requires : goal.close-requires
close-requires g c =
    let o = c.in_ok-span.ensures.opened in
    let after = c.store.new.kernel.core in
    subst (λ (n : Name). IsLocked after n) o.inside (c.store.ensures.stands o.ref o.stands).locked

pub returns : goal.returns
returns g c =
    let medium = g.D.Device.medium in
    let old = c.args.kernel.now in
    let opened = c.open.new.kernel in
    let stored = c.store.new.kernel in
    let new = c.close.new.kernel in
    let o = c.in_ok-span.ensures.opened in
    record {
      written = written-there medium old opened stored new c.args.place c.args.at c.args.end c.args.bytes.now c.in_ok-span.span c.requires.end o
          c.store.ensures.honest (c.store.ensures.leads o.ref o.stands) c.close.ensures.leads;
      refused = tt;
      unwritten = unwritten_on medium old.device stored.device new.device
          (unwritten_on medium old.device opened.device stored.device c.open.ensures.unwritten c.store.ensures.unwritten) c.close.ensures.unwritten;
    }

pub returns-in_err-span-clause-refused : goal.returns-in_err-span-clause-refused
returns-in_err-span-clause-refused g c =
    let medium = g.D.Device.medium in
    let old = c.args.kernel.now in
    let new = c.open.new.kernel in
    subst (λ n. IfErr c.from_residual.result (λ why. LeadsOn medium old new (λ allows. NotOpened allows c.args.place n why))) c.requires.end
    (passed-on (λ why. LeadsOn medium old new (λ allows. NotOpened allows c.args.place c.args.end why)) _ _ c.from_residual.ensures.1
    c.in_err-span.ensures.refused)
