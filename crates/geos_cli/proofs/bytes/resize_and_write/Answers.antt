use Rattle.geos_cli.specs.Bytes.{NotStored}
use Rattle.geos_cli.specs.Script.{LeadsOn}
use Rattle.geos_cli.proofs.BytesPut.{unwritten_on}
use Rattle.geos_cli.proofs.BytesRefused.{stored-long, stored-not, stored-unsized}
use Rattle.geos_cli.proofs.BytesWays.{stored}
use Rattle.geos_cli.proofs.Sessions.{passed-on}
use Rattle.geos_cli.proofs.bytes.resize_and_write.Goals as goal

pub returns : goal.returns
returns g c =
    let medium = g.D.Device.medium in
    let old = c.args.kernel.now in
    let resized = c.resize.new.kernel in
    let new = c.write.new.kernel in
    record {
      stored = stored medium old resized new c.args.place c.args.at c.args.least c.in_ok-end.end c.greater.result c.args.bytes.now c.write.result
          c.in_ok-end.ensures.end c.greater.ensures c.in_ok-resize.ensures.honest c.in_ok-resize.ensures.leads c.write.ensures.written;
      refused = stored-not medium old resized new c.args.place c.args.at c.args.least c.in_ok-end.end c.greater.result c.args.bytes.now c.write.result
          c.in_ok-end.ensures.end c.greater.ensures c.in_ok-resize.ensures.honest c.in_ok-resize.ensures.leads c.write.ensures.refused;
      unwritten = unwritten_on medium old.device resized.device new.device c.resize.ensures.unwritten c.write.ensures.unwritten;
    }

pub returns-in_err-end-clause-refused : goal.returns-in_err-end-clause-refused
returns-in_err-end-clause-refused g c =
    let medium = g.D.Device.medium in
    let old = c.args.kernel.now in
    passed-on (λ why. LeadsOn medium old old (λ allows. NotStored allows c.args.place c.args.at c.args.least c.args.bytes.now why)) _ _
    c.from_residual.ensures.1
    (stored-long medium old c.args.place c.args.at c.args.least c.args.bytes.now _ (g.met.D.Device.at_once old.device)
    c.memory_is_legal.ensures.kept c.in_err-end.ensures.refused)

pub returns-in_err-resize-clause-refused : goal.returns-in_err-resize-clause-refused
returns-in_err-resize-clause-refused g c =
    let medium = g.D.Device.medium in
    let old = c.args.kernel.now in
    let new = c.resize.new.kernel in
    passed-on (λ why. LeadsOn medium old new (λ allows. NotStored allows c.args.place c.args.at c.args.least c.args.bytes.now why)) _ _
    c.from_residual-in_err-resize.ensures.1
    (stored-unsized medium old new c.args.place c.args.at c.args.least c.in_ok-end.end c.greater.result c.args.bytes.now _
    c.in_ok-end.ensures.end c.greater.ensures c.in_err-resize.ensures.refused)
