use Rattle.std.specs.Prelude.{Some}
use Rattle.geos_cli.specs.Bytes.{NotPut}
use Rattle.geos_cli.specs.Script.{LeadsOn}
use Rattle.geos_cli.proofs.BytesPut.{unwritten_on}
use Rattle.geos_cli.proofs.BytesRefused.{put-not, put-unmeasured}
use Rattle.geos_cli.proofs.BytesWays.{put-over}
use Rattle.geos_cli.proofs.Sessions.{passed-on}
use Rattle.geos_cli.proofs.bytes.put_over.Goals as goal

pub returns : goal.returns
returns g c =
    let medium = g.D.Device.medium in
    let old = c.args.kernel.now in
    let sized = c.measure.new.kernel in
    let new = c.resize_and_write.new.kernel in
    record {
      put = put-over medium old sized new c.args.place c.args.at c.in_ok-least.least c.args.bytes.now c.resize_and_write.result
          c.in_ok-least.ensures.honest c.in_ok-least.ensures.measured c.resize_and_write.ensures.stored;
      refused = put-not medium old sized new c.args.place c.args.at c.in_ok-least.least c.args.bytes.now c.resize_and_write.result
          c.in_ok-least.ensures.honest c.in_ok-least.ensures.measured c.resize_and_write.ensures.refused;
      unwritten = unwritten_on medium old.device sized.device new.device c.measure.ensures.unwritten c.resize_and_write.ensures.unwritten;
    }

pub returns-in_err-least-clause-refused : goal.returns-in_err-least-clause-refused
returns-in_err-least-clause-refused g c =
    let medium = g.D.Device.medium in
    let old = c.args.kernel.now in
    let new = c.measure.new.kernel in
    passed-on (λ why. LeadsOn medium old new (λ allows. NotPut allows c.args.place (Some c.args.at) c.args.bytes.now why)) _ _
    c.from_residual.ensures.1 (put-unmeasured medium old new c.args.place c.args.at c.args.bytes.now _ c.in_err-least.ensures.refused)
