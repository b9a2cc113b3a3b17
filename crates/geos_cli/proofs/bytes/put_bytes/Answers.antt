use Rattle.geos_cli.specs.Bytes.{Puts}
use Rattle.geos_cli.proofs.BytesKept.{puts-same, refused-either, stays-either, then-either}
use Rattle.geos_cli.proofs.BytesPut.{updated}
use Rattle.geos_cli.proofs.bytes.put_bytes.Goals as goal

pub returns : goal.returns
returns g c =
    let medium = g.D.Device.medium in
    let place = c.args.place in
    let at = c.args.at in
    let bytes = c.args.bytes.now in
    let puts = c.in_ok-put.ensures.put in
    record {
      ends = updated medium place at bytes c.args.kernel.now c.put.new.kernel c.vupdate.new.self c.vupdate.result
          puts c.put.ensures.unwritten c.vupdate.ensures.commits;
      stops = then-either medium c.args.kernel.now c.put.new.kernel (λ allows. Puts allows place at bytes)
          (λ allows. puts-same allows place at bytes) puts c.vupdate.new.self c.put.ensures.unwritten.stays
          c.vupdate.ensures.commits.between.stops;
    }

pub returns-in_err-put-clause-stops : goal.returns-in_err-put-clause-stops
returns-in_err-put-clause-stops g c =
    let place = c.args.place in
    let at = c.args.at in
    let bytes = c.args.bytes.now in
    refused-either g.D.Device.medium c.args.kernel.now c.put.new.kernel place at bytes _ c.from_residual.result c.from_residual.ensures.1
    c.in_err-put.ensures.refused

pub returns-then-not-vm_unlocked-clause-stops : goal.returns-then-not-vm_unlocked-clause-stops
returns-then-not-vm_unlocked-clause-stops g c =
    let place = c.args.place in
    let at = c.args.at in
    let bytes = c.args.bytes.now in
    stays-either g.D.Device.medium c.args.kernel.now c.put.new.kernel (λ allows. Puts allows place at bytes)
    (λ allows. puts-same allows place at bytes) c.in_ok-put.ensures.put
