use Rattle.std.proofs.Common.{ℕ, Option, sym, subst}
use Rattle.std.specs.Prelude.{IfErr, OnOk}
use Rattle.geos_cli.specs.Bytes.{NotPut, Puts}
use Rattle.geos_cli.specs.Script.{LeadsOn}
use Rattle.geos_cli.proofs.bytes.put.Goals as goal

pub returns-in-None : goal.returns-in-None
returns-in-None g c =
    let medium = g.D.Device.medium in
    let old = c.args.kernel.now in
    let new = c.resize_and_write.new.kernel in
    let r = c.resize_and_write.result in
    record {
      put = subst (λ (at : Option ℕ). OnOk r (LeadsOn medium old new (λ allows. Puts allows c.args.place at c.args.bytes.now))) (sym c.in-None.is)
          c.resize_and_write.ensures.stored;
      refused = subst (λ (at : Option ℕ). IfErr r (λ why. LeadsOn medium old new (λ allows. NotPut allows c.args.place at c.args.bytes.now why)))
          (sym c.in-None.is) c.resize_and_write.ensures.refused;
      unwritten = c.resize_and_write.ensures.unwritten;
    }

pub returns-in-Some : goal.returns-in-Some
returns-in-Some g c =
    let medium = g.D.Device.medium in
    let old = c.args.kernel.now in
    let new = c.put_over.new.kernel in
    let r = c.put_over.result in
    record {
      put = subst (λ (at : Option ℕ). OnOk r (LeadsOn medium old new (λ allows. Puts allows c.args.place at c.args.bytes.now))) (sym c.in-Some.is)
          c.put_over.ensures.put;
      refused = subst (λ (at : Option ℕ). IfErr r (λ why. LeadsOn medium old new (λ allows. NotPut allows c.args.place at c.args.bytes.now why)))
          (sym c.in-Some.is) c.put_over.ensures.refused;
      unwritten = c.put_over.ensures.unwritten;
    }
