use Rattle.std.proofs.Common.{sym, subst}
use Rattle.geos_terms.specs.Names.{vm}
use Rattle.geos_kernel.specs.View.{IsLocked}
use Rattle.geos_cli.specs.Script.{LeadsOn, UnlocksOne}
use Rattle.geos_cli.proofs.BytesPut.{left_alone}
use Rattle.geos_cli.proofs.bytes.close.Goals as goal

pub unlock-requires : goal.unlock-requires
unlock-requires g c = subst (λ h. IsLocked c.args.kernel.now.core (vm h)) (sym c.handle.ensures) c.requires

pub returns : goal.returns
returns g c =
    let medium = g.D.Device.medium in
    let old = c.args.kernel.now in
    let new = c.unlock.new.kernel in
    record {
      leads = subst (λ h. LeadsOn medium old new (λ allows. UnlocksOne allows h)) c.handle.ensures c.unlock.ensures.leads;
      honest = c.unlock.ensures.honest;
      unwritten = left_alone medium old new c.unlock.ensures.vm;
    }
