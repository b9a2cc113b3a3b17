-- The span is in a block that may be changed, and the bytes are stored at its reference.
use Rattle.std.proofs.Common.{◌≤◌, Ok, refl, arith}
use Rattle.geos_calls.specs.Calls.{store}
use Rattle.geos_kernel.specs.Kernel.{Calls}
use Rattle.takhvoi.proofs.Steps.{given-span, given-no-refusal}
use Rattle.takhvoi.proofs.access.write_in.Goals as goal

pub store-requires-clause-stands : goal.store-requires-clause-stands
store-requires-clause-stands c = c.in-Ok.ensures.writable (c.if-not-may_change.ensures.yes refl)

pub returns-in-Ok : goal.returns-in-Ok
returns-in-Ok c =
    let s = c.args.system.now.kernel.core in
    let gives = c.in-Ok.ensures.gives in
    let told = given-span s c.in-Ok.span gives.0 (λ ref. Calls (Unit {0}) (store ref c.args.at c.args.from.now) (Ok tt) s c.store.new.self.core)
    gives.2 c.store.ensures.row in (
      refl,
      refl,
      (λ _. (
        c.if-not-is_settled.ensures.yes refl,
        (gives.0, gives.1, told.0, given-no-refusal s c.in-Ok.span gives.0 _ gives.2, c.store.ensures.vm.device, told.1),
      )),
      λ past. absurd (past-none past),
    )
  where
    past-none : 100 ≤ 0 → ⊥
    past-none h = omega arith
