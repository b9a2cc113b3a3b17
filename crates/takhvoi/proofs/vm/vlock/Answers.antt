-- The device was read at most.
use Rattle.std.proofs.Common.{refl, arith}
use Rattle.takhvoi.proofs.Notes.{reads-device}
use Rattle.takhvoi.proofs.vm.vlock.Goals as goal

pub returns-clause-done : goal.returns-clause-done
returns-clause-done c = (
  refl,
  refl,
  (λ _. ((c.vlock.result, c.vlock.ensures.calls, c.end.ensures.status), reads-device _ _ c.vlock.ensures.device.reads)),
  λ past. absurd (omega (arith, past, c.end.ensures.small)),
)
