-- The device was read at most.
use Rattle.std.proofs.Common.{refl, arith, rules}
use Rattle.takhvoi.proofs.Notes.{reads-device}
use Rattle.takhvoi.proofs.items.change_in.Goals as goal

pub returns-clause-done : goal.returns-clause-done
returns-clause-done c = (
  refl,
  refl,
  (λ _. (
    c.is_performed.ensures.none (search rules),
    (
      (c.item_change.result, c.item_change.ensures.calls, c.end.ensures.status),
      reads-device _ _ c.item_change.ensures.device.reads,
    ),
  )),
  λ past. absurd (omega (arith, past, c.end.ensures.small)),
)
