-- The device was read at most.
use Rattle.std.proofs.Common.{refl, arith, rules}
use Rattle.takhvoi.proofs.Notes.{reads-device}
use Rattle.takhvoi.proofs.items.make_in.Goals as goal

pub returns-clause-done : goal.returns-clause-done
returns-clause-done c = (
  refl,
  refl,
  (λ _. (
    c.is_performed.ensures.none (search rules),
    (
      (c.item_make.result, c.item_make.ensures.calls, c.tell.ensures.status, c.tell.ensures.told),
      reads-device _ _ c.item_make.ensures.device.reads,
    ),
  )),
  λ past. absurd (omega (arith, past, c.tell.ensures.small)),
)
