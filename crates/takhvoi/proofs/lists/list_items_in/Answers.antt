-- The device was read at most.
use Rattle.std.proofs.Common.{refl, arith}
use Rattle.takhvoi.proofs.Notes.{reads-device}
use Rattle.takhvoi.proofs.lists.list_items_in.Goals as goal

pub returns-clause-done : goal.returns-clause-done
returns-clause-done c = (
  refl,
  refl,
  (λ _. (
    reads-device _ _ c.list_items.ensures.reads,
    (c.list_items.result, c.list_items.ensures.brought, c.end.ensures.status, c.list_items.ensures.lists),
  )),
  λ past. absurd (omega (arith, past, c.end.ensures.small)),
)
