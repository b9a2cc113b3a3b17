-- It is written if there is room, and counted.
use Rattle.std.proofs.Common.{◌+◌, ◌++◌, ◌∷◌, [], sym, subst, arith}
use Rattle.takhvoi.specs.Lists.{Fills}
use Rattle.takhvoi.proofs.Found.{fills-in, fills-past}
use Rattle.takhvoi.proofs.lists.put_next.Goals.{then-at-into, else-at-into}
use Rattle.takhvoi.proofs.lists.put_next.Goals as goal

pub returns-clause-filled : goal.returns-clause-filled
returns-clause-filled c = λ found start f. elim c.if-at-into.branch [
  | then-at-into w ↦ subst (λ now. Fills (found ++ c.args.handle ∷ []) (c.args.count.now + 1) start now) (sym w.into-is)
      (fills-in c.args.into.now c.args.count.now c.args.handle (let less = w.if-at-into in omega (arith, less)) found start f)
  | else-at-into w ↦ subst (λ now. Fills (found ++ c.args.handle ∷ []) (c.args.count.now + 1) start now) (sym w.into-is)
      (fills-past c.args.into.now c.args.count.now c.args.handle (let past = w.if-at-into in omega (arith, past)) found start f)
]
