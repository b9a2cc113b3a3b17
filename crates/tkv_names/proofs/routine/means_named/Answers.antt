use Rattle.std.proofs.Common.{◌≡◌, suc, length, arith}
use Rattle.tkv_names.proofs.Cases.{means}
use Rattle.tkv_names.proofs.routine.means_named.Goals as goal

pub returns-in-Some-begun : goal.returns-in-Some-begun
returns-in-Some-begun c t = means c.args.text.now c.args.items.now c.args.index c.args.placed.now c.in-Some.end c.in-Some-begun.seen last
    c.in-Some-begun.ensures (c.is_sound.ensures t)
  where
    last : length c.args.placed.now ≡ suc c.in-Some.end
    last = omega arith
