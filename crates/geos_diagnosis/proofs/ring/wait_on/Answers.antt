use Rattle.std.proofs.Common.{[], ◌∷◌, refl}
use Rattle.geos_diagnosis.proofs.ring.wait_on.Goals as goal

pub loop-init : goal.loop-init
loop-init c = record { from = c.requires.first_from; to = c.requires.first_to; loops = c.requires.loops; others = []; rest = refl }

pub loop-preserved : goal.loop-preserved
loop-preserved c =
    let other = c.in-Some.other in record {
      from = c.in-Some.ensures.from;
      to = c.in-Some.ensures.to;
      loops = c.in-Some.ensures.loops;
      others = c.loop.back ∷ c.loop.invariant.others;
      rest = (
        record {
          own = c.loop.taken;
          counter = other.counter;
          at = other.at;
          own_loops = c.loop.invariant.loops;
          loops = c.in-Some.ensures.loops;
          sets = c.in-Some.ensures.sets;
        },
        c.loop.invariant.rest,
      );
    }
