use Rattle.std.proofs.Common.{None, refl, sym, subst, arith}
use Rattle.loop_causes.specs.declared.counters.Counter.TheVariants.{Kept}
use Rattle.loop_causes.specs.Turns.{all_are, begin_at, AreReached}
use Rattle.loop_causes.proofs.Onward.{begins-at}
use Rattle.loop_causes.proofs.turns.way_to.Goals as goal

pub returns : goal.returns
returns c =
    let loops = c.args.loops.now in
    let body = loops.body in
    let from = c.args.from in
    let low = c.args.low in
    let high = c.args.high in
    let begun = subst (AreReached loops.rows.now body.image.now body.r (begin_at from) low high) (sym c.set.ensures)
    (begins-at loops.rows.now body.image.now body.r from low high c.fill_from.new.self (record { steps = 0; counters = all_are Kept })
    refl refl (λ k above below. c.fill_from.ensures.same k None above (omega (arith, below, c.requires.below, body.room, body.short)))) in
    c.sweep.ensures (begin_at from) begun c.args.to c.in_ok-way.way c.requires.ends.0 c.requires.ends.1 (sym (c.in_ok-way.ensures None))
