use Rattle.std.proofs.Common.{◌-◌, None, refl, arith}
use Rattle.loop_causes.specs.declared.counters.Counter.TheVariants.{Is}
use Rattle.loop_causes.specs.Turns.{all_are, begin_from}
use Rattle.loop_causes.proofs.Onward.{begins-from}
use Rattle.loop_causes.proofs.turns.pass_by.Goals as goal

pub some_pass-requires : goal.some_pass-requires
some_pass-requires c =
    let body = c.args.body.now in
    let last = body.end - 1 in
    c.sweep.ensures (begin_from body.start last) (begins-from c.args.rows.now body.image.now body.r body.start last c.fill_from.new.self
    (record { steps = 0; counters = all_are (Is 0) }) refl refl (λ k low high. c.fill_from.ensures.same k None low
    (omega (arith, high, body.some, body.room, body.short))))
