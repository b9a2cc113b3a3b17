use Rattle.std.proofs.Common.{◌≡◌, ◌-◌, ◌++◌, ℕ, replicate, ap, ◌∙◌, arith}
use Rattle.std.specs.Vec.{vec_len}
use Rattle.geos_image.proofs.table.reach.Goals as goal

pub returns-clause-items : goal.returns-clause-items
returns-clause-items g c =
    let old = c.args.items.now in
    let end = c.loop.auto.counter-end (omega (arith, c.requires.few, c.len-counter.ensures)) in
    let more : c.loop.counter - vec_len old ≡ c.args.pc - vec_len old = omega (arith, end, c.loop-test.false) in
    c.loop.invariant.items ∙ ap (λ (n : ℕ). old.items ++ replicate n c.args.rest) more
