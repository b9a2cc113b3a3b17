use Rattle.std.proofs.Common.{◌≡◌, length, subst, arith}
use Rattle.geos_image.proofs.Instrs.{image_parts}
use Rattle.geos_counters.proofs.Noting.{IsWhole, notes-whole, notes-full}
use Rattle.geos_counters.proofs.spent.may_touch.Goals as goal

pub returns-then-ne : goal.returns-then-ne
returns-then-ne c =
    let image = c.args.image.now in
    notes-full image 32 (let few = (image_parts image c.count-r-end.ensures.legal).few in omega (arith, few))

pub returns : goal.returns
returns c =
    let image = c.args.image.now in
    let at : c.loop-r.r ≡ length image.routines = omega (arith, c.loop-r-test.false, c.count-r-end.ensures.count) in
    notes-whole image c.args.table.now (subst (λ n. IsWhole image c.args.table.now n) at c.loop-r.invariant)
