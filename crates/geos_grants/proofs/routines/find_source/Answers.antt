use Rattle.std.proofs.Common.{◌<◌, length, suc, sym, subst, ◌∙◌, arith}
use Rattle.geos_grants.proofs.Closed.{go-down, by-table, comes-more}
use Rattle.geos_grants.proofs.routines.find_source.Goals as goal

pub source_in-requires-clause-has : goal.source_in-requires-clause-has
source_in-requires-clause-has c =
    let image = c.args.image.now in
    by-table image (go-down image c.requires.checked) c.args.effect c.args.table.now c.down.q c.down.invariant.0
    (λ q effect lt. c.requires.notes q effect (omega (arith, lt, c.down.invariant.0))) ∙ c.down.invariant.1

pub down-smaller : goal.down-smaller
down-smaller c =
    let one = c.in-Called.ensures.0 in
    let low = go-down c.args.image.now c.requires.checked c.down.q one.pc one.routine one.place one.has one.calls in
    subst (λ n. n < c.down.q) one.callee low

pub down-preserved : goal.down-preserved
down-preserved c =
    let image = c.args.image.now in
    let one = c.in-Called.ensures.0 in
    let low = subst (λ n. n < c.down.q) one.callee
    (go-down image c.requires.checked c.down.q one.pc one.routine one.place one.has one.calls) in
    let lt : c.in-Called.callee < length image.routines = omega (arith, low, c.down.invariant.0) in (
      lt,
      sym (c.requires.notes c.in-Called.callee c.args.effect lt) ∙ c.in-Called.ensures.1,
      (suc c.down.invariant.2.0, comes-more image c.down.invariant.2.0 c.args.r c.down.q c.in-Called.callee c.down.invariant.2.1 one),
    )
