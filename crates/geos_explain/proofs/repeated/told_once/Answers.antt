use Rattle.std.proofs.Common.{[], ◌∷◌, length, length-append, None, get_or, sym, ap, subst, arith}
use Rattle.geos_explain.specs.Repeated.{IsToldOnce}
use Rattle.geos_explain.proofs.Repeating.{one-once}
use Rattle.geos_explain.proofs.repeated.told_once.Goals as goal

pub loop-pc-preserved : goal.loop-pc-preserved
loop-pc-preserved c =
    let image = c.args.image.now in
    let refused = c.args.refused.now in
    let told = c.loop-pc.told.items in
    let items = c.in_ok-push.ensures.items in
    let so_far = c.loop-pc.invariant in
    record {
      long = omega (arith, ap length items, length-append told (c.told_at.result ∷ []), so_far.long);
      each = λ pc less. subst (λ all. IsToldOnce image refused pc (get_or all pc None)) (sym items)
          (one-once image refused told c.loop-pc.pc c.told_at.result so_far.long so_far.each c.told_at.ensures pc less);
    }

pub returns : goal.returns
returns c = record {
  long = omega (arith, c.loop-pc.invariant.long, c.loop-pc.auto.pc-end, c.loop-pc-test.false, c.len-pc-end.ensures.len);
  each = λ pc less. c.loop-pc.invariant.each pc (omega (arith, less, c.loop-pc-test.false, c.len-pc-end.ensures.len));
}
