use Rattle.std.proofs.Common.{◌≡◌, ◌+◌, ◌-◌, ℕ, subst, arith}
use Rattle.geos_potentials.specs.Onward.{AreFoundFrom}
use Rattle.geos_potentials.proofs.count.count_each.Goals as goal

pub loop-r-init : goal.loop-r-init
loop-r-init c = record {
  counted = λ want all q from lt. absurd (omega (arith, from, lt));
  least = λ none q from lt. absurd (omega (arith, from, lt));
  within = rw c.requires.none tt;
  none = rw c.requires.none tt;
  reason = rw c.requires.none tt;
  touched = rw c.requires.no_tables tt;
}

pub count_next-requires-clause-touched : goal.count_next-requires-clause-touched
count_next-requires-clause-touched c = c.loop-r.invariant.touched

pub loop-r-preserved : goal.loop-r-preserved
loop-r-preserved c =
    let now = c.loop-r in
    let one : now.r ≡ now.r - 1 + 1 = omega (arith, c.loop-r-test.true) in
    c.in_ok-count_next.ensures c.args.routines (omega (arith, c.loop-r-test.true, now.auto.r))
    (subst (λ (n : ℕ). AreFoundFrom c.args.image.now n c.args.routines c.args.known.now now.potentials now.left now.tables) one
    now.invariant)

pub returns : goal.returns
returns c =
    let now = c.loop-r in
    let zero : now.r ≡ 0 = omega (arith, c.loop-r-test.false) in
    subst (λ (n : ℕ). AreFoundFrom c.args.image.now n c.args.routines c.args.known.now now.potentials now.left now.tables) zero
    now.invariant
