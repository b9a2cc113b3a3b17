use Rattle.std.proofs.Common.{◌≡◌, ℕ, ◌+◌, refl, subst, arith}
use Rattle.tkv_names.specs.Named.{parameters}
use Rattle.tkv_names.specs.Seen.{Agrees}
use Rattle.tkv_names.proofs.routine.begun.Goals as goal

pub returns : goal.returns
returns c = record {
  head = c.in_ok-head.head;
  there = c.in_ok-head.ensures.0;
  declares = c.in_ok-head.ensures.1;
  item = omega arith;
  placed = refl;
  level = refl;
  held = λ words. subst (λ (f : ℕ). Agrees c.args.text.now c.in_ok-held.held (parameters c.args.text.now c.args.items.now f words c.in_ok-head.head.b) words)
      first (c.in_ok-held.ensures words);
  first = refl;
  second = refl;
  third = refl;
  fourth = refl;
}
  where
    first : c.in_ok-first.first ≡ c.args.index + 1
    first = omega arith
