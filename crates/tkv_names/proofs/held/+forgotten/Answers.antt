use Rattle.std.proofs.Common.{ℕ, ◌≡◌, ◌+◌, ◌-◌, subst, sym, arith}
use Rattle.tkv_names.specs.Seen.{Cleared}
use Rattle.tkv_names.proofs.Holding.{cleared_first, cleared_next}
use Rattle.tkv_names.proofs.held.+forgotten.Goals as goal

pub returns-then-below-eq0 : goal.returns-then-below-eq0
returns-then-below-eq0 t c = subst (λ (k : ℕ). Cleared c.args.text.now c.args.held c.args.at k c.args.held) (sym c.if-below-eq0.true)
    (cleared_first c.args.text.now c.args.held c.args.at)

pub returns : goal.returns
returns t c = subst (λ (k : ℕ). Cleared c.args.text.now c.args.held c.args.at k c.cleared.result) more
    (cleared_next c.args.text.now c.args.held c.forgotten-left.result c.cleared.result c.args.at (c.args.below - 1) c.forgotten-left.ensures c.cleared.ensures)
  where
    more : c.args.below - 1 + 1 ≡ c.args.below
    more = omega arith
