use Rattle.std.proofs.Common.{ℕ, ◌≡◌, ◌+◌, ◌-◌, subst, sym, arith}
use Rattle.tkv_names.specs.Seen.{KeepsBelow}
use Rattle.tkv_names.proofs.Holding.{keeps_first, keeps_next}
use Rattle.tkv_names.proofs.held.+shared.Goals as goal

pub returns-then-below-eq0 : goal.returns-then-below-eq0
returns-then-below-eq0 t c = subst (λ (k : ℕ). KeepsBelow c.args.text.now c.args.held c.args.other.now k c.args.held) (sym c.if-below-eq0.true)
    (keeps_first c.args.text.now c.args.held c.args.other.now)

pub returns : goal.returns
returns t c = subst (λ (k : ℕ). KeepsBelow c.args.text.now c.args.held c.args.other.now k c.kept.result) more
    (keeps_next c.args.text.now c.args.held c.args.other.now c.shared-left.result c.kept.result (c.args.below - 1) c.shared-left.ensures c.kept.ensures)
  where
    more : c.args.below - 1 + 1 ≡ c.args.below
    more = omega arith
