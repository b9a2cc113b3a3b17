use Rattle.std.proofs.Common.{◌≡◌, ℕ, Option, List, length, sym, subst, arith}
use Rattle.tkv_names.specs.Seen.{IfNamed, AreNamed}
use Rattle.tkv_names.proofs.Noted.{noted}
use Rattle.tkv_names.proofs.covered.note.Goals as goal

pub returns-in_err-push : goal.returns-in_err-push
returns-in_err-push c before = subst (λ (named : List (Option ℕ)). AreNamed c.args.text.now c.args.items.now c.args.placed.now named)
    (sym c.in_err-push.ensures.items) before

pub returns-in_ok-push : goal.returns-in_ok-push
returns-in_ok-push c before = subst (λ (named : List (Option ℕ)). AreNamed c.args.text.now c.args.items.now c.args.placed.now named)
    (sym c.in_ok-push.ensures.items)
    (noted c.args.text.now c.args.items.now c.args.placed.now c.args.named.now.items c.covering.result
    (subst (λ (r : ℕ). IfNamed c.args.text.now c.args.items.now c.args.placed.now r c.covering.result) count c.covering.ensures) before)
  where
    count : c.len.result ≡ length c.args.named.now.items
    count = omega (arith, c.args.named.now.ok.0)
