use Rattle.std.proofs.Common.{◌≡◌, ℕ, suc, ◌-◌, sym, ◌∙◌, subst, arith}
use Rattle.std.specs.Prelude.{false, bytes_eq}
use Rattle.tkv_names.specs.Named.{letters}
use Rattle.tkv_names.proofs.Letters.{differ}
use Rattle.tkv_names.proofs.name.+same_letters.Goals as goal

pub returns-then-left-right : goal.returns-then-left-right
returns-then-left-right t c = subst
    (λ (n : ℕ). false ≡ bytes_eq (letters n c.args.text.now c.args.one) (letters n c.args.text.now c.args.other))
    more (differ (c.args.most - 1) c.args.text.now c.args.one c.args.other
    (λ e. c.if-left-right.true (c.letter-left.ensures.value ∙ (e ∙ sym c.letter-right.ensures.value))))
  where
    more : suc (c.args.most - 1) ≡ c.args.most
    more = omega arith
