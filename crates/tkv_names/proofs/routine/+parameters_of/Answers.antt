use Rattle.std.proofs.Common.{◌≡◌, ℕ, suc, ◌+◌, ◌-◌, Some, sym, subst, arith}
use Rattle.std.specs.Prelude.{slice_get}
use Rattle.tkv_names.specs.Named.{parameters}
use Rattle.tkv_names.specs.Seen.{Agrees, Renames, IsPlace}
use Rattle.tkv_names.proofs.Holding.{nothing_held, one_more}
use Rattle.tkv_names.proofs.routine.+parameters_of.Goals as goal

pub returns-then-count-eq0 : goal.returns-then-count-eq0
returns-then-count-eq0 t c words r a lt e = absurd (nothing_held 8 r a e)

pub returns : goal.returns
returns t c words = subst (λ (n : ℕ). Agrees c.args.text.now c.renamed.result (parameters c.args.text.now c.args.items.now c.args.first words n) words) more
    (by c.in_ok-at.ensures)
  where
    more : suc (c.args.count - 1) ≡ c.args.count
    more = omega arith

    place : c.in_ok-index.index ≡ c.args.first + (c.args.count - 1)
    place = omega arith

    by : IsPlace c.args.items.now c.in_ok-index.index c.in_ok-at.at
        → Agrees c.args.text.now c.renamed.result (parameters c.args.text.now c.args.items.now c.args.first words (suc (c.args.count - 1))) words
    by (item, there, is) = one_more c.args.text.now c.args.items.now c.args.first (c.args.count - 1) c.in_ok-held.held c.renamed.result item
        (subst (λ (n : ℕ). slice_get c.args.items.now n ≡ Some item) place there)
        (subst (λ (n : ℕ). Renames c.args.text.now c.in_ok-held.held n (c.args.count - 1) c.renamed.result) (sym is) c.renamed.ensures)
        c.in_ok-held.ensures words
