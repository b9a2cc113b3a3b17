use Rattle.std.proofs.Common.{◌≡◌, ◌∙◌, ℕ, List, Result, take, refl, ap, sym, subst, arith, length-take}
use Rattle.std.specs.Prelude.{IsOkAnd}
use Rattle.vm_file.specs.Reading.{count_at}
use Rattle.vm_file.proofs.Lengths.{stretch}
use Rattle.vm_file.proofs.ReadLaws.{count_ok}
use Rattle.vm_file.proofs.ReadSteps.{front_count}
use Rattle.vm_file.proofs.reader.read_count.Goals as goal

-- reading a stretch depends only on its first bytes
told : (at : ℕ) (xs front : List ℕ) (r : Result ℕ ℕ) → front ≡ take 2 xs → r ≡ count_at at front → count_at at xs ≡ r
told at xs front r is tells = sym (front_count at xs) ∙ ap (count_at at) (sym is) ∙ sym tells

pub returns-in-Err-count_at-clause-exact : goal.returns-in-Err-count_at-clause-exact
returns-in-Err-count_at-clause-exact g c = λ h.
    told c.args.at (stretch (g.D.Device.medium.image c.args.device.now) c.args.at c.args.end) (take c.in-Ok.n c.fill.new.into)
    c.count_at.result (c.in-Ok.ensures.front h) c.count_at.ensures.exact ∙ c.in-Err-count_at.is

pub returns-in-Ok-count_at-clause-exact : goal.returns-in-Ok-count_at-clause-exact
returns-in-Ok-count_at-clause-exact g c = λ h.
    let s = stretch (g.D.Device.medium.image c.args.device.now) c.args.at c.args.end in
    let is = told c.args.at s (take c.in-Ok.n c.fill.new.into) c.count_at.result (c.in-Ok.ensures.front h) c.count_at.ensures.exact
    ∙ c.in-Ok-count_at.is in
    let P : Result ℕ ℕ → Type 0 = λ r. IsOkAnd r (λ n. n ≡ c.in-Ok-count_at.count) in
    subst P (sym is) refl

pub returns-in-Ok-count_at-clause-legal : goal.returns-in-Ok-count_at-clause-legal
returns-in-Ok-count_at-clause-legal g c =
    let k = count_ok c.args.at (take c.in-Ok.n c.fill.new.into) c.in-Ok-count_at.count (sym c.count_at.ensures.exact ∙ c.in-Ok-count_at.is) in
    (k.1, omega (arith, k.0, length-take c.in-Ok.n c.fill.new.into, c.in-Ok.ensures.count))
