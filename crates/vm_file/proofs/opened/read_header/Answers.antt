use Rattle.std.proofs.Common.{◌≡◌, ◌∙◌, ℕ, List, Result, min, length, take, refl, ap, sym, subst}
use Rattle.std.specs.Prelude.{IsOkAnd}
use Rattle.vm_file.specs.Reading.{header_at}
use Rattle.vm_file.proofs.Lengths.{stretch}
use Rattle.vm_file.proofs.OpenSteps.{first-bytes}
use Rattle.vm_file.proofs.opened.read_header.Goals as goal

-- what the bytes that were read tell is what the first 512 bytes tell
told : (image front : List ℕ) (len end : ℕ) (r : Result ℕ ℕ) → len ≡ length image → end ≡ min len 512
    → front ≡ take 512 (stretch image 0 end) → r ≡ header_at front → header_at (take 512 image) ≡ r
told image front len end r all is here tells = ap header_at (sym (here ∙ first-bytes image end (is ∙ ap (λ k. min k 512) all))) ∙ sym tells

pub returns-in-Err-header_at-clause-exact : goal.returns-in-Err-header_at-clause-exact
returns-in-Err-header_at-clause-exact g c = λ h.
    told (g.D.Device.medium.image c.args.device.now) (take c.in-Ok.n c.fill.new.into) c.len.result c.min-end.result
    c.header_at.result c.len.ensures.length c.min-end.ensures (c.in-Ok.ensures.front h) c.header_at.ensures.exact ∙ c.in-Err-header_at.is

pub returns-in-Ok-header_at-clause-exact : goal.returns-in-Ok-header_at-clause-exact
returns-in-Ok-header_at-clause-exact g c = λ h.
    let is = told (g.D.Device.medium.image c.args.device.now) (take c.in-Ok.n c.fill.new.into) c.len.result
    c.min-end.result c.header_at.result c.len.ensures.length c.min-end.ensures (c.in-Ok.ensures.front h) c.header_at.ensures.exact
    ∙ c.in-Ok-header_at.is in
    let P : Result ℕ ℕ → Type 0 = λ r. IsOkAnd r (λ n. n ≡ c.in-Ok-header_at.area) in
    subst P (sym is) refl
