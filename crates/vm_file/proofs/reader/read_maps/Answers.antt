use Rattle.std.proofs.Common.{◌≡◌, ◌∙◌, ℕ, List, Result, take, refl, ap, sym, subst, arith, length-take}
use Rattle.std.specs.Prelude.{IsOkAnd}
use Rattle.vm_file.specs.declared.directory.Entry.{Entry}
use Rattle.vm_file.specs.Reading.{maps_at}
use Rattle.vm_file.proofs.Lengths.{stretch}
use Rattle.vm_file.proofs.ReadLaws.{maps_ok}
use Rattle.vm_file.proofs.ReadSteps.{front_maps}
use Rattle.vm_file.proofs.reader.read_maps.Goals as goal

-- reading a stretch depends only on its first bytes
told : (es : List Entry) (at : ℕ) (xs front : List ℕ) (r : Result (ℕ × (ℕ × ℕ)) ℕ) → front ≡ take 6 xs
    → r ≡ maps_at es at front → maps_at es at xs ≡ r
told es at xs front r is tells = sym (front_maps es at xs) ∙ ap (maps_at es at) (sym is) ∙ sym tells

pub returns-in-Err-maps_at-clause-exact : goal.returns-in-Err-maps_at-clause-exact
returns-in-Err-maps_at-clause-exact g c = λ h.
    told c.args.entries.now c.args.at (stretch (g.D.Device.medium.image c.args.device.now) c.args.at c.args.end)
    (take c.in-Ok.n c.fill.new.into) c.maps_at.result (c.in-Ok.ensures.front h) c.maps_at.ensures ∙ c.in-Err-maps_at.is

pub returns-in-Ok-maps_at-clause-exact : goal.returns-in-Ok-maps_at-clause-exact
returns-in-Ok-maps_at-clause-exact g c = λ h.
    let s = stretch (g.D.Device.medium.image c.args.device.now) c.args.at c.args.end in
    let is = told c.args.entries.now c.args.at s (take c.in-Ok.n c.fill.new.into) c.maps_at.result (c.in-Ok.ensures.front h) c.maps_at.ensures
    ∙ c.in-Ok-maps_at.is in
    let P : Result (ℕ × (ℕ × ℕ)) ℕ → Type 0 = λ r. IsOkAnd r (λ m. m ≡ c.in-Ok-maps_at.found) in
    subst P (sym is) refl

pub returns-in-Ok-maps_at-clause-legal : goal.returns-in-Ok-maps_at-clause-legal
returns-in-Ok-maps_at-clause-legal g c =
    let k = maps_ok c.args.entries.now c.args.at (take c.in-Ok.n c.fill.new.into) c.in-Ok-maps_at.found
    (sym c.maps_at.ensures ∙ c.in-Ok-maps_at.is) in
    (omega (arith, k.0, length-take c.in-Ok.n c.fill.new.into, c.in-Ok.ensures.count), k.1)
