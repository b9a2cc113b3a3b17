use Rattle.std.proofs.Common.{◌≡◌, Ok, List, ℕ, subst, sym}
use Rattle.geos_image.specs.Parts.{Parts}
use Rattle.geos_image.specs.Reading.{image_at}
use Rattle.geos_texts.proofs.grants.keep_to_grants.Goals as goal

pub returns-clause-denied : goal.returns-clause-denied
returns-clause-denied c =
    let bytes = c.args.routines.now.image.items in
    let checked = c.in-Ok-check.checked in
    let P : List ℕ → Type 0 = λ b. image_at b ≡ Ok c.in-Ok.image in
    let read : image_at bytes ≡ Ok c.in-Ok.image = subst P c.deref.ensures.value c.in-Ok.ensures.exact in
    let Q : Parts → Type 0 = λ x. image_at bytes ≡ Ok x in
    let reads : image_at bytes ≡ Ok checked = subst Q (sym c.in-Ok-check.ensures.checked) read in
    c.denied.ensures bytes c.args.grants.now
    (checked, reads, c.image.ensures.checked, (c.in-Err-grant.excess, c.in-Err-grant.ensures.excess))
