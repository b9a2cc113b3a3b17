use Rattle.std.proofs.Common.{◌≡◌, Ok, List, ℕ, option_copied, subst}
use Rattle.geos_image.specs.Reading.{image_at}
use Rattle.geos_texts.proofs.Keeping.{over_there}
use Rattle.geos_texts.proofs.grants.keep_to_steps.Goals as goal

pub returns-clause-over : goal.returns-clause-over
returns-clause-over c =
    let bytes = c.args.routines.now.image.items in
    let called = option_copied c.args.called in
    let image = c.in-Ok.image in
    let P : List ℕ → Type 0 = λ b. image_at b ≡ Ok image in
    let reads : image_at bytes ≡ Ok image = subst P c.deref.ensures.value c.in-Ok.ensures.exact in
    let found = c.in-Some.ensures.over in
    let over = over_there image called c.args.most c.in-Some.r c.routine.result.now found.0 c.routine.ensures found.1 in
    c.over.ensures bytes called c.args.most (image, reads, (c.in-Some.r, over))
