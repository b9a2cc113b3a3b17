-- When the image that bytes encode keeps to limits.
use Rattle.std.proofs.Common.{◌≡◌, sym, ◌∙◌, subst, ℕ, List, Ok, Option, Some, None, slice_get}
use Rattle.geos_image.specs.declared.routine.Routine.{Routine}
use Rattle.geos_image.specs.Parts.{Parts, start_of}
use Rattle.geos_image.specs.Reading.{image_at}
use Rattle.geos_verify.specs.declared.rule.Reject.{Reject}
use Rattle.geos_verify.specs.Rules.{FirstRefusal, IsChecked, refusal}
use Rattle.geos_texts.specs.Budgets.{IsWithin, IsOver}
use Rattle.geos_grants.specs.declared.effects.Effects.{Effects}
use Rattle.geos_grants.specs.Grants.{IsGranted}
use Rattle.geos_texts.specs.Keeping.{KeepsToGrants, KeepsToSteps}

-- an image that a rule refuses does not run
never_runs : (image : Parts) (reject : Reject) → FirstRefusal image reject → IsChecked image → ⊥
never_runs image reject first checked =
    let none : refusal image first.r first.routine (start_of image.routines first.r) reject.pc first.place ≡ None =
    checked.1 first.r reject.pc first.routine first.place first.has
    in
    let both : None ≡ Some reject.rule = sym none ∙ first.refuses in cc

-- an accepted image that is granted keeps to the grants
pub keeps_granted : (bytes : List ℕ) (grants : Effects) (read : Parts) → image_at bytes ≡ Ok read → IsGranted read grants
    → KeepsToGrants bytes grants
keeps_granted bytes grants read reads granted image also checked =
    let both : Ok read ≡ Ok image = sym reads ∙ also in
    let same : read ≡ image = cc in
    let P : Parts → Type 0 = λ x. IsGranted x grants in subst P same granted

-- so does an image that does not run
pub keeps_refused : (bytes : List ℕ) (grants : Effects) (read : Parts) (reject : Reject) → image_at bytes ≡ Ok read
    → FirstRefusal read reject → KeepsToGrants bytes grants
keeps_refused bytes grants read reject reads first image also checked =
    let both : Ok image ≡ Ok read = sym also ∙ reads in
    let same : image ≡ read = cc in
    let P : Parts → Type 0 = λ x. IsChecked x in absurd (never_runs read reject first (subst P same checked))

-- an image whose budgets are within the limit keeps to it
pub keeps_within : (bytes : List ℕ) (called : Option (List ℕ)) (most : ℕ) (read : Parts) → image_at bytes ≡ Ok read → IsWithin read called most
    → KeepsToSteps bytes called most
keeps_within bytes called most read reads within image also =
    let both : Ok read ≡ Ok image = sym reads ∙ also in
    let same : read ≡ image = cc in
    let P : Parts → Type 0 = λ x. IsWithin x called most in subst P same within

-- a routine with too high a budget is the one that is found by its index
pub over_there : (image : Parts) (called : Option (List ℕ)) (most r : ℕ) (routine found : Routine)
    → slice_get image.routines r ≡ Some routine → IsOver image called most r found → IsOver image called most r routine
over_there image called most r routine found there over =
    let both : Some found ≡ Some routine = sym over.there ∙ there in
    let same : found ≡ routine = cc in
    let P : Routine → Type 0 = λ x. IsOver image called most r x in subst P same over
