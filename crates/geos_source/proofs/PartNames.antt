-- The part of a text in which a line is, under names that proofs of other crates have.
use Rattle.std.proofs.Common.{◌≡◌, ℕ, Bool, None, refl}
use Rattle.geos_source.specs.declared.progress.Part.{Part}
use Rattle.geos_source.specs.declared.progress.Part.TheVariants.{Outside, Head, Body}
use Rattle.geos_source.specs.Texts.{outside, in_body}

-- the part of a text in which a line is
abbrev pub TextPart : Type 0
TextPart = Part

-- after the first line of a routine, and its rows
abbrev pub head : ℕ → Bool → Bool → TextPart
head line has_in has_out = Head line has_in has_out

-- after an instruction
abbrev pub body : TextPart
body = Body

-- an instruction in a routine is followed by the body of the routine
pub in_body-is : (part : TextPart) → outside part ≡ None → in_body part ≡ body
in_body-is Outside e = absurd cc
in_body-is (Head line has_in has_out) e = refl
in_body-is Body e = refl
