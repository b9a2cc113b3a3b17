-- What the commands on the bytes of texts and images return.
use Rattle.std.specs.Prelude.{◌≡◌, ℕ, Bool, true, false, not, MatchBool, ◌==◌, List, Ok, Option, codes}
use Rattle.std.specs.List.{starts_with}
use Rattle.geos_image.specs.declared.instr.Instr.{Instr}
use Rattle.geos_image.specs.Parts.{Parts}
use Rattle.geos_image.specs.Legal.{is_formed}
use Rattle.geos_image.specs.Reading.{image_at}
use Rattle.geos_verify.specs.declared.rule.Reject.{Reject}
use Rattle.geos_listing.specs.Listing.{listing}
use Rattle.geos_explain.specs.Explanation.{IsVerdict}
use Rattle.geos_flow.specs.declared.cause.Cause.{Cause}
use Rattle.geos_source.specs.Coded.{IsTextOf}
use Rattle.geos_asm.specs.Assembling.{IsAssembled, IsCauseIn, IsWhyNoImage}
use Rattle.geos_asm.specs.declared.error.AssembleError.{AssembleError}
use Rattle.geos_asm.specs.declared.error.AssembleError.TheVariants.{BadLine, NoRows, Memory}

-- the bytes encode an image of the text, with all rows or with those at its key places
abbrev pub IsAssembledAs : List ℕ → Bool → List ℕ → Type 0
IsAssembledAs text all_rows bytes = (image : Parts) × (image_at bytes ≡ Ok image) × IsAssembled text image × (image.keyed ≡ not all_rows)

-- with all rows the text's code is well-formed in an image in which slots may be borrowed, and in no image in which
-- they may not
abbrev pub TakesVersion2 : List ℕ → Type 0
TakesVersion2 text = (whole : Parts) × IsAssembled text whole × (whole.keyed ≡ false) × (is_formed true whole ≡ true) × (is_formed false whole ≡ false)

-- the bytes encode an image, whose listing is the text, and the text has the image's code
abbrev pub IsListed : List ℕ → List ℕ → Type 0
IsListed bytes text = (image : Parts) × (image_at bytes ≡ Ok image) × (text ≡ listing image) × IsTextOf image text

-- the text has an image, and the refusal is its first, or there is none
abbrev pub IsJudgedText : List ℕ → Option Reject → Type 0
IsJudgedText text reject = (image : Parts) × IsAssembled text image × IsVerdict image reject

-- the fault is the first one of the text; or a routine of it has no rows, and there is a cause
abbrev pub IsFaultTold : List ℕ → AssembleError → Type 0
IsFaultTold text (BadLine fault) = IsWhyNoImage text (BadLine fault)
IsFaultTold text (NoRows line) =
    IsWhyNoImage text (NoRows line) × ((cause : Cause) × (instrs : List Instr) × IsCauseIn text line cause instrs)
IsFaultTold text Memory = ⊥

-- the bytes begin as an image does
abbrev pub begins_as_image : List ℕ → Bool
begins_as_image bytes = starts_with (λ a b. a == b) bytes (codes "GRT1")

-- if the input begins as an image does, the bytes are the input; otherwise they encode an image of the input as a
-- text
abbrev pub IsImageOf : List ℕ → List ℕ → Type 0
IsImageOf read bytes = MatchBool (begins_as_image read) (bytes ≡ read) (IsAssembledAs read false bytes)

-- why there is no image: what is read is a text, and has none
abbrev pub IsWhyNoneOf : List ℕ → AssembleError → Type 0
IsWhyNoneOf read fault = (begins_as_image read ≡ false) × IsWhyNoImage read fault

-- the bytes encode an image, and the refusal is its first, or there is none
abbrev pub IsJudged : List ℕ → Option Reject → Type 0
IsJudged bytes reject = (image : Parts) × (image_at bytes ≡ Ok image) × IsVerdict image reject
