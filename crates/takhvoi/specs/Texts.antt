-- The results of calls on texts and images.
use Rattle.std.specs.Prelude.{◌≡◌, ◌==◌, ◌<◌, ◌≤◌, ◌+◌, ◌-◌, ◌⊎◌, ℕ, true, List, length, take, Ok, Err, Some, slice_get, slice_index_or}
use Rattle.std.specs.List.{count_by}
use Rattle.lmem_raw.specs.Bytes.{with_part}
use Rattle.geos_image.specs.Parts.{Parts}
use Rattle.geos_image.specs.Reading.{image_at}
use Rattle.geos_listing.specs.Listing.{listing}
use Rattle.geos_source.specs.declared.fault.BadLine as fault
use Rattle.geos_source.specs.InstrLines.{instr_lines}
use Rattle.geos_source.specs.Texts.{code_of}
use Rattle.geos_verify.specs.declared.rule.Reject.{Reject}
use Rattle.geos_verify.specs.Rules.{FirstRefusal, IsChecked}
use Rattle.geos_asm.specs.Assembling.{HasNoRows, IsAssembled, IsWhyNoImage}
use Rattle.geos_asm.specs.declared.error.AssembleError.TheVariants.{BadLine}

-- the bytes were written at the beginning of a buffer with room for them, the rest of it is as before, and their number is reported
pub record IsPutInto (bytes : List ℕ) (told : ℕ) (old new : List ℕ) : Type 0 where
  pub fits : length bytes ≤ length old
  pub written : new ≡ with_part old 0 bytes
  pub count : told ≡ length bytes

-- bytes with this property were written like this
abbrev pub Gives : (List ℕ → Type 0) → ℕ → List ℕ → List ℕ → Type 0
Gives fits told old new = (bytes : List ℕ) × fits bytes × IsPutInto bytes told old new

-- bytes with this property are so many, and there is room for fewer
abbrev pub IsLonger : (List ℕ → Type 0) → ℕ → ℕ → Type 0
IsLonger fits told room = (bytes : List ℕ) × fits bytes × (told ≡ length bytes) × (room < length bytes)

-- 0, 111, 112 or 115
abbrev pub GivesOrTells : ℕ → Type 0
GivesOrTells status = (status ≡ 0) ⊎ ((status ≡ 111) ⊎ ((status ≡ 112) ⊎ (status ≡ 115)))

-- the bytes encode an image of the text, with rows at its key places
abbrev pub IsImageOf : List ℕ → List ℕ → Type 0
IsImageOf text bytes = (image : Parts) × (image_at bytes ≡ Ok image) × IsAssembled text image × (image.keyed ≡ true)

-- the text's first fault is in this line
abbrev pub HasFaultAt : List ℕ → ℕ → Type 0
HasFaultAt text line = (bad : fault.BadLine) × IsWhyNoImage text (BadLine bad) × (line ≡ bad.line)

-- the bytes encode an image, and the text is its listing
abbrev pub IsListedAs : List ℕ → List ℕ → Type 0
IsListedAs bytes text = (image : Parts) × (image_at bytes ≡ Ok image) × (text ≡ listing image)

-- the text ends with a line feed
abbrev pub EndsLine : List ℕ → Type 0
EndsLine text = slice_get text (length text - 1) ≡ Some 10

-- the bytes encode an image, and the text is of whole lines, one at least
abbrev pub IsExplained : List ℕ → List ℕ → Type 0
IsExplained bytes text = (image : Parts) × (image_at bytes ≡ Ok image) × EndsLine text

-- the verifier accepts an image of the text
abbrev pub IsAccepted : List ℕ → Type 0
IsAccepted text = (image : Parts) × IsAssembled text image × IsChecked image

-- the verifier refuses an image of the text, and the first instruction that it refuses is in this line
abbrev pub IsRefusedAt : List ℕ → ℕ → Type 0
IsRefusedAt text line = (image : Parts) × (reject : Reject) × IsAssembled text image × FirstRefusal image reject
    × (line ≡ slice_index_or (instr_lines text) reject.pc 0)

-- the bytes encode an image that the verifier accepts
abbrev pub IsAcceptedImage : List ℕ → Type 0
IsAcceptedImage bytes = (image : Parts) × (image_at bytes ≡ Ok image) × IsChecked image

-- the text has a line with this number
abbrev pub HasLine : List ℕ → ℕ → Type 0
HasLine text line = (at : ℕ) × (line ≡ count_by (λ byte. byte == 10) (take at text) + 1)

-- the line is that of the text's first fault, or of a routine for which no rows are found, or of the first instruction that is refused;
-- and 0 if there is none of these
abbrev pub IsJudged : List ℕ → ℕ → Type 0
IsJudged text line =
    ((line ≡ 0) × IsAccepted text) ⊎ (HasFaultAt text line ⊎ (HasNoRows text line ⊎ IsRefusedAt text line))

-- the explanation is of whole lines, one at least, and the line is that of the text's first fault or refusal
abbrev pub IsExplainedText : List ℕ → ℕ → List ℕ → Type 0
IsExplainedText text line explanation = EndsLine explanation × IsJudged text line

-- the first fault of a text without code is in this line
abbrev pub FailsAt : List ℕ → ℕ → Type 0
FailsAt text line = (bad : fault.BadLine) × (code_of text ≡ Err bad) × (line ≡ bad.line)
