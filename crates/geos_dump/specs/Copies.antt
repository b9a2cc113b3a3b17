-- What a copy of a file has.
use Rattle.std.specs.Prelude.{◌≡◌, ◌<◌, ◌≤◌, ℕ, Result, Ok, Err}
use Rattle.vm_file.specs.Contents.{Pair}
use Rattle.geos_dump.specs.declared.copy_error.CopyError.{CopyError}
use Rattle.geos_dump.specs.declared.copy_error.CopyError.TheVariants.{Disk, Memory, TooBig}
use Rattle.geos_dump.specs.declared.sides.Side.{Side}
use Rattle.geos_dump.specs.Sides.{contents_on}

-- the pair of a copy, whose current directory is the one on this side
abbrev pub copied : Side → Pair → Pair
copied side p = record { cur = contents_on side p; saved = p.saved }

-- a copy is too big exactly if it takes more bytes than an area has; the error names how many it takes
abbrev pub AnswersFit : {X : Type 0} → Result X CopyError → ℕ → ℕ → Type 0
AnswersFit (Ok x) needed area = needed ≤ area
AnswersFit (Err (TooBig n)) needed area = (n ≡ needed) × (area < needed)
AnswersFit (Err Memory) needed area = needed ≤ area
AnswersFit (Err Disk) needed area = needed ≤ area
