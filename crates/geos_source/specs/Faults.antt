-- The faults of a text, and which of them is named.
use Rattle.std.specs.Prelude.{ℕ, Bool, ◌&&◌, ◌||◌, ◌==◌, nat_le, nat_lt, if◌then◌else◌, Option, Some, None}
use Rattle.geos_source.specs.declared.fault.Why.{Why}
use Rattle.geos_source.specs.declared.fault.Why.TheVariants.{UnknownWord, WrongOperands, OutOfRange, Undefined, UsedTwice, TooMany, OutOfPlace}
use Rattle.geos_source.specs.declared.fault.BadLine.{BadLine}

-- the number that names why a line is faulty
abbrev pub why_number : Why → ℕ
why_number UnknownWord = 1
why_number WrongOperands = 2
why_number OutOfRange = 3
why_number Undefined = 4
why_number UsedTwice = 5
why_number TooMany = 6
why_number OutOfPlace = 7

-- of two faults of a line, the one of the lower number
abbrev pub least : Option Why → Option Why → Option Why
least None other = other
least (Some why) None = Some why
least (Some why) (Some other) = if nat_le (why_number why) (why_number other) then Some why else Some other

-- the fault at a line
abbrev pub at_line : ℕ → Option Why → Option BadLine
at_line line None = None
at_line line (Some why) = Some (record { line = line; why = why })

-- one fault comes before another, or is the same: lines first, then numbers
abbrev pub precedes : BadLine → BadLine → Bool
precedes fault other = nat_lt fault.line other.line || (fault.line == other.line && nat_le (why_number fault.why) (why_number other.why))

-- of two faults of a text, the one that comes first
abbrev pub first : Option BadLine → Option BadLine → Option BadLine
first None other = other
first (Some fault) None = Some fault
first (Some fault) (Some other) = if precedes fault other then Some fault else Some other
