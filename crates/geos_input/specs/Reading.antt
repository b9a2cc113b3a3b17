-- What is read of a stream.
use Rattle.std.specs.Prelude.{◌<◌, ℕ, List, length, Option}
use Rattle.std.specs.Io.KnownBytes.{Consumes, IsAtEnd}
use Rattle.geos_text.specs.Words.{most_bytes}
use Rattle.geos_input.specs.declared.fault.ScriptFault.{ScriptFault}
use Rattle.geos_input.specs.declared.fault.ScriptFault.TheVariants.{TooLong, Read, Memory}

-- a reader gave the bytes, and has no more, where that is known
abbrev pub Reads : Option (List ℕ) → Option (List ℕ) → List ℕ → Type 0
Reads before now bytes = Consumes before now bytes × IsAtEnd now

-- why a reader was not read to its end
abbrev pub EndsReading : Option (List ℕ) → Option (List ℕ) → ScriptFault → Type 0
EndsReading before now TooLong = (bytes : List ℕ) × Consumes before now bytes × (most_bytes < length bytes)
EndsReading before now Read = Unit {0}
EndsReading before now Memory = Unit {0}
EndsReading before now _ = ⊥
