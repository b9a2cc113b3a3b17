-- What a parser answers.
use Rattle.std.specs.Prelude.{◌≡◌, ℕ, List, Err}
use Rattle.geos_source.specs.declared.parser.Parsed as answer
use Rattle.geos_source.specs.declared.parser.ParseError.{ParseError}
use Rattle.geos_source.specs.declared.parser.ParseError.TheVariants.{BadLine, Memory}
use Rattle.geos_source.specs.Texts.{Code, code_of}

-- the code that an answer has
abbrev pub code_in : answer.Parsed → Code
code_in parsed = record { routines = parsed.routines.items; instrs = parsed.instrs.items }

-- why a text is not parsed: its first fault, or lack of memory
abbrev pub IsWhyNot : List ℕ → ParseError → Type 0
IsWhyNot text (BadLine fault) = code_of text ≡ Err fault
IsWhyNot text Memory = Unit {0}
