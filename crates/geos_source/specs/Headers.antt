-- The line that begins a routine.
use Rattle.std.specs.Prelude.{ℕ, Bool, true, false, if◌then◌else◌, List, [], ◌∷◌, codes, bytes_eq, Option, Some, None, Result, Ok, Err}
use Rattle.geos_image.specs.declared.routine.Routine.{Routine}
use Rattle.geos_image.specs.Open.{open_row}
use Rattle.geos_source.specs.declared.fault.Why.{Why}
use Rattle.geos_source.specs.declared.fault.Why.TheVariants.{WrongOperands}
use Rattle.geos_source.specs.Names.{name_of}
use Rattle.geos_source.specs.Operands.{numbered}

-- a routine that has no instructions so far, with open rows
abbrev pub with_budget : List ℕ → Bool → Result ℕ Why → Result Routine Why
with_budget name public (Ok budget) = Ok (record { name = name; public = public; count = 0; budget = budget; entry = open_row; exit = open_row })
with_budget name public (Err why) = Err why

-- a routine with this name, if the word is one
abbrev pub named : Option (List ℕ) → Bool → List ℕ → Result Routine Why
named None public number = Err WrongOperands
named (Some name) public number = with_budget name public (numbered 4294967295 number)

-- `budget N`, and nothing after it
abbrev pub budgeted : Option (List ℕ) → Bool → List (List ℕ) → Result Routine Why
budgeted name public (word ∷ number ∷ []) = if bytes_eq word (codes "budget") then named name public number else Err WrongOperands
budgeted name public _ = Err WrongOperands

-- `public` or not, then the budget
abbrev pub published : Option (List ℕ) → List (List ℕ) → Result Routine Why
published name [] = Err WrongOperands
published name (word ∷ words) = if bytes_eq word (codes "public") then budgeted name true words else budgeted name false (word ∷ words)

-- the words after `routine`: a name, perhaps `public`, then `budget` and a number
unfoldable pub header : List (List ℕ) → Result Routine Why
header [] = Err WrongOperands
header (word ∷ words) = published (name_of word) words
