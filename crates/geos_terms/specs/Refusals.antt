-- The refusals of calls, in order, and their numbers.
use Rattle.std.specs.Prelude.{ℕ, Bool, List, [], ◌∷◌, Option, Some, None, if◌then◌else◌}
use Rattle.geos_terms.specs.declared.refusal.Refusal.{Refusal}
use Rattle.geos_terms.specs.declared.refusal.Refusal.TheVariants.{BadHandle, BadChunk, Short, NoRoom, NoHandle, TooBig, Locked, BadArray, BadElement, Full, Disk, Unsure, Memory, Range, Reserved}

-- the number that a routine sees
abbrev pub refusal_number : Refusal → ℕ
refusal_number BadHandle = 1
refusal_number BadChunk = 2
refusal_number Short = 3
refusal_number NoRoom = 4
refusal_number NoHandle = 5
refusal_number TooBig = 6
refusal_number Locked = 7
refusal_number BadArray = 8
refusal_number BadElement = 9
refusal_number Full = 10
refusal_number Disk = 11
refusal_number Unsure = 12
refusal_number Memory = 13
refusal_number Range = 14
refusal_number Reserved = 15

-- the refusal of the first test in the list that is true, if there is one
abbrev pub first_refusal : {R : Type 0} → List (Bool × R) → Option R
first_refusal [] = None
first_refusal (test ∷ tests) = if test.0 then Some test.1 else first_refusal tests
