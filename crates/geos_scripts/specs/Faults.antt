-- What a reported fault in a line of a script means.
use Rattle.std.specs.Prelude.{◌≡◌, ◌≢◌, ◌<◌, ◌≤◌, ◌⊎◌, ℕ, ◌+◌, ◌==◌, Bool, true, false, ◌||◌, if◌then◌else◌, All, List, [], ◌∷◌, ◌++◌, length, Option, Some, None, Ok, Err, slice_get, bytes_eq, codes}
use Rattle.geos_image.specs.declared.routine.Routine.{Routine}
use Rattle.geos_image.specs.Parts.{Parts}
use Rattle.geos_text.specs.Numbers.{number_up_to}
use Rattle.geos_text.specs.declared.numbers.NumberError.TheVariants.{Malformed, TooLarge}
use Rattle.script_commands.specs.CallWords.{borrowed}
use Rattle.script_commands.specs.Lines.{before_blocks, from_blocks, handle_of, names_block, routine_named}
use Rattle.script_commands.specs.Names.{is_arrow, is_name}
use Rattle.geos_scripts.specs.declared.names.NameUse.{NameUse}
use Rattle.geos_scripts.specs.declared.names.NameUse.TheVariants.{Allowed, Refused}
use Rattle.geos_scripts.specs.declared.fault.Fault.{Fault}
use Rattle.geos_scripts.specs.declared.fault.Fault.TheVariants.{NoCommand, Behind, NoName, NoRoutine, NotPublic, Ninth, NoNumber, TooHigh, PastBound, NumberBehind, NoHandle, HighHandle, Lent, NotAllowed, NotKept, ArrowAlone, NothingKept, BadName, SecondName, NameTooMany}

-- a word is a command without arguments
abbrev pub stands_alone : List ℕ → Bool
stands_alone word = bytes_eq word (codes "update") || (bytes_eq word (codes "save") || bytes_eq word (codes "revert"))

-- a word is a command
abbrev pub is_command : List ℕ → Bool
is_command word = bytes_eq word (codes "call") || stands_alone word

-- a word names a value: it begins with `$`
abbrev pub begins_as_name : List ℕ → Bool
begins_as_name [] = false
begins_as_name (b ∷ name) = b == 36

-- a word is a name instead of a number or a handle, or it is `->`
abbrev pub IsNamed : List ℕ → Type 0
IsNamed word = (is_arrow word ≡ true) ⊎ ((begins_as_name word ≡ true) ⊎ ((name : List ℕ) × (word ≡ 64 ∷ name) × (begins_as_name name ≡ true)))

-- the image has a routine of the name, which is not public
pub record IsPrivate (image : Parts) (name : List ℕ) : Type 0 where
  pub r : ℕ
  pub routine : Routine
  pub named : routine_named image name ≡ Some r
  pub there : slice_get image.routines r ≡ Some routine
  pub hidden : routine.public ≡ false

-- a word's number is above this bound, which a routine of the image has for the argument of this index
pub record IsPast (image : Parts) (word : List ℕ) (bound index : ℕ) : Type 0 where
  pub r : ℕ
  pub routine : Routine
  pub there : slice_get image.routines r ≡ Some routine
  pub bounded : slice_get routine.entry.bounds index ≡ Some bound
  pub number : ℕ
  pub value : number_up_to 65535 word ≡ Ok number
  pub above : bound < number

-- the fault that is reported for a word is true, wherever the
-- word is in the line; faults of whole lines are not covered
abbrev pub IsSoOfWord : Parts → Fault → Type 0
IsSoOfWord image (NoCommand word) = is_command word.bytes.now ≡ false
IsSoOfWord image (NoRoutine word) = routine_named image word.bytes.now ≡ None
IsSoOfWord image (NotPublic word) = IsPrivate image word.bytes.now
IsSoOfWord image (NoNumber word) = number_up_to 65535 word.bytes.now ≡ Err Malformed
IsSoOfWord image (TooHigh word) = number_up_to 65535 word.bytes.now ≡ Err TooLarge
IsSoOfWord image (PastBound word bound index) = IsPast image word.bytes.now bound index
IsSoOfWord image (NumberBehind word) = names_block word.bytes.now ≡ false
IsSoOfWord image (NoHandle word) = handle_of word.bytes.now ≡ None
IsSoOfWord image (HighHandle word) = handle_of word.bytes.now ≡ None
IsSoOfWord image (NotAllowed word) = IsNamed word.bytes.now
IsSoOfWord image (NotKept word) = IsNamed word.bytes.now
IsSoOfWord image (ArrowAlone word) = is_arrow word.bytes.now ≡ true
IsSoOfWord image (NothingKept word) = is_arrow word.bytes.now ≡ true
IsSoOfWord image (BadName word) = is_name word.bytes.now ≡ false
IsSoOfWord image (NameTooMany word) = is_name word.bytes.now ≡ true
IsSoOfWord image _ = ⊥

-- The words of a line

-- the words before `->`, or all words if there is none
abbrev pub before_arrow : List (List ℕ) → List (List ℕ)
before_arrow [] = []
before_arrow (w ∷ ws) = if is_arrow w then [] else w ∷ before_arrow ws

-- the words of a line's command: those before `->` if names are allowed, otherwise all words
abbrev pub command_words : NameUse → List (List ℕ) → List (List ℕ)
command_words Allowed ws = before_arrow ws
command_words Refused ws = ws

-- a command is one word, followed by another
abbrev pub StandsBehind : List (List ℕ) → List ℕ → List ℕ → Type 0
StandsBehind ws first second = (others : List (List ℕ)) × (ws ≡ first ∷ second ∷ others)

-- a word follows eight numbers and is no block
pub record IsNinth (numbers : List (List ℕ)) (word : List ℕ) : Type 0 where
  pub eight : List (List ℕ)
  pub others : List (List ℕ)
  pub in_order : numbers ≡ eight ++ word ∷ others
  pub so_many : length eight ≡ 8
  pub no_blocks : All (λ w. names_block w ≡ false) eight
  pub no_block : names_block word ≡ false

-- the call passes so many blocks after the numbers, but the routine of this name borrows another number of blocks
pub record LendsOthers (image : Parts) (name : List ℕ) (numbers : List (List ℕ)) (given wanted : ℕ) : Type 0 where
  pub lends : given ≡ length (from_blocks numbers)
  pub borrows : wanted ≡ borrowed image name
  pub differ : given ≢ wanted

-- a word follows `->` and a name
pub record IsSecond (ws : List (List ℕ)) (word : List ℕ) : Type 0 where
  pub command : List (List ℕ)
  pub arrow : List ℕ
  pub name : List ℕ
  pub others : List (List ℕ)
  pub in_order : ws ≡ command ++ arrow ∷ name ∷ word ∷ others
  pub is_arrow : is_arrow arrow ≡ true

-- the fault that is reported for a line of these words is true
abbrev pub IsSo : NameUse → Parts → List (List ℕ) → Fault → Type 0
IsSo uses image ws (Behind word) = (first : List ℕ) × (stands_alone first ≡ true) × StandsBehind (command_words uses ws) first word.bytes.now
IsSo uses image ws NoName = command_words uses ws ≡ codes "call" ∷ []
IsSo uses image ws (Ninth word) = (name : List ℕ) × (numbers : List (List ℕ)) × (command_words uses ws ≡ codes "call" ∷ name ∷ numbers)
    × IsNinth numbers word.bytes.now
IsSo uses image ws (Lent given wanted) = (name : List ℕ) × (numbers : List (List ℕ)) × (command_words uses ws ≡ codes "call" ∷ name ∷ numbers)
    × LendsOthers image name numbers given wanted
IsSo uses image ws (SecondName word) = IsSecond ws word.bytes.now
IsSo uses image ws fault = IsSoOfWord image fault

-- Lines with which nothing is wrong

-- a word is a number within the bound that a routine has for the argument of this index
abbrev pub IsWithin : Routine → ℕ → List ℕ → Type 0
IsWithin routine index word =
    (bound : ℕ) × (number : ℕ) × (slice_get routine.entry.bounds index ≡ Some bound) × (number_up_to 65535 word ≡ Ok number) × (number ≤ bound)

-- the same, or a name if names are allowed
abbrev pub FitsNumber : NameUse → Routine → ℕ → List ℕ → Type 0
FitsNumber uses routine index word = ((uses ≡ Allowed) × IsNamed word) ⊎ IsWithin routine index word

-- each word fits as a number, counted from an index on
abbrev pub FitNumbers : NameUse → Routine → ℕ → List (List ℕ) → Type 0
FitNumbers uses routine index [] = Unit {0}
FitNumbers uses routine index (word ∷ ws) = FitsNumber uses routine index word × FitNumbers uses routine (index + 1) ws

-- a word is `@` and a handle, or `@` and a name if names are allowed
abbrev pub IsLent : NameUse → List ℕ → Type 0
IsLent uses word =
    (handle : List ℕ) × (word ≡ 64 ∷ handle)
    × (((uses ≡ Allowed) × (begins_as_name handle ≡ true)) ⊎ ((h : ℕ) × (number_up_to 65535 handle ≡ Ok h)))

-- a public routine has the name; at most eight numbers follow it, and each fits; then come as many blocks as it borrows
pub record FitsCall (uses : NameUse) (image : Parts) (name : List ℕ) (numbers : List (List ℕ)) : Type 0 where
  pub r : ℕ
  pub routine : Routine
  pub named : routine_named image name ≡ Some r
  pub there : slice_get image.routines r ≡ Some routine
  pub public : routine.public ≡ true
  pub few : length (before_blocks numbers) ≤ 8
  pub fit : FitNumbers uses routine 0 (before_blocks numbers)
  pub lent : All (IsLent uses) (from_blocks numbers)
  pub as_borrowed : length (from_blocks numbers) ≡ borrowed image name

-- words are a command: no word at all, one command without arguments, or a call
abbrev pub FitCommand : NameUse → Parts → List (List ℕ) → Type 0
FitCommand uses image ws =
    (ws ≡ [])
    ⊎ ((word : List ℕ) × (ws ≡ word ∷ []) × (stands_alone word ≡ true))
    ⊎ ((name : List ℕ) × (numbers : List (List ℕ)) × (ws ≡ codes "call" ∷ name ∷ numbers) × FitsCall uses image name numbers)

-- none of these words is `->`, or the words are a call, then `->`, then exactly one name
abbrev pub FitArrow : List (List ℕ) → Type 0
FitArrow ws =
    All (λ w. is_arrow w ≡ false) ws
    ⊎ ((command : List (List ℕ)) × (arrow name : List ℕ) × (ws ≡ command ++ arrow ∷ name ∷ []) × (is_arrow arrow ≡ true) × (is_name name ≡ true)
    × ((others : List (List ℕ)) × (ws ≡ codes "call" ∷ others)))

-- the same if names are allowed; otherwise `->` is a word like any other
abbrev pub FitsKeeping : NameUse → List (List ℕ) → Type 0
FitsKeeping Allowed ws = FitArrow ws
FitsKeeping Refused ws = Unit {0}

-- a line of these words has no fault
pub record IsSound (uses : NameUse) (image : Parts) (ws : List (List ℕ)) : Type 0 where
  pub command : FitCommand uses image (command_words uses ws)
  pub keeping : FitsKeeping uses ws

-- the result for a line is true: the line has this fault, or no fault
abbrev pub IsFound : NameUse → Parts → List (List ℕ) → Option Fault → Type 0
IsFound uses image ws None = IsSound uses image ws
IsFound uses image ws (Some fault) = IsSo uses image ws fault
