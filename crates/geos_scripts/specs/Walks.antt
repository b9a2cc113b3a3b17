-- What is true of the words of a call up to the word that was checked last.
use Rattle.std.specs.Prelude.{◌≡◌, ◌≤◌, ◌<◌, ◌⊎◌, ℕ, Bool, true, false, bytes_eq, codes, All, List, [], ◌∷◌, ◌++◌, length, Option, Some, None, slice_get}
use Rattle.geos_image.specs.declared.routine.Routine.{Routine}
use Rattle.geos_image.specs.Parts.{Parts}
use Rattle.geos_lines.specs.declared.words.Word.{Word}
use Rattle.script_commands.specs.Names.{is_arrow, is_name}
use Rattle.script_commands.specs.Lines.{names_block}
use Rattle.geos_scripts.specs.declared.names.NameUse.{NameUse}
use Rattle.geos_scripts.specs.declared.calls.Passed.{Passed}
use Rattle.geos_scripts.specs.declared.fault.Fault.{Fault}
use Rattle.geos_scripts.specs.declared.fault.Fault.TheVariants.{NoName, Ninth, Lent, SecondName}
use Rattle.geos_scripts.specs.Faults.{FitCommand, FitNumbers, FitsCall, FitsKeeping, FitsNumber, IsLent, IsNinth, IsSo, IsSoOfWord, LendsOthers, command_words}

-- the result for a number at an index: the number fits, and it is one of the first eight; or this fault
abbrev pub IsFoundOfNumber : NameUse → Parts → ℕ → ℕ → Word → Option Fault → Type 0
IsFoundOfNumber uses image r index word None =
    (index < 8) × ((routine : Routine) → slice_get image.routines r ≡ Some routine → FitsNumber uses routine index word.bytes.now)
IsFoundOfNumber uses image r index word (Some fault) = IsSoOfWord image fault ⊎ ((fault ≡ Ninth word) × (8 ≤ index))

-- the result for a block that is passed
abbrev pub IsFoundOfBlock : NameUse → Word → Option Fault → Type 0
IsFoundOfBlock uses word None = IsLent uses word.bytes.now
IsFoundOfBlock uses word (Some fault) = (image : Parts) → IsSoOfWord image fault

-- the words of a call are so many numbers that fit, then so many blocks, then the words that are left
pub record IsWalked (uses : NameUse) (routine : Routine) (all left : List (List ℕ)) (passed : Passed) : Type 0 where
  pub numbers : List (List ℕ)
  pub blocks : List (List ℕ)
  pub in_order : all ≡ numbers ++ (blocks ++ left)
  pub so_many : length numbers ≡ passed.numbers
  pub so_many_blocks : length blocks ≡ passed.blocks
  pub few : passed.numbers ≤ 8
  pub no_blocks : All (λ w. names_block w ≡ false) numbers
  pub fit : FitNumbers uses routine 0 numbers
  pub lent : All (IsLent uses) blocks

-- the fault that is reported for a word of a call is true
abbrev pub IsSoOfCall : Parts → List (List ℕ) → Fault → Type 0
IsSoOfCall image all fault = IsSoOfWord image fault ⊎ ((word : Word) × (fault ≡ Ninth word) × IsNinth all word.bytes.now)

-- the result for the words after the name of a routine
abbrev pub IsFoundOfCall : NameUse → Parts → List ℕ → List (List ℕ) → Option Fault → Type 0
IsFoundOfCall uses image name all None = FitsCall uses image name all
IsFoundOfCall uses image name all (Some fault) =
    IsSoOfCall image all fault ⊎ ((given : ℕ) × (wanted : ℕ) × (fault ≡ Lent given wanted) × LendsOthers image name all given wanted)

-- the result for the words after `call`
abbrev pub IsFoundBehindCall : NameUse → Parts → List (List ℕ) → Option Fault → Type 0
IsFoundBehindCall uses image ws None = (name : List ℕ) × (numbers : List (List ℕ)) × (ws ≡ name ∷ numbers) × FitsCall uses image name numbers
IsFoundBehindCall uses image ws (Some fault) =
    ((fault ≡ NoName) × (ws ≡ []))
    ⊎ IsSoOfWord image fault
    ⊎ ((name : List ℕ) × (numbers : List (List ℕ)) × (ws ≡ name ∷ numbers) × IsFoundOfCall uses image name numbers (Some fault))

-- what is found of a line's command
abbrev pub IsFoundOfCommand : NameUse → Parts → List (List ℕ) → Option Fault → Type 0
IsFoundOfCommand uses image ws None = FitCommand uses image (command_words uses ws)
IsFoundOfCommand uses image ws (Some fault) = IsSo uses image ws fault

-- what is found of a line that may keep a word
abbrev pub IsFoundOfKeeping : NameUse → Parts → List (List ℕ) → Option Fault → Type 0
IsFoundOfKeeping uses image ws None = FitsKeeping uses ws
IsFoundOfKeeping uses image ws (Some fault) = IsSo uses image ws fault

-- `->` is among the words, followed by these words
abbrev pub HasArrow : List (List ℕ) → List ℕ → List (List ℕ) → Type 0
HasArrow ws arrow behind = (is_arrow arrow ≡ true) × ((command : List (List ℕ)) × (ws ≡ command ++ arrow ∷ behind))

-- the first word is `call`
abbrev pub begins_as_call : List (List ℕ) → Bool
begins_as_call [] = false
begins_as_call (w ∷ ws) = bytes_eq w (codes "call")

-- the result for the words after `->`
abbrev pub IsFoundBehindArrow : Parts → List (List ℕ) → Option Fault → Type 0
IsFoundBehindArrow image behind None = (name : List ℕ) × (behind ≡ name ∷ []) × (is_name name ≡ true)
IsFoundBehindArrow image behind (Some fault) =
    IsSoOfWord image fault
    ⊎ ((word : Word) × (name : List ℕ) × (others : List (List ℕ)) × (fault ≡ SecondName word) × (behind ≡ name ∷ word.bytes.now ∷ others))
