-- Texts with other budgets.
use Rattle.std.specs.Prelude.{◌≡◌, ◌⊎◌, ◌&&◌, ◌||◌, ◌==◌, ℕ, Bool, true, false, if◌then◌else◌, decimal, codes, bytes_eq, is_ok, slice_get, length, ◌-◌, Option, Some, None, List, [], ◌∷◌, ◌++◌}
use Rattle.geos_image.specs.Parts.{Parts}
use Rattle.geos_text.specs.Numbers.{number_up_to}
use Rattle.geos_text.specs.Words.{is_blank, words}
use Rattle.geos_asm.specs.Assembling.{IsAssembled, IsWhyNoImage}
use Rattle.geos_asm.specs.Calls.{CallBefore, CallsOnIn}
use Rattle.geos_asm.specs.Unset.{NoneUnset, TakesUnsetOn}
use Rattle.geos_asm.specs.declared.error.BudgetError.{BudgetError}
use Rattle.geos_asm.specs.declared.error.BudgetError.TheVariants.{Assemble, CallsOn, NotSet}

-- puts a byte at the start of the first line; without lines, the byte is a line
abbrev pub in_front : ℕ → List (List ℕ) → List (List ℕ)
in_front byte [] = (byte ∷ []) ∷ []
in_front byte (line ∷ lines) = (byte ∷ line) ∷ lines

-- the lines of a text with their ends: each but the last ends with its LF
abbrev pub whole_lines : List ℕ → List (List ℕ)
whole_lines [] = []
whole_lines (byte ∷ bytes) = if byte == 10 then (byte ∷ []) ∷ whole_lines bytes else in_front byte (whole_lines bytes)

-- a number that a budget may be, or a `?`
abbrev pub is_budget : List ℕ → Bool
is_budget word = bytes_eq word (codes "?") || is_ok (number_up_to 4294967295 word)

-- the words of a routine's line up to its budget
abbrev pub is_header : List (List ℕ) → Bool
is_header (first ∷ name ∷ last ∷ []) = bytes_eq first (codes "routine") && bytes_eq last (codes "budget")
is_header (first ∷ name ∷ public ∷ last ∷ []) = bytes_eq first (codes "routine") && bytes_eq public (codes "public") && bytes_eq last (codes "budget")
is_header words = false

-- a blank, if there is a byte
abbrev pub is_blank_there : Option ℕ → Bool
is_blank_there None = false
is_blank_there (Some byte) = is_blank byte

-- a word may begin after this: it ends with a blank
abbrev pub begins_word : List ℕ → Bool
begins_word front = is_blank_there (slice_get front (length front - 1))

-- a word ends there: the line ends, or a blank, a comment or the line's end follows
abbrev pub ends_word : List ℕ → Bool
ends_word [] = true
ends_word (byte ∷ bytes) = is_blank byte || byte == 59 || byte == 13 || byte == 10

-- a line in three parts: up to the budget, the budget, and the rest
pub record Header : Type 0 where
  pub front : List ℕ
  pub budget : List ℕ
  pub behind : List ℕ

-- the line begins a routine, and is cut round its budget, a whole word
pub record IsCutRound (line : List ℕ) (parts : Header) : Type 0 where
  pub whole : line ≡ parts.front ++ parts.budget ++ parts.behind
  pub header : is_header (words parts.front) ≡ true
  pub budget : is_budget parts.budget ≡ true
  pub begins : begins_word parts.front ≡ true
  pub ends : ends_word parts.behind ≡ true

-- the line with another budget
abbrev pub with_budget : Header → ℕ → List ℕ
with_budget header n = header.front ++ decimal n ++ header.behind

-- a line stays, or begins a routine and has another budget
abbrev pub IsLineAlike : List ℕ → List ℕ → Type 0
IsLineAlike old new = (new ≡ old) ⊎ ((header : Header) × (n : ℕ) × IsCutRound old header × (new ≡ with_budget header n))

-- the same for each of some lines
abbrev pub AreLinesAlike : List (List ℕ) → List ℕ → Type 0
AreLinesAlike [] new = new ≡ []
AreLinesAlike (line ∷ lines) new = (here : List ℕ) × (others : List ℕ) × IsLineAlike line here × AreLinesAlike lines others × (new ≡ here ++ others)

-- two texts differ only in the budgets of their routines
abbrev pub HasOtherBudgets : List ℕ → List ℕ → Type 0
HasOtherBudgets text new = AreLinesAlike (whole_lines text) new

-- the new text differs only in its budgets and has an image. Its calls lead to routines before their own, and its
-- LOOPs take from counters that are set.
abbrev pub IsBudgeted : List ℕ → List ℕ → Type 0
IsBudgeted text new = HasOtherBudgets text new × ((image : Parts) × IsAssembled new image × CallBefore image × NoneUnset image)

-- why a text has none, or a call in it that does not, or a LOOP
abbrev pub IsWhyNot : List ℕ → BudgetError → Type 0
IsWhyNot text (Assemble fault) = IsWhyNoImage text fault
IsWhyNot text (CallsOn line) = CallsOnIn text line
IsWhyNot text (NotSet k line) = TakesUnsetOn text k line

-- the same with some budgets
abbrev pub IsWhyNoBudgets : List ℕ → BudgetError → Type 0
IsWhyNoBudgets text fault = (new : List ℕ) × HasOtherBudgets text new × IsWhyNot new fault
