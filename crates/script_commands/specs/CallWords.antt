-- The call that words name, and why words name none.
use Rattle.std.specs.Prelude.{◌≡◌, ◌<◌, ◌≤◌, ℕ, Bool, true, false, not, List, length, take, None, option_map, option_and_then, unwrap_or}
use Rattle.std.specs.List.{count_by}
use Rattle.geos_image.specs.Parts.{Parts}
use Rattle.geos_image.specs.Legal.{is_own}
use Rattle.geos_verify.specs.Entry.{admits, entry_slots}
use Rattle.script_commands.specs.declared.call_fault.CallFault.{CallFault}
use Rattle.script_commands.specs.declared.call_fault.CallFault.TheVariants.{BadBlocks, BadWord, Script}
use Rattle.script_commands.specs.Lines.{before_blocks, call_named, registers_of, routine_named}

-- a public routine has the name, and may be called on the numbers
abbrev pub takes : Parts → List ℕ → List (List ℕ) → Bool
takes image name numbers = unwrap_or (option_and_then (λ r. option_map (admits image r) (registers_of numbers)) (routine_named image name)) false

-- how many blocks the routine of the name borrows
abbrev pub borrowed : Parts → List ℕ → ℕ
borrowed image name = unwrap_or (option_map (λ r. count_by (λ state. not (is_own state)) (entry_slots image r)) (routine_named image name)) 0

-- the first wrong word of a call: 0 is the name, any other index a number, counted from 1.
-- No routine accepts the numbers up to this word, and one accepts the numbers before it.
pub record IsFirstWrong (image : Parts) (name : List ℕ) (numbers : List (List ℕ)) (at : ℕ) : Type 0 where
  pub there : at ≤ length numbers
  pub wrong : takes image name (take at numbers) ≡ false
  pub good : (k : ℕ) → k < at → takes image name (take k numbers) ≡ true

-- why words are no call: the first wrong word before the blocks; or no such word is
-- wrong, and the routine borrows n blocks, which do not match the blocks in the line
abbrev pub IsWhyNoCall : Parts → List ℕ → List (List ℕ) → CallFault → Type 0
IsWhyNoCall image name words (BadWord at) = IsFirstWrong image name (before_blocks words) at
IsWhyNoCall image name words (BadBlocks n) = (takes image name (before_blocks words) ≡ true) × (call_named image name words ≡ None)
    × (n ≡ borrowed image name)
IsWhyNoCall image name words (Script fault) = ⊥
