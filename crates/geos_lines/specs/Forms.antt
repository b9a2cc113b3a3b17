-- Which words are operands of which kind.
use Rattle.std.specs.Prelude.{◌≡◌, ◌⊎◌, ℕ, Bool, true, false, MatchBool, is_some, is_ok, List, [], ◌∷◌, map}
use Rattle.geos_opcodes.specs.declared.opcode.Opcode.{Opcode}
use Rattle.geos_opcodes.specs.declared.fields.Field.{Field}
use Rattle.geos_opcodes.specs.Fields.{is_written, operand_at}
use Rattle.geos_opcodes.specs.declared.opcode.Operand.{Operand}
use Rattle.geos_opcodes.specs.declared.opcode.Operand.TheVariants.{Unused, Word, Counter, Slot, Pointer, Number, Shift, Routine, Label}
use Rattle.geos_text.specs.Numbers.{number_up_to}
use Rattle.geos_text.specs.Registers.{register_of}
use Rattle.geos_source.specs.Names.{is_name}
use Rattle.geos_lines.specs.declared.instr_lines.Stop.{Stop}
use Rattle.geos_lines.specs.declared.instr_lines.Stop.TheVariants.{At, Missing, TooMuch, Nowhere}

-- a word has the form of an operand of this kind, and is within its bound
abbrev pub fits : Operand → List ℕ → Bool
fits Unused word = true
fits Word word = is_some (register_of 119 8 word)
fits Counter word = is_some (register_of 107 4 word)
fits Slot word = is_some (register_of 115 4 word)
fits Pointer word = is_some (register_of 112 4 word)
fits Number word = is_ok (number_up_to 65535 word)
fits Shift word = is_ok (number_up_to 15 word)
fits Routine word = is_name word
fits Label word = is_name word

-- the first word is an operand of this kind, and the words `behind` follow it
abbrev pub IsOperand : Operand → List (List ℕ) → List (List ℕ) → Type 0
IsOperand kind words behind = (word : List ℕ) × (words ≡ word ∷ behind) × (fits kind word ≡ true)

-- an operand of this kind is missing, or the first word, which is named, is none
abbrev pub StopsHere : Operand → List (List ℕ) → Stop → Type 0
StopsHere kind [] (Missing wanted) = wanted ≡ kind
StopsHere kind (first ∷ others) (At word wanted misfit) = (word.bytes.now ≡ first) × (wanted ≡ kind) × (fits kind first ≡ false)
StopsHere kind words _ = ⊥

-- no more operands are expected: the first word is too much, and the stop names it; or no word is left
abbrev pub StopsBehind : List (List ℕ) → Stop → Type 0
StopsBehind [] (Nowhere last) = Unit {0}
StopsBehind (first ∷ others) (TooMuch word) = word.bytes.now ≡ first
StopsBehind words _ = ⊥

-- where words stop being operands of these kinds, of which an unused one takes no word
abbrev pub StopsAt : List Operand → List (List ℕ) → Stop → Type 0
StopsAt [] words stop = StopsBehind words stop
StopsAt (kind ∷ kinds) words stop =
    MatchBool (is_written kind) (StopsHere kind words stop ⊎ ((behind : List (List ℕ)) × IsOperand kind words behind × StopsAt kinds behind stop))
    (StopsAt kinds words stop)

-- what fields hold in an opcode's instructions
abbrev pub kinds_of : Opcode → List Field → List Operand
kinds_of opcode fields = map (operand_at opcode) fields
