-- The operands of an instruction are read back, and so is the instruction.
use Rattle.std.proofs.Common.{◌≡◌, ◌∙◌, ◌<◌, ℕ, Bool, true, false, List, [], ◌∷◌, ◌++◌, length, Option, Some, None, Result, Ok, slice_get, refl, ap, arith}
use Rattle.std.specs.Prelude.{codes, decimal, if◌then◌else◌}
use Rattle.std.specs.Option.{option_map_or, ok_or}
use Rattle.geos_image.specs.declared.instr.Instr.{Instr}
use Rattle.geos_opcodes.specs.declared.opcode.Opcode.{Opcode}
use Rattle.geos_opcodes.specs.declared.opcode.Opcode.TheVariants.{Ldi}
use Rattle.geos_opcodes.specs.declared.opcode.Operand.{Operand}
use Rattle.geos_opcodes.specs.declared.opcode.Operand.TheVariants.{Unused, Word, Counter, Slot, Pointer, Number, Shift, Routine, Label}
use Rattle.geos_opcodes.specs.declared.opcode.Operands.{Operands}
use Rattle.geos_image.specs.declared.routine.Routine as routine
use Rattle.geos_opcodes.specs.Facts.{operands_of, limit, word_of}
use Rattle.geos_image.specs.Legal.{is_instr}
use Rattle.geos_image.proofs.Instrs.{is_below}
use Rattle.geos_listing.specs.Instrs.{name_of as name_text, label_of as label_text, operand_text, operands_text}
use Rattle.geos_opcodes.specs.Fields.{is_written}
use Rattle.geos_opcodes.proofs.Laws.{word_again}
use Rattle.geos_source.specs.declared.fault.Why.{Why}
use Rattle.geos_source.specs.declared.fault.Why.TheVariants.{WrongOperands}
use Rattle.geos_source.specs.Faults.{least}
use Rattle.geos_source.specs.Names.{Names, resolved}
use Rattle.geos_source.specs.Operands.{Reading, Taken, taken, register, constant, left_over, unless_faulty, instr_of, instr_by, instruction}
use Rattle.round_trip.proofs.Spaced.{spaced}
use Rattle.round_trip.proofs.NumbersAgain.{numbered-again, register_of-again}

-- the word of an operand
abbrev pub operand_word : List routine.Routine → Operand → ℕ → List ℕ
operand_word routines Unused n = []
operand_word routines Word n = codes "w" ++ decimal n
operand_word routines Counter n = codes "k" ++ decimal n
operand_word routines Slot n = codes "s" ++ decimal n
operand_word routines Pointer n = codes "p" ++ decimal n
operand_word routines Number n = decimal n
operand_word routines Shift n = decimal n
operand_word routines Routine n = option_map_or name_text (slice_get routines n) []
operand_word routines Label n = label_text n

-- the word of an operand, if it has one, before the other words
abbrev pub in_front : List routine.Routine → Operand → ℕ → List (List ℕ) → List (List ℕ)
in_front routines kind n words = if is_written kind then operand_word routines kind n ∷ words else words

-- the words of an instruction's operands
abbrev pub operand_words : List routine.Routine → Instr → List (List ℕ)
operand_words routines i =
    let kinds = operands_of i.opcode in
    let front = in_front routines in
    front kinds.a i.a (front kinds.b i.b (front kinds.c i.c (front kinds.d i.d (front kinds.imm i.imm (front kinds.target i.target [])))))

operand-spaced : (routines : List routine.Routine) (kind : Operand) (n : ℕ) (text : List ℕ) (words : List (List ℕ)) → text ≡ spaced words
    → operand_text routines kind n ++ text ≡ spaced (in_front routines kind n words)
operand-spaced routines Unused n text words e = e
operand-spaced routines Word n text words e = ap (λ (t : List ℕ). operand_text routines Word n ++ t) e
operand-spaced routines Counter n text words e = ap (λ (t : List ℕ). operand_text routines Counter n ++ t) e
operand-spaced routines Slot n text words e = ap (λ (t : List ℕ). operand_text routines Slot n ++ t) e
operand-spaced routines Pointer n text words e = ap (λ (t : List ℕ). operand_text routines Pointer n ++ t) e
operand-spaced routines Number n text words e = ap (λ (t : List ℕ). operand_text routines Number n ++ t) e
operand-spaced routines Shift n text words e = ap (λ (t : List ℕ). operand_text routines Shift n ++ t) e
operand-spaced routines Routine n text words e = ap (λ (t : List ℕ). operand_text routines Routine n ++ t) e
operand-spaced routines Label n text words e = ap (λ (t : List ℕ). operand_text routines Label n ++ t) e

-- the operands are written as these words, with a blank before each
pub operands-spaced : (routines : List routine.Routine) (i : Instr) → operands_text routines i ≡ spaced (operand_words routines i)
operands-spaced routines i =
    let kinds = operands_of i.opcode in
    let put = operand-spaced routines in
    put kinds.a i.a _ _ (put kinds.b i.b _ _
    (put kinds.c i.c _ _ (put kinds.d i.d _ _ (put kinds.imm i.imm _ _ (put kinds.target i.target [] [] refl)))))

-- the names stand for what the image has: each routine's for its index, each label's for its pc
pub record StandsFor (routines : List routine.Routine) (is_label : ℕ → Type 0) (names : Names) : Type 0 where
  pub routine : (n : ℕ) → n < length routines → resolved names.routines (option_map_or name_text (slice_get routines n) []) ≡ Ok n
  pub label : (pc : ℕ) → is_label pc → resolved names.labels (label_text pc) ≡ Ok pc

-- the words so far have no fault
abbrev reading : List (List ℕ) → Reading
reading words = record { words = words; fault = None }

-- a value was read, and words are left
abbrev read : ℕ → List (List ℕ) → Taken
read n words = record { value = n; rest = reading words }

-- a field holds a register, or nothing
abbrev is_register : Operand → Bool
is_register Unused = true
is_register Word = true
is_register Counter = true
is_register Slot = true
is_register Pointer = true
is_register Number = false
is_register Shift = false
is_register Routine = false
is_register Label = false

-- a field holds a number, a routine or a label, or nothing
abbrev is_constant : Operand → Bool
is_constant Unused = true
is_constant Word = false
is_constant Counter = false
is_constant Slot = false
is_constant Pointer = false
is_constant Number = true
is_constant Shift = true
is_constant Routine = true
is_constant Label = true

unused : (n : ℕ) (words : List (List ℕ)) → n < 1 → read 0 words ≡ read n words
unused n words below = let none : 0 ≡ n = omega (arith, below) in ap (λ m. read m words) none

value_read : (value : Result ℕ Why) (n : ℕ) (words : List (List ℕ)) → value ≡ Ok n → taken value words None ≡ read n words
value_read value n words e = ap (λ v. taken v words None) e

register_read : (found : Option ℕ) (n : ℕ) (words : List (List ℕ)) → found ≡ Some n → taken (ok_or found WrongOperands) words None ≡ read n words
register_read found n words e = ap (λ f. taken (ok_or f WrongOperands) words None) e

register-again : (instrs : ℕ) (routines : List routine.Routine) (kind : Operand) (n : ℕ) (words : List (List ℕ))
    → is_register kind ≡ true → n < limit (length routines) instrs kind
    → register kind (reading (in_front routines kind n words)) ≡ read n words
unfolding register
register-again instrs routines Unused n words is below = unused n words below
register-again instrs routines Word n words is below = register_read _ n words (register_of-again 119 8 n below (omega (arith, below)))
register-again instrs routines Counter n words is below = register_read _ n words (register_of-again 107 4 n below (omega (arith, below)))
register-again instrs routines Slot n words is below = register_read _ n words (register_of-again 115 4 n below (omega (arith, below)))
register-again instrs routines Pointer n words is below = register_read _ n words (register_of-again 112 4 n below (omega (arith, below)))
register-again instrs routines Number n words is below = absurd cc
register-again instrs routines Shift n words is below = absurd cc
register-again instrs routines Routine n words is below = absurd cc
register-again instrs routines Label n words is below = absurd cc

-- a label that the field holds is one
abbrev LabelIn : (ℕ → Type 0) → Operand → ℕ → Type 0
LabelIn is_label kind n = kind ≡ Label → is_label n

constant-again : (instrs : ℕ) (routines : List routine.Routine) (is_label : ℕ → Type 0) (names : Names) → StandsFor routines is_label names
    → (kind : Operand) (n : ℕ) (words : List (List ℕ)) → is_constant kind ≡ true → n < limit (length routines) instrs kind → LabelIn is_label kind n
    → constant names kind (reading (in_front routines kind n words)) ≡ read n words
unfolding constant
constant-again instrs routines is_label names stands Unused n words is below label = unused n words below
constant-again instrs routines is_label names stands Word n words is below label = absurd cc
constant-again instrs routines is_label names stands Counter n words is below label = absurd cc
constant-again instrs routines is_label names stands Slot n words is below label = absurd cc
constant-again instrs routines is_label names stands Pointer n words is below label = absurd cc
constant-again instrs routines is_label names stands Number n words is below label = value_read _ n words
    (numbered-again 65535 n (omega (arith, below)) (omega (arith, below)))
constant-again instrs routines is_label names stands Shift n words is below label = value_read _ n words
    (numbered-again 15 n (omega (arith, below)) (omega (arith, below)))
constant-again instrs routines is_label names stands Routine n words is below label = value_read _ n words (stands.routine n below)
constant-again instrs routines is_label names stands Label n words is below label = value_read _ n words (stands.label n (label refl))

-- ---- the instruction

-- what each field of an opcode holds is read as such
record HasKinds (kinds : Operands) : Type 0 where
  a : is_register kinds.a ≡ true
  b : is_register kinds.b ≡ true
  c : is_register kinds.c ≡ true
  d : is_register kinds.d ≡ true
  imm : is_constant kinds.imm ≡ true
  target : is_constant kinds.target ≡ true

has_kinds : (opcode : Opcode) → HasKinds (operands_of opcode)
has_kinds Ldi = record { a = refl; b = refl; c = refl; d = refl; imm = refl; target = refl }
has_kinds _ = record { a = refl; b = refl; c = refl; d = refl; imm = refl; target = refl }

-- imm holds no label
imm_no_label : (opcode : Opcode) → (operands_of opcode).imm ≡ Label → ⊥
imm_no_label Ldi e = absurd cc
imm_no_label _ e = absurd cc

-- an instruction, from what was read for each of its fields
abbrev from_target : Opcode → Taken → Taken → Taken → Taken → Taken → Taken → Result Instr Why
from_target opcode a b c d imm target =
    unless_faulty (record { opcode = opcode; a = a.value; b = b.value; c = c.value; d = d.value; imm = imm.value; target = target.value })
    (least target.rest.fault (left_over target.rest.words))

abbrev from_imm : Names → Opcode → Taken → Taken → Taken → Taken → Taken → Result Instr Why
from_imm names opcode a b c d imm = from_target opcode a b c d imm (constant names (operands_of opcode).target imm.rest)

abbrev from_d : Names → Opcode → Taken → Taken → Taken → Taken → Result Instr Why
from_d names opcode a b c d = from_imm names opcode a b c d (constant names (operands_of opcode).imm d.rest)

abbrev from_c : Names → Opcode → Taken → Taken → Taken → Result Instr Why
from_c names opcode a b c = from_d names opcode a b c (register (operands_of opcode).d c.rest)

abbrev from_b : Names → Opcode → Taken → Taken → Result Instr Why
from_b names opcode a b = from_c names opcode a b (register (operands_of opcode).c b.rest)

abbrev from_a : Names → Opcode → Taken → Result Instr Why
from_a names opcode a = from_b names opcode a (register (operands_of opcode).b a.rest)

-- the label of an instruction, if it has one
abbrev pub HasLabel : (ℕ → Type 0) → Instr → Type 0
HasLabel is_label i = LabelIn is_label (operands_of i.opcode).target i.target

-- an instruction's operands say that instruction
instr_of-again : (instrs : ℕ) (routines : List routine.Routine) (is_label : ℕ → Type 0) (names : Names) (i : Instr)
    → StandsFor routines is_label names
    → is_instr (length routines) instrs i ≡ true → HasLabel is_label i → instr_of names i.opcode (operand_words routines i) ≡ Ok i
instr_of-again instrs routines is_label names i stands legal label =
    let opcode = i.opcode in
    let kinds = operands_of opcode in
    let front = in_front routines in
    let has = has_kinds opcode in
    let below = is_below (length routines) instrs i legal in
    let target-words = front kinds.target i.target [] in
    let imm-words = front kinds.imm i.imm target-words in
    let d-words = front kinds.d i.d imm-words in
    let c-words = front kinds.c i.c d-words in
    let b-words = front kinds.b i.b c-words in
    let a = read i.a b-words in
    let b = read i.b c-words in
    let c = read i.c d-words in
    let d = read i.d imm-words in
    let imm = read i.imm target-words in
    let no_label : LabelIn is_label kinds.imm i.imm = λ e. absurd (imm_no_label opcode e) in
    ap (from_a names opcode) (register-again instrs routines kinds.a i.a b-words has.a below.a)
    ∙ ap (from_b names opcode a) (register-again instrs routines kinds.b i.b c-words has.b below.b)
    ∙ ap (from_c names opcode a b) (register-again instrs routines kinds.c i.c d-words has.c below.c)
    ∙ ap (from_d names opcode a b c) (register-again instrs routines kinds.d i.d imm-words has.d below.d)
    ∙ ap (from_imm names opcode a b c d) (constant-again instrs routines is_label names stands kinds.imm i.imm
    target-words has.imm below.imm no_label)
    ∙ ap (from_target opcode a b c d imm) (constant-again instrs routines is_label names stands kinds.target i.target
    [] has.target below.target label)

-- an instruction's word and operands say that instruction
pub instruction-again : (instrs : ℕ) (routines : List routine.Routine) (is_label : ℕ → Type 0) (names : Names) (i : Instr)
    → StandsFor routines is_label names
    → is_instr (length routines) instrs i ≡ true → HasLabel is_label i → instruction names (word_of i.opcode) (operand_words routines i) ≡ Ok i
unfolding instruction
instruction-again instrs routines is_label names i stands legal label =
    ap (λ o. instr_by names o (operand_words routines i)) (word_again i.opcode) ∙ instr_of-again instrs routines is_label names i stands legal label
