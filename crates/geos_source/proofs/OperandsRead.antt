-- The operands that are read are below their limits, so that an instruction that is read is one
-- that an image may have.
use Rattle.std.proofs.Common.{◌≡◌, ◌<◌, ℕ, true, nat_lt, ◌&&◌, List, [], ◌∷◌, Option, Some, None, Result, Ok, Err, refl, subst, arith, lit<}
use Rattle.std.specs.Option.{ok_or}
use Rattle.std.proofs.lemmas.Bool.{and_from, lt-ltb}
use Rattle.geos_image.specs.declared.instr.Instr.{Instr}
use Rattle.geos_opcodes.specs.declared.opcode.Opcode.{Opcode}
use Rattle.geos_opcodes.specs.declared.opcode.Operand.{Operand}
use Rattle.geos_opcodes.specs.declared.opcode.Operand.TheVariants.{Unused, Word, Counter, Slot, Pointer, Number, Shift, Routine, Label}
use Rattle.geos_opcodes.specs.declared.opcode.Operands.{Operands}
use Rattle.geos_opcodes.specs.Facts.{operands_of, limit, opcode_of_word}
use Rattle.geos_image.specs.Legal.{is_instr}
use Rattle.geos_text.specs.Registers.{register_of}
use Rattle.geos_source.specs.declared.fault.Why.{Why}
use Rattle.geos_source.specs.declared.fault.Why.TheVariants.{WrongOperands}
use Rattle.geos_source.specs.Faults.{least}
use Rattle.geos_source.specs.Names.{Table, Names, name_of, defined, meant}
use Rattle.geos_source.specs.Operands.{numbered, register_value, constant_value, Reading, Taken, taken, next, operand, register, constant, left_over, instr_of, instr_by, instruction}
use Rattle.geos_source.proofs.ReadLaws.{ok_is, unless_faulty_is}
use Rattle.geos_source.proofs.Quiet.{some_there, least-none}
use Rattle.geos_source.proofs.NumbersRead.{register_of-below, numbered-within}

-- each value of the table is below n
abbrev pub TableBelow : ℕ → Table → Type 0
TableBelow n table = (name : List ℕ) (value : ℕ) → table name ≡ Some value → value < n

-- what reading answers is below n, if it is a number
abbrev BelowIfRead : ℕ → Result ℕ Why → Type 0
BelowIfRead n read = (value : ℕ) → read ≡ Ok value → value < n

not_read : (n : ℕ) (why : Why) → BelowIfRead n (Err why)
not_read n why value e = absurd cc

-- Operands

-- what was read has no fault, and is below n
abbrev BelowIfQuiet : ℕ → Option Why → Taken → Type 0
BelowIfQuiet n fault read = read.rest.fault ≡ None → (fault ≡ None) × (read.value < n)

taken-below : (n : ℕ) (read : Result ℕ Why) (words : List (List ℕ)) (fault : Option Why) → BelowIfRead n read
    → BelowIfQuiet n fault (taken read words fault)
taken-below n (Ok value) words fault below quiet = (quiet, below value refl)
taken-below n (Err why) words fault below quiet = absurd (some_there why (least-none fault (Some why) quiet).1)

next-below : (n : ℕ) (value : List ℕ → Result ℕ Why) (words : List (List ℕ)) (fault : Option Why) → ((word : List ℕ) → BelowIfRead n (value word))
    → BelowIfQuiet n fault (next value words fault)
next-below n value [] fault below quiet = absurd (some_there WrongOperands (least-none fault (Some WrongOperands) quiet).1)
next-below n value (word ∷ words) fault below quiet = taken-below n (value word) words fault (below word) quiet

letter-below : (letter count : ℕ) (word : List ℕ) (found : Option ℕ) → register_of letter count word ≡ found
    → BelowIfRead count (ok_or found WrongOperands)
letter-below letter count word (Some number) found value e =
    let same = ok_is number value e in
    subst (λ (n : ℕ). n < count) same (register_of-below letter count word number found)
letter-below letter count word None found value e = absurd cc

number-below : (greatest n : ℕ) (word : List ℕ) → greatest < n → BelowIfRead n (numbered greatest word)
number-below greatest n word lt value e = omega (arith, numbered-within greatest word value e)

defined-below : (n : ℕ) (found : Option ℕ) → ((value : ℕ) → found ≡ Some value → value < n) → BelowIfRead n (defined found)
defined-below n None below value e = absurd cc
defined-below n (Some found) below value e = let same = ok_is found value e in subst (λ (m : ℕ). m < n) same (below found refl)

meant-below : (n : ℕ) (table : Table) (name : Option (List ℕ)) → TableBelow n table → BelowIfRead n (meant table name)
meant-below n table None below = not_read n WrongOperands
meant-below n table (Some name) below = defined-below n (table name) (below name)

module _ (routines instrs : ℕ) where
  abbrev most : Operand → ℕ
  most kind = limit routines instrs kind

  -- a field that is not used is 0, and another is what its word says
  operand-below : (kind : Operand) (value : List ℕ → Result ℕ Why) (reading : Reading) → ((word : List ℕ) → BelowIfRead (most kind) (value word))
      → BelowIfQuiet (most kind) reading.fault (operand kind value reading)
  operand-below Unused value reading below quiet = (quiet, lit< tt)
  operand-below kind value reading below quiet = next-below (most kind) value reading.words reading.fault below quiet

  register_value-below : (kind : Operand) (word : List ℕ) → BelowIfRead (most kind) (register_value kind word)
  register_value-below Word word = letter-below 119 8 word (register_of 119 8 word) refl
  register_value-below Counter word = letter-below 107 4 word (register_of 107 4 word) refl
  register_value-below Slot word = letter-below 115 4 word (register_of 115 4 word) refl
  register_value-below Pointer word = letter-below 112 4 word (register_of 112 4 word) refl
  register_value-below kind word = not_read (most kind) WrongOperands

  -- the register of a field is one of its kind
  pub register-below : (kind : Operand) (reading : Reading) → (register kind reading).rest.fault ≡ None
      → (reading.fault ≡ None) × ((register kind reading).value < limit routines instrs kind)
  unfolding register
  register-below kind reading quiet = operand-below kind (register_value kind) reading (register_value-below kind) quiet

  module _ (names : Names) (callees : TableBelow routines names.routines) (labels : TableBelow instrs names.labels) where
    constant_value-below : (kind : Operand) (word : List ℕ) → BelowIfRead (most kind) (constant_value names kind word)
    constant_value-below Number word = number-below 65535 65536 word (lit< tt)
    constant_value-below Shift word = number-below 15 16 word (lit< tt)
    constant_value-below Routine word = meant-below routines names.routines (name_of word) callees
    constant_value-below Label word = meant-below instrs names.labels (name_of word) labels
    constant_value-below kind word = not_read (most kind) WrongOperands

    -- the number of a field is below its limit
    pub constant-below : (kind : Operand) (reading : Reading) → (constant names kind reading).rest.fault ≡ None
        → (reading.fault ≡ None) × ((constant names kind reading).value < limit routines instrs kind)
    unfolding constant
    constant-below kind reading quiet = operand-below kind (constant_value names kind) reading (constant_value-below kind) quiet

-- Instructions

-- each field is below its limit
record AllBelow (routines instrs : ℕ) (kinds : Operands) (i : Instr) : Type 0 where
  a : i.a < limit routines instrs kinds.a
  b : i.b < limit routines instrs kinds.b
  c : i.c < limit routines instrs kinds.c
  d : i.d < limit routines instrs kinds.d
  imm : i.imm < limit routines instrs kinds.imm
  target : i.target < limit routines instrs kinds.target

all_below : (routines instrs : ℕ) (i : Instr) → AllBelow routines instrs (operands_of i.opcode) i → is_instr routines instrs i ≡ true
all_below routines instrs i h =
    let kinds = operands_of i.opcode in
    let most = limit routines instrs in
    let a = nat_lt i.a (most kinds.a) in
    let b = nat_lt i.b (most kinds.b) in
    let c = nat_lt i.c (most kinds.c) in
    let d = nat_lt i.d (most kinds.d) in
    let imm = nat_lt i.imm (most kinds.imm) in
    let target = nat_lt i.target (most kinds.target) in
    and_from (a && b && c && d && imm) target
    (and_from (a && b && c && d) imm
    (and_from (a && b && c) d
    (and_from (a && b) c
    (and_from a b (lt-ltb i.a (most kinds.a) h.a) (lt-ltb i.b (most kinds.b) h.b))
    (lt-ltb i.c (most kinds.c) h.c))
    (lt-ltb i.d (most kinds.d) h.d))
    (lt-ltb i.imm (most kinds.imm) h.imm))
    (lt-ltb i.target (most kinds.target) h.target)

module _ (routines instrs : ℕ) (names : Names) (callees : TableBelow routines names.routines) (labels : TableBelow instrs names.labels) where
  instr_of-legal : (opcode : Opcode) (words : List (List ℕ)) (i : Instr) → instr_of names opcode words ≡ Ok i → is_instr routines instrs i ≡ true
  instr_of-legal opcode words i e =
      let kinds = operands_of opcode in
      let start : Reading = record { words = words; fault = None } in
      let a = register kinds.a start in
      let b = register kinds.b a.rest in
      let c = register kinds.c b.rest in
      let d = register kinds.d c.rest in
      let imm = constant names kinds.imm d.rest in
      let target = constant names kinds.target imm.rest in
      let made : Instr = record { opcode = opcode; a = a.value; b = b.value; c = c.value; d = d.value; imm = imm.value; target = target.value } in
      let read = unless_faulty_is made i (least target.rest.fault (left_over target.rest.words)) e in
      let quiet = least-none target.rest.fault (left_over target.rest.words) read.0 in
      let target-below = constant-below routines instrs names callees labels kinds.target imm.rest quiet.0 in
      let imm-below = constant-below routines instrs names callees labels kinds.imm d.rest target-below.0 in
      let d-below = register-below routines instrs kinds.d c.rest imm-below.0 in
      let c-below = register-below routines instrs kinds.c b.rest d-below.0 in
      let b-below = register-below routines instrs kinds.b a.rest c-below.0 in
      let a-below = register-below routines instrs kinds.a start b-below.0 in
      let all : AllBelow routines instrs kinds made =
      record { a = a-below.1; b = b-below.1; c = c-below.1; d = d-below.1; imm = imm-below.1; target = target-below.1 } in
      subst (λ (j : Instr). is_instr routines instrs j ≡ true) read.1 (all_below routines instrs made all)

  instr_by-legal : (opcode : Option Opcode) (words : List (List ℕ)) (i : Instr) → instr_by names opcode words ≡ Ok i
      → is_instr routines instrs i ≡ true
  instr_by-legal None words i e = absurd cc
  instr_by-legal (Some opcode) words i e = instr_of-legal opcode words i e

-- an instruction that is read is one that an image may have, where names stand for some of its routines and instructions
pub instruction-legal : (routines instrs : ℕ) (names : Names) → TableBelow routines names.routines → TableBelow instrs names.labels
    → (word : List ℕ) (words : List (List ℕ)) (i : Instr) → instruction names word words ≡ Ok i → is_instr routines instrs i ≡ true
unfolding instruction
instruction-legal routines instrs names callees labels word words i e =
    instr_by-legal routines instrs names callees labels (opcode_of_word word) words i e
