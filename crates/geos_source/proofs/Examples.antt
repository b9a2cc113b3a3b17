-- The definition of texts, computed on examples.
use Rattle.std.proofs.Common.{◌≡◌, ℕ, List, [], ◌∷◌, ◌++◌, Option, Some, None, refl, true, false, Ok, Err}
use Rattle.std.specs.Prelude.{codes}
use Rattle.geos_image.specs.declared.row.SlotState.TheVariants.{Empty, Vm}
use Rattle.geos_opcodes.specs.declared.opcode.Opcode.TheVariants.{Ldi, Add, Ret, Out}
use Rattle.geos_image.specs.Legal.{is_name_byte}
use Rattle.geos_image.specs.Open.{open_row}
use Rattle.geos_source.specs.declared.fault.Why.{Why}
use Rattle.geos_source.specs.declared.fault.Why.TheVariants.{UnknownWord, WrongOperands, OutOfRange, Undefined, UsedTwice, OutOfPlace}
use Rattle.geos_source.specs.declared.fault.BadLine.{BadLine}
use Rattle.geos_source.specs.Names.{name_of, label_of}
use Rattle.geos_source.specs.Operands.{register, constant, instruction}
use Rattle.geos_source.specs.Items.{item, row_of}
use Rattle.geos_source.specs.Headers.{header}
use Rattle.geos_source.specs.Declarations.{with_line}
use Rattle.geos_source.specs.Texts.{take_line, fault_of, code_of}

abbrev bad : ℕ → Why → Option BadLine
bad line why = Some (record { line = line; why = why })

-- the fault of lines that follow the first line of a routine
abbrev behind_routine : List ℕ → Option BadLine
behind_routine text = fault_of (codes "routine a public budget 9\n" ++ text)

-- a fault of each kind, and a text without fault
pub record Faults : Type 0 where
  pub none : behind_routine (codes "RET") ≡ None
  pub unknown : behind_routine (codes "FOO") ≡ bad 2 UnknownWord
  pub register : behind_routine (codes "LDI w8 1") ≡ bad 2 WrongOperands
  pub range : behind_routine (codes "LDI w0 65536") ≡ bad 2 OutOfRange
  pub undefined : behind_routine (codes "JMP nowhere") ≡ bad 2 Undefined
  pub twice : behind_routine (codes "x: RET\nx: RET") ≡ bad 3 UsedTwice
  pub empty_routine : behind_routine (codes "routine a public budget 9\nRET") ≡ bad 1 OutOfPlace
  pub empty : fault_of [] ≡ bad 1 OutOfPlace

faults_computed : Faults
unfolding with_line label_of name_of is_name_byte take_line header instruction constant register
faults_computed = record {
  none = refl;
  unknown = refl;
  register = refl;
  range = refl;
  undefined = refl;
  twice =
      refl;
  empty_routine = refl;
  empty = refl;
}

-- names have 1 to 16 letters, digits and underscores; a name and a `:` make a label
pub record Names : Type 0 where
  pub sixteen : name_of (codes "abcdefghijklmnop") ≡ Some (codes "abcdefghijklmnop")
  pub seventeen : name_of (codes "abcdefghijklmnopq") ≡ None
  pub padded : name_of (codes "x_1") ≡ Some (codes "x_1" ++ (0 ∷ 0 ∷ 0 ∷ 0 ∷ 0 ∷ 0 ∷ 0 ∷ 0 ∷ 0 ∷ 0 ∷ 0 ∷ 0 ∷ 0 ∷ []))
  pub digit : name_of (codes "9x") ≡ None
  pub none : name_of [] ≡ None
  pub colon : label_of (codes ":") ≡ None
  pub label : label_of (codes "abcdefghijklmnop:") ≡ Some (codes "abcdefghijklmnop")

names_computed : Names
unfolding label_of name_of is_name_byte
names_computed = record { sixteen = refl; seventeen = refl; padded = refl; digit = refl; none = refl; colon = refl; label = refl }

-- wrong operands: too few or too many, whatever they are, or of another form; then numbers past
-- their range, and names
pub record Operands : Type 0 where
  pub few : behind_routine (codes "LDI w0") ≡ bad 2 WrongOperands
  pub many : behind_routine (codes "RET w0") ≡ bad 2 WrongOperands
  pub zero : behind_routine (codes "MOV w01 w0") ≡ bad 2 WrongOperands
  pub minus : behind_routine (codes "LDI w0 -1") ≡ bad 2 WrongOperands
  pub hexadecimal : behind_routine (codes "LDI w0 0x1") ≡ bad 2 WrongOperands
  pub form : behind_routine (codes "JMP 9x") ≡ bad 2 WrongOperands
  pub lower : behind_routine (codes "CHK w0 65536 9x") ≡ bad 2 WrongOperands
  pub shift : behind_routine (codes "SHR w0 w1 16") ≡ bad 2 OutOfRange
  pub both : behind_routine (codes "CHK w0 65536 x") ≡ bad 2 OutOfRange
  pub callee : behind_routine (codes "CALL b") ≡ bad 2 Undefined
  pub sets : behind_routine (codes "a: CALL x\nx: RET") ≡ bad 2 Undefined
  pub few_first : behind_routine (codes "CHK w0 65536") ≡ bad 2 WrongOperands
  pub many_first : behind_routine (codes "LDI w0 65536 1") ≡ bad 2 WrongOperands
  pub many_names : behind_routine (codes "CALL b b") ≡ bad 2 WrongOperands
  pub huge : behind_routine (codes "LDI w0 340282366920938463463374607431768211456") ≡ bad 2 OutOfRange
  pub zeros : behind_routine (codes "LDI w0 00000000000000000000000000000000000065535") ≡ None

operands_computed : Operands
unfolding with_line label_of name_of is_name_byte take_line header instruction constant register
operands_computed = record {
  few = refl;
  many = refl;
  zero = refl;
  minus = refl;
  hexadecimal = refl;
  form = refl;
  lower =
      refl;
  shift = refl;
  both = refl;
  callee = refl;
  sets = refl;
  few_first = refl;
  many_first = refl;
  many_names = refl;
  huge = refl;
  zeros = refl;
}

-- lines out of place: rows after an instruction or twice, labels that no instruction follows, instructions before any
-- routine
pub record Places : Type 0 where
  pub second_in : behind_routine (codes "in\nin\nRET") ≡ bad 3 OutOfPlace
  pub rows : behind_routine (codes "out\nin\nRET") ≡ None
  pub late_in : behind_routine (codes "RET\nin") ≡ bad 3 OutOfPlace
  pub outer_in : fault_of (codes "in\nroutine a budget 1\nRET") ≡ bad 1 OutOfPlace
  pub label_in : behind_routine (codes "x: in\nRET") ≡ bad 2 OutOfPlace
  pub label_routine : behind_routine (codes "RET\nx:\ny:\nroutine b budget 1\nRET") ≡ bad 3 OutOfPlace
  pub label_end : behind_routine (codes "RET\nx:\n;") ≡ bad 3 OutOfPlace
  pub outer : fault_of (codes "RET\nroutine a budget 1\nRET") ≡ bad 1 OutOfPlace
  pub outer_lower : fault_of (codes "JMP x\nroutine a budget 1\nRET") ≡ bad 1 Undefined
  pub comments : fault_of (codes "; a\n\n ; b") ≡ bad 1 OutOfPlace

places_computed : Places
unfolding with_line label_of name_of is_name_byte take_line header instruction constant register row_of item
places_computed = record {
  second_in = refl;
  rows = refl;
  late_in = refl;
  outer_in = refl;
  label_in = refl;
  label_routine =
      refl;
  label_end = refl;
  outer = refl;
  outer_lower = refl;
  comments = refl;
}

-- items of rows, in either order of a pair
pub record Items : Type 0 where
  pub bound : item open_row (codes "w7<=9") ≡ Ok (record open_row { bounds = 65535 ∷ 65535 ∷ 65535 ∷ 65535 ∷ 65535 ∷ 65535 ∷ 65535 ∷ 9 ∷ [] })
  pub slot : item open_row (codes "s1=vm!") ≡ Ok (record open_row { slots = Empty ∷ Vm true false ∷ Empty ∷ Empty ∷ [] })
  pub borrowed : item open_row (codes "s1=vm@") ≡ Ok (record open_row { slots = Empty ∷ Vm false true ∷ Empty ∷ Empty ∷ [] })
  pub borrowed_marked : item open_row (codes "s1=vm@!") ≡ Ok (record open_row { slots = Empty ∷ Vm true true ∷ Empty ∷ Empty ∷ [] })
  pub other_order : item open_row (codes "s1=vm!@") ≡ Err WrongOperands
  pub group : item open_row (codes "s1=db@") ≡ Err WrongOperands
  pub pointer : item open_row (codes "p0=s3:8") ≡ Ok (record open_row { pointers = Some (record { slot = 3; least = 8 }) ∷ None ∷ None ∷ None ∷ [] })
  pub pair : item open_row (codes "s3#s1") ≡ Ok (record open_row { pairs = false ∷ false ∷ false ∷ false ∷ true ∷ false ∷ [] })
  pub same : item open_row (codes "s1#s1") ≡ Err WrongOperands
  pub form : item open_row (codes "w0=9") ≡ Err WrongOperands
  pub large : item open_row (codes "w0<=65536") ≡ Err OutOfRange
  pub least : behind_routine (codes "in w0<=65536 s1#s1\nRET") ≡ bad 2 WrongOperands

items_computed : Items
unfolding with_line label_of name_of is_name_byte take_line header instruction constant register row_of item
items_computed = record {
  bound = refl;
  slot = refl;
  borrowed = refl;
  borrowed_marked = refl;
  other_order = refl;
  group =
      refl;
  pointer = refl;
  pair = refl;
  same = refl;
  form = refl;
  large = refl;
  least = refl;
}

-- lines: their ends, their comments, words with a colon, labels of the whole text
pub record Said : Type 0 where
  pub ends : behind_routine (codes "RET\r\n\tRET ; RET RET\r\n") ≡ None
  pub comment : behind_routine (codes "RET ;" ++ 255 ∷ []) ≡ None
  pub other : behind_routine (codes "RET" ++ 255 ∷ []) ≡ bad 2 UnknownWord
  pub digit : behind_routine (codes "9x: RET") ≡ bad 2 UnknownWord
  pub joined : behind_routine (codes "x:RET") ≡ bad 2 UnknownWord
  pub labels : behind_routine (codes "x: y:\n\nz: JMP y") ≡ None
  pub ahead : behind_routine (codes "JMP x\nroutine b budget 1\nx: RET") ≡ None
  pub callee : behind_routine (codes "CALL b\nroutine b budget 1\nRET") ≡ None
  pub faulty : behind_routine (codes "x: FOO\nJMP x") ≡ bad 2 UnknownWord
  pub defined : behind_routine (codes "JMP x\nx: FOO") ≡ bad 3 UnknownWord
  pub colon : behind_routine (codes ": RET") ≡ bad 2 UnknownWord
  pub small : behind_routine (codes "ret") ≡ bad 2 UnknownWord
  pub return : behind_routine (codes "RET\rRET") ≡ bad 2 UnknownWord
  pub last_return : behind_routine (codes "RET\r") ≡ bad 2 UnknownWord

said_computed : Said
unfolding with_line label_of name_of is_name_byte take_line header instruction constant register
said_computed = record {
  ends = refl;
  comment = refl;
  other = refl;
  digit = refl;
  joined = refl;
  labels = refl;
  ahead =
      refl;
  callee = refl;
  faulty = refl;
  defined = refl;
  colon = refl;
  small = refl;
  return = refl;
  last_return = refl;
}

-- lines that begin routines
pub record Headers : Type 0 where
  pub name : fault_of (codes "routine 9a budget 1\nRET") ≡ bad 1 WrongOperands
  pub few : fault_of (codes "routine a budget\nRET") ≡ bad 1 WrongOperands
  pub order : fault_of (codes "routine a budget 1 public\nRET") ≡ bad 1 WrongOperands
  pub most : fault_of (codes "routine a budget 4294967295\nRET") ≡ None
  pub large : fault_of (codes "routine a budget 4294967296\nRET") ≡ bad 1 OutOfRange
  pub twice : behind_routine (codes "RET\nroutine a budget 1\nRET") ≡ bad 3 UsedTwice
  pub named : fault_of (codes "routine a budget x\nCALL a\nroutine b budget y\nRET") ≡ bad 1 WrongOperands
  pub gives_name : behind_routine (codes "CALL b\nroutine b budget x\nRET") ≡ bad 3 WrongOperands
  pub begins : behind_routine (codes "routine 9 budget 1\nRET") ≡ bad 1 OutOfPlace
  pub zero : fault_of (codes "routine a budget 0\nRET") ≡ None

headers_computed : Headers
unfolding with_line label_of name_of is_name_byte take_line header instruction constant register
headers_computed = record {
  name = refl;
  few = refl;
  order = refl;
  most = refl;
  large = refl;
  twice = refl;
  named =
      refl;
  gives_name = refl;
  begins = refl;
  zero = refl;
}

-- names that are used twice, by labels of the whole text or by routines: these are two sets of
-- names, and the case of letters counts
pub record Twice : Type 0 where
  pub line : behind_routine (codes "x: x: RET") ≡ bad 2 UsedTwice
  pub apart : behind_routine (codes "x:\nx:\nRET") ≡ bad 3 UsedTwice
  pub elsewhere : behind_routine (codes "x: RET\nroutine b budget 1\nx: RET") ≡ bad 4 UsedTwice
  pub first : behind_routine (codes "x: y: RET\ny: RET\nx: RET") ≡ bad 3 UsedTwice
  pub routine : fault_of (codes "routine a budget 1\nRET\nroutine b budget 1\nRET\nroutine b public budget 2\nRET") ≡ bad 5 UsedTwice
  pub lower : behind_routine (codes "x: RET\nx: JMP y") ≡ bad 3 Undefined
  pub higher : behind_routine (codes "x: RET\nx: in") ≡ bad 3 UsedTwice
  pub faulty : behind_routine (codes "RET\nroutine a budget") ≡ bad 3 WrongOperands
  pub sets : behind_routine (codes "a: JMP a") ≡ None
  pub case : behind_routine (codes "x: RET\nX: RET\nxx: RET") ≡ None

twice_computed : Twice
unfolding with_line label_of name_of is_name_byte take_line header instruction constant register row_of
twice_computed = record {
  line = refl;
  apart = refl;
  elsewhere = refl;
  first = refl;
  routine = refl;
  lower =
      refl;
  higher = refl;
  faulty = refl;
  sets = refl;
  case = refl;
}

-- a routine of five instructions, with a row at its entry
add_computed : code_of (codes "routine add public budget 5\nin w0<=9 w0<=3\nLDI w0 2\nLDI w1 3\nADD w0 w0 w1\nOUT w0 end\nend: RET\n")
    ≡ Ok (record {
      routines = record {
        line = 1;
        routine = record {
          name = codes "add" ++ (0 ∷ 0 ∷ 0 ∷ 0 ∷ 0 ∷ 0 ∷ 0 ∷ 0 ∷ 0 ∷ 0 ∷ 0 ∷ 0 ∷ 0 ∷ []);
          public = true;
          count = 5;
          budget = 5;
          entry = record open_row { bounds = 3 ∷ 65535 ∷ 65535 ∷ 65535 ∷ 65535 ∷ 65535 ∷ 65535 ∷ 65535 ∷ [] };
          exit = open_row;
        };
      } ∷ [];
      instrs = record { opcode = Ldi; a = 0; b = 0; c = 0; d = 0; imm = 2; target = 0 }
          ∷ record { opcode = Ldi; a = 1; b = 0; c = 0; d = 0; imm = 3; target = 0 }
          ∷ record { opcode = Add; a = 0; b = 0; c = 1; d = 0; imm = 0; target = 0 }
          ∷ record { opcode = Out; a = 0; b = 0; c = 0; d = 0; imm = 0; target = 4 }
          ∷ record { opcode = Ret; a = 0; b = 0; c = 0; d = 0; imm = 0; target = 0 } ∷ [];
    })
unfolding with_line label_of name_of is_name_byte take_line header instruction constant register row_of item
add_computed = refl
