-- Names, labels, and what they stand for.
use Rattle.std.specs.Prelude.{ℕ, ◌-◌, Bool, ◌&&◌, ◌==◌, nat_le, cond, if◌then◌else◌, List, ◌++◌, length, take, replicate, slice_index, bytes_eq, Option, Some, None, Result, Ok, Err}
use Rattle.std.specs.List.{list_all}
use Rattle.std.specs.Char.{is_ascii_alphabetic}
use Rattle.geos_image.specs.Legal.{is_name_byte}
use Rattle.geos_source.specs.declared.fault.Why.{Why}
use Rattle.geos_source.specs.declared.fault.Why.TheVariants.{WrongOperands, Undefined}

-- 1 to 16 letters, digits and underscores, the first a letter
abbrev pub is_name : List ℕ → Bool
is_name word = nat_le (length word) 16 && is_ascii_alphabetic (slice_index word 0) && list_all is_name_byte word

-- the name that a word writes, as an image has it: filled with zeros up to 16 bytes
unfoldable pub name_of : List ℕ → Option (List ℕ)
name_of word = if is_name word then Some (word ++ replicate (16 - length word) 0) else None

-- the name of a label, which a `:` follows
unfoldable pub label_of : List ℕ → Option (List ℕ)
label_of word = if slice_index word (length word - 1) == 58 then name_of (take (length word - 1) word) else None

-- what each name stands for, if it is defined
abbrev pub Table : Type 0
Table = List ℕ → Option ℕ

-- no name is defined
abbrev pub none_defined : Table
none_defined name = None

-- a table with one more name
abbrev pub with_name : Table → List ℕ → ℕ → Table
with_name table name value = λ other. cond (bytes_eq name other) (Some value) (table other)

-- the names of a text: labels and routines are two sets of names
pub record Names : Type 0 where
  pub labels : Table
  pub routines : Table

-- a value, if the name is defined
abbrev pub defined : Option ℕ → Result ℕ Why
defined None = Err Undefined
defined (Some value) = Ok value

-- what a name stands for, if the word is one
abbrev pub meant : Table → Option (List ℕ) → Result ℕ Why
meant table None = Err WrongOperands
meant table (Some name) = defined (table name)

-- what a word that is to be a name stands for
abbrev pub resolved : Table → List ℕ → Result ℕ Why
resolved table word = meant table (name_of word)
