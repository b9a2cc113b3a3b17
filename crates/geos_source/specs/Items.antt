-- The items of the lines `in` and `out`.
use Rattle.std.specs.Prelude.{ℕ, ◌-◌, ◌+◌, true, false, ◌==◌, nat_lt, if◌then◌else◌, List, [], ◌∷◌, length, take, drop, slice_set, codes, bytes_eq, Option, Some, None, Result, Ok, Err}
use Rattle.geos_image.specs.declared.row.Row.{Row}
use Rattle.geos_image.specs.declared.row.SlotState.{SlotState}
use Rattle.geos_image.specs.declared.row.SlotState.TheVariants.{Mem, Vm, Db}
use Rattle.geos_image.specs.Open.{open_row}
use Rattle.geos_text.specs.Registers.{register_of}
use Rattle.geos_source.specs.declared.fault.Why.{Why}
use Rattle.geos_source.specs.declared.fault.Why.TheVariants.{WrongOperands}
use Rattle.geos_source.specs.Faults.{least}
use Rattle.geos_source.specs.Operands.{numbered, unless_faulty}

-- what follows a mark, if the word begins with it
abbrev pub behind : List ℕ → List ℕ → Option (List ℕ)
behind mark word = if bytes_eq (take (length mark) word) mark then Some (drop (length mark) word) else None

-- the row with a word's bound, if it is read
abbrev pub with_bound : Row → ℕ → Result ℕ Why → Result Row Why
with_bound row w (Ok bound) = Ok (record row { bounds = slice_set row.bounds w bound })
with_bound row w (Err why) = Err why

-- `w0<=9`: a word's bound
abbrev pub bound_item : Row → ℕ → Option (List ℕ) → Result Row Why
bound_item row w None = Err WrongOperands
bound_item row w (Some digits) = with_bound row w (numbered 65535 digits)

-- what a slot holds
abbrev pub slot_state_of : List ℕ → Option SlotState
slot_state_of word =
    if bytes_eq word (codes "mem") then Some Mem
    else if bytes_eq word (codes "vm") then Some (Vm false false)
    else if bytes_eq word (codes "vm!") then Some (Vm true false)
    else if bytes_eq word (codes "vm@") then Some (Vm false true)
    else if bytes_eq word (codes "vm@!") then Some (Vm true true)
    else if bytes_eq word (codes "db") then Some (Db false)
    else if bytes_eq word (codes "db!") then Some (Db true)
    else None

-- the place of a pair of slots among the six, the lower one first
abbrev pub pair_place : ℕ → ℕ → ℕ
pair_place low high = if low == 0 then high - 1 else if low == 1 then high + 1 else 5

-- the pair of two different slots, in either order
abbrev pub pair_of : ℕ → ℕ → Option ℕ
pair_of s t = if nat_lt s t then Some (pair_place s t) else if nat_lt t s then Some (pair_place t s) else None

-- the row with a pair that is known to differ, if it is one
abbrev pub with_pair : Row → Option ℕ → Result Row Why
with_pair row None = Err WrongOperands
with_pair row (Some pair) = Ok (record row { pairs = slice_set row.pairs pair true })

-- the pair with the slot of the other word, if it is one
abbrev pub pair_with : Row → ℕ → Option ℕ → Result Row Why
pair_with row s None = Err WrongOperands
pair_with row s (Some t) = with_pair row (pair_of s t)

-- `s0#s1`: two slots that hold different blocks
abbrev pub pair_item : Row → ℕ → Option (List ℕ) → Result Row Why
pair_item row s None = Err WrongOperands
pair_item row s (Some word) = pair_with row s (register_of 115 4 word)

-- the row with what a slot holds, if it is known
abbrev pub with_slot : Row → ℕ → Option SlotState → Result Row Why
with_slot row s None = Err WrongOperands
with_slot row s (Some state) = Ok (record row { slots = slice_set row.slots s state })

-- `s0=mem`: what a slot holds
abbrev pub slot_item : Row → ℕ → List ℕ → Option (List ℕ) → Result Row Why
slot_item row s rest None = pair_item row s (behind (codes "#") rest)
slot_item row s rest (Some word) = with_slot row s (slot_state_of word)

-- the row with a pointer into a slot, if its least length is read
abbrev pub with_pointer : Row → ℕ → ℕ → Result ℕ Why → Result Row Why
with_pointer row p s (Ok least) = Ok (record row { pointers = slice_set row.pointers p (Some (record { slot = s; least = least })) })
with_pointer row p s (Err why) = Err why

-- the row with the least length after the `:` of a pointer, if there is one
abbrev pub pointer_least : Row → ℕ → ℕ → Option (List ℕ) → Result Row Why
pointer_least row p s None = Err WrongOperands
pointer_least row p s (Some digits) = with_pointer row p s (numbered 65535 digits)

-- the slot that a pointer leads into, if it is one
abbrev pub pointer_slot : Row → ℕ → Option ℕ → List ℕ → Result Row Why
pointer_slot row p None rest = Err WrongOperands
pointer_slot row p (Some s) rest = pointer_least row p s (behind (codes ":") rest)

-- `p0=s0:8`: the slot that a pointer leads into, and its least length
abbrev pub pointer_item : Row → ℕ → Option (List ℕ) → Result Row Why
pointer_item row p None = Err WrongOperands
pointer_item row p (Some word) = pointer_slot row p (register_of 115 4 (take 2 word)) (drop 2 word)

-- an item by the register that it begins with: a word, a slot or a pointer
abbrev pub item_by : Row → Option ℕ → Option ℕ → Option ℕ → List ℕ → Result Row Why
item_by row (Some w) slot pointer rest = bound_item row w (behind (codes "<=") rest)
item_by row None (Some s) pointer rest = slot_item row s rest (behind (codes "=") rest)
item_by row None None (Some p) rest = pointer_item row p (behind (codes "=") rest)
item_by row None None None rest = Err WrongOperands

-- the row with what an item says of it
unfoldable pub item : Row → List ℕ → Result Row Why
item row word =
    let front = take 2 word in
    item_by row (register_of 119 8 front) (register_of 115 4 front) (register_of 112 4 front) (drop 2 word)

-- a row that items have changed, and the least fault among them
pub record RowRead : Type 0 where
  pub row : Row
  pub fault : Option Why

-- what was read so far, with one more item
abbrev pub with_item : Result Row Why → RowRead → RowRead
with_item (Ok row) read = record read { row = row }
with_item (Err why) read = record read { fault = least read.fault (Some why) }

-- items change the row in turn, so of two for one field the later counts
abbrev pub with_items : List (List ℕ) → RowRead → RowRead
with_items [] read = read
with_items (word ∷ words) read = with_items words (with_item (item read.row word) read)

-- the row that the items of a line say
unfoldable pub row_of : List (List ℕ) → Result Row Why
row_of words = let read = with_items words (record { row = open_row; fault = None }) in unless_faulty read.row read.fault
