-- A row that is read is one that an image may have.
use Rattle.std.proofs.Common.{◌≡◌, ◌<◌, ℕ, true, List, [], ◌∷◌, Option, Some, None, Result, Ok, Err, take, drop, slice_set, codes, refl, subst}
use Rattle.std.specs.List.{list_all}
use Rattle.std.proofs.lemmas.Bool.{and_parts, and_from, lt-ltb}
use Rattle.std.proofs.lemmas.List.{length-set}
use Rattle.geos_image.specs.declared.row.Row.{Row}
use Rattle.geos_image.specs.declared.row.Pointer.{Pointer}
use Rattle.geos_image.specs.declared.row.SlotState.{SlotState}
use Rattle.geos_image.specs.Legal.{is_pointer, is_shaped, is_row}
use Rattle.geos_image.specs.Open.{open_row}
use Rattle.geos_text.specs.Registers.{register_of}
use Rattle.geos_source.specs.declared.fault.Why.{Why}
use Rattle.geos_source.specs.Operands.{numbered}
use Rattle.geos_source.specs.Items.{behind, with_bound, bound_item, slot_state_of, pair_of, with_pair, pair_with, pair_item, with_slot, slot_item, with_pointer, pointer_least, pointer_slot, pointer_item, item_by, item, RowRead, with_item, with_items, row_of}
use Rattle.geos_source.proofs.ReadLaws.{ok_is, unless_faulty_is, list_all-set}
use Rattle.geos_source.proofs.NumbersRead.{register_of-below}

abbrev IsLegal : Row → Type 0
IsLegal row = is_row true row ≡ true

-- what reading answers is legal, if it is a row
abbrev LegalIfRead : Result Row Why → Type 0
LegalIfRead read = (row : Row) → read ≡ Ok row → IsLegal row

read_legal : (row : Row) → IsLegal row → LegalIfRead (Ok row)
read_legal row h next e = subst IsLegal (ok_is row next e) h

not_read : (why : Why) → LegalIfRead (Err why)
not_read why row e = absurd cc

-- Changes of a row

bound_legal : (row : Row) (w bound : ℕ) → IsLegal row → IsLegal (record row { bounds = slice_set row.bounds w bound })
bound_legal row w bound h = rw (length-set row.bounds w bound) h

slot_legal : (row : Row) (s : ℕ) (state : SlotState) → IsLegal row → IsLegal (record row { slots = slice_set row.slots s state })
slot_legal row s state h = rw (length-set row.slots s state) h

pair_legal : (row : Row) (pair : ℕ) → IsLegal row → IsLegal (record row { pairs = slice_set row.pairs pair true })
pair_legal row pair h = rw (length-set row.pairs pair true) h

pointer_legal : (row : Row) (p : ℕ) (pointer : Option Pointer) → is_pointer pointer ≡ true → IsLegal row
    → IsLegal (record row { pointers = slice_set row.pointers p pointer })
pointer_legal row p pointer leads h =
    let changed : Row = record row { pointers = slice_set row.pointers p pointer } in
    let parts = and_parts (is_shaped row) (list_all is_pointer row.pointers) h in
    let shaped : is_shaped changed ≡ true = rw (length-set row.pointers p pointer) parts.0 in
    and_from (is_shaped changed) (list_all is_pointer changed.pointers) shaped (list_all-set is_pointer row.pointers p pointer parts.1 leads)

-- Items

with_bound-legal : (row : Row) (w : ℕ) (bound : Result ℕ Why) → IsLegal row → LegalIfRead (with_bound row w bound)
with_bound-legal row w (Ok bound) h = read_legal _ (bound_legal row w bound h)
with_bound-legal row w (Err why) h = not_read why

bound_item-legal : (row : Row) (w : ℕ) (digits : Option (List ℕ)) → IsLegal row → LegalIfRead (bound_item row w digits)
bound_item-legal row w None h = not_read _
bound_item-legal row w (Some digits) h = with_bound-legal row w (numbered 65535 digits) h

with_pair-legal : (row : Row) (pair : Option ℕ) → IsLegal row → LegalIfRead (with_pair row pair)
with_pair-legal row None h = not_read _
with_pair-legal row (Some pair) h = read_legal _ (pair_legal row pair h)

pair_with-legal : (row : Row) (s : ℕ) (t : Option ℕ) → IsLegal row → LegalIfRead (pair_with row s t)
pair_with-legal row s None h = not_read _
pair_with-legal row s (Some t) h = with_pair-legal row (pair_of s t) h

pair_item-legal : (row : Row) (s : ℕ) (word : Option (List ℕ)) → IsLegal row → LegalIfRead (pair_item row s word)
pair_item-legal row s None h = not_read _
pair_item-legal row s (Some word) h = pair_with-legal row s (register_of 115 4 word) h

with_slot-legal : (row : Row) (s : ℕ) (state : Option SlotState) → IsLegal row → LegalIfRead (with_slot row s state)
with_slot-legal row s None h = not_read _
with_slot-legal row s (Some state) h = read_legal _ (slot_legal row s state h)

slot_item-legal : (row : Row) (s : ℕ) (rest : List ℕ) (word : Option (List ℕ)) → IsLegal row → LegalIfRead (slot_item row s rest word)
slot_item-legal row s rest None h = pair_item-legal row s (behind (codes "#") rest) h
slot_item-legal row s rest (Some word) h = with_slot-legal row s (slot_state_of word) h

with_pointer-legal : (row : Row) (p s : ℕ) (least : Result ℕ Why) → s < 4 → IsLegal row → LegalIfRead (with_pointer row p s least)
with_pointer-legal row p s (Ok least) lt h = read_legal _ (pointer_legal row p (Some (record { slot = s; least = least })) (lt-ltb s 4 lt) h)
with_pointer-legal row p s (Err why) lt h = not_read why

pointer_least-legal : (row : Row) (p s : ℕ) (digits : Option (List ℕ)) → s < 4 → IsLegal row → LegalIfRead (pointer_least row p s digits)
pointer_least-legal row p s None lt h = not_read _
pointer_least-legal row p s (Some digits) lt h = with_pointer-legal row p s (numbered 65535 digits) lt h

pointer_slot-legal : (row : Row) (p : ℕ) (slot : Option ℕ) (rest : List ℕ) → ((s : ℕ) → slot ≡ Some s → s < 4) → IsLegal row
    → LegalIfRead (pointer_slot row p slot rest)
pointer_slot-legal row p None rest below h = not_read _
pointer_slot-legal row p (Some s) rest below h = pointer_least-legal row p s (behind (codes ":") rest) (below s refl) h

pointer_item-legal : (row : Row) (p : ℕ) (word : Option (List ℕ)) → IsLegal row → LegalIfRead (pointer_item row p word)
pointer_item-legal row p None h = not_read _
pointer_item-legal row p (Some word) h =
    pointer_slot-legal row p (register_of 115 4 (take 2 word)) (drop 2 word) (register_of-below 115 4 (take 2 word)) h

item_by-legal : (row : Row) (word slot pointer : Option ℕ) (rest : List ℕ) → IsLegal row → LegalIfRead (item_by row word slot pointer rest)
item_by-legal row (Some w) slot pointer rest h = bound_item-legal row w (behind (codes "<=") rest) h
item_by-legal row None (Some s) pointer rest h = slot_item-legal row s rest (behind (codes "=") rest) h
item_by-legal row None None (Some p) rest h = pointer_item-legal row p (behind (codes "=") rest) h
item_by-legal row None None None rest h = not_read _

pub item-legal : (row next : Row) (word : List ℕ) → is_row true row ≡ true → item row word ≡ Ok next → is_row true next ≡ true
unfolding item
item-legal row next word h e =
    let front = take 2 word in
    item_by-legal row (register_of 119 8 front) (register_of 115 4 front) (register_of 112 4 front) (drop 2 word) h next e

-- Rows

with_item-legal : (answer : Result Row Why) (read : RowRead) → LegalIfRead answer → IsLegal read.row → IsLegal (with_item answer read).row
with_item-legal (Ok row) read made h = made row refl
with_item-legal (Err why) read made h = h

with_items-legal : (words : List (List ℕ)) (read : RowRead) → IsLegal read.row → IsLegal (with_items words read).row
with_items-legal [] read h = h
with_items-legal (word ∷ words) read h =
    with_items-legal words (with_item (item read.row word) read)
    (with_item-legal (item read.row word) read (λ next e. item-legal read.row next word h e) h)

-- a row that is read is one that an image may have
pub row_of-legal : (words : List (List ℕ)) (row : Row) → row_of words ≡ Ok row → is_row true row ≡ true
unfolding row_of
row_of-legal words row e =
    let start : RowRead = record { row = open_row; fault = None } in
    let read = with_items words start in
    let made = unless_faulty_is read.row row read.fault e in
    subst IsLegal made.1 (with_items-legal words start refl)
