-- The calls on the chunks of one locked block: what each makes of the chunks, and its row in the
-- table of calls.
use Rattle.std.specs.Prelude.{ℕ, Bool, true, false, List, Option}
use Rattle.geos_terms.specs.declared.name.Name.{Name}
use Rattle.geos_terms.specs.Edits.{Edit, Part, alloc, free, realloc, insert_bytes, delete_bytes, size, refer, contract}
use Rattle.geos_terms.specs.ArrayEdits.{create_array, append_element, insert_element, remove_element, count_elements, refer_element, clear_array, resize_element}
use Rattle.geos_calls.specs.declared.call.Change.{Change}
use Rattle.geos_calls.specs.declared.call.Change.TheVariants.{Lfree, Lrealloc, Lins, Ldel, Lcontract, Caadd, Cains, Cadel, Cazero, Caresize}
use Rattle.geos_calls.specs.declared.call.Make.{Make}
use Rattle.geos_calls.specs.declared.call.Make.TheVariants.{Lalloc, Canew}
use Rattle.geos_calls.specs.declared.call.Ask.{Ask}
use Rattle.geos_calls.specs.declared.call.Ask.TheVariants.{Lsize, Cacount}
use Rattle.geos_calls.specs.declared.call.Refer.{Refer}
use Rattle.geos_calls.specs.declared.call.Refer.TheVariants.{Deref, Caelt}
use Rattle.geos_calls.specs.Effects.{Reference, Call}
use Rattle.geos_calls.specs.Calls.{changes, enlarges, reads, refers}

-- what a change makes of the chunks
abbrev pub change_edit : Change → List (Option (List ℕ)) → Edit (Unit {0})
change_edit (Lfree c) = free c
change_edit (Lrealloc c n) = realloc c n
change_edit (Lins c at n) = insert_bytes c at n
change_edit (Ldel c at n) = delete_bytes c at n
change_edit Lcontract = contract
change_edit (Caadd c n) = append_element c n
change_edit (Cains c i n) = insert_element c i n
change_edit (Cadel c i) = remove_element c i
change_edit (Cazero c) = clear_array c
change_edit (Caresize c i n) = resize_element c i n

-- the block may have to grow for it
abbrev pub may_grow : Change → Bool
may_grow (Lrealloc c n) = true
may_grow (Lins c at n) = true
may_grow (Caadd c n) = true
may_grow (Cains c i n) = true
may_grow (Caresize c i n) = true
may_grow _ = false

-- the row of a change of chunks, for which the block may grow or not
abbrev pub row_in : Bool → (List (Option (List ℕ)) → Edit (Unit {0})) → Name → Call (Unit {0})
row_in true edit = enlarges edit
row_in false edit = changes edit

-- the row of a change
abbrev pub change_row : Name → Change → Call (Unit {0})
change_row name change = row_in (may_grow change) (change_edit change) name

-- what a call that makes a chunk makes of the chunks
abbrev pub make_edit : Make → List (Option (List ℕ)) → Edit ℕ
make_edit (Lalloc n) = alloc n
make_edit (Canew k) = create_array k

-- its row
abbrev pub make_row : Name → Make → Call ℕ
make_row name make = enlarges (make_edit make) name

-- what a call that returns a number does to the chunks
abbrev pub ask_edit : Ask → List (Option (List ℕ)) → Edit ℕ
ask_edit (Lsize c) = size c
ask_edit (Cacount c) = count_elements c

-- its row
abbrev pub ask_row : Name → Ask → Call ℕ
ask_row name ask = reads (ask_edit ask) name

-- what a call that refers to bytes refers to
abbrev pub refer_edit : Refer → List (Option (List ℕ)) → Edit Part
refer_edit (Deref c n) = refer c n
refer_edit (Caelt c i n) = refer_element c i n

-- how many bytes the call requires
abbrev pub least : Refer → ℕ
least (Deref c n) = n
least (Caelt c i n) = n

-- its row
abbrev pub refer_row : Name → Refer → Call Reference
refer_row name refer = refers (refer_edit refer) name
