-- How a row is written: by the items in which it differs from the open row.
use Rattle.std.specs.Prelude.{ℕ, zero, suc, Bool, true, false, ◌==◌, if◌then◌else◌, List, [], ◌∷◌, ◌++◌, length, Option, Some, None, slice_index, slice_index_or, codes, decimal}
use Rattle.geos_image.specs.declared.row.Row.{Row}
use Rattle.geos_image.specs.declared.row.Pointer.{Pointer}
use Rattle.geos_image.specs.declared.row.SlotState.{SlotState}
use Rattle.geos_image.specs.declared.row.SlotState.TheVariants.{Empty, Mem, Vm, Db}

-- the texts of the numbers below n, one after another
unfoldable pub texts_below : ℕ → (ℕ → List ℕ) → List ℕ
texts_below zero text = []
texts_below (suc n) text = texts_below n text ++ text n

-- a word's bound, unless it is the greatest word
abbrev pub bound_item : ℕ → ℕ → List ℕ
bound_item i bound = if bound == 65535 then [] else codes " w" ++ decimal i ++ codes "<=" ++ decimal bound

-- a slot that is not empty, and what it contains
abbrev pub held_item : ℕ → List ℕ → List ℕ
held_item i word = codes " s" ++ decimal i ++ codes "=" ++ word

-- what a slot holds, in a word; `@` says that it is borrowed from the routine's caller, and `!` that it is marked
abbrev pub state_word : SlotState → List ℕ
state_word Empty = codes "empty"
state_word Mem = codes "mem"
state_word (Vm marked false) = if marked then codes "vm!" else codes "vm"
state_word (Vm marked true) = if marked then codes "vm@!" else codes "vm@"
state_word (Db marked) = if marked then codes "db!" else codes "db"

-- what a slot holds, unless it is empty
abbrev pub slot_item : ℕ → SlotState → List ℕ
slot_item i Empty = []
slot_item i state = held_item i (state_word state)

-- where a pointer leads, and its least length, unless nothing is known of it
abbrev pub pointer_item : ℕ → Option Pointer → List ℕ
pointer_item i None = []
pointer_item i (Some p) = codes " p" ++ decimal i ++ codes "=s" ++ decimal p.slot ++ codes ":" ++ decimal p.least

-- two slots, if they are known to hold different blocks
abbrev pub pair_item : ℕ × ℕ → Bool → List ℕ
pair_item pair false = []
pair_item pair true = codes " s" ++ decimal pair.0 ++ codes "#s" ++ decimal pair.1

-- the slots of each pair of a row
abbrev pub pair_slots : List (ℕ × ℕ)
pair_slots = (0, 1) ∷ (0, 2) ∷ (0, 3) ∷ (1, 2) ∷ (1, 3) ∷ (2, 3) ∷ []

-- the pairs below n that are known to hold different blocks
abbrev pub pair_items : ℕ → List Bool → List ℕ
pair_items n pairs = texts_below n (λ k. pair_item (slice_index_or pair_slots k (0, 0)) (slice_index_or pairs k false))

-- the items in which a row differs from the open row: bounds, slots, pointers and pairs
unfoldable pub row_items : Row → List ℕ
row_items row =
    texts_below 8 (λ i. bound_item i (slice_index row.bounds i))
    ++ texts_below 4 (λ i. slot_item i (slice_index_or row.slots i Empty))
    ++ texts_below 4 (λ i. pointer_item i (slice_index_or row.pointers i None))
    ++ pair_items 6 row.pairs

-- the line of a row, which begins with a word; none for the open row
abbrev pub row_line : List ℕ → Row → List ℕ
row_line word row = if length (row_items row) == 0 then [] else word ++ row_items row ++ codes "\n"
