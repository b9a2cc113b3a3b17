-- What rows of the table say, and what a row that is written changes.
use Rattle.std.proofs.Common.{◌≡◌, ℕ, zero, suc, ◌+◌, ◌-◌, ◌<◌, ◌≤◌, List, [], ◌∷◌, length, Option, Some, None, slice_index_or, slice_set, refl, ap, sym, subst, ◌∙◌, inl, inr, arith}
use Rattle.std.proofs.lemmas.Bool.Decides.{nat_tests}
use Rattle.std.proofs.lemmas.Bool.{cases_lt}
use Rattle.std.proofs.lemmas.List.{get_or_read, length-map, map-set}
use Rattle.std.specs.Prelude.{IfSome, IsSomeAnd}
use Rattle.block_handles.specs.declared.table.Entry.{Entry}
use Rattle.block_handles.specs.declared.table.Row.{Row}
use Rattle.block_handles.specs.Rows.{HasSize, IsEntry, IsLocked, entries_in, entry_in, free_row}

-- what a row says where its slot is in use
abbrev pub said : Row → Entry
said row = record { place = row.place; size = row.size; locks = 65535 - row.left }

pub some-row : (row : Row) → 0 < row.size + row.left → entry_in row ≡ Some (said row)
some-row row used = grind (arith, nat_tests)

pub none-row : (row : Row) → row.size + row.left ≡ 0 → entry_in row ≡ None
none-row row free = grind (arith, nat_tests)

pub row-used : (row : Row) → IsEntry (entry_in row) → 0 < row.size + row.left
row-used row is = elim (cases_lt 0 (row.size + row.left)) as (λ _. 0 < row.size + row.left) [
  | inl used ↦ used
  | inr free ↦ absurd (subst IsEntry (none-row row (omega (arith, free))) is)
]

-- the entry of a slot is that of its row
pub row-entry : (rows : List Row) (i : ℕ) (row : Row) → i < length rows → row ≡ slice_index_or rows i row
    → slice_index_or (entries_in rows) i None ≡ entry_in row
row-entry [] i row small is = absurd (omega (arith, small))
row-entry (x ∷ rows) zero row small is = ap entry_in (sym is)
row-entry (x ∷ rows) (suc i) row small is = row-entry rows i row (omega (arith, small)) is

-- a row that is written is the entry that it says
pub row-set : (rows : List Row) (i : ℕ) (row : Row) (o : Option Entry) → entry_in row ≡ o
    → entries_in (slice_set rows i row) ≡ slice_set (entries_in rows) i o
row-set rows i row o is = map-set entry_in rows i row ∙ ap (slice_set (entries_in rows) i) is

-- a slot that is in use is within the table
pub entry-within : (seen : List (Option Entry)) (i : ℕ) → IsEntry (slice_index_or seen i None) → i < length seen
entry-within [] i h = absurd h
entry-within (o ∷ seen) zero h = omega arith
entry-within (o ∷ seen) (suc i) h = omega (arith, entry-within seen i h)

-- rows of free slots say no entry
pub none-at : (rows : List Row) → ((i : ℕ) → slice_index_or rows i free_row ≡ free_row) → (i : ℕ)
    → slice_index_or (entries_in rows) i None ≡ None
none-at [] each i = refl
none-at (row ∷ rows) each zero = ap entry_in (each 0)
none-at (row ∷ rows) each (suc i) = none-at rows (λ j. each (suc j)) i

-- a row of a table that is seen as this
module _ (rows : List Row) (seen : List (Option Entry)) (view : entries_in rows ≡ seen) (i : ℕ) where
  pub within-rows : i < length seen → i < length rows
  within-rows small = omega (arith, small, ap length view, length-map rows entry_in)

  pub set-seen : (row : Row) (o : Option Entry) → entry_in row ≡ o → entries_in (slice_set rows i row) ≡ slice_set seen i o
  set-seen row o is = row-set rows i row o is ∙ ap (λ t. slice_set t i o) view

  module _ (row : Row) (small : i < length seen) (read : row ≡ slice_index_or rows i row) where
    pub seen-at : slice_index_or seen i None ≡ entry_in row
    seen-at = ap (λ t. slice_index_or t i None) (sym view) ∙ row-entry rows i row (within-rows small) read

    -- two looks at a row find the same
    pub same-row : (other : Row) → other ≡ slice_index_or rows i other → row ≡ other
    same-row other read' = get_or_read rows i row (within-rows small) read free_row
        ∙ sym (get_or_read rows i other (within-rows small) read' free_row)

    -- a row in use is written
    pub change-seen : IsEntry (slice_index_or seen i None) → (new : Row) (change : Entry → Entry)
        → (0 < row.size + row.left → entry_in new ≡ Some (change (said row)))
        → IfSome (slice_index_or seen i None) (λ e. entries_in (slice_set rows i new) ≡ slice_set seen i (Some (change e)))
    change-seen used new change is =
        let some : 0 < row.size + row.left = row-used row (subst IsEntry seen-at used) in
        subst (λ o. IfSome o (λ e. entries_in (slice_set rows i new) ≡ slice_set seen i (Some (change e))))
        (sym (seen-at ∙ some-row row some)) (set-seen new (Some (change (said row))) (is some))

    -- a lock is taken
    pub lock-seen : 0 < row.left → row.left ≤ 65535 → HasSize (slice_index_or seen i None)
        → IsSomeAnd (slice_index_or seen i None) (λ e. (e.locks < 65535)
        × (entries_in (slice_set rows i (record row { left = row.left - 1 })) ≡ slice_set seen i (Some (record e { locks = e.locks + 1 }))))
    lock-seen left most sized =
        let new : Row = record row { left = row.left - 1 } in
        let at : slice_index_or seen i None ≡ Some (said row) = seen-at ∙ some-row row (omega (arith, left)) in
        let big : 0 < row.size = subst HasSize at sized in
        let count : 65535 - (row.left - 1) ≡ 65535 - row.left + 1 = omega (arith, left, most) in
        let is : entry_in new ≡ Some (record { place = row.place; size = row.size; locks = 65535 - row.left + 1 }) =
        some-row new (omega (arith, big)) ∙ ap (λ n. Some (record { place = row.place; size = row.size; locks = n })) count in
        subst (λ o. IsSomeAnd o (λ e. (e.locks < 65535)
        × (entries_in (slice_set rows i new) ≡ slice_set seen i (Some (record e { locks = e.locks + 1 })))))
        (sym at) (omega (arith, left), set-seen new _ is)

-- a block that is locked is there
pub locked-entry : (o : Option Entry) → IsLocked o → IsEntry o
locked-entry (Some e) h = tt
locked-entry None h = h
