-- The order in which rows flow through the places of a routine, and which places wait.
use Rattle.std.specs.Prelude.{◌≡◌, ◌≤◌, ◌<◌, ◌⊎◌, ℕ, Bool, true, false, None, Some, slice_get, slice_index_or}
use Rattle.geos_rows.specs.declared.order.Order.{Order}
use Rattle.geos_rows.specs.declared.waiting.Waiting.{Waiting}

-- the pc at a position in the order
abbrev pub place_at : Order → ℕ → ℕ
place_at order turn = elim (slice_get order.places turn) [ None ↦ 0 | Some place ↦ place.pc ]

-- the position of a pc in the order
abbrev pub turn_at : Order → ℕ → ℕ
turn_at order pc = elim (slice_get order.turns pc) [ None ↦ 0 | Some turn ↦ turn.turn ]

-- the search has found a path to the place
abbrev pub is_seen : Order → ℕ → Bool
is_seen order pc = slice_index_or order.seen pc false

-- places to which a path was found stay so
abbrev pub StaySeen : Order → Order → Type 0
StaySeen old next = (pc : ℕ) → is_seen old pc ≡ true → is_seen next pc ≡ true

-- each pc still has its old position, or has one below n; the positions that are left are below n
pub record TurnsWithin (n : ℕ) (old next : Order) : Type 0 where
  pub left : next.left ≤ n
  pub turns : (pc : ℕ) → (turn_at next pc ≡ turn_at old pc) ⊎ (turn_at next pc < n)

-- a pc waits: its position in the order is flagged
abbrev pub Waits : Waiting → ℕ → Type 0
Waits waiting pc = slice_index_or waiting.waits (turn_at waiting.order pc) false ≡ true

-- no position is flagged, and each weakened row is an exact join
pub record NoneWaits (waiting : Waiting) : Type 0 where
  pub none : (turn : ℕ) → slice_index_or waiting.waits turn false ≡ false
  pub joined : waiting.widened ≡ false
