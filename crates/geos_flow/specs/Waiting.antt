-- Which pcs wait to be gone on from.
use Rattle.std.specs.Prelude.{◌≡◌, ◌<◌, ◌≤◌, ◌⊎◌, ◌+◌, ℕ, suc, Bool, true, false, List, [], ◌∷◌, Option, Some, length, slice_index_or}
use Rattle.geos_flow.specs.declared.edge.Edge.{Edge}
use Rattle.geos_flow.specs.declared.waiting.Waiting.{Waiting}
use Rattle.geos_flow.specs.Flow.{Step}

-- the pc is marked
abbrev pub Has : List Bool → ℕ → Type 0
Has marks pc = slice_index_or marks pc false ≡ true

-- how many are marked
unfoldable pub count : List Bool → ℕ
count [] = 0
count (true ∷ marks) = suc (count marks)
count (false ∷ marks) = count marks

-- each that is marked was put in order once
pub record IsKept (waiting : Waiting) : Type 0 where
  pub long : length waiting.marks ≡ 4096
  pub next : waiting.next ≤ waiting.end
  pub end : waiting.end ≡ count waiting.marks
  pub has : (n : ℕ) → n < waiting.end → Has waiting.marks (slice_index_or waiting.order n 0)

-- a pc waits
pub record Waits (waiting : Waiting) (pc : ℕ) : Type 0 where
  pub at : ℕ
  pub from : waiting.next ≤ at
  pub before : at < waiting.end
  pub there : slice_index_or waiting.order at 0 ≡ pc

abbrev pub NoneWaits : Waiting → Type 0
NoneWaits waiting = (pc : ℕ) → Waits waiting pc → ⊥

-- what was marked stays so, and what waited waits; and so does what was not marked before
pub record Extends (old new : Waiting) : Type 0 where
  pub keeps : (k : ℕ) → Has old.marks k → Has new.marks k
  pub waits : (k : ℕ) → Waits old k → Waits new k
  pub fresh : (k : ℕ) → Has new.marks k → Has old.marks k ⊎ Waits new k
  pub next : new.next ≡ old.next

-- the same, and a pc is marked
pub record Notes (pc : ℕ) (old new : Waiting) : Type 0 where
  pub extends : Extends old new
  pub there : Has new.marks pc
  pub was : (k : ℕ) → Has new.marks k → Has old.marks k ⊎ (k ≡ pc)

-- the same, and where the step along an edge from a pc leads is marked
pub record TakesEdge (steps : Edge → Option Step) (edge : Edge) (from : ℕ) (old new : Waiting) : Type 0 where
  pub extends : Extends old new
  pub there : (to : ℕ) → steps edge ≡ Some (record { from = from; to = to }) → Has new.marks to
  pub was : (k : ℕ) → Has new.marks k → Has old.marks k ⊎ (steps edge ≡ Some (record { from = from; to = k }))

-- the same of all edges
pub record GoesOn (steps : Edge → Option Step) (from : ℕ) (old new : Waiting) : Type 0 where
  pub extends : Extends old new
  pub there : (edge : Edge) (to : ℕ) → steps edge ≡ Some (record { from = from; to = to }) → Has new.marks to
  pub was : (k : ℕ) → Has new.marks k → Has old.marks k ⊎ ((edge : Edge) × (steps edge ≡ Some (record { from = from; to = k })))

-- one is taken that waited; the others still wait
pub record TakesNext (old new : Waiting) (pc : ℕ) : Type 0 where
  pub has : Has old.marks pc
  pub marks : new.marks ≡ old.marks
  pub next : new.next ≡ old.next + 1
  pub waits : (k : ℕ) → Waits old k → (k ≡ pc) ⊎ Waits new k
