-- Which refusals the explanation reports only once.
use Rattle.std.specs.Prelude.{◌≡◌, ◌<◌, ◌⊎◌, ℕ, Bool, true, false, ◌&&◌, nat_lt, List, Option, Some, None, length, slice_get, slice_index_or}
use Rattle.geos_explain.specs.Below.{Edge, end_in, IsInto, Row, Parts, KnownPlace, Rule, NamesEmptySlot, places, fits}
use Rattle.geos_explain.specs.Told.{rule_at}
use Rattle.geos_explain.specs.Uses.{leading_nowhere}

-- a rule is the one on empty slots
abbrev pub is_of_empty_slot : Option Rule → Bool
is_of_empty_slot (Some NamesEmptySlot) = true
is_of_empty_slot _ = false

-- the rule on empty slots is the rule reported at a pc
abbrev pub names_empty_slot : List (Option Rule) → ℕ → Bool
names_empty_slot refused pc = is_of_empty_slot (rule_at refused pc)

-- an edge comes from an instruction that this rule refuses, and that has every pointer into an empty slot that the
-- row has
unfoldable pub brings : Parts → List (Option Rule) → Row → Edge → Bool
brings image refused row edge = elim (slice_get (places image) edge.from) [
  | None ↦ false
  | Some from ↦ names_empty_slot refused edge.from && fits (leading_nowhere from.row) (leading_nowhere row)
]

-- an edge leads forward
abbrev pub leads_ahead : Edge → ℕ → Bool
leads_ahead edge end = nat_lt edge.from end

-- an edge leads forward to a pc, and each edge to this pc comes from an instruction that reports the row's pointers
-- into empty slots
pub record ComesFromTold (image : Parts) (refused : List (Option Rule)) (row : Row) (pc : ℕ) : Type 0 where
  pub before : Edge
  pub ahead : IsInto image leads_ahead pc before
  pub each : (edge : Edge) → end_in image edge ≡ Some pc → brings image refused row edge ≡ true

-- the rule on empty slots refuses the instruction at a pc only for pointers that were reported before
pub record IsRepeated (image : Parts) (refused : List (Option Rule)) (pc : ℕ) : Type 0 where
  pub here : names_empty_slot refused pc ≡ true
  pub known : KnownPlace
  pub there : slice_get (places image) pc ≡ Some known
  pub comes : ComesFromTold image refused known.row pc

-- the rule reported at a pc: none if its refusal is repeated, otherwise the rule that refuses
abbrev pub IsToldOnce : Parts → List (Option Rule) → ℕ → Option Rule → Type 0
IsToldOnce image refused pc rule =
    (IsRepeated image refused pc × (rule ≡ None)) ⊎ ((IsRepeated image refused pc → ⊥) × (rule ≡ slice_index_or refused pc None))

-- the same at each pc
pub record TellsOnce (image : Parts) (refused told : List (Option Rule)) : Type 0 where
  pub long : length told ≡ length image.points
  pub each : (pc : ℕ) → pc < length image.points → IsToldOnce image refused pc (slice_index_or told pc None)

-- the rule on empty slots is reported at an earlier pc, for every pointer into an empty slot that this row has
pub record IsToldBefore (image : Parts) (told : List (Option Rule)) (row : Row) (pc : ℕ) : Type 0 where
  pub from : ℕ
  pub less : from < pc
  pub known : KnownPlace
  pub there : slice_get (places image) from ≡ Some known
  pub is : names_empty_slot told from ≡ true
  pub same : fits (leading_nowhere known.row) (leading_nowhere row) ≡ true

-- each refusal that is left out as repeated was reported at an earlier pc
abbrev pub RepeatedIsToldBefore : Type 0
RepeatedIsToldBefore =
    (image : Parts) (refused told : List (Option Rule)) (pc : ℕ) → TellsOnce image refused told → (repeated : IsRepeated image refused pc)
    → IsToldBefore image told repeated.known.row pc
