-- The instructions of the routine (or the caller's entry) that locked a slot which is locked at a place: from each of
-- them a path leads to the place on which the slot stays locked.
use Rattle.std.specs.Prelude.{◌≡◌, ℕ, zero, suc, ◌+◌, Bool, true, false, ◌&&◌, ◌||◌, not, nat_lt, if◌then◌else◌, Some, None, slice_get, ◌↔◌, Option, IfSome, is_some}
use Rattle.geos_explain.specs.Below.{KnownPlace, places, Row, start_of, after, has_edge, is_empty, slot_state, Edge, Back, end_of, step_by, Leads}
use Rattle.geos_explain.specs.declared.since.Since.{Since}
use Rattle.geos_explain.specs.Led.{leads}
use Rattle.geos_explain.specs.Lost.{ComesTo}
use Rattle.geos_explain.specs.Places.{Place, comes_alike, is_inside}

-- the slot is locked in a row
abbrev pub holds : Row → ℕ → Bool
holds row a = not (is_empty (slot_state row a))

-- control takes an edge of an instruction exactly if it reaches the place, and the slot is locked after the edge
abbrev pub keeps_along : Place → ℕ → Edge → KnownPlace → Bool
keeps_along place a edge point =
    comes_alike place edge.from && has_edge point.instr edge.branch && holds (after place.image edge.from point.row edge.branch) a

-- an edge of the place's routine before which and after which the slot is locked
unfoldable pub stays_held : Place → ℕ → Edge → Bool
stays_held place a edge = elim (slice_get (places place.image) edge.from) [
  | None ↦ false
  | Some point ↦ is_inside place edge.from && holds point.row a && keeps_along place a edge point
]

-- whether a path leads from a pc to the place on which the slot stays locked
abbrev pub is_held_from : Place → ℕ → ℕ → Bool
is_held_from place a pc = leads place.image Back (λ edge end. stays_held place a edge) place.pc pc

-- control takes an edge, after which the slot is locked, and from its end such a path leads to the place
abbrev pub leads_held : Place → ℕ → Edge → KnownPlace → Bool
leads_held place a edge point = is_held_from place a (end_of edge point.instr) && keeps_along place a edge point

-- the same for one of the two edges of an instruction
abbrev pub leads_on : Place → ℕ → ℕ → KnownPlace → Bool
leads_on place a from point =
    leads_held place a (record { from = from; branch = false }) point || leads_held place a (record { from = from; branch = true }) point

-- an instruction fills the slot: the slot is empty before it, and after it such a path leads to the place
unfoldable pub fills_at : Place → ℕ → ℕ → Bool
fills_at place a from = elim (slice_get (places place.image) from) [
  | None ↦ false
  | Some point ↦ not (holds point.row a) && leads_on place a from point
]

-- which of two such instructions the explanation names: the last one before a pc, otherwise the first
abbrev pub named_of : ℕ → Option ℕ → ℕ → ℕ
named_of pc None from = from
named_of pc (Some last) from = if nat_lt from pc then from else last

-- adds an instruction, if it fills the slot, to what was found
abbrev pub also : ℕ → Since → ℕ → Bool → Since
also pc since from here =
    if here then record { entry = since.entry; from = Some (named_of pc since.from from); again = is_some since.from } else since

-- the caller passes the slot locked, and from the first instruction of the routine such a path leads to the place
abbrev pub since_entry : Place → ℕ → Bool
since_entry place a = holds place.routine.entry a && is_held_from place a (start_of place.image.routines place.r)

-- where the slot was locked: in the caller, or at one of the first n instructions of the routine
unfoldable pub since_below : Place → ℕ → ℕ → Since
since_below place a zero = record { entry = since_entry place a; from = None; again = false }
since_below place a (suc n) =
    let from = start_of place.image.routines place.r + n in also place.pc (since_below place a n) from (fills_at place a from)

-- where the slot was locked: in the caller, or at an instruction of the routine
abbrev pub held_since : Place → ℕ → Since
held_since place a = since_below place a place.routine.count

-- The same statements as relations on paths

-- an instruction is one of the place's routine
abbrev pub IsInside : Place → ℕ → Type 0
IsInside place from = is_inside place from ≡ true

-- a path leads from a pc to the place on which the slot stays locked
abbrev pub IsHeldFrom : Place → ℕ → ℕ → Type 0
IsHeldFrom place a pc = Leads (step_by place.image Back (λ edge end. stays_held place a edge)) place.pc pc

-- an instruction of the routine locks the slot: the slot is empty before it and locked after one of its edges. From
-- the end of this edge a path leads to the place on which the slot stays locked
pub record IsSince (place : Place) (a from : ℕ) : Type 0 where
  pub inside : IsInside place from
  pub branch : Bool
  pub to : ℕ
  pub comes : ComesTo place (record { from = from; branch = branch }) to
  pub empty : holds comes.point.row a ≡ false
  pub held : holds (after place.image from comes.point.row branch) a ≡ true
  pub way : IsHeldFrom place a to

-- the entry row has the slot locked, and from the first instruction of the routine a path leads to the place on which
-- it stays locked
pub record IsSinceEntry (place : Place) (a : ℕ) : Type 0 where
  pub held : holds place.routine.entry a ≡ true
  pub way : IsHeldFrom place a (start_of place.image.routines place.r)

-- the report about a slot is true and complete: whether the caller locked it; one of the instructions that locked it,
-- if any did; and whether another instruction did too
pub record IsSaidOf (place : Place) (a : ℕ) (since : Since) : Type 0 where
  pub entry : (since.entry ≡ true) ↔ IsSinceEntry place a
  pub from : IfSome since.from (λ from. IsSince place a from)
  pub again : since.again ≡ true → (from other : ℕ) × (since.from ≡ Some from) × IsSince place a other × ((other ≡ from) → ⊥)
  pub once : since.again ≡ false → (other : ℕ) → IsSince place a other → since.from ≡ Some other

-- the same of each slot at each place of an image
abbrev pub WhatIsSaidOfSlotsHolds : Type 0
WhatIsSaidOfSlotsHolds = (place : Place) (a : ℕ) → IsSaidOf place a (held_since place a)
