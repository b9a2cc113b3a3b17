-- Whether a path leads from one pc to another, and which instructions control reaches.
use Rattle.std.specs.Prelude.{◌≡◌, ◌<◌, ◌↔◌, ◌⊎◌, ℕ, zero, suc, Bool, true, false, ◌&&◌, ◌||◌, List, length, slice_get}
use Rattle.std.proofs.Common.{inl, inr}
use Rattle.geos_flow.proofs.Deciding.{below-or-not, leads-or-not}
use Rattle.geos_explain.specs.Below.{option_map_or, Parts, start_of, has_place, Edge, Heading, Ahead, step_by, Leads, is_marked}

-- the truth value of a decided proposition
abbrev pub decided : {P : Type 0} → P ⊎ (P → ⊥) → Bool
decided (inl so) = true
decided (inr not_so) = false

-- whether a path of the image's edges that count leads from one pc to another
unfoldable pub leads : Parts → Heading → (Edge → ℕ → Bool) → ℕ → ℕ → Bool
leads image heading counts start pc = decided (leads-or-not image heading counts start pc)

-- a pc is that of an instruction of routine r
abbrev pub lies_in : Parts → ℕ → ℕ → Bool
lies_in image r pc = option_map_or (λ routine. has_place (start_of image.routines r) routine.count pc) (slice_get image.routines r) false

-- two pcs are those of instructions of one of the first n routines
unfoldable pub are_in_one : Parts → ℕ → ℕ → ℕ → Bool
are_in_one image pc other zero = false
are_in_one image pc other (suc n) = are_in_one image pc other n || (lies_in image n pc && lies_in image n other)

-- an edge stays in a routine
abbrev pub stays : Parts → Edge → ℕ → Bool
stays image edge end = are_in_one image edge.from end (length image.routines)

-- the first instruction of each of the first n routines is marked, and no other pc
abbrev pub MarksStarts : Parts → ℕ → List Bool → Type 0
MarksStarts image n marks = (pc : ℕ) → (is_marked marks pc ≡ true) ↔ ((r : ℕ) × (r < n) × (start_of image.routines r ≡ pc))

-- a path that stays in routines leads to a pc from the first instruction of routine r
abbrev pub LeadsFrom : Parts → ℕ → ℕ → Type 0
LeadsFrom image pc r = Leads (step_by image Ahead (stays image)) (start_of image.routines r) pc

-- whether control reaches a pc: such a path leads to it from the first instruction of some routine
unfoldable pub is_reached : Parts → ℕ → Bool
is_reached image pc =
    decided (below-or-not (LeadsFrom image pc) (λ r. leads-or-not image Ahead (stays image) (start_of image.routines r) pc) (length image.routines))
