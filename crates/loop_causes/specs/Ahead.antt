-- Paths in routines without back edges, and the steps on them.
use Rattle.std.specs.Prelude.{◌≡◌, ◌≤◌, ◌<◌, ◌+◌, ◌⊎◌, ℕ, Bool, List, [], ◌∷◌, slice_index}
use Rattle.geos_image.specs.Parts.{Parts}
use Rattle.geos_code.specs.Code.{IsPcOf, TargetAhead}
use Rattle.geos_counters.specs.Steps.{most_steps, taken_at}
use Rattle.geos_code.specs.Edges.{LeadsTo}

-- each edge of routine r to a target within it is a forward edge
abbrev pub OnlyAhead : Parts → ℕ → Type 0
OnlyAhead image r = (pc : ℕ) → IsPcOf image r pc → TargetAhead image r pc

-- from a pc of routine r control can follow these edges, and takes so many steps, those of the last instruction
-- included. Each edge says whether it leads to a target; tests and LOOPs may take both of their edges.
abbrev pub TakesAlong : Parts → ℕ → ℕ → List Bool → ℕ → Type 0
TakesAlong image r pc [] steps = IsPcOf image r pc × (steps ≡ taken_at image pc)
TakesAlong image r pc (branch ∷ branches) steps = (next : ℕ) × (rest : ℕ) × IsPcOf image r pc × LeadsTo image pc branch next
    × TakesAlong image r next branches rest × (steps ≡ taken_at image pc + rest)

-- routine r has only forward edges, and some path has more steps than a potential can say; LOOPs may take both of
-- their edges
pub record MayPass (image : Parts) (r : ℕ) : Type 0 where
  pub ahead : OnlyAhead image r
  pub from : ℕ
  pub branches : List Bool
  pub steps : ℕ
  pub takes : TakesAlong image r from branches steps
  pub past : most_steps < steps

-- routine r has only forward edges, and no path has more steps than a potential can say
pub record NonePasses (image : Parts) (r : ℕ) : Type 0 where
  pub ahead : OnlyAhead image r
  pub few : (from : ℕ) (branches : List Bool) (steps : ℕ) → TakesAlong image r from branches steps → steps ≤ most_steps

-- What is measured

-- the instruction at a pc has an edge to a pc of routine r, from which so many steps are left according to a table
pub record GoesOn (image : Parts) (r pc : ℕ) (branch : Bool) (longest : List ℕ) (rest : ℕ) : Type 0 where
  pub to : ℕ
  pub leads : LeadsTo image pc branch to
  pub stays : IsPcOf image r to
  pub is : rest ≡ slice_index longest to

-- the steps that are left after an edge of routine r, according to a table; 0 if there is no such edge
pub record IsLongestOver (image : Parts) (r pc : ℕ) (branch : Bool) (longest : List ℕ) (rest : ℕ) : Type 0 where
  pub most : (to : ℕ) → LeadsTo image pc branch to → IsPcOf image r to → slice_index longest to ≤ rest
  pub some : (rest ≡ 0) ⊎ GoesOn image r pc branch longest rest

-- the most steps from a pc of routine r, according to a table of those at the ends of its edges; some path takes as
-- many
pub record IsLongestFrom (image : Parts) (r pc : ℕ) (longest : List ℕ) (steps : ℕ) : Type 0 where
  pub rest : ℕ
  pub is : steps ≡ taken_at image pc + rest
  pub most : (to : ℕ) (branch : Bool) → LeadsTo image pc branch to → IsPcOf image r to → slice_index longest to ≤ rest
  pub some : (rest ≡ 0) ⊎ ((branch : Bool) × GoesOn image r pc branch longest rest)
