-- Ranks of the places of a routine, and where counters may not pay.
use Rattle.std.specs.Prelude.{◌≡◌, ◌<◌, ◌+◌, ℕ, Bool, true, false, ◌||◌, ◌==◌, not, List, Some, slice_index}
use Rattle.geos_image.specs.Parts.{Parts, start_of}
use Rattle.geos_potentials.specs.Arcs.{unit_at}
use Rattle.geos_code.specs.Code.{IsPcOf}
use Rattle.geos_counters.specs.Idle.{PassesAt, calls_touching, LeadsIdle}
use Rattle.geos_counters.specs.Trails.{LeadsKeeping}
use Rattle.geos_potentials.specs.declared.classes.Classes.{Classes}

-- ranks rise along each edge of routine r, except the edge to its target of a LOOP whose counter may pay
abbrev pub AllRise : Parts → ℕ → List ℕ → Type 0
AllRise image r ranks = (pc to : ℕ) (branch : Bool) → IsPcOf image r pc → LeadsIdle image r pc branch to → slice_index ranks pc < slice_index ranks to

-- the classes note that counter k may not pay at a pc
abbrev pub noted_idle : Classes → ℕ → ℕ → Bool
noted_idle classes pc k = not (unit_at classes.touched pc k == 0) || not (unit_at classes.unset pc k == 0)

-- if the classes note at a pc that k may not pay, they also note it at the end of an edge that does not change k
abbrev pub GoesOn : Parts → ℕ → Classes → ℕ → Bool → ℕ → Type 0
GoesOn image r classes pc branch k = (to : ℕ) → LeadsKeeping image r (Some k) pc branch to → noted_idle classes pc k ≡ true
    → noted_idle classes to k ≡ true

-- after a call of a routine that touches counter k, the classes note that k may not pay
abbrev pub IsNotedBehind : Parts → ℕ → Classes → ℕ → ℕ → Type 0
IsNotedBehind image r classes pc k = IsPcOf image r (pc + 1) → PassesAt image pc (calls_touching image k) → noted_idle classes (pc + 1) k ≡ true

-- the notes at a pc obey both rules, for each of the four counters
pub record AreNotedFrom (image : Parts) (r : ℕ) (classes : Classes) (pc : ℕ) : Type 0 where
  pub along : (k : ℕ) → k < 4 → GoesOn image r classes pc false k
  pub branching : (k : ℕ) → k < 4 → GoesOn image r classes pc true k
  pub behind : (k : ℕ) → k < 4 → IsNotedBehind image r classes pc k

-- the classes note each place of routine r at which a counter may not pay
pub record AreIdleNoted (image : Parts) (r : ℕ) (classes : Classes) : Type 0 where
  pub begins : (k : ℕ) → k < 4 → noted_idle classes (start_of image.routines r) k ≡ true
  pub each : (pc : ℕ) → IsPcOf image r pc → AreNotedFrom image r classes pc
