-- Ways round on which no LOOP may pay, by what is noted.
use Rattle.std.specs.Prelude.{◌≡◌, ℕ, Bool, true}
use Rattle.geos_image.specs.Parts.{Parts}
use Rattle.geos_code.specs.Code.{IsPcOf}
use Rattle.geos_counters.specs.Idle.{LeadsIdle, MayNotPay}
use Rattle.geos_potentials.specs.Ranks.{noted_idle}
use Rattle.geos_potentials.specs.declared.classes.Classes.{Classes}

-- as much is known next of where counters may not pay
pub record StayNoted (old next : Classes) : Type 0 where
  pub touched : next.touched ≡ old.touched
  pub unset : next.unset ≡ old.unset

-- a counter that is noted in routine r as one that may not pay may not pay
abbrev pub NotesIdle : Parts → ℕ → Classes → Type 0
NotesIdle image r classes = (pc k : ℕ) → IsPcOf image r pc → noted_idle classes pc k ≡ true → MayNotPay image r k pc

-- one of the edges of a pc of routine r leads to another, and no LOOP may pay on it
abbrev pub LeadsOnIdle : Parts → ℕ → ℕ → ℕ → Type 0
LeadsOnIdle image r pc to = IsPcOf image r pc × ((branch : Bool) × LeadsIdle image r pc branch to)
