-- An instruction of a routine, with what is known there.
use Rattle.std.specs.Prelude.{ℕ, zero, suc, ◌+◌, Bool, not, if◌then◌else◌, Option, Some, None}
use Rattle.geos_explain.specs.Below.{Instr, Row, Potential, Routine, Parts, start_of, KnownPlace, has_place}
use Rattle.geos_explain.specs.Led.{is_reached}
use Rattle.geos_explain.specs.declared.place.Place as code

-- the instruction at a pc of routine r, its row and its potential
pub record Place : Type 0 where
  pub image : Parts
  pub r : ℕ
  pub routine : Routine
  pub pc : ℕ
  pub i : Instr
  pub row : Row
  pub potential : Potential

-- the place of what is known at a pc of routine r
abbrev pub place_at : Parts → ℕ → Routine → ℕ → KnownPlace → Place
place_at image r routine pc known = record {
  image = image;
  r = r;
  routine = routine;
  pc = pc;
  i = known.instr;
  row = known.row;
  potential = known.potential;
}

-- the place that the code has
abbrev pub place_of : code.Place → Place
place_of place = record {
  image = place.image.now;
  r = place.r;
  routine = place.routine.now;
  pc = place.pc;
  i = place.i.now;
  row = place.row.now;
  potential = place.potential.now;
}

-- the truth value is the wanted one
abbrev pub agrees : Bool → Bool → Bool
agrees wanted is = if wanted then is else not is

-- control reaches a pc exactly if it reaches the place
abbrev pub comes_alike : Place → ℕ → Bool
comes_alike place pc = agrees (is_reached place.image place.pc) (is_reached place.image pc)

-- a pc is that of one of the instructions of the place's routine
abbrev pub is_inside : Place → ℕ → Bool
is_inside place pc = has_place (start_of place.image.routines place.r) place.routine.count pc

-- of the first n instructions of the routine, the last for which the predicate holds
unfoldable pub last_of : Place → (ℕ → Bool) → ℕ → Option ℕ
last_of place is zero = None
last_of place is (suc n) =
    if is (start_of place.image.routines place.r + n) then Some (start_of place.image.routines place.r + n) else last_of place is n

-- the pc that was found before, otherwise this one if the predicate holds here
abbrev pub first_or : Option ℕ → ℕ → Bool → Option ℕ
first_or (Some first) pc here = Some first
first_or None pc here = if here then Some pc else None

-- of the first n instructions of the routine, the first for which the predicate holds
unfoldable pub first_of : Place → (ℕ → Bool) → ℕ → Option ℕ
first_of place is zero = None
first_of place is (suc n) =
    first_or (first_of place is n) (start_of place.image.routines place.r + n) (is (start_of place.image.routines place.r + n))
