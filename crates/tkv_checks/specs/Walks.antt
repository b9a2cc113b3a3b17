-- What a walk over items and code finds.
use Rattle.std.specs.Prelude.{◌≡◌, ◌≤◌, ◌⊎◌, ℕ, suc, ◌+◌, Some, List, slice_get}
use Rattle.geos_image.specs.declared.instr.Instr.{Instr}
use Rattle.geos_image.specs.Parts.{Parts}
use Rattle.tkv_places.specs.declared.placed.Placed.{Placed}
use Rattle.tkv_meaning.specs.Statements.{Stmt, IsFormed}
use Rattle.tkv_meaning.specs.Code.{aimed, At, HasCode}
use Rattle.tkv_checks.specs.declared.places.Place.{Place}
use Rattle.tkv_checks.specs.declared.places.Place.TheVariants as place
use Rattle.tkv_checks.specs.declared.places.Open.{Open}
use Rattle.tkv_checks.specs.declared.steps.Outcomes.{Outcomes}
use Rattle.tkv_checks.specs.declared.steps.Bracket.{Bracket}
use Rattle.tkv_checks.specs.Places.{IsAt, exits_at}
use Rattle.tkv_checks.specs.Items.{IsItem, IsBegin, wrapped, Spells}

-- the instruction is at a place, and the next place follows it; or control does not reach the place
abbrev pub IsPast : Parts → Instr → Place → Place → Type 0
IsPast image i from next = ((from ≡ place.Nowhere) × (next ≡ place.Nowhere))
    ⊎ ((c : ℕ) × (from ≡ place.At c) × At image c i × IsAt image next (c + 1))

-- the same, of an instruction with a target
abbrev pub IsTried : Parts → Instr → Place → Outcomes → Type 0
IsTried image i from tried = ((from ≡ place.Nowhere) × (tried.next ≡ place.Nowhere))
    ⊎ ((c to : ℕ) × (from ≡ place.At c) × At image c (aimed i to) × IsAt image tried.next (c + 1) × IsAt image tried.target to)

-- the code of the statement leads from a place to another, within what is open
abbrev pub HasCodeFrom : Parts → List Open → ℕ → Place → Stmt → Place → Type 0
HasCodeFrom image around d from a after = (p : ℕ) → IsAt image from p → HasCode image a (IsAt image after) (exits_at image around d) p

-- from a place, control leaves to the end of block l
abbrev pub LeavesTo : Parts → List Open → ℕ → ℕ → Place → Type 0
LeavesTo image around d l from = (p : ℕ) → IsAt image from p → exits_at image around d l p

-- the item is a statement, whose code leads from a place to another
pub record IsSingle (image : Parts) (around : List Open) (d : ℕ) (item : Placed) (from after : Place) : Type 0 where
  pub a : Stmt
  pub is : IsItem a item
  pub formed : IsFormed a
  pub code : HasCodeFrom image around d from a after

-- brackets around a statement are a statement, whose code leads on to the next place
pub record IsWhole (image : Parts) (around : List Open) (d : ℕ) (bracket : Bracket) (a : Stmt) (next : Place) : Type 0 where
  pub begins : IsBegin d (wrapped bracket.item.kind bracket.item.instr d a) bracket.item
  pub formed : IsFormed (wrapped bracket.item.kind bracket.item.instr d a)
  pub code : HasCodeFrom image around d bracket.here (wrapped bracket.item.kind bracket.item.instr d a) next

-- whatever statement is between the brackets, with code that leads from the inner place to another, they are a statement
abbrev pub Closes : Parts → Bracket → Open → Place → Place → Type 0
Closes image bracket opened after next = (around : List Open) (d : ℕ) (a : Stmt) → slice_get around d ≡ Some opened → IsFormed a
    → HasCodeFrom image around (suc d) bracket.inner a after → IsWhole image around d bracket a next

-- the items from i to before j are a statement, whose code leads from a place to another
pub record IsRead (image : Parts) (items : List Placed) (around : List Open) (d i : ℕ) (from : Place) (j : ℕ) (after : Place) : Type 0 where
  pub a : Stmt
  pub spells : Spells items d a i j
  pub formed : IsFormed a
  pub code : HasCodeFrom image around d from a after
  pub on : i ≤ j
