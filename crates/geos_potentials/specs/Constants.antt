-- Constants that pay where the coefficients are given, and the least of them.
use Rattle.std.specs.Prelude.{◌≡◌, ◌≤◌, ◌<◌, ◌⊎◌, ℕ, Bool, true, false, ◌||◌, ◌==◌, not, List, [], ◌∷◌, length, Option, Some, None, slice_get, slice_index, slice_index_or}
use Rattle.geos_opcodes.specs.declared.opcode.Opcode.{Opcode}
use Rattle.geos_opcodes.specs.declared.opcode.Opcode.TheVariants.{Setk, Setkw, Loop}
use Rattle.geos_image.specs.declared.instr.Instr.{Instr}
use Rattle.geos_image.specs.declared.row.Row.{Row}
use Rattle.geos_image.specs.declared.potential.Potential.{Potential}
use Rattle.geos_image.specs.declared.point.Point.{Point}
use Rattle.geos_image.specs.Open.{open_row}
use Rattle.geos_image.specs.Parts.{Parts}
use Rattle.geos_verify.specs.declared.asked.Asked.{Asked}
use Rattle.geos_verify.specs.Places.{or_row}
use Rattle.geos_verify.specs.Potentials.{asked_along, asked_branching, left_with, is_paid}
use Rattle.geos_code.specs.Code.{Edge, IsPcOf, instrs_of}
use Rattle.geos_potentials.specs.Count.{return_steps}
use Rattle.geos_code.specs.Known.{row_of, known_at}
use Rattle.geos_potentials.specs.Numbers.{Numbers}
use Rattle.geos_counters.specs.Counters.{zeros}
use Rattle.geos_code.specs.Edges.{LeadsTo}

-- what an edge of an instruction requires, if q is the potential at its end
abbrev pub asked_over : Parts → Instr → Row → Bool → Potential → Asked
asked_over image i row true q = asked_branching i i.opcode q
asked_over image i row false q = asked_along image i i.opcode row q

-- the constant, with the coefficient of the counter that helps to pay, is at least the required steps
abbrev pub PaysSteps : Asked → Potential → Type 0
PaysSteps asked p = asked.steps ≤ left_with asked.counter p

-- with these rows and coefficients, these numbers of steps pay for the returns of routine r and for each edge that
-- stays in it
pub record ConstantsPay (image : Parts) (r : ℕ) (row : ℕ → Row) (coefficients : ℕ → List ℕ) (steps : ℕ → ℕ) : Type 0 where
  pub edges : (pc to : ℕ) (branch : Bool) → IsPcOf image r pc → (leads : LeadsTo image pc branch to) → IsPcOf image r to
      → PaysSteps (asked_over image leads.point.instr (row pc) branch (record { constant = steps to; coefficients = coefficients to }))
      (record { constant = steps pc; coefficients = coefficients pc })
  pub returns : (pc : ℕ) (point : Point) → IsPcOf image r pc → slice_get image.points pc ≡ Some point → return_steps point.instr ≤ steps pc

-- with these rows, the potentials pay for the returns of routine r and for each edge that stays in it
pub record PotentialsPay (image : Parts) (r : ℕ) (row : ℕ → Row) (potential : ℕ → Potential) : Type 0 where
  pub edges : (pc to : ℕ) (branch : Bool) → IsPcOf image r pc → (leads : LeadsTo image pc branch to) → IsPcOf image r to
      → is_paid (asked_over image leads.point.instr (row pc) branch (potential to)) (potential pc) ≡ true
  pub returns : (pc : ℕ) (point : Point) → IsPcOf image r pc → slice_get image.points pc ≡ Some point
      → return_steps point.instr ≤ (potential pc).constant

-- the row that an image gives at a pc
abbrev pub given_row : Parts → ℕ → Row
given_row image pc = elim (slice_get image.points pc) [ None ↦ open_row | Some point ↦ or_row point.row open_row ]

-- the coefficients that it has there
abbrev pub coefficients_in : Parts → ℕ → List ℕ
coefficients_in image pc = elim (slice_get image.points pc) [ None ↦ zeros | Some point ↦ point.potential.coefficients ]

-- the potential that it has there
abbrev pub potential_given : Parts → ℕ → Potential
potential_given image pc = elim (slice_get image.points pc) [ None ↦ record { constant = 0; coefficients = zeros } | Some point ↦ point.potential ]

-- an edge of the instruction at a pc to a target in routine r leads back
pub record GoesBack (image : Parts) (r pc : ℕ) : Type 0 where
  pub to : ℕ
  pub i : Instr
  pub edge : Edge (instrs_of image) pc true to i
  pub stays : IsPcOf image r to
  pub back : to ≤ pc

-- the instruction at a pc is a LOOP
abbrev pub IsLoopAt : Parts → ℕ → Type 0
IsLoopAt image pc = (i : Instr) × (slice_get (instrs_of image) pc ≡ Some i) × (i.opcode ≡ Loop)

-- routine r has a LOOP, or an edge that leads back
pub record HasLoops (image : Parts) (r : ℕ) : Type 0 where
  pub pc : ℕ
  pub within : IsPcOf image r pc
  pub loops : IsLoopAt image pc ⊎ GoesBack image r pc

-- in routines with loops, the constants of an image with all rows are at most any constants that pay with its rows
-- and coefficients
abbrev pub HasLeastConstants : Parts → Type 0
HasLeastConstants image = (r : ℕ) (steps : ℕ → ℕ) → r < length image.routines → HasLoops image r
    → ConstantsPay image r (given_row image) (coefficients_in image) steps
    → (pc : ℕ) (point : Point) → IsPcOf image r pc → slice_get image.points pc ≡ Some point → point.potential.constant ≤ steps pc

-- in routines with loops, the potentials of an image with all rows pay for the returns, and for the edges that stay
-- in the routine
abbrev pub PaysForLoops : Parts → Type 0
PaysForLoops image = (r : ℕ) → r < length image.routines → HasLoops image r → PotentialsPay image r (given_row image) (potential_given image)

-- Which coefficients are required

-- an edge of the instruction requires at its start the coefficient of counter k at its end. The exceptions are the
-- edges that set k, and the edge of a LOOP on which k is 0.
abbrev pub asks_coefficient : ℕ → Instr → Opcode → Bool → Bool
asks_coefficient k i Setk branch = branch || not (i.a == k)
asks_coefficient k i Setkw branch = branch || not (i.a == k)
asks_coefficient k i Loop branch = branch || not (i.a == k)
asks_coefficient k i _ branch = true

-- the instruction at a pc has an edge within routine r that requires the coefficient of counter k
pub record LeadsAsking (image : Parts) (r k pc : ℕ) (branch : Bool) (to : ℕ) : Type 0 where
  pub leads : LeadsTo image pc branch to
  pub stays : IsPcOf image r to
  pub asks : asks_coefficient k leads.point.instr leads.point.instr.opcode branch ≡ true

-- a path of edges that require counter k leads from one pc to another; each flag says whether an edge leads to a
-- target
abbrev pub IsAskingWay : Parts → ℕ → ℕ → ℕ → List Bool → ℕ → Type 0
IsAskingWay image r k from [] to = from ≡ to
IsAskingWay image r k from (branch ∷ branches) to = (next : ℕ) × LeadsAsking image r k from branch next × IsAskingWay image r k next branches to

-- a path of edges that require counter k leads from a pc to a LOOP on k in routine r. The coefficient of k at the pc
-- is at most that at the LOOP.
pub record IsForLoop (image : Parts) (r : ℕ) (coefficients : ℕ → List ℕ) (pc k : ℕ) : Type 0 where
  pub at : ℕ
  pub within : IsPcOf image r at
  pub branches : List Bool
  pub way : IsAskingWay image r k pc branches at
  pub point : Point
  pub there : slice_get image.points at ≡ Some point
  pub loops : point.instr.opcode ≡ Loop
  pub counter : point.instr.a ≡ k
  pub much : slice_index (coefficients pc) k ≤ slice_index (coefficients at) k

-- the same of each coefficient of routine r that is not 0
abbrev pub AreForLoops : Parts → ℕ → (ℕ → List ℕ) → Type 0
AreForLoops image r coefficients = (pc k : ℕ) → IsPcOf image r pc → 0 < slice_index (coefficients pc) k → IsForLoop image r coefficients pc k

-- in routines with loops, each coefficient of an image that is not 0 is required by a LOOP
abbrev pub HasCoefficientsForLoops : Parts → Type 0
HasCoefficientsForLoops image = (r : ℕ) → r < length image.routines → HasLoops image r → AreForLoops image r (coefficients_in image)

-- What is counted

-- the rows that are known
abbrev pub row_known : List (Option Row) → ℕ → Row
row_known known pc = row_of (known_at known pc)

-- the coefficients that are counted
abbrev pub coefficients_at : List (List ℕ) → ℕ → List ℕ
coefficients_at coefficients pc = slice_index_or coefficients pc []

-- the counted steps of routine r are at most any that pay with the known rows and the counted coefficients
abbrev pub AreLeastIn : Parts → ℕ → List (Option Row) → Numbers → Type 0
AreLeastIn image r known numbers = (steps : ℕ → ℕ) → ConstantsPay image r (row_known known) (coefficients_at numbers.coefficients) steps
    → (pc : ℕ) → IsPcOf image r pc → slice_index numbers.steps pc ≤ steps pc

-- these steps are at most any that pay with the known rows and these coefficients
abbrev pub AreLeastWith : Parts → ℕ → List (Option Row) → List (List ℕ) → (ℕ → ℕ) → Type 0
AreLeastWith image r known coefficients least = (steps : ℕ → ℕ)
    → ConstantsPay image r (row_known known) (coefficients_at coefficients) steps → (pc : ℕ) → IsPcOf image r pc → least pc ≤ steps pc

-- the potential at a pc that is counted
abbrev pub potential_in : Numbers → ℕ → Potential
potential_in numbers pc = record { constant = slice_index numbers.steps pc; coefficients = slice_index_or numbers.coefficients pc [] }

-- this is what the edge of a pc requires, or the pc has no such edge within routine r
abbrev pub IsAsked : Parts → ℕ → List (Option Row) → Numbers → ℕ → Bool → Option Asked → Type 0
IsAsked image r known numbers pc branch None = (to : ℕ) → LeadsTo image pc branch to → IsPcOf image r to → ⊥
IsAsked image r known numbers pc branch (Some asked) = (to : ℕ) → (leads : LeadsTo image pc branch to) → IsPcOf image r to
    → asked ≡ asked_over image leads.point.instr (row_known known pc) branch (potential_in numbers to)

-- with the known rows, the potential at a pc pays for one of its edges, if this edge stays in routine r
abbrev pub IsPaidOver : Parts → ℕ → List (Option Row) → Numbers → ℕ → Bool → Type 0
IsPaidOver image r known numbers pc branch = (to : ℕ) → (leads : LeadsTo image pc branch to) → IsPcOf image r to
    → is_paid (asked_over image leads.point.instr (row_known known pc) branch (potential_in numbers to)) (potential_in numbers pc) ≡ true

-- the potential at a pc pays for both edges, and for a return
pub record IsPaidAt (image : Parts) (r : ℕ) (known : List (Option Row)) (numbers : Numbers) (pc : ℕ) : Type 0 where
  pub edges : (branch : Bool) → IsPaidOver image r known numbers pc branch
  pub returns : (point : Point) → slice_get image.points pc ≡ Some point → return_steps point.instr ≤ slice_index numbers.steps pc

-- the numbers of routine r pay, with the known rows
abbrev pub ArePaidIn : Parts → ℕ → List (Option Row) → Numbers → Type 0
ArePaidIn image r known numbers = PotentialsPay image r (row_known known) (potential_in numbers)

-- the numbers pay for routine r, its steps are the least that pay, and each of its coefficients is required by a LOOP
abbrev pub PayLeastIn : Parts → ℕ → List (Option Row) → Numbers → Type 0
PayLeastIn image r known numbers = ArePaidIn image r known numbers × AreLeastIn image r known numbers
    × AreForLoops image r (coefficients_at numbers.coefficients)

-- the same of each routine with loops from one on up to another
abbrev pub AreLeastFrom : Parts → ℕ → ℕ → List (Option Row) → Numbers → Type 0
AreLeastFrom image from count known numbers = (r : ℕ) → from ≤ r → r < count → HasLoops image r → PayLeastIn image r known numbers
