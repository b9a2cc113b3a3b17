-- How many steps are left at most, counted from the end of a routine to its start.
use Rattle.std.specs.Prelude.{◌≡◌, ◌≤◌, ◌<◌, ℕ, ◌+◌, max, Bool, true, false, if◌then◌else◌, List, [], length, Option, Some, None, slice_get, slice_index, slice_index_or, IfSome}
use Rattle.geos_image.specs.declared.instr.Instr.{Instr}
use Rattle.geos_image.specs.Parts.{Parts, start_of}
use Rattle.geos_verify.specs.Rules.{returns}
use Rattle.geos_code.specs.Code.{Edge, ForwardIn, instrs_of, edge_end}
use Rattle.geos_verify.specs.declared.asked.Asked.{Asked}
use Rattle.geos_image.specs.declared.potential.Potential.{Potential}
use Rattle.geos_code.specs.Edges.{leads_ahead}
use Rattle.geos_potentials.specs.Numbers.{Numbers}
use Rattle.geos_counters.specs.Counters.{zeros}
use Rattle.geos_counters.specs.Steps.{StepsHoldIn, call_steps, most_steps}

-- the steps that a forward edge requires, or 0 for any other edge
abbrev pub edge_steps : Parts → ℕ → ℕ → Instr → Bool → List ℕ → ℕ
edge_steps image limit pc i branch steps = if leads_ahead limit pc i branch then slice_index steps
    (edge_end pc i branch) + 1 + call_steps image i else 0

-- the steps that a return requires
abbrev pub return_steps : Instr → ℕ
return_steps i = if returns i.opcode then 1 else 0

-- the steps that an instruction requires
abbrev pub steps_at : Parts → ℕ → ℕ → Instr → List ℕ → ℕ
steps_at image limit pc i steps = max (return_steps i) (max (edge_steps image limit pc i false steps) (edge_steps image limit pc i true steps))

-- from a pc up to a limit, the steps pay for edges and returns, and are at most `want`
pub record Counting (image : Parts) (limit : ℕ) (want steps : List ℕ) (pc : ℕ) : Type 0 where
  pub len : length (instrs_of image) ≤ length steps
  pub below : (k : ℕ) → pc ≤ k → k < limit → slice_index steps k ≤ slice_index want k
  pub edges : (k to : ℕ) (branch : Bool) (i : Instr) → pc ≤ k → k < limit → Edge (instrs_of image) k branch to i
      → slice_index steps to + 1 + call_steps image i ≤ slice_index steps k
  pub returns : (k : ℕ) (i : Instr) → pc ≤ k → k < limit → slice_get (instrs_of image) k ≡ Some i → returns i.opcode ≡ true → 1 ≤ slice_index steps k

-- all coefficients from a pc up to a limit are 0
pub record ZerosFrom (image : Parts) (limit from : ℕ) (coefficients : List (List ℕ)) : Type 0 where
  pub len : length image.points ≤ length coefficients
  pub each : (k : ℕ) → from ≤ k → k < limit → slice_index_or coefficients k [] ≡ zeros

-- the steps that an edge requires, or 0 if there is no edge
abbrev pub asked_steps : Option Asked → ℕ
asked_steps None = 0
asked_steps (Some asked) = asked.steps

-- the coefficients that an edge requires, or zeros if there is no edge
abbrev pub asked_coefficients : Option Asked → List ℕ
asked_coefficients None = zeros
asked_coefficients (Some asked) = asked.coefficients

-- What counting promises of code without loops

-- an edge requires n steps, and no coefficient
pub record AsksFor (n : ℕ) (asked : Option Asked) : Type 0 where
  pub steps : asked_steps asked ≡ n
  pub zero : asked_coefficients asked ≡ zeros

-- this is what the edge of the instruction at the pc requires, if all coefficients after the pc are 0
abbrev pub AsksSteps : Parts → ℕ → ℕ → ℕ → Bool → Numbers → Option Asked → Type 0
AsksSteps image r limit pc branch numbers asked = ForwardIn image r → ZerosFrom image limit (pc + 1) numbers.coefficients
    → IfSome (slice_get image.points pc) (λ point. AsksFor (edge_steps image limit pc point.instr branch numbers.steps) asked)

-- the potential has so many steps, and no coefficients; or there are too many
abbrev pub HasSteps : ℕ → Option Potential → Type 0
HasSteps steps None = most_steps < steps
HasSteps steps (Some p) = (p.constant ≡ steps) × (p.coefficients ≡ zeros)

-- this is the potential at the pc, if all coefficients after the pc are 0
abbrev pub IsFound : Parts → ℕ → ℕ → ℕ → Numbers → Option Potential → Type 0
IsFound image r limit pc numbers found = ForwardIn image r → ZerosFrom image limit (pc + 1) numbers.coefficients
    → IfSome (slice_get image.points pc) (λ point. HasSteps (steps_at image limit pc point.instr numbers.steps) found)

-- from a pc up to a limit the steps are counted, and all coefficients are 0
pub record Counted (image : Parts) (limit : ℕ) (want : List ℕ) (numbers : Numbers) (pc : ℕ) : Type 0 where
  pub steps : Counting image limit want numbers.steps pc
  pub zero : ZerosFrom image limit pc numbers.coefficients

-- the steps of routine r are counted
abbrev pub CountedIn : Parts → ℕ → List ℕ → Numbers → Type 0
CountedIn image r want numbers = Counted image (start_of image.routines (r + 1)) want numbers (start_of image.routines r)

-- the numbers from a pc on are the same next
pub record StaysFrom (pc : ℕ) (numbers next : Numbers) : Type 0 where
  pub steps : (k : ℕ) → pc ≤ k → slice_index next.steps k ≡ slice_index numbers.steps k
  pub coefficients : (k : ℕ) → pc ≤ k → slice_index_or next.coefficients k [] ≡ slice_index_or numbers.coefficients k []

-- in code without loops, the step counts `next` the numbers of routine r, and leaves the numbers after the routine
-- unchanged
abbrev pub CountsOn : Parts → ℕ → Numbers → Numbers → Bool → Type 0
CountsOn image r numbers next done = (want : List ℕ) → ForwardIn image r → StepsHoldIn image r want
    → (done ≡ true) × CountedIn image r want next × StaysFrom (start_of image.routines (r + 1)) numbers next

-- in code without loops, the steps of the routines from `from` to `count` are counted
abbrev pub AreCounted : Parts → ℕ → ℕ → Numbers → Type 0
AreCounted image from count numbers = (want : List ℕ) → ((r : ℕ) → r < count → ForwardIn image r × StepsHoldIn image r want)
    → (r : ℕ) → from ≤ r → r < count → CountedIn image r want numbers
