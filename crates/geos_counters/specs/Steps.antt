-- Which numbers of steps hold at the instructions.
use Rattle.std.specs.Prelude.{◌≡◌, ◌≤◌, ℕ, ◌+◌, Bool, true, if◌then◌else◌, List, Some, None, slice_get, slice_index}
use Rattle.geos_image.specs.declared.instr.Instr.{Instr}
use Rattle.geos_image.specs.Parts.{Parts}
use Rattle.geos_verify.specs.Potentials.{budget_of}
use Rattle.geos_verify.specs.Rules.{returns}
use Rattle.geos_verify.specs.Touched.{calls}
use Rattle.geos_code.specs.Code.{Edge, IsPcOf, ClosedIn, ForwardIn, instrs_of}

-- the most steps that a potential can say
abbrev pub most_steps : ℕ
most_steps = 4294967295

-- what a call takes beside its own step: all that the routine may take
abbrev pub call_steps : Parts → Instr → ℕ
call_steps image i = if calls i.opcode then budget_of image i.imm else 0

-- what the instruction at a pc takes: a step, and all that the routine may take that it calls
abbrev pub taken_at : Parts → ℕ → ℕ
taken_at image pc = elim (slice_get image.points pc) [ None ↦ 0 | Some point ↦ 1 + call_steps image point.instr ]

-- numbers of steps at the instructions of routine r: each pays for a step, for a routine that is called, and
-- for the number where an edge leads, and for a return; and no edge leaves the routine
pub record StepsHoldIn (image : Parts) (r : ℕ) (steps : List ℕ) : Type 0 where
  pub closed : ClosedIn image r
  pub edges : (pc to : ℕ) (branch : Bool) (i : Instr) → IsPcOf image r pc → Edge (instrs_of image) pc branch to i
      → slice_index steps to + 1 + call_steps image i ≤ slice_index steps pc
  pub returns : (pc : ℕ) (i : Instr) → IsPcOf image r pc → slice_get (instrs_of image) pc ≡ Some i → returns i.opcode ≡ true
      → 1 ≤ slice_index steps pc
  pub long : (pc : ℕ) → IsPcOf image r pc → slice_index steps pc ≤ most_steps

-- no numbers of steps hold in routine r, or it has loops
abbrev pub NoStepsHoldIn : Parts → ℕ → Type 0
NoStepsHoldIn image r = (want : List ℕ) → ForwardIn image r → StepsHoldIn image r want → ⊥
