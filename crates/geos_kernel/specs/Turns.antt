-- Sequences of calls, and the runs of their rows in the table of calls.
use Rattle.std.specs.Prelude.{◌≡◌, ℕ, List, [], ◌∷◌, map, Result}
use Rattle.geos_terms.specs.declared.refusal.Refusal.{Refusal}
use Rattle.geos_calls.specs.VmFile.{VmFile}
use Rattle.geos_calls.specs.Memory.{Memory}
use Rattle.geos_calls.specs.Effects.{Choice, Staleness, Reference, Call, outcome, effect_of}
use Rattle.geos_kernel.specs.declared.span.Span.{Span}
use Rattle.geos_kernel.specs.Kernel.{IsChosen, Calls, LeadsToSpan, StandsFor}
use Rattle.geos_kernel.specs.Spans.{Stands, IsFresh}
use Rattle.geos_kernel.specs.View.{KernelState, memory_of, IsFileOf}

-- a call by its row, with its result: nothing, a number, two numbers or a reference
pub data Turn : Type 0 where
  Does : Call (Unit {0}) → Result (Unit {0}) Refusal → Turn
  Tells : Call ℕ → Result ℕ Refusal → Turn
  TellsTwo : Call (ℕ × ℕ) → Result (ℕ × ℕ) Refusal → Turn
  Refers : Call Reference → Result Reference Refusal → Turn

-- the kernel returned this result; `good` says that its device is honest
abbrev pub Answered : Type 0 → Turn → KernelState → KernelState → Type 0
Answered good (Does row result) old new = Calls good row result old new
Answered good (Tells row result) old new = Calls good row result old new
Answered good (TellsTwo row result) old new = Calls good row result old new
Answered good (Refers row result) old new = Calls good row result old new

-- a sequence of calls, each from the kernel that the one before left
abbrev pub InTurn : Type 0 → List Turn → KernelState → KernelState → Type 0
InTurn good [] old new = new ≡ old
InTurn good (turn ∷ turns) old new = (mid : KernelState) × Answered good turn old mid × InTurn good turns mid new

-- a call, and the choice during it
pub record Step : Type 0 where
  pub turn : Turn
  pub choice : Choice

-- the row returns this result, and takes one memory to another
abbrev pub Leads : Turn → Choice → Memory → Memory → Type 0
Leads (Does row result) choice before after = outcome (effect_of row choice before) ≡ (result, after)
Leads (Tells row result) choice before after = outcome (effect_of row choice before) ≡ (result, after)
Leads (TellsTwo row result) choice before after = outcome (effect_of row choice before) ≡ (result, after)
Leads (Refers row result) choice before after = outcome (effect_of row choice before) ≡ (result, after)

-- the references that the row makes stale
abbrev pub stale_by : Turn → Choice → Memory → Staleness
stale_by (Does row result) choice before = (effect_of row choice before).stale
stale_by (Tells row result) choice before = (effect_of row choice before).stale
stale_by (TellsTwo row result) choice before = (effect_of row choice before).stale
stale_by (Refers row result) choice before = (effect_of row choice before).stale

-- the rows return these results one after another, and take one memory to another
abbrev pub Run : List Step → Memory → Memory → Type 0
Run [] before after = after ≡ before
Run (step ∷ steps) before after = (mid : Memory) × Leads step.turn step.choice before mid × Run steps mid after

-- no row of such a run makes the reference stale
abbrev pub Spares : (steps : List Step) (before after : Memory) → Run steps before after → Reference → Type 0
Spares [] before after run ref = Unit {0}
Spares (step ∷ steps) before after run ref = IsFresh before (stale_by step.turn step.choice before) ref × Spares steps run.0 after run.2 ref

-- each choice is possible between these kernels
abbrev pub AreChosen : Type 0 → KernelState → KernelState → List Step → Type 0
AreChosen good old new [] = Unit {0}
AreChosen good old new (step ∷ steps) = IsChosen good old new step.choice × AreChosen good old new steps

-- a sequence of calls is a run of their rows, from the memory with this VM file, under some choices. A span stays
-- valid if the run does not make its reference stale
pub record AnsweredByRows (good : Type 0) (turns : List Turn) (old new : KernelState) (f : VmFile) : Type 0 where
  pub steps : List Step
  pub calls : map (λ step. step.turn) steps ≡ turns
  pub chosen : AreChosen good old new steps
  pub file : VmFile
  pub tied : IsFileOf good new file
  pub run : Run steps (memory_of old f) (memory_of new file)
  pub spans : (span : Span) (ref : Reference) → Stands old span ref → Spares steps (memory_of old f) (memory_of new file) run ref
      → Stands new span ref

-- every sequence of calls is a run of its rows; and a call that returns a span returns one that is valid for the
-- reference of its row
pub record CallsAnswerInTurn (good : Type 0) : Type 0 where
  pub lists : (turns : List Turn) (old new : KernelState) → InTurn good turns old new → (f : VmFile) → IsFileOf good old f
      → AnsweredByRows good turns old new f
  pub given : (row : Call Reference) (result : Result Span Refusal) (old new : KernelState) → LeadsToSpan good row result old new →
      (reference : Result Reference Refusal) × Calls good row reference old new × StandsFor new result reference

-- a result that the kernel returns under the first claim of honesty is also one under the second
abbrev pub AnswersAlike : Type 0 → Type 0 → Type 0
AnswersAlike other good = (turn : Turn) (old new : KernelState) → Answered other turn old new → Answered good turn old new
