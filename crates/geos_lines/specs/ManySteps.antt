-- Which instructions make the steps of a routine many: calls, and those that set a counter to a number.
use Rattle.std.specs.Prelude.{ℕ, Option, Some, None, List, slice_get, if◌then◌else◌, ◌==◌}
use Rattle.geos_image.specs.declared.instr.Instr.{Instr}
use Rattle.geos_opcodes.specs.declared.opcode.Opcode.{Opcode}
use Rattle.geos_opcodes.specs.declared.opcode.Opcode.TheVariants.{Call, Setk}
use Rattle.geos_source.specs.declared.progress.TextRoutine.{TextRoutine}

-- the budget of the routine that an instruction calls
abbrev pub budget_of : Instr → Opcode → List TextRoutine → Option ℕ
budget_of i Call routines = elim (slice_get routines i.imm) [ None ↦ None | Some callee ↦ Some callee.routine.budget ]
budget_of i _ routines = None

-- the same of the instruction at a pc
abbrev pub budget_paid : List Instr → List TextRoutine → ℕ → Option ℕ
budget_paid instrs routines pc = elim (slice_get instrs pc) [ None ↦ None | Some i ↦ budget_of i i.opcode routines ]

-- the number that an instruction sets a counter to
abbrev pub number_of : Instr → Opcode → ℕ → Option ℕ
number_of i Setk k = if i.a == k then Some i.imm else None
number_of i _ k = None

-- the same of the instruction at a pc
abbrev pub number_set : List Instr → ℕ → ℕ → Option ℕ
number_set instrs pc k = elim (slice_get instrs pc) [ None ↦ None | Some i ↦ number_of i i.opcode k ]
