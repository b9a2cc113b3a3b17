-- The images of the worked examples, by the definitions.
use Rattle.std.proofs.Common.{ℕ, true, false, List, [], ◌∷◌, Some, replicate}
use Rattle.geos_opcodes.specs.declared.opcode.Opcode.{Opcode}
use Rattle.geos_opcodes.specs.declared.opcode.Opcode.TheVariants.{Ldi, Add, Setk, Loop, Call, Ret, Out}
use Rattle.geos_image.specs.declared.instr.Instr.{Instr}
use Rattle.geos_image.specs.declared.point.Point.{Point}
use Rattle.geos_image.specs.declared.potential.Potential.{Potential}
use Rattle.geos_image.specs.declared.routine.Routine.{Routine}
use Rattle.geos_image.specs.declared.row.Row.{Row}
use Rattle.geos_image.specs.Parts.{Parts}
use Rattle.geos_image.specs.Open.{open_row}

-- a constant, and the coefficient of k0
abbrev pub potential : ℕ → ℕ → Potential
potential constant k0 = record { constant = constant; coefficients = k0 ∷ 0 ∷ 0 ∷ 0 ∷ [] }

-- a public routine with open rows
abbrev pub routine : List ℕ → ℕ → ℕ → Routine
routine name count budget = record { name = name; public = true; count = count; budget = budget; entry = open_row; exit = open_row }

-- an instruction with fields a, b, c, imm and target
abbrev pub instr : Opcode → ℕ → ℕ → ℕ → ℕ → ℕ → Instr
instr opcode a b c imm target = record { opcode = opcode; a = a; b = b; c = c; d = 0; imm = imm; target = target }

-- an instruction, its row and its potential
abbrev pub point : Instr → Row → Potential → Point
point i row potential = record { instr = i; row = Some row; potential = potential }

-- `LDI w0 2`, `LDI w1 3`, `ADD w0 w0 w1`, `OUT w0 x`, `x: RET`, with a budget
abbrev pub add : ℕ → Parts
add budget = record {
  keyed = false;
  routines = routine (97 ∷ 100 ∷ 100 ∷ replicate 13 0) 5 budget ∷ [];
  points =
      point (instr Ldi 0 0 0 2 0) open_row (potential 5 0)
      ∷ point (instr Ldi 1 0 0 3 0) open_row (potential 4 0)
      ∷ point (instr Add 0 0 1 0 0) open_row (potential 3 0)
      ∷ point (instr Out 0 0 0 0 4) open_row (potential 2 0)
      ∷ point (instr Ret 0 0 0 0 0) open_row (potential 1 0)
      ∷ [];
}

-- `SETK k0 1024`, `a: OUT w0 x`, `LOOP k0 a`, `x: RET`, with a budget, the constant at the
-- LOOP, and the coefficients of k0 at the OUT and the LOOP
abbrev pub outputs : ℕ → ℕ → ℕ → Parts
outputs budget constant k0 = record {
  keyed = false;
  routines = routine (111 ∷ replicate 15 0) 4 budget ∷ [];
  points =
      point (instr Setk 0 0 0 1024 0) open_row (potential 2052 0)
      ∷ point (instr Out 0 0 0 0 3) open_row (potential 3 k0)
      ∷ point (instr Loop 0 0 0 0 1) open_row (potential constant k0)
      ∷ point (instr Ret 0 0 0 0 0) open_row (potential 1 0)
      ∷ [];
}

-- `two`, which is private: `LDI w0 2`, `RET`; and `main`: `CALL two`, `OUT w0 e`, `e: RET`, with
-- budgets
abbrev pub two_and_main : ℕ → ℕ → Parts
two_and_main of_two of_main = record {
  keyed = false;
  routines = record (routine (116 ∷ replicate 15 0) 2 of_two) { public = false } ∷ routine (109 ∷ replicate 15 0) 3 of_main ∷ [];
  points =
      point (instr Ldi 0 0 0 2 0) open_row (potential 2 0)
      ∷ point (instr Ret 0 0 0 0 0) open_row (potential 1 0)
      ∷ point (instr Call 0 0 0 0 0) open_row (potential 5 0)
      ∷ point (instr Out 0 0 0 0 4) open_row (potential 2 0)
      ∷ point (instr Ret 0 0 0 0 0) open_row (potential 1 0)
      ∷ [];
}

-- the same in the other order: `main` calls the routine after it
abbrev pub main_and_two : Parts
main_and_two = record {
  keyed = false;
  routines = routine (109 ∷ replicate 15 0) 3 5 ∷ record (routine (116 ∷ replicate 15 0) 2 2) { public = false } ∷ [];
  points =
      point (instr Call 0 0 0 1 0) open_row (potential 5 0)
      ∷ point (instr Out 0 0 0 0 2) open_row (potential 2 0)
      ∷ point (instr Ret 0 0 0 0 0) open_row (potential 1 0)
      ∷ point (instr Ldi 0 0 0 2 0) open_row (potential 2 0)
      ∷ point (instr Ret 0 0 0 0 0) open_row (potential 1 0)
      ∷ [];
}

-- `counts`: `SETK k0 0`, `RET`. `between`: `CALL counts`, `RET`. A loop that calls `between` in each iteration: `SETK
-- k 3`, `a: CALL between`, `LOOP k a`, `RET`. The arguments are its counter, and the potential of a constant and the
-- counter's coefficient
abbrev pub loop_of_calls : ℕ → (ℕ → ℕ → Potential) → Parts
loop_of_calls k counting = record {
  keyed = false;
  routines = routine (99 ∷ replicate 15 0) 2 2 ∷ routine (98 ∷ replicate 15 0) 2 4 ∷ routine (109 ∷ replicate 15 0) 4 26 ∷ [];
  points =
      point (instr Setk 0 0 0 0 0) open_row (potential 2 0)
      ∷ point (instr Ret 0 0 0 0 0) open_row (potential 1 0)
      ∷ point (instr Call 0 0 0 0 0) open_row (potential 4 0)
      ∷ point (instr Ret 0 0 0 0 0) open_row (potential 1 0)
      ∷ point (instr Setk k 0 0 3 0) open_row (potential 26 0)
      ∷ point (instr Call 0 0 0 1 0) open_row (counting 7 6)
      ∷ point (instr Loop k 0 0 0 5) open_row (counting 2 6)
      ∷ point (instr Ret 0 0 0 0 0) open_row (potential 1 0)
      ∷ [];
}

-- the loop by k0, which `counts` sets
abbrev pub loop_by_k0 : Parts
loop_by_k0 = loop_of_calls 0 potential

-- the loop by k1, which no routine below touches
abbrev pub loop_by_k1 : Parts
loop_by_k1 = loop_of_calls 1 (λ constant k1. record { constant = constant; coefficients = 0 ∷ k1 ∷ 0 ∷ 0 ∷ [] })
