-- The images of the worked examples on blocks, chunks and pointers.
use Rattle.std.proofs.Common.{ℕ, ◌-◌, true, false, List, [], ◌∷◌, replicate, length, Some, None}
use Rattle.geos_opcodes.specs.declared.opcode.Opcode.TheVariants.{Ldi, Jmp, Ret, Out, Mnew, Mlock, Munlock, Sne, Lalloc, Deref, Ldw}
use Rattle.geos_image.specs.declared.instr.Instr.{Instr}
use Rattle.geos_image.specs.declared.row.Row.{Row}
use Rattle.geos_image.specs.declared.row.SlotState.{SlotState}
use Rattle.geos_image.specs.declared.row.SlotState.TheVariants.{Empty, Mem}
use Rattle.geos_image.specs.Open.{open_row}
use Rattle.geos_image.specs.declared.point.Point.{Point}
use Rattle.geos_image.specs.Parts.{Parts}
use Rattle.worked_examples.proofs.Images.{potential, routine, instr, point}

-- s0 holds such a block
abbrev pub s0 : SlotState → Row
s0 state = record open_row { slots = state ∷ Empty ∷ Empty ∷ Empty ∷ [] }

-- s0 holds a memory block, and p0 leads to so many bytes in it
abbrev pub s0_p0 : ℕ → Row
s0_p0 least = record (s0 Mem) { pointers = Some (record { slot = 0; least = least }) ∷ None ∷ None ∷ None ∷ [] }

-- s0 and s1 hold memory blocks, which may be one
abbrev pub s0_s1 : Row
s0_s1 = record open_row { slots = Mem ∷ Mem ∷ Empty ∷ Empty ∷ [] }

-- and p1 leads to 8 bytes in that of s1
abbrev pub s0_s1_p1 : Row
s0_s1_p1 = record s0_s1 { pointers = None ∷ Some (record { slot = 1; least = 8 }) ∷ None ∷ None ∷ [] }

-- the same, and they are two blocks
abbrev pub apart_p1 : Row
apart_p1 = record s0_s1_p1 { pairs = true ∷ replicate 5 false }

-- points with n steps left at the first, and one less at each next
abbrev pub counted_from : ℕ → List (Instr × Row) → List Point
counted_from n [] = []
counted_from n (line ∷ lines) = point line.0 line.1 (potential n 0) ∷ counted_from (n - 1) lines

-- a public routine that takes each instruction once at most
abbrev pub once : List (Instr × Row) → Parts
once lines = record {
  keyed = false;
  routines = routine (98 ∷ replicate 15 0) (length lines) (length lines) ∷ [];
  points =
      counted_from (length lines) lines;
}

-- a private routine of one instruction and `RET`, each with the row
abbrev pub with_row : Row → Instr → Parts
with_row row i = record {
  keyed = false;
  routines = record (routine (98 ∷ replicate 15 0) 2 2) { public = false; entry = row; exit = row } ∷ [];
  points = counted_from 2 ((i, row) ∷ (instr Ret 0 0 0 0 0, row) ∷ []);
}

-- `LDW w0 p0 n`, where p0 leads to 8 bytes at least
abbrev pub read_at : ℕ → Parts
read_at n = with_row (s0_p0 8) (instr Ldw 0 0 0 n 0)

-- `MNEW s0 w0 e`, `LDI w1 0`, `LALLOC s0 w2 w1 u`, `DEREF s0 p0 w2 n u`, an instruction,
-- `OUT w3 u`, `u: MUNLOCK s0`, `e: RET`
abbrev pub no_bytes : ℕ → Instr → Parts
no_bytes n i = once (
    (instr Mnew 0 0 0 0 7, open_row)
    ∷ (instr Ldi 1 0 0 0 0, s0 Mem)
    ∷ (instr Lalloc 0 2 1 0 6, s0 Mem)
    ∷ (instr Deref 0 0 2 n 6, s0 Mem)
    ∷ (i, s0_p0 n)
    ∷ (instr Out 3 0 0 0 6, s0 Mem)
    ∷ (instr Munlock 0 0 0 0 0, s0 Mem)
    ∷ (instr Ret 0 0 0 0 0, open_row)
    ∷ []
    )

-- `MNEW s0 w0 e`, `LDI w1 8`, `LALLOC s0 w2 w1 u`, `DEREF s0 p0 w2 8 u`, `LALLOC s0 w3 w1 u`,
-- `LDW w4 p0 0`, `u: MUNLOCK s0`, `e: RET`, with a row at the LDW
abbrev pub read_after_move : Row → Parts
read_after_move row = once (
    (instr Mnew 0 0 0 0 7, open_row)
    ∷ (instr Ldi 1 0 0 8 0, s0 Mem)
    ∷ (instr Lalloc 0 2 1 0 6, s0 Mem)
    ∷ (instr Deref 0 0 2 8 6, s0 Mem)
    ∷ (instr Lalloc 0 3 1 0 6, s0_p0 8)
    ∷ (instr Ldw 4 0 0 0 0, row)
    ∷ (instr Munlock 0 0 0 0 0, s0 Mem)
    ∷ (instr Ret 0 0 0 0 0, open_row)
    ∷ []
    )

-- the same with a second `DEREF s0 p0 w2 8 u` before the LDW, and `OUT w4 u` after it
abbrev pub read_after_deref : Parts
read_after_deref = once (
    (instr Mnew 0 0 0 0 9, open_row)
    ∷ (instr Ldi 1 0 0 8 0, s0 Mem)
    ∷ (instr Lalloc 0 2 1 0 8, s0 Mem)
    ∷ (instr Deref 0 0 2 8 8, s0 Mem)
    ∷ (instr Lalloc 0 3 1 0 8, s0_p0 8)
    ∷ (instr Deref 0 0 2 8 8, s0 Mem)
    ∷ (instr Ldw 4 0 0 0 0, s0_p0 8)
    ∷ (instr Out 4 0 0 0 8, s0 Mem)
    ∷ (instr Munlock 0 0 0 0 0, s0 Mem)
    ∷ (instr Ret 0 0 0 0 0, open_row)
    ∷ []
    )

-- `MNEW s0 w0 e`, `MLOCK s1 w0 x`, `LDI w1 8`, `LALLOC s0 w2 w1 u`, `DEREF s1 p1 w2 8 u`,
-- `LALLOC s0 w3 w1 u`, `LDW w4 p1 0`, `u: MUNLOCK s1`, `x: MUNLOCK s0`, `e: RET`
abbrev pub read_by_other_slot : Parts
read_by_other_slot = once (
    (instr Mnew 0 0 0 0 9, open_row)
    ∷ (instr Mlock 1 0 0 0 8, s0 Mem)
    ∷ (instr Ldi 1 0 0 8 0, s0_s1)
    ∷ (instr Lalloc 0 2 1 0 7, s0_s1)
    ∷ (instr Deref 1 1 2 8 7, s0_s1)
    ∷ (instr Lalloc 0 3 1 0 7, s0_s1_p1)
    ∷ (instr Ldw 4 1 0 0 0, s0_s1)
    ∷ (instr Munlock 1 0 0 0 0, s0_s1)
    ∷ (instr Munlock 0 0 0 0 0, s0 Mem)
    ∷ (instr Ret 0 0 0 0 0, open_row)
    ∷ []
    )

-- the same with `SNE s0 s1 same` before the second LALLOC, and `same: LDI w5 1`, `OUT w5 u`
-- before `u`
abbrev pub read_where_apart : Parts
read_where_apart = once (
    (instr Mnew 0 0 0 0 12, open_row)
    ∷ (instr Mlock 1 0 0 0 11, s0 Mem)
    ∷ (instr Ldi 1 0 0 8 0, s0_s1)
    ∷ (instr Lalloc 0 2 1 0 10, s0_s1)
    ∷ (instr Deref 1 1 2 8 10, s0_s1)
    ∷ (instr Sne 0 1 0 0 8, s0_s1_p1)
    ∷ (instr Lalloc 0 3 1 0 10, apart_p1)
    ∷ (instr Ldw 4 1 0 0 0, apart_p1)
    ∷ (instr Ldi 5 0 0 1 0, s0_s1)
    ∷ (instr Out 5 0 0 0 10, s0_s1)
    ∷ (instr Munlock 1 0 0 0 0, s0_s1)
    ∷ (instr Munlock 0 0 0 0 0, s0 Mem)
    ∷ (instr Ret 0 0 0 0 0, open_row)
    ∷ []
    )

-- `MNEW s0 w0 e`, `LDI w1 8`, `LALLOC s0 w2 w1 u`, `DEREF s0 p0 w2 8 u`, `LDI w1 600`,
-- `LALLOC s0 w3 w1 x`, `JMP u`, `x: LDW w4 p0 0`, `OUT w7 u`, `u: MUNLOCK s0`, `e: RET`
abbrev pub read_after_refusal : Parts
read_after_refusal = once (
    (instr Mnew 0 0 0 0 10, open_row)
    ∷ (instr Ldi 1 0 0 8 0, s0 Mem)
    ∷ (instr Lalloc 0 2 1 0 9, s0 Mem)
    ∷ (instr Deref 0 0 2 8 9, s0 Mem)
    ∷ (instr Ldi 1 0 0 600 0, s0_p0 8)
    ∷ (instr Lalloc 0 3 1 0 7, s0_p0 8)
    ∷ (instr Jmp 0 0 0 0 9, s0 Mem)
    ∷ (instr Ldw 4 0 0 0 0, s0 Mem)
    ∷ (instr Out 7 0 0 0 9, s0 Mem)
    ∷ (instr Munlock 0 0 0 0 0, s0 Mem)
    ∷ (instr Ret 0 0 0 0 0, open_row)
    ∷ []
    )

-- the same with `x: DEREF s0 p0 w2 8 u` before the LDW
abbrev pub deref_after_refusal : Parts
deref_after_refusal = once (
    (instr Mnew 0 0 0 0 11, open_row)
    ∷ (instr Ldi 1 0 0 8 0, s0 Mem)
    ∷ (instr Lalloc 0 2 1 0 10, s0 Mem)
    ∷ (instr Deref 0 0 2 8 10, s0 Mem)
    ∷ (instr Ldi 1 0 0 600 0, s0_p0 8)
    ∷ (instr Lalloc 0 3 1 0 7, s0_p0 8)
    ∷ (instr Jmp 0 0 0 0 10, s0 Mem)
    ∷ (instr Deref 0 0 2 8 10, s0 Mem)
    ∷ (instr Ldw 4 0 0 0 0, s0_p0 8)
    ∷ (instr Out 7 0 0 0 10, s0 Mem)
    ∷ (instr Munlock 0 0 0 0 0, s0 Mem)
    ∷ (instr Ret 0 0 0 0 0, open_row)
    ∷ []
    )
