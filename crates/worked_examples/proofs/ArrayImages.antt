-- The images of the worked examples on arrays.
use Rattle.std.proofs.Common.{ℕ, [], ◌∷◌}
use Rattle.geos_opcodes.specs.declared.opcode.Opcode.TheVariants.{Caadd, Cacount, Cadel, Caelt, Cains, Canew, Caresize, Deref, Jmp, Ldi, Ldw, Lsize, Mnew, Munlock, Out, Plen, Ret, Stw}
use Rattle.geos_image.specs.declared.row.SlotState.TheVariants.{Mem}
use Rattle.geos_image.specs.Open.{open_row}
use Rattle.geos_image.specs.Parts.{Parts}
use Rattle.worked_examples.proofs.Images.{instr}
use Rattle.worked_examples.proofs.BlockImages.{s0, s0_p0, once}

-- inserts elements of 3, 0 and 5 bytes, then 2 bytes at index 1, and deletes the first; outputs the count, the
-- lengths of elements 0, 1 and 2, and the refusal for element 3; then sets the word at 2 to 1, and outputs the
-- refusal for the count
abbrev pub edits : Parts
edits = once (
    (instr Mnew 0 0 0 0 37, open_row)
    ∷ (instr Canew 0 1 0 0 36, s0 Mem)
    ∷ (instr Ldi 2 0 0 3 0, s0 Mem)
    ∷ (instr Caadd 0 1 2 0 36, s0 Mem)
    ∷ (instr Ldi 2 0 0 0 0, s0 Mem)
    ∷ (instr Caadd 0 1 2 0 36, s0 Mem)
    ∷ (instr Ldi 2 0 0 5 0, s0 Mem)
    ∷ (instr Caadd 0 1 2 0 36, s0 Mem)
    ∷ (instr Ldi 2 0 0 1 0, s0 Mem)
    ∷ (instr Ldi 3 0 0 2 0, s0 Mem)
    ∷ (record (instr Cains 0 1 2 0 36) { d = 3 }, s0 Mem)
    ∷ (instr Ldi 2 0 0 0 0, s0 Mem)
    ∷ (instr Cadel 0 1 2 0 36, s0 Mem)
    ∷ (instr Cacount 0 4 1 0 36, s0 Mem)
    ∷ (instr Out 4 0 0 0 36, s0 Mem)
    ∷ (record (instr Caelt 0 0 1 0 36) { d = 2 }, s0 Mem)
    ∷ (instr Plen 4 0 0 0 0, s0_p0 0)
    ∷ (instr Out 4 0 0 0 36, s0 Mem)
    ∷ (instr Ldi 2 0 0 1 0, s0 Mem)
    ∷ (record (instr Caelt 0 0 1 0 36) { d = 2 }, s0 Mem)
    ∷ (instr Plen 4 0 0 0 0, s0_p0 0)
    ∷ (instr Out 4 0 0 0 36, s0 Mem)
    ∷ (instr Ldi 2 0 0 2 0, s0 Mem)
    ∷ (record (instr Caelt 0 0 1 0 36) { d = 2 }, s0 Mem)
    ∷ (instr Plen 4 0 0 0 0, s0_p0 0)
    ∷ (instr Out 4 0 0 0 36, s0 Mem)
    ∷ (instr Ldi 2 0 0 3 0, s0 Mem)
    ∷ (record (instr Caelt 0 0 1 0 29) { d = 2 }, s0 Mem)
    ∷ (instr Jmp 0 0 0 0 36, s0 Mem)
    ∷ (instr Out 7 0 0 0 36, s0 Mem)
    ∷ (instr Deref 0 0 1 21 36, s0 Mem)
    ∷ (instr Ldi 2 0 0 1 0, s0_p0 21)
    ∷ (instr Stw 2 0 0 2 0, s0_p0 21)
    ∷ (instr Cacount 0 4 1 0 35, s0 Mem)
    ∷ (instr Jmp 0 0 0 0 36, s0 Mem)
    ∷ (instr Out 7 0 0 0 36, s0 Mem)
    ∷ (instr Munlock 0 0 0 0 0, s0 Mem)
    ∷ (instr Ret 0 0 0 0 0, open_row)
    ∷ []
    )

-- two elements of 4 bytes; outputs the chunk's length, and the word at an offset of element 1, which must have n
-- bytes; then the refusal, or another length for it
abbrev pub pair : ℕ → ℕ → Parts
pair n at = once (
    (instr Mnew 0 0 0 0 14, open_row)
    ∷ (instr Canew 0 1 0 4 13, s0 Mem)
    ∷ (instr Caadd 0 1 2 0 13, s0 Mem)
    ∷ (instr Caadd 0 1 2 0 13, s0 Mem)
    ∷ (instr Lsize 0 3 1 0 13, s0 Mem)
    ∷ (instr Out 3 0 0 0 13, s0 Mem)
    ∷ (instr Ldi 2 0 0 1 0, s0 Mem)
    ∷ (record (instr Caelt 0 0 1 n 12) { d = 2 }, s0 Mem)
    ∷ (instr Ldw 4 0 0 at 0, s0_p0 n)
    ∷ (instr Out 4 0 0 0 13, s0 Mem)
    ∷ (record (instr Caresize 0 1 2 0 12) { d = 2 }, s0 Mem)
    ∷ (instr Jmp 0 0 0 0 13, s0 Mem)
    ∷ (instr Out 7 0 0 0 13, s0 Mem)
    ∷ (instr Munlock 0 0 0 0 0, s0 Mem)
    ∷ (instr Ret 0 0 0 0 0, open_row)
    ∷ []
    )
