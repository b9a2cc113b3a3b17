-- Reading and encoding instructions are inverse.
use Rattle.std.proofs.Common.{◌≡◌, ℕ, ◌+◌, ◌^◌, ◌<◌, ◌≤◌, true, List, [], ◌∷◌, ◌++◌, Ok, refl, sym, subst, ◌∙◌, arith}
use Rattle.geos_opcodes.specs.declared.opcode.Operand.{Operand}
use Rattle.geos_opcodes.specs.declared.opcode.Operand.TheVariants.{Unused, Word, Counter, Slot, Pointer, Number, Shift, Routine, Label}
use Rattle.geos_opcodes.specs.declared.opcode.Operands.{Operands}
use Rattle.geos_image.specs.declared.instr.Instr.{Instr}
use Rattle.geos_opcodes.specs.Facts.{code_of, opcode_of, operands_of, limit}
use Rattle.geos_image.specs.Legal.{is_instr}
use Rattle.geos_image.specs.Spelling.{word, instr}
use Rattle.geos_image.specs.Reading.{or_fault, byte_at, byte_below, word_below, fields_at, instr_at}
use Rattle.geos_image.proofs.Steps.{ok_is, after, or_fault_ok}
use Rattle.geos_opcodes.proofs.Laws.{opcode_again}
use Rattle.geos_image.proofs.Codes.{code_found}
use Rattle.geos_image.proofs.Places.{plus, IsBytes, Takes, Takes-then, Left}
use Rattle.geos_image.proofs.NumberLaws.{byte_found, byte_below_found, word_below_found, unused_found, byte_again, byte_below_again, word_below_again}
use Rattle.geos_image.proofs.Instrs.{is_below}

-- each operand is a word
limit_fits : (routines instrs : ℕ) (operand : Operand) → routines ≤ 2 ^ 16 → instrs ≤ 2 ^ 16 → limit routines instrs operand ≤ 2 ^ 16
limit_fits routines instrs Unused r i = omega arith
limit_fits routines instrs Word r i = omega arith
limit_fits routines instrs Counter r i = omega arith
limit_fits routines instrs Slot r i = omega arith
limit_fits routines instrs Pointer r i = omega arith
limit_fits routines instrs Number r i = omega arith
limit_fits routines instrs Shift r i = omega arith
limit_fits routines instrs Routine r i = r
limit_fits routines instrs Label r i = i

-- a number below the limit of an operand is a word
operand_fits : (routines instrs : ℕ) (operand : Operand) (n : ℕ) → routines ≤ 2 ^ 16 → instrs ≤ 2 ^ 16
    → n < limit routines instrs operand → n < 2 ^ 16
operand_fits routines instrs operand n r i lt = omega (arith, limit_fits routines instrs operand r i)

-- the bytes of an instruction that was read are its encoding
pub instr_found : (routines instrs : ℕ) (bytes : List ℕ) → IsBytes bytes → (at next : ℕ) (i : Instr) → next ≡ at + 10
    → instr_at routines instrs bytes at ≡ Ok i → Takes bytes at (instr i) next
unfolding instr_at fields_at
instr_found routines instrs bytes fits at next i e h =
    after (byte_at bytes at) _ i h (λ code read-code h.
    after (or_fault at (opcode_of code)) _ i h (λ opcode read-opcode h.
    let most = λ (operand : Operands → Operand). limit routines instrs (operand (operands_of opcode)) in
    after (byte_below (most (λ o. o.a)) bytes (at + 1)) _ i h (λ a read-a h.
    after (byte_below (most (λ o. o.b)) bytes (at + 2)) _ i h (λ b read-b h.
    after (byte_below (most (λ o. o.c)) bytes (at + 3)) _ i h (λ c read-c h.
    after (byte_below (most (λ o. o.d)) bytes (at + 4)) _ i h (λ d read-d h.
    after (byte_below 1 bytes (at + 5)) _ i h (λ unused read-unused h.
    after (word_below (most (λ o. o.imm)) bytes (at + 6)) _ i h (λ imm read-imm h.
    after (word_below (most (λ o. o.target)) bytes (at + 8)) _ i h (λ target read-target h.
    let read : Instr = record { opcode = opcode; a = a; b = b; c = c; d = d; imm = imm; target = target } in
    let spells : code_of opcode ≡ code = code_found code opcode (or_fault_ok at (opcode_of code) opcode read-opcode) in
    let takes-code = subst (λ (k : ℕ). Takes bytes at (k ∷ []) (at + 1)) (sym spells) (byte_found bytes at (at + 1) code refl read-code) in
    let takes-a = byte_below_found _ bytes (at + 1) (at + 2) a (plus at 1 1) read-a in
    let takes-b = byte_below_found _ bytes (at + 2) (at + 3) b (plus at 2 1) read-b in
    let takes-c = byte_below_found _ bytes (at + 3) (at + 4) c (plus at 3 1) read-c in
    let takes-d = byte_below_found _ bytes (at + 4) (at + 5) d (plus at 4 1) read-d in
    let takes-unused = unused_found bytes (at + 5) (at + 6) unused (plus at 5 1) read-unused in
    let takes-imm = word_below_found _ bytes fits (at + 6) (at + 8) imm (plus at 6 2) read-imm in
    let takes-target = word_below_found _ bytes fits (at + 8) next target (e ∙ plus at 8 2) read-target in
    let cells = Takes-then (Takes-then (Takes-then (Takes-then (Takes-then takes-code takes-a) takes-b) takes-c) takes-d) takes-unused in
    subst (λ (j : Instr). Takes bytes at (instr j) next) (ok_is read i h) (Takes-then (Takes-then cells takes-imm) takes-target))))))))))

-- the encoding of an instruction is read as the instruction
pub instr_again : (routines instrs : ℕ) (bytes : List ℕ) (at next : ℕ) (i : Instr) (rest : List ℕ) → routines ≤ 2 ^ 16
    → instrs ≤ 2 ^ 16 → next ≡ at + 10 → is_instr routines instrs i ≡ true
    → Left bytes at (instr i ++ rest) → (instr_at routines instrs bytes at ≡ Ok i) × Left bytes next rest
unfolding instr_at fields_at
instr_again routines instrs bytes at next i rest few short e legal l =
    let below = is_below routines instrs i legal in
    let fields = operands_of i.opcode in
    let code = byte_again bytes at (at + 1) _ _ refl l in
    let a = byte_below_again (limit routines instrs fields.a) bytes (at + 1) (at + 2) _ _ (plus at 1 1) below.a code.1 in
    let b = byte_below_again (limit routines instrs fields.b) bytes (at + 2) (at + 3) _ _ (plus at 2 1) below.b a.1 in
    let c = byte_below_again (limit routines instrs fields.c) bytes (at + 3) (at + 4) _ _ (plus at 3 1) below.c b.1 in
    let d = byte_below_again (limit routines instrs fields.d) bytes (at + 4) (at + 5) _ _ (plus at 4 1) below.d c.1 in
    let unused = byte_below_again 1 bytes (at + 5) (at + 6) 0 _ (plus at 5 1) (omega arith) d.1 in
    let imm = word_below_again (limit routines instrs fields.imm) bytes (at + 6) (at + 8) i.imm (word i.target ++ rest)
    (plus at 6 2) (operand_fits routines instrs fields.imm i.imm few short below.imm) below.imm unused.1 in
    let target = word_below_again (limit routines instrs fields.target) bytes (at + 8) next i.target rest (e ∙ plus at 8 2)
    (operand_fits routines instrs fields.target i.target few short below.target) below.target imm.1 in
    (rw (code.0, opcode_again i.opcode, a.0, b.0, c.0, d.0, unused.0, imm.0, target.0) refl, target.1)
