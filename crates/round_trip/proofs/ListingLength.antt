-- The listing of an image is not too long for a text.
use Rattle.std.proofs.Common.{◌≡◌, ◌<◌, ◌≤◌, ℕ, ◌+◌, Bool, true, false, cond, List, [], ◌∷◌, length, Some, unwrap_or, slice_get, sym, subst, arith}
use Rattle.std.specs.Prelude.{decimal}
use Rattle.std.specs.Option.{option_map_or}
use Rattle.std.proofs.lemmas.Fmt.{length-decimal-le}
use Rattle.std.proofs.lemmas.List.{length-append, length-take}
use Rattle.geos_image.specs.declared.instr.Instr.{Instr}
use Rattle.geos_opcodes.specs.declared.opcode.Opcode.{Opcode}
use Rattle.geos_opcodes.specs.declared.opcode.Opcode.TheVariants.{Ldi}
use Rattle.geos_opcodes.specs.declared.opcode.Operand.{Operand}
use Rattle.geos_opcodes.specs.declared.opcode.Operand.TheVariants.{Unused, Word, Counter, Slot, Pointer, Number, Shift, Routine, Label}
use Rattle.geos_image.specs.declared.routine.Routine as routine
use Rattle.geos_opcodes.specs.Facts.{operands_of, limit, word_of}
use Rattle.geos_image.specs.Legal.{text_end, is_instr}
use Rattle.geos_image.specs.declared.point.Point.{Point}
use Rattle.geos_image.specs.Parts.{Parts}
use Rattle.geos_image.proofs.Instrs.{is_below}
use Rattle.geos_listing.specs.Instrs.{name_of as name_text}
use Rattle.geos_listing.proofs.Limits.{item_at}
use Rattle.geos_opcodes.specs.Fields.{is_written}
use Rattle.round_trip.proofs.Spaced.{spaced}
use Rattle.round_trip.proofs.InstrLines.{instr_text}
use Rattle.round_trip.proofs.OperandsAgain.{operand_word, in_front, operand_words}
use Rattle.round_trip.proofs.LabelLines.{label_line_text}
use Rattle.round_trip.proofs.ListedFacts.{Facts}

-- a routine's name has at most 16 bytes
pub name-short : (r : routine.Routine) → length r.name ≡ 16 → length (name_text r) ≤ 16
name-short r long =
    let some = length-take (unwrap_or (text_end r.name) 16) r.name in
    omega (arith, some, long)

operand-short : (image : Parts) → Facts image → (kind : Operand) (n : ℕ) → n < limit (length image.routines) (length image.points) kind
    → length (operand_word image.routines kind n) ≤ 16
operand-short image facts Unused n lt = omega arith
operand-short image facts Word n lt = let d = length-decimal-le 1 n (omega arith) (omega (arith, lt)) (omega (arith, lt)) in omega (arith, d)
operand-short image facts Counter n lt = let d = length-decimal-le 1 n (omega arith) (omega (arith, lt)) (omega (arith, lt)) in omega (arith, d)
operand-short image facts Slot n lt = let d = length-decimal-le 1 n (omega arith) (omega (arith, lt)) (omega (arith, lt)) in omega (arith, d)
operand-short image facts Pointer n lt = let d = length-decimal-le 1 n (omega arith) (omega (arith, lt)) (omega (arith, lt)) in omega (arith, d)
operand-short image facts Number n lt = let d = length-decimal-le 5 n (omega arith) (omega (arith, lt)) (omega (arith, lt)) in omega (arith, d)
operand-short image facts Shift n lt = let d = length-decimal-le 2 n (omega arith) (omega (arith, lt)) (omega (arith, lt)) in omega (arith, d)
operand-short image facts Routine n lt =
    let at = item_at image.routines n lt in
    subst (λ o. length (option_map_or name_text o []) ≤ 16) (sym at.1) (name-short at.0 (facts.routine n at.0 at.1).long)
operand-short image facts Label n lt =
    let short = facts.short in
    let d = length-decimal-le 4 n (omega arith) (omega (arith, lt, short)) (omega (arith, lt, short)) in
    omega (arith, d)

front-short : (written : Bool) (word : List ℕ) (words : List (List ℕ)) (n : ℕ) → length word ≤ 16 → length (spaced words) ≤ n
    → length (spaced (cond written (word ∷ words) words)) ≤ n + 17
front-short false word words n h rest = omega (arith, rest)
front-short true word words n h rest = let sum = length-append word (spaced words) in omega (arith, sum, h, rest)

-- a point's operands have at most 102 bytes
operands-short : (image : Parts) → Facts image → (i : Instr) → is_instr (length image.routines) (length image.points) i ≡ true
    → length (spaced (operand_words image.routines i)) ≤ 102
operands-short image facts i legal =
    let kinds = operands_of i.opcode in
    let below = is_below (length image.routines) (length image.points) i legal in
    let put : (kind : Operand) (n : ℕ) (words : List (List ℕ)) (most : ℕ) → n < limit (length image.routines) (length image.points) kind
    → length (spaced words) ≤ most → length (spaced (in_front image.routines kind n words)) ≤ most + 17 =
    λ kind n words most lt rest. front-short (is_written kind) (operand_word image.routines kind n) words most
    (operand-short image facts kind n lt) rest in
    put kinds.a i.a _ 85 below.a
    (put kinds.b i.b _ 68 below.b
    (put kinds.c i.c _ 51 below.c
    (put kinds.d i.d _ 34 below.d (put kinds.imm i.imm _ 17 below.imm (put kinds.target i.target [] 0 below.target (omega arith))))))

word-short : (opcode : Opcode) → length (word_of opcode) ≤ 9
word-short Ldi = omega arith
word-short _ = omega arith

-- an instruction's line has at most 115 bytes
pub instr-short : (image : Parts) → Facts image → (pc : ℕ) (point : Point) → slice_get image.points pc ≡ Some point
    → length (instr_text image.routines point.instr) ≤ 115
instr-short image facts pc point e =
    let i = point.instr in
    let words = operands-short image facts i (facts.instr pc point e) in
    let word = word-short i.opcode in
    let sum = length-append (word_of i.opcode) (spaced (operand_words image.routines i)) in
    omega (arith, sum, word, words)

-- a label's line has at most 6 bytes
pub label-short : (pc : ℕ) → pc < 4096 → length (label_line_text pc) ≤ 6
label-short pc lt =
    let d = length-decimal-le 4 pc (omega arith) (omega (arith, lt)) (omega (arith, lt)) in
    let sum = length-append (decimal pc) (58 ∷ []) in
    omega (arith, sum, d)
