-- The line of an instruction says its word and the words of its operands.
use Rattle.std.proofs.Common.{◌≡◌, ◌∙◌, ◌<◌, ◌≤◌, ℕ, Bool, true, false, cond, List, [], ◌∷◌, ◌++◌, length, None, slice_get, refl, ap, subst, arith}
use Rattle.std.specs.Prelude.{codes, bytes_eq}
use Rattle.std.specs.Option.{option_map_or}
use Rattle.std.specs.List.{All, list_all}
use Rattle.std.proofs.lemmas.Bool.{and_from}
use Rattle.geos_image.specs.declared.instr.Instr.{Instr}
use Rattle.geos_opcodes.specs.declared.opcode.Opcode.{Opcode}
use Rattle.geos_opcodes.specs.declared.opcode.Opcode.TheVariants.{Ldi}
use Rattle.geos_opcodes.specs.declared.opcode.Operand.{Operand}
use Rattle.geos_opcodes.specs.declared.opcode.Operand.TheVariants.{Unused, Word, Counter, Slot, Pointer, Number, Shift, Routine, Label}
use Rattle.geos_image.specs.declared.routine.Routine as routine
use Rattle.geos_opcodes.specs.Facts.{operands_of, limit, word_of}
use Rattle.geos_image.specs.Legal.{is_name, is_instr}
use Rattle.geos_image.proofs.Instrs.{is_below}
use Rattle.geos_listing.specs.Instrs.{name_of as name_text, instr_line}
use Rattle.geos_listing.proofs.Limits.{item_at, get_or-at}
use Rattle.geos_opcodes.specs.Fields.{is_written}
use Rattle.geos_source.specs.Names.{label_of}
use Rattle.geos_source.specs.Lines.{said, parted, behind_label}
use Rattle.round_trip.proofs.Spaced.{is_word, spaced, said-indented}
use Rattle.round_trip.proofs.NumbersAgain.{decimal-inner, decimal-word}
use Rattle.round_trip.proofs.NamesAgain.{name-word, label-word}
use Rattle.round_trip.proofs.OperandsAgain.{operand_word, in_front, operand_words, operands-spaced}

-- a routine has a name in 16 bytes
abbrev pub IsNamed : routine.Routine → Type 0
IsNamed r = (is_name r.name ≡ true) × (length r.name ≡ 16)

routine-word : (routines : List routine.Routine) (n : ℕ) → All IsNamed routines → n < length routines
    → is_word (option_map_or name_text (slice_get routines n) []) ≡ true
routine-word routines n named lt =
    let at = item_at routines n lt in
    let here : IsNamed at.0 = subst IsNamed (get_or-at routines n at.0 at.0 at.1) (named n at.0 lt) in
    ap (λ o. is_word (option_map_or name_text o [])) at.1 ∙ name-word at.0.name here.0 here.1

operand-word : (instrs : ℕ) (routines : List routine.Routine) (kind : Operand) (n : ℕ) → All IsNamed routines
    → instrs ≤ 4096 → n < limit (length routines) instrs kind → is_written kind ≡ true
    → is_word (operand_word routines kind n) ≡ true
operand-word instrs routines Unused n named short below written = absurd cc
operand-word instrs routines Word n named short below written = decimal-inner n (omega (arith, below))
operand-word instrs routines Counter n named short below written = decimal-inner n (omega (arith, below))
operand-word instrs routines Slot n named short below written = decimal-inner n (omega (arith, below))
operand-word instrs routines Pointer n named short below written = decimal-inner n (omega (arith, below))
operand-word instrs routines Number n named short below written = decimal-word n (omega (arith, below))
operand-word instrs routines Shift n named short below written = decimal-word n (omega (arith, below))
operand-word instrs routines Routine n named short below written = routine-word routines n named below
operand-word instrs routines Label n named short below written = label-word n (omega (arith, below, short))

front-words : (written : Bool) (word : List ℕ) (words : List (List ℕ)) → (written ≡ true → is_word word ≡ true) → list_all is_word words ≡ true
    → list_all is_word (cond written (word ∷ words) words) ≡ true
front-words true word words h all = and_from (is_word word) (list_all is_word words) (h refl) all
front-words false word words h all = all

-- the words of an instruction's operands are words
pub operands-words : (instrs : ℕ) (routines : List routine.Routine) (i : Instr) → All IsNamed routines → instrs ≤ 4096
    → is_instr (length routines) instrs i ≡ true
    → list_all is_word (operand_words routines i) ≡ true
operands-words instrs routines i named short legal =
    let kinds = operands_of i.opcode in
    let below = is_below (length routines) instrs i legal in
    let put : (kind : Operand) (n : ℕ) (words : List (List ℕ)) → n < limit (length routines) instrs kind
    → list_all is_word words ≡ true → list_all is_word (in_front routines kind n words) ≡ true =
    λ kind n words lt all. front-words (is_written kind) (operand_word routines kind n) words
    (operand-word instrs routines kind n named short lt) all in
    put kinds.a i.a _ below.a (put kinds.b i.b _ below.b
    (put kinds.c i.c _ below.c (put kinds.d i.d _ below.d (put kinds.imm i.imm _ below.imm (put kinds.target i.target [] below.target refl)))))

-- an opcode's word is a word, and none that has another meaning at the start of a line
pub record IsInstrWord (text : List ℕ) : Type 0 where
  pub word : is_word text ≡ true
  pub no_label : label_of text ≡ None
  pub no_routine : bytes_eq text (codes "routine") ≡ false
  pub no_in : bytes_eq text (codes "in") ≡ false
  pub no_out : bytes_eq text (codes "out") ≡ false

pub word_of-is : (opcode : Opcode) → IsInstrWord (word_of opcode)
unfolding label_of
word_of-is Ldi = record { word = refl; no_label = refl; no_routine = refl; no_in = refl; no_out = refl }
word_of-is _ = record { word = refl; no_label = refl; no_routine = refl; no_in = refl; no_out = refl }

-- the line of an instruction, without its end
abbrev pub instr_text : List routine.Routine → Instr → List ℕ
instr_text routines i = codes "    " ++ (word_of i.opcode ++ spaced (operand_words routines i))

pub instr_line-text : (routines : List routine.Routine) (i : Instr) → instr_line routines i ≡ instr_text routines i ++ codes "\n"
instr_line-text routines i = ap (λ (t : List ℕ). (codes "    " ++ (word_of i.opcode ++ t)) ++ codes "\n") (operands-spaced routines i)

-- words of which the first is no label are a statement
pub parted-statement : (word : List ℕ) (words : List (List ℕ)) → label_of word ≡ None
    → parted (word ∷ words) ≡ record { labels = []; statement = word ∷ words }
parted-statement word words none = ap (λ found. behind_label found word words (parted words)) none

-- it says the instruction's word and its operands
pub instr-said : (instrs : ℕ) (routines : List routine.Routine) (i : Instr) → All IsNamed routines → instrs ≤ 4096
    → is_instr (length routines) instrs i ≡ true
    → parted (said (instr_text routines i)) ≡ record { labels = []; statement = word_of i.opcode ∷ operand_words routines i }
instr-said instrs routines i named short legal =
    let is = word_of-is i.opcode in
    ap parted (said-indented (word_of i.opcode) (operand_words routines i) is.word (operands-words instrs routines i named short legal))
    ∙ parted-statement (word_of i.opcode) (operand_words routines i) is.no_label
