-- A text without fault has an instruction for each line that has one.
use Rattle.std.proofs.Common.{◌≡◌, ◌∙◌, ◌+◌, ◌≤◌, ℕ, Bool, true, false, cond, ◌||◌, not, List, [], ◌∷◌, Option, Some, None, Result, Ok, Err}
use Rattle.std.proofs.Common.{length, codes, bytes_eq, refl, sym, ap, subst, arith, inl, inr, ◌++◌, append_assoc}
use Rattle.std.specs.Prelude.{if◌then◌else◌, nat_lt}
use Rattle.std.specs.Str.Lines.{lines}
use Rattle.std.proofs.lemmas.Bool.{cases_lt, lt-ltb, true≢false}
use Rattle.std.proofs.lemmas.List.{length_push}
use Rattle.geos_image.specs.declared.instr.Instr.{Instr}
use Rattle.geos_text.specs.Words.{is_empty, most_bytes}
use Rattle.geos_source.specs.declared.fault.Why.{Why}
use Rattle.geos_source.specs.declared.fault.BadLine.{BadLine}
use Rattle.geos_source.specs.declared.progress.Progress.{Progress}
use Rattle.geos_source.specs.Faults.{first, least, at_line}
use Rattle.geos_source.specs.InstrLines.{is_instr, has_instr, with_number_if, instr_lines_from, instr_lines}
use Rattle.geos_source.specs.Names.{Names}
use Rattle.geos_source.specs.Lines.{parted, said}
use Rattle.geos_source.specs.Declarations.{declared}
use Rattle.geos_source.specs.Operands.{instruction}
use Rattle.geos_source.specs.Texts.{Draft, Code, blank, is_full, outside, why_of, with_instr, with_instr_at, close}
use Rattle.geos_source.specs.Texts.{take_instr, take_statement}
use Rattle.geos_source.specs.Texts.{take_labels, take_line, take_lines, too_long, without_routine, fault_of, code_of}
use Rattle.geos_source.proofs.Quiet.{first-none, least-none, at_line-none, some_there, unless_some, taken_by, take_lines-quiet}
use Rattle.geos_source.proofs.Ended.{code_is}

-- one if b is true, otherwise 0
abbrev one_if : Bool → ℕ
one_if b = if b then 1 else 0

-- an instruction without fault comes to the code
instr-counted : (read : Result Instr Why) (others : Option Why) (code : List Instr) → least (why_of read) others ≡ None
    → length (with_instr read (least (why_of read) others) code) ≡ length code + 1
instr-counted (Ok i) None code quiet = length_push code i
instr-counted (Ok i) (Some why) code quiet = absurd cc
instr-counted (Err why) others code quiet = absurd (some_there why (least-none (Some why) others quiet).0)

-- a statement without fault brings an instruction, if it is one
statement-counted : (a b c : Bool) (names : Names) (n : ℕ) (word : List ℕ) (words : List (List ℕ)) (t : Draft)
    → (taken_by a b c names n word words t).progress.fault ≡ None
    → length (taken_by a b c names n word words t).code ≡ length t.code + one_if (not (a || b || c))
statement-counted true b c names n word words t quiet = omega arith
statement-counted false true c names n word words t quiet = omega arith
statement-counted false false true names n word words t quiet = omega arith
statement-counted false false false names n word words t quiet =
    let read = instruction names word words in
    let others = least (is_full t.code) (outside t.progress.part) in
    instr-counted read others t.code (at_line-none n (least (why_of read) others) (first-none t.progress.fault _ quiet).1)

words-counted : (names : Names) (n : ℕ) (words : List (List ℕ)) (t : Draft) → (take_statement names n words t).progress.fault ≡ None
    → length (take_statement names n words t).code ≡ length t.code + one_if (is_instr words)
words-counted names n [] t quiet = omega arith
words-counted names n (word ∷ words) t quiet =
    statement-counted (bytes_eq word (codes "routine")) (bytes_eq word (codes "in")) (bytes_eq word (codes "out"))
    names n word words t quiet

line-counted : (names : Names) (n : ℕ) (line : List ℕ) (t : Draft) → (take_line names n line t).progress.fault ≡ None
    → length (take_line names n line t).code ≡ length t.code + one_if (has_instr line)
unfolding take_line has_instr
line-counted names n line t quiet =
    let parts = parted (said line) in
    words-counted names n parts.statement (record t { progress = take_labels n (not (is_empty parts.labels)) t.progress }) quiet

-- a list with one number more, if there is one
numbers-counted : (has : Bool) (n : ℕ) (numbers : List ℕ) → length (if has then n ∷ numbers else numbers) ≡ one_if has + length numbers
numbers-counted true n numbers = omega arith
numbers-counted false n numbers = omega arith

lines-counted : (names : Names) (n : ℕ) (lines : List (List ℕ)) (t : Draft) → (take_lines names n lines t).progress.fault ≡ None
    → length (take_lines names n lines t).code ≡ length t.code + length (instr_lines_from n lines)
lines-counted names n [] t quiet = omega arith
lines-counted names n (line ∷ lines) t quiet =
    let next = take_line names n line t in
    let here = line-counted names n line t (take_lines-quiet names (n + 1) lines next quiet) in
    let behind = lines-counted names (n + 1) lines next quiet in
    let numbers = numbers-counted (has_instr line) n (instr_lines_from (n + 1) lines) in
    omega (arith, here, behind, numbers)

-- the code of a text without fault has as many instructions as lines have one
pub code-counted : (text : List ℕ) (code : Code) → code_of text ≡ Ok code → length (instr_lines text) ≡ length code.instrs
code-counted text code e =
    let d = declared (lines text) in
    let t = take_lines d.names 1 (lines text) blank in
    let is = code_is (close t) (fault_of text) code e in
    let twice = first-none (first (too_long text) d.fault) (first (close t).progress.fault (without_routine t.progress.part)) is.0 in
    let said = first-none (close t).progress.fault (without_routine t.progress.part) twice.1 in
    let quiet = first-none t.progress.fault _ (first-none _ _ said.0).0 in
    let counted = lines-counted d.names 1 (lines text) blank quiet.0 in
    subst (λ (c : Code). length (instr_lines text) ≡ length c.instrs) is.1 (omega (arith, counted))

-- a text that is not too long is short
short-text : (text : List ℕ) → too_long text ≡ None → length text ≤ most_bytes
short-text text e = elim (cases_lt most_bytes (length text)) [
  | inl more ↦ absurd (true≢false (sym (lt-ltb most_bytes (length text) more) ∙ unless_some (nat_lt most_bytes (length text)) _ e))
  | inr short ↦ short
]

-- where a text has no fault, its lines have no fault either, and it is not too long
pub no_fault-parts : (text : List ℕ) (twice fault rest : Option BadLine) → None ≡ first (first (too_long text) twice) (first fault rest)
    → (length text ≤ most_bytes) × (fault ≡ None)
no_fault-parts text twice fault rest e =
    let both = first-none (first (too_long text) twice) (first fault rest) (sym e) in
    (short-text text (first-none (too_long text) twice both.0).0, (first-none fault rest both.1).0)

-- the numbers after one more line are those from there on
pub one-more : (has : Bool) (n : ℕ) (old rest new : List ℕ) → new ≡ with_number_if has n old
    → old ++ (if has then n ∷ rest else rest) ≡ new ++ rest
one-more true n old rest new is = sym (append_assoc old (n ∷ []) rest) ∙ ap (λ numbers. numbers ++ rest) (sym is)
one-more false n old rest new is = ap (λ numbers. numbers ++ rest) (sym is)

-- an instruction after which there is no fault has none itself
pub instr-quiet : (line : ℕ) (read : Result Instr Why) (others why : Option Why) (old new : Progress) → new ≡ with_instr_at line why old
    → why ≡ least (why_of read) others → new.fault ≡ None → (why ≡ None) × (why_of read ≡ None)
instr-quiet line read others why old new is known quiet =
    let said = first-none old.fault (at_line line why) (sym (ap (λ (p : Progress). p.fault) is) ∙ quiet) in
    let none = at_line-none line why said.1 in
    (none, (least-none (why_of read) others (sym known ∙ none)).0)
