-- If a step reports no fault, there was none before.
use Rattle.std.proofs.Common.{◌≡◌, ◌<◌, ◌+◌, ℕ, Bool, true, false, cond, ◌||◌, if◌then◌else◌, not, List, [], ◌∷◌, Option, Some, None, length, codes, bytes_eq, refl, leb-false}
use Rattle.std.specs.Prelude.{nat_le}
use Rattle.geos_image.specs.declared.instr.Instr.{Instr}
use Rattle.geos_source.specs.declared.fault.Why.{Why}
use Rattle.geos_source.specs.declared.fault.Why.TheVariants.{TooMany}
use Rattle.geos_source.specs.declared.fault.BadLine.{BadLine}
use Rattle.geos_source.specs.declared.progress.TextRoutine.{TextRoutine}
use Rattle.geos_source.specs.declared.progress.Progress.{Progress}
use Rattle.geos_source.specs.Faults.{why_number, least, first, at_line, precedes}
use Rattle.geos_source.specs.Names.{Names}
use Rattle.geos_source.specs.Lines.{parted, said}
use Rattle.geos_source.specs.Operands.{instruction}
use Rattle.geos_source.specs.Items.{row_of}
use Rattle.geos_source.specs.Headers.{header}
use Rattle.geos_text.specs.Words.{is_empty}
use Rattle.geos_source.specs.Declarations.{Declared, twice, with_label, with_labels, name_in_front, with_routine_name, one_more_routine, one_more_instr, with_statement, with_line, with_lines}
use Rattle.geos_source.specs.Texts.{Draft, unfollowed, no_room, is_full, close, begin, drop_labels, take_in, take_out, take_instr, take_statement, take_labels, take_line, take_lines}

-- a fault is one
pub some_there : (why : Why) → Some why ≡ None → ⊥
some_there why e = cc

either_some : {A : Type 0} (test : Bool) (x y : A) → cond test (Some x) (Some y) ≡ None → ⊥
either_some true x y e = cc
either_some false x y e = cc

pub first-none : (a b : Option BadLine) → first a b ≡ None → (a ≡ None) × (b ≡ None)
first-none None b e = (refl, e)
first-none (Some a) None e = absurd cc
first-none (Some a) (Some b) e = absurd (either_some (precedes a b) a b e)

pub least-none : (a b : Option Why) → least a b ≡ None → (a ≡ None) × (b ≡ None)
least-none None b e = (refl, e)
least-none (Some a) None e = absurd cc
least-none (Some a) (Some b) e = absurd (either_some (nat_le (why_number a) (why_number b)) a b e)

pub at_line-none : (line : ℕ) (why : Option Why) → at_line line why ≡ None → why ≡ None
at_line-none line None e = refl
at_line-none line (Some why) e = absurd cc

pub twice-none : (old : Option ℕ) → twice old ≡ None → old ≡ None
twice-none None e = refl
twice-none (Some value) e = absurd cc

pub unfollowed-none : (waiting : Option ℕ) → unfollowed waiting ≡ None → waiting ≡ None
unfollowed-none None e = refl
unfollowed-none (Some line) e = absurd cc

pub unless_some : {A : Type 0} (test : Bool) (x : A) → cond test (Some x) None ≡ None → test ≡ false
unless_some true x e = absurd cc
unless_some false x e = refl

pub no_room-none : (routines : List TextRoutine) → no_room routines ≡ None → length routines < 32
no_room-none routines e = leb-false 32 (length routines) (unless_some (nat_le 32 (length routines)) TooMany e)

pub is_full-none : (code : List Instr) → is_full code ≡ None → length code < 4096
is_full-none code e = leb-false 4096 (length code) (unless_some (nat_le 4096 (length code)) TooMany e)

-- ---- declarations

with_labels-quiet : (n : ℕ) (names : List (List ℕ)) (d : Declared) → (with_labels n names d).fault ≡ None → d.fault ≡ None
with_labels-quiet n [] d e = e
with_labels-quiet n (name ∷ names) d e = (first-none _ _ (with_labels-quiet n names (with_label n name d) e)).0

with_routine_name-quiet : (n : ℕ) (name : Option (List ℕ)) (d : Declared) → (with_routine_name n name d).fault ≡ None → d.fault ≡ None
with_routine_name-quiet n None d e = e
with_routine_name-quiet n (Some name) d e = (first-none _ _ e).0

-- what a statement declares, by whether its first word is `routine`, `in` or `out`
abbrev pub declared_by : Bool → Bool → Bool → ℕ → List (List ℕ) → Declared → Declared
declared_by is_routine is_in is_out n words d =
    if is_routine then one_more_routine (with_routine_name n (name_in_front words) d)
    else if is_in || is_out then d
    else one_more_instr d

declared_by-quiet : (a b c : Bool) (n : ℕ) (words : List (List ℕ)) (d : Declared) → (declared_by a b c n words d).fault ≡ None → d.fault ≡ None
declared_by-quiet true b c n words d e = with_routine_name-quiet n (name_in_front words) d e
declared_by-quiet false true c n words d e = e
declared_by-quiet false false true n words d e = e
declared_by-quiet false false false n words d e = e

with_statement-quiet : (n : ℕ) (words : List (List ℕ)) (d : Declared) → (with_statement n words d).fault ≡ None → d.fault ≡ None
with_statement-quiet n [] d e = e
with_statement-quiet n (word ∷ words) d e = declared_by-quiet (bytes_eq word (codes "routine")) (bytes_eq word (codes "in")) (bytes_eq word (codes "out")) n words d e

with_line-quiet : (n : ℕ) (line : List ℕ) (d : Declared) → (with_line n line d).fault ≡ None → d.fault ≡ None
unfolding with_line
with_line-quiet n line d e =
    let parts = parted (said line) in
    with_labels-quiet n parts.labels d (with_statement-quiet n parts.statement (with_labels n parts.labels d) e)

-- lines that declare nothing twice did not begin with such a fault
pub with_lines-quiet : (n : ℕ) (lines : List (List ℕ)) (d : Declared) → (with_lines n lines d).fault ≡ None → d.fault ≡ None
with_lines-quiet n [] d e = e
with_lines-quiet n (line ∷ lines) d e = with_line-quiet n line d (with_lines-quiet (n + 1) lines (with_line n line d) e)

-- ---- what lines say

-- what a statement says, by whether its first word is `routine`, `in` or `out`
abbrev pub taken_by : Bool → Bool → Bool → Names → ℕ → List ℕ → List (List ℕ) → Draft → Draft
taken_by is_routine is_in is_out names n word words t =
    if is_routine then begin n (header words) (close t)
    else if is_in then record t { progress = take_in n (row_of words) (drop_labels t.progress) }
    else if is_out then record t { progress = take_out n (row_of words) (drop_labels t.progress) }
    else take_instr n (instruction names word words) t

taken_by-quiet : (a b c : Bool) (names : Names) (n : ℕ) (word : List ℕ) (words : List (List ℕ)) (t : Draft)
    → (taken_by a b c names n word words t).progress.fault ≡ None → t.progress.fault ≡ None
taken_by-quiet true b c names n word words t e = (first-none _ _ (first-none _ _ (first-none _ _ e).0).0).0
taken_by-quiet false true c names n word words t e = (first-none _ _ (first-none _ _ e).0).0
taken_by-quiet false false true names n word words t e = (first-none _ _ (first-none _ _ e).0).0
taken_by-quiet false false false names n word words t e = (first-none _ _ e).0

take_statement-quiet : (names : Names) (n : ℕ) (words : List (List ℕ)) (t : Draft) → (take_statement names n words t).progress.fault ≡ None
    → t.progress.fault ≡ None
take_statement-quiet names n [] t e = e
take_statement-quiet names n (word ∷ words) t e = taken_by-quiet (bytes_eq word (codes "routine")) (bytes_eq word (codes "in")) (bytes_eq word (codes "out")) names n word words t e

take_labels-quiet : (n : ℕ) (some : Bool) (p : Progress) → (take_labels n some p).fault ≡ None → p.fault ≡ None
take_labels-quiet n false p e = e
take_labels-quiet n true p e = e

pub take_line-quiet : (names : Names) (n : ℕ) (line : List ℕ) (t : Draft) → (take_line names n line t).progress.fault ≡ None → t.progress.fault ≡ None
unfolding take_line
take_line-quiet names n line t e =
    let parts = parted (said line) in
    let some = not (is_empty parts.labels) in
    take_labels-quiet n some t.progress (take_statement-quiet names n parts.statement (record t { progress = take_labels n some t.progress }) e)

-- lines without fault did not begin with one
pub take_lines-quiet : (names : Names) (n : ℕ) (lines : List (List ℕ)) (t : Draft) → (take_lines names n lines t).progress.fault ≡ None
    → t.progress.fault ≡ None
take_lines-quiet names n [] t e = e
take_lines-quiet names n (line ∷ lines) t e = take_line-quiet names n line t (take_lines-quiet names (n + 1) lines (take_line names n line t) e)
