-- Faults that were noted before, beside those of what lines declare and say.
use Rattle.std.proofs.Common.{◌≡◌, ◌∙◌, ◌+◌, ℕ, Bool, true, false, not, List, [], ◌∷◌, Option, Some, None, codes, bytes_eq, refl, sym, ap}
use Rattle.geos_image.specs.declared.instr.Instr.{Instr}
use Rattle.geos_image.specs.declared.row.Row.{Row}
use Rattle.geos_image.specs.declared.routine.Routine.{Routine}
use Rattle.std.specs.Prelude.{Result}
use Rattle.std.specs.Str.Lines.{lines}
use Rattle.geos_source.specs.declared.fault.Why.{Why}
use Rattle.geos_source.specs.declared.fault.BadLine.{BadLine}
use Rattle.geos_source.specs.Faults.{first}
use Rattle.geos_source.specs.Names.{Names}
use Rattle.geos_source.specs.Lines.{parted, said}
use Rattle.geos_source.specs.Operands.{instruction}
use Rattle.geos_source.specs.Items.{row_of}
use Rattle.geos_source.specs.Headers.{header}
use Rattle.geos_text.specs.Words.{is_empty}
use Rattle.geos_source.specs.Declarations.{Declared, with_label, with_labels, name_in_front, with_routine_name, one_more_routine, with_statement, with_line, declared}
use Rattle.geos_source.specs.Texts.{Draft, blank, draft_of, fault_of, too_long, without_routine, close, begin, drop_labels, take_in, take_out, take_instr, take_statement, take_labels, take_line, take_lines, unfollowed, unfilled}
use Rattle.geos_source.specs.Tallies.{noted, told}
use Rattle.geos_source.proofs.FirstLaws.{first-assoc, first-none, first-all}
use Rattle.geos_source.proofs.Quiet.{declared_by, taken_by}

with_label-noted : (n : ℕ) (name : List ℕ) (f : Option BadLine) (d : Declared) → with_label n name (noted f d) ≡ noted f (with_label n name d)
with_label-noted n name f d = ap (λ fault. record (with_label n name d) { fault = fault }) (first-assoc f d.fault _)

with_labels-noted : (n : ℕ) (names : List (List ℕ)) (f : Option BadLine) (d : Declared)
    → with_labels n names (noted f d) ≡ noted f (with_labels n names d)
with_labels-noted n [] f d = refl
with_labels-noted n (name ∷ names) f d = ap (with_labels n names) (with_label-noted n name f d) ∙ with_labels-noted n names f (with_label n name d)

with_routine_name-noted : (n : ℕ) (name : Option (List ℕ)) (f : Option BadLine) (d : Declared)
    → with_routine_name n name (noted f d) ≡ noted f (with_routine_name n name d)
with_routine_name-noted n None f d = refl
with_routine_name-noted n (Some name) f d = ap (λ fault. record (with_routine_name n (Some name) d) { fault = fault }) (first-assoc f d.fault _)

declared_by-noted : (a b c : Bool) (n : ℕ) (words : List (List ℕ)) (f : Option BadLine) (d : Declared)
    → declared_by a b c n words (noted f d) ≡ noted f (declared_by a b c n words d)
declared_by-noted true b c n words f d = ap one_more_routine (with_routine_name-noted n (name_in_front words) f d)
declared_by-noted false true c n words f d = refl
declared_by-noted false false true n words f d = refl
declared_by-noted false false false n words f d = refl

with_statement-noted : (n : ℕ) (words : List (List ℕ)) (f : Option BadLine) (d : Declared)
    → with_statement n words (noted f d) ≡ noted f (with_statement n words d)
with_statement-noted n [] f d = refl
with_statement-noted n (word ∷ words) f d = declared_by-noted (bytes_eq word (codes "routine")) (bytes_eq word (codes "in")) (bytes_eq word (codes "out")) n words f d

pub with_line-noted : (n : ℕ) (line : List ℕ) (f : Option BadLine) (d : Declared) → with_line n line (noted f d) ≡ noted f (with_line n line d)
unfolding with_line
with_line-noted n line f d =
    let parts = parted (said line) in
    ap (with_statement n parts.statement) (with_labels-noted n parts.labels f d)
    ∙ with_statement-noted n parts.statement f (with_labels n parts.labels d)

-- ---- what lines say

with_fault : Option BadLine → Draft → Draft
with_fault fault t = record t { progress = record t.progress { fault = fault } }

pub drop_labels-told : (f : Option BadLine) (t : Draft) → record (told f t) { progress = drop_labels (told f t).progress } ≡ told f
    (record t { progress = drop_labels t.progress })
unfolding with_fault
drop_labels-told f t = ap (λ fault. with_fault fault (record t { progress = drop_labels t.progress })) (first-assoc f t.progress.fault _)

pub close-told : (f : Option BadLine) (t : Draft) → close (told f t) ≡ told f (close t)
unfolding with_fault
close-told f t =
    ap (λ fault. with_fault fault (close t)) (ap (λ x. first x (unfilled t.progress.part)) (first-assoc f t.progress.fault _) ∙ first-assoc f _ _)

pub begin-told : (n : ℕ) (read : Result Routine Why) (f : Option BadLine) (t : Draft) → begin n read (told f t) ≡ told f (begin n read t)
unfolding with_fault
begin-told n read f t = ap (λ fault. with_fault fault (begin n read t)) (first-assoc f t.progress.fault _)

pub take_in-told : (n : ℕ) (read : Result Row Why) (f : Option BadLine) (t : Draft)
    → record (told f t) { progress = take_in n read (told f t).progress } ≡ told f (record t { progress = take_in n read t.progress })
unfolding with_fault
take_in-told n read f t = ap (λ fault. with_fault fault (record t { progress = take_in n read t.progress })) (first-assoc f t.progress.fault _)

pub take_out-told : (n : ℕ) (read : Result Row Why) (f : Option BadLine) (t : Draft)
    → record (told f t) { progress = take_out n read (told f t).progress } ≡ told f (record t { progress = take_out n read t.progress })
unfolding with_fault
take_out-told n read f t = ap (λ fault. with_fault fault (record t { progress = take_out n read t.progress })) (first-assoc f t.progress.fault _)

pub take_instr-told : (n : ℕ) (read : Result Instr Why) (f : Option BadLine) (t : Draft) → take_instr n read (told f t) ≡ told f (take_instr n read t)
unfolding with_fault
take_instr-told n read f t = ap (λ fault. with_fault fault (take_instr n read t)) (first-assoc f t.progress.fault _)

taken_by-told : (a b c : Bool) (names : Names) (n : ℕ) (word : List ℕ) (words : List (List ℕ)) (f : Option BadLine) (t : Draft)
    → taken_by a b c names n word words (told f t) ≡ told f (taken_by a b c names n word words t)
taken_by-told true b c names n word words f t = ap (begin n (header words)) (close-told f t) ∙ begin-told n (header words) f (close t)
taken_by-told false true c names n word words f t =
    ap (λ (d : Draft). record d { progress = take_in n (row_of words) d.progress }) (drop_labels-told f t)
    ∙ take_in-told n (row_of words) f (record t { progress = drop_labels t.progress })
taken_by-told false false true names n word words f t =
    ap (λ (d : Draft). record d { progress = take_out n (row_of words) d.progress }) (drop_labels-told f t)
    ∙ take_out-told n (row_of words) f (record t { progress = drop_labels t.progress })
taken_by-told false false false names n word words f t = take_instr-told n (instruction names word words) f t

take_statement-told : (names : Names) (n : ℕ) (words : List (List ℕ)) (f : Option BadLine) (t : Draft)
    → take_statement names n words (told f t) ≡ told f (take_statement names n words t)
take_statement-told names n [] f t = refl
take_statement-told names n (word ∷ words) f t = taken_by-told (bytes_eq word (codes "routine")) (bytes_eq word (codes "in")) (bytes_eq word (codes "out")) names n word words f t

take_labels-told : (n : ℕ) (some : Bool) (f : Option BadLine) (t : Draft)
    → record (told f t) { progress = take_labels n some (told f t).progress } ≡ told f (record t { progress = take_labels n some t.progress })
take_labels-told n true f t = refl
take_labels-told n false f t = refl

take_line-told : (names : Names) (n : ℕ) (line : List ℕ) (f : Option BadLine) (t : Draft)
    → take_line names n line (told f t) ≡ told f (take_line names n line t)
unfolding take_line
take_line-told names n line f t =
    let parts = parted (said line) in
    let some = not (is_empty parts.labels) in
    ap (take_statement names n parts.statement) (take_labels-told n some f t)
    ∙ take_statement-told names n parts.statement f (record t { progress = take_labels n some t.progress })

pub take_lines-told : (names : Names) (n : ℕ) (lines : List (List ℕ)) (f : Option BadLine) (t : Draft)
    → take_lines names n lines (told f t) ≡ told f (take_lines names n lines t)
take_lines-told names n [] f t = refl
take_lines-told names n (line ∷ lines) f t = ap (take_lines names (n + 1) lines) (take_line-told names n line f t)
    ∙ take_lines-told names (n + 1) lines f (take_line names n line t)

-- labels that were dropped are dropped when a routine ends
pub close-dropped : (t : Draft) → close (record t { progress = drop_labels t.progress }) ≡ close t
unfolding with_fault
close-dropped t = ap (λ fault. with_fault fault (close t))
    (ap (λ x. first x (unfilled t.progress.part)) (first-none (first t.progress.fault (unfollowed t.progress.waiting))))

-- ---- a line, and a text

pub declared_line : (f g h : Option BadLine) (n : ℕ) (line : List ℕ) (d e : Declared) → g ≡ f → e ≡ with_line n line d → h ≡ first g e.fault
    → noted h (record e { fault = None }) ≡ with_line n line (noted f d)
declared_line f g h n line d e same with last =
    let joined : first h None ≡ first f e.fault = first-none h ∙ last ∙ ap (λ x. first x e.fault) same in
    ap (λ fault. let r : Declared = record e { fault = fault } in r) joined ∙ ap (noted f) with ∙ sym (with_line-noted n line f d)

pub told_text : (text : List ℕ) (f g h i too without : Option BadLine) (d : Declared) (s t : Draft)
    → noted f d ≡ declared (lines text) → d.fault ≡ None → s ≡ blank
    → told g t ≡ close (take_lines d.names 1 (lines text) (told f s)) → t.progress.fault ≡ None
    → too ≡ too_long text → h ≡ first g too → without ≡ without_routine t.progress.part → i ≡ first h without
    → i ≡ fault_of text
told_text text f g h i too without d s t declares none begins takes settled long noted_long last noted_last =
    let all = declared (lines text) in
    let r = draft_of all.names (lines text) in
    let names : d.names ≡ all.names = ap (λ (x : Declared). x.names) declares in
    let twice : f ≡ all.fault = sym (first-none f) ∙ ap (first f) (sym none) ∙ ap (λ (x : Declared). x.fault) declares in
    let whole : told g t ≡ told f r =
    takes
    ∙ ap (λ x. close (take_lines d.names 1 (lines text) (told f x))) begins
    ∙ ap (λ x. close (take_lines x 1 (lines text) (told f blank))) names
    ∙ ap close (take_lines-told all.names 1 (lines text) f blank)
    ∙ close-told f (take_lines all.names 1 (lines text) blank) in
    let fault : g ≡ first f r.progress.fault = sym (first-none g) ∙ ap (first g) (sym settled) ∙ ap (λ (x : Draft). x.progress.fault) whole in
    let part : t.progress.part ≡ r.progress.part = ap (λ (x : Draft). x.progress.part) whole in
    noted_last
    ∙ ap (λ x. first x without) (noted_long ∙ ap (λ x. first x too) fault ∙ ap (first (first f r.progress.fault)) long)
    ∙ ap (first (first (first f r.progress.fault) (too_long text))) (last ∙ ap without_routine part)
    ∙ first-all (too_long text) f r.progress.fault (without_routine r.progress.part)
    ∙ ap (λ x. first (first (too_long text) x) (first r.progress.fault (without_routine r.progress.part))) twice
