-- What lines without fault tell, line by line.
use Rattle.std.proofs.Common.{◌≡◌, ◌<◌, ◌+◌, ℕ, Bool, true, false, not, List, [], ◌∷◌, Option, Some, None, Result, Ok, Err, length, codes, bytes_eq, refl, sym, subst}
use Rattle.geos_image.specs.declared.instr.Instr.{Instr}
use Rattle.geos_image.specs.declared.row.Row.{Row}
use Rattle.geos_image.specs.declared.routine.Routine.{Routine}
use Rattle.geos_image.specs.Legal.{is_row}
use Rattle.geos_text.specs.Words.{is_empty}
use Rattle.geos_source.specs.declared.fault.Why.{Why}
use Rattle.geos_source.specs.declared.progress.Progress.{Progress}
use Rattle.geos_source.specs.Faults.{least, first, at_line}
use Rattle.geos_source.specs.Names.{Names}
use Rattle.geos_source.specs.Lines.{parted, said}
use Rattle.geos_source.specs.Operands.{instruction}
use Rattle.geos_source.specs.Items.{row_of}
use Rattle.geos_source.specs.Headers.{header}
use Rattle.geos_source.specs.Declarations.{Declared, twice, name_in_front, with_routine_name, one_more_routine, one_more_instr, with_labels, with_statement, with_line, with_lines}
use Rattle.geos_source.specs.Texts.{Draft, why_of, no_room, is_full, outside, unfilled, misplaced_in, misplaced_out, closed, begun, drop_labels, take_in, take_out, with_instr, with_instr_at, take_labels, take_statement, take_line, take_lines}
use Rattle.geos_source.proofs.OperandsRead.{instruction-legal}
use Rattle.geos_source.proofs.RowsRead.{row_of-legal}
use Rattle.geos_source.proofs.HeadsRead.{LegalHead, header-made}
use Rattle.geos_source.proofs.Quiet.{some_there, first-none, least-none, at_line-none, twice-none, unfollowed-none, no_room-none, is_full-none, declared_by, taken_by, with_lines-quiet, take_lines-quiet}
use Rattle.geos_source.proofs.Told.{all_of, LegalInstr, Told, labels-told, begun-told}
use Rattle.geos_source.proofs.ToldParts.{in_part-told, out_part-told, instr_part-told}

-- the routine that the words after `routine` make, if they have no fault
abbrev MadeIfRead : Result Routine Why → Option (List ℕ) → Type 0
MadeIfRead read name = (r : Routine) → read ≡ Ok r → (name ≡ Some r.name) × (r.count ≡ 0) × LegalHead r

-- a text without fault has no label that nothing follows, and no routine that is not filled
pub unfilled-none : (t : Draft) → (closed t.progress).fault ≡ None → (t.progress.waiting ≡ None) × (unfilled t.progress.part ≡ None)
unfilled-none t e =
    let q = first-none _ _ e in
    (unfollowed-none t.progress.waiting (first-none _ _ q.0).1, q.1)

-- the line that begins a routine
routine-told : (names : Names) (n : ℕ) (read : Result Routine Why) (name : Option (List ℕ)) (full : Option Why) (d : Declared) (t : Draft)
    → MadeIfRead read name → (full ≡ None → length (all_of t) < 32) → Told names d t
    → (with_routine_name n name d).fault ≡ None → (begun n read full (closed t.progress)).fault ≡ None
    → Told names (one_more_routine (with_routine_name n name d))
    (record { routines = all_of t; code = t.code; progress = begun n read full (closed t.progress) })
routine-told names n (Err why) name full d t made room h single quiet =
    let not_read = at_line-none n (least (Some why) full) (first-none (closed t.progress).fault _ quiet).1 in
    absurd (some_there why (least-none (Some why) full not_read).0)
routine-told names n (Ok r) name (Some why) d t made room h single quiet =
    absurd (some_there why (at_line-none n (Some why) (first-none (closed t.progress).fault _ quiet).1))
routine-told names n (Ok r) name None d t made room h single quiet =
    let from = made r refl in
    let head = from.2 in
    let ended = unfilled-none t (first-none _ _ quiet).0 in
    let once = subst (λ (o : Option (List ℕ)). (with_routine_name n o d).fault ≡ None) from.0 single in
    let new = twice-none (d.names.routines r.name) (at_line-none n (twice (d.names.routines r.name)) (first-none _ _ once).1) in
    let told = begun-told names d t r n _ _ h ended.0 ended.1 (room refl) new from.1 head.name head.entry head.exit in
    subst (λ (o : Option (List ℕ)). Told names (one_more_routine (with_routine_name n o d))
    (record { routines = all_of t; code = t.code; progress = begun n (Ok r) None (closed t.progress) })) (sym from.0) told

-- if the line of a row has no fault, the row is read, no label waits, and the line is in its place
row_line-quiet : (n : ℕ) (read : Result Row Why) (misplaced : Option Why) (p : Progress)
    → first (drop_labels p).fault (at_line n (least (why_of read) misplaced)) ≡ None
    → (row : Row) × (read ≡ Ok row) × (p.waiting ≡ None) × (misplaced ≡ None)
row_line-quiet n (Err why) misplaced p quiet =
    let not_read = at_line-none n (least (Some why) misplaced) (first-none (drop_labels p).fault _ quiet).1 in
    absurd (some_there why (least-none (Some why) misplaced not_read).0)
row_line-quiet n (Ok row) misplaced p quiet =
    let q = first-none _ _ quiet in
    (row, refl, unfollowed-none p.waiting (first-none _ _ q.0).1, at_line-none n misplaced q.1)

-- a line `in`
in-told : (names : Names) (n : ℕ) (read : Result Row Why) (d : Declared) (t : Draft) → ((row : Row) → read ≡ Ok row → is_row true row ≡ true)
    → Told names d t → (take_in n read (drop_labels t.progress)).fault ≡ None
    → Told names d (record { routines = t.routines; code = t.code; progress = take_in n read (drop_labels t.progress) })
in-told names n read d t legal h quiet =
    let line = row_line-quiet n read (misplaced_in t.progress.part) t.progress quiet in
    let told = in_part-told names d t.routines t.code t.progress.part t.progress.current t.progress.waiting
    t.progress.fault n line.0 h line.3 line.2 (legal line.0 line.1) in
    subst (λ (other : Result Row Why). Told names d
    (record { routines = t.routines; code = t.code; progress = take_in n other (drop_labels t.progress) })) (sym line.1) told

-- a line `out`
out-told : (names : Names) (n : ℕ) (read : Result Row Why) (d : Declared) (t : Draft) → ((row : Row) → read ≡ Ok row → is_row true row ≡ true)
    → Told names d t → (take_out n read (drop_labels t.progress)).fault ≡ None
    → Told names d (record { routines = t.routines; code = t.code; progress = take_out n read (drop_labels t.progress) })
out-told names n read d t legal h quiet =
    let line = row_line-quiet n read (misplaced_out t.progress.part) t.progress quiet in
    let told = out_part-told names d t.routines t.code t.progress.part t.progress.current t.progress.waiting
    t.progress.fault n line.0 h line.3 line.2 (legal line.0 line.1) in
    subst (λ (other : Result Row Why). Told names d
    (record { routines = t.routines; code = t.code; progress = take_out n other (drop_labels t.progress) })) (sym line.1) told

-- an instruction that is read, and is in its place
instr_read-told : (names : Names) (n : ℕ) (read : Result Instr Why) (why : Option Why) (d : Declared) (t : Draft)
    → why ≡ None → why_of read ≡ None → is_full t.code ≡ None → outside t.progress.part ≡ None
    → ((i : Instr) → read ≡ Ok i → LegalInstr names i) → Told names d t
    → Told names (one_more_instr d) (record { routines = t.routines; code = with_instr read why t.code; progress = with_instr_at n why t.progress })
instr_read-told names n (Err other) why d t none well room placed legal h = absurd cc
instr_read-told names n (Ok i) (Some why) d t none well room placed legal h = absurd cc
instr_read-told names n (Ok i) None d t none well room placed legal h =
    instr_part-told names d t.routines t.code t.progress.part t.progress.current t.progress.waiting t.progress.fault
    n i h placed (is_full-none t.code room) (legal i refl)

-- an instruction
instr-told : (names : Names) (n : ℕ) (read : Result Instr Why) (d : Declared) (t : Draft) → ((i : Instr) → read ≡ Ok i → LegalInstr names i)
    → Told names d t
    → (with_instr_at n (least (why_of read) (least (is_full t.code) (outside t.progress.part))) t.progress).fault ≡ None
    → Told names (one_more_instr d)
    (record {
      routines = t.routines;
      code = with_instr read (least (why_of read) (least (is_full t.code) (outside t.progress.part))) t.code;
      progress = with_instr_at n (least (why_of read) (least (is_full t.code) (outside t.progress.part))) t.progress;
    })
instr-told names n read d t legal h quiet =
    let others = least (is_full t.code) (outside t.progress.part) in
    let why = least (why_of read) others in
    let none = at_line-none n why (first-none t.progress.fault _ quiet).1 in
    let well = least-none (why_of read) others none in
    let stands = least-none (is_full t.code) (outside t.progress.part) well.1 in
    instr_read-told names n read why d t none well.0 stands.0 stands.1 legal h

-- a statement, by its first word
statement_by-told : (a b c : Bool) (names : Names) (n : ℕ) (word : List ℕ) (words : List (List ℕ)) (d : Declared) (t : Draft) → Told names d t
    → (declared_by a b c n words d).fault ≡ None → (taken_by a b c names n word words t).progress.fault ≡ None
    → Told names (declared_by a b c n words d) (taken_by a b c names n word words t)
statement_by-told true b c names n word words d t h single quiet =
    routine-told names n (header words) (name_in_front words) (no_room (all_of t)) d t (header-made words) (no_room-none (all_of t)) h single quiet
statement_by-told false true c names n word words d t h single quiet = in-told names n (row_of words) d t (row_of-legal words) h quiet
statement_by-told false false true names n word words d t h single quiet = out-told names n (row_of words) d t (row_of-legal words) h quiet
statement_by-told false false false names n word words d t h single quiet =
    instr-told names n (instruction names word words) d t (λ i e routines instrs callees labels. instruction-legal
    routines instrs names callees labels word words i e) h quiet

statement-told : (names : Names) (n : ℕ) (words : List (List ℕ)) (d : Declared) (t : Draft) → Told names d t
    → (with_statement n words d).fault ≡ None → (take_statement names n words t).progress.fault ≡ None
    → Told names (with_statement n words d) (take_statement names n words t)
statement-told names n [] d t h single quiet = h
statement-told names n (word ∷ words) d t h single quiet =
    statement_by-told (bytes_eq word (codes "routine")) (bytes_eq word (codes "in")) (bytes_eq word (codes "out")) names n word words d t h single quiet

line-told : (names : Names) (n : ℕ) (line : List ℕ) (d : Declared) (t : Draft) → Told names d t
    → (with_line n line d).fault ≡ None → (take_line names n line t).progress.fault ≡ None
    → Told names (with_line n line d) (take_line names n line t)
unfolding with_line take_line
line-told names n line d t h single quiet =
    let parts = parted (said line) in
    let labelled = record t { progress = take_labels n (not (is_empty parts.labels)) t.progress } in
    statement-told names n parts.statement (with_labels n parts.labels d) labelled (labels-told names n parts.labels d t h) single quiet

-- lines without fault
pub lines-told : (names : Names) (n : ℕ) (lines : List (List ℕ)) (d : Declared) (t : Draft) → Told names d t
    → (with_lines n lines d).fault ≡ None → (take_lines names n lines t).progress.fault ≡ None
    → Told names (with_lines n lines d) (take_lines names n lines t)
lines-told names n [] d t h single quiet = h
lines-told names n (line ∷ lines) d t h single quiet =
    let here = with_lines-quiet (n + 1) lines (with_line n line d) single in
    let here_quiet = take_lines-quiet names (n + 1) lines (take_line names n line t) quiet in
    lines-told names (n + 1) lines (with_line n line d) (take_line names n line t) (line-told names n line d t h here here_quiet) single quiet
