-- The code of a text without fault is legal in an image.
use Rattle.std.proofs.Common.{◌≡◌, ◌<◌, ◌≤◌, ℕ, zero, suc, true, List, [], ◌∷◌, map, Option, Some, None, Ok, length, refl, subst, arith, lt-ltb, le-leb, eq-eqb}
use Rattle.std.specs.Prelude.{◌&&◌, nat_lt, nat_le, ◌==◌, replicate}
use Rattle.std.specs.List.{list_all}
use Rattle.std.specs.Str.Lines.{lines}
use Rattle.std.proofs.lemmas.Bool.{and_parts, and_from}
use Rattle.std.proofs.lemmas.List.{length_push, length-map}
use Rattle.geos_image.specs.declared.instr.Instr.{Instr}
use Rattle.geos_image.specs.Open.{open_row}
use Rattle.geos_image.specs.Parts.{Parts, total_count}
use Rattle.geos_image.specs.Legal.{is_instr, is_given, is_point, are_routines, rows_stand, row_flags, is_formed}
use Rattle.geos_image.proofs.Instrs.{ImageParts}
use Rattle.geos_source.specs.declared.fault.BadLine.{BadLine}
use Rattle.geos_source.specs.declared.progress.TextRoutine.{TextRoutine}
use Rattle.geos_source.specs.declared.progress.Part.{Part}
use Rattle.geos_source.specs.declared.progress.Part.TheVariants.{Outside, Head, Body}
use Rattle.geos_source.specs.Faults.{first}
use Rattle.geos_source.specs.Declarations.{Declared, nothing, declared}
use Rattle.geos_source.specs.Texts.{Draft, Code, blank, with_current, close, take_lines, too_long, without_routine, unless_bad, fault_of, code_of}
use Rattle.geos_source.specs.Skeletons.{routine_of, blank_point, bare_whole}
use Rattle.geos_source.proofs.OperandsRead.{TableBelow}
use Rattle.geos_source.proofs.Quiet.{first-none}
use Rattle.geos_source.proofs.Told.{all_of, Current, Told, told-blank, complete-told}
use Rattle.geos_source.proofs.ToldLines.{unfilled-none, lines-told}

-- the parts of the rule make the rule
formed-from : (image : Parts) → ImageParts true image → is_formed true image ≡ true
formed-from image h =
    let r = length image.routines in
    let n = length image.points in
    let some = nat_lt 0 r in
    let few = nat_le r 32 in
    let routines = are_routines true [] image.routines in
    let short = nat_le n 4096 in
    let counts = total_count image.routines == n in
    let points = list_all (is_point true r n) image.points in
    let rows = rows_stand (row_flags image.keyed image.routines image.points) image.points in
    let two = and_from some few (lt-ltb 0 r h.some) (le-leb r 32 h.few) in
    let three = and_from (some && few) routines two h.routines in
    let four = and_from (some && few && routines) short three (le-leb n 4096 h.short) in
    let five = and_from (some && few && routines && short) counts four (eq-eqb (total_count image.routines) n h.counts) in
    let six = and_from (some && few && routines && short && counts) points five h.points in
    and_from (some && few && routines && short && counts && points) rows six h.rows

-- a text that is not outside of all routines at its end has one
has_routine : (part : Part) (done : List TextRoutine) (current : Option TextRoutine) → Current part done current
    → without_routine part ≡ None → 0 < length (with_current done current)
has_routine Outside done current h inside = absurd cc
has_routine (Head line has_in has_out) done None h inside = absurd h
has_routine (Head line has_in has_out) done (Some r) h inside = omega (arith, length_push done r)
has_routine Body done None h inside = absurd h
has_routine Body done (Some r) h inside = omega (arith, length_push done r)

blank_points-legal : (routines instrs : ℕ) (code : List Instr) → list_all (is_instr routines instrs) code ≡ true
    → list_all (is_point true routines instrs) (map blank_point code) ≡ true
blank_points-legal routines instrs [] h = refl
blank_points-legal routines instrs (i ∷ code) h =
    let parts = and_parts (is_instr routines instrs i) (list_all (is_instr routines instrs) code) h in
    let here = and_from (is_instr routines instrs i) (is_given true (Some open_row)) parts.0 refl in
    and_from (is_instr routines instrs i && is_given true (Some open_row)) (list_all (is_point true routines instrs) (map blank_point code)) here
    (blank_points-legal routines instrs code parts.1)

-- each of them gives its row
blank_points-given : (most : ℕ) (code : List Instr) → length code ≤ most → rows_stand (replicate most true) (map blank_point code) ≡ true
blank_points-given most [] le = refl
blank_points-given zero (i ∷ code) le = absurd (omega (arith, le))
blank_points-given (suc most) (i ∷ code) le = blank_points-given most code (omega (arith, le))

-- what a text without fault says is legal in an image
ended : (d : Declared) (t : Draft) → Told d.names d t → (close t).progress.fault ≡ None → without_routine t.progress.part ≡ None
    → is_formed true (bare_whole (record { routines = all_of t; instrs = t.code })) ≡ true
ended d t h quiet inside =
    let filled = unfilled-none t quiet in
    let some = has_routine t.progress.part t.routines t.progress.current h.part inside in
    let as_many = length-map (all_of t) routine_of in
    let as_long = length-map t.code blank_point in
    let number = h.routines in
    let instrs = h.instrs in
    let few = h.few in
    let short = h.short in
    let counts = h.counts in
    let all = length (map routine_of (all_of t)) in
    let most = length (map blank_point t.code) in
    let callees : TableBelow all d.names.routines = λ name v e. let below = h.callees name v e in omega arith in
    let labels : TableBelow most d.names.labels = λ name v e. let below = h.followed filled.0 name v e in omega arith in
    let routines = complete-told t.progress.part t.routines t.progress.current h.part filled.1 h.complete in
    let points = blank_points-legal all most t.code (h.code all most callees labels) in
    let given : rows_stand (replicate 4096 true) (map blank_point t.code) ≡ true = blank_points-given 4096 t.code (omega arith) in
    let parts : ImageParts true (bare_whole (record { routines = all_of t; instrs = t.code })) =
    record { some = omega arith; few = omega arith; routines = routines; short = omega arith; counts = omega arith; points = points; rows = given } in
    formed-from (bare_whole (record { routines = all_of t; instrs = t.code })) parts

-- a code is there if there is no fault
pub code_is : (t : Draft) (fault : Option BadLine) (code : Code) → unless_bad t fault ≡ Ok code → (fault ≡ None)
    × (record { routines = t.routines; instrs = t.code } ≡ code)
code_is t None code e = (refl, cc)
code_is t (Some fault) code e = absurd cc

-- the code of a text without fault is legal in an image
pub no_fault-formed : (text : List ℕ) (code : Code) → code_of text ≡ Ok code → is_formed true (bare_whole code) ≡ true
no_fault-formed text code e =
    let d = declared (lines text) in
    let t = take_lines d.names 1 (lines text) blank in
    let is = code_is (close t) (fault_of text) code e in
    let twice = first-none (first (too_long text) d.fault) (first (close t).progress.fault (without_routine t.progress.part)) is.0 in
    let single = first-none (too_long text) d.fault twice.0 in
    let said = first-none (close t).progress.fault (without_routine t.progress.part) twice.1 in
    let quiet = first-none t.progress.fault _ (first-none _ _ said.0).0 in
    let told = lines-told d.names 1 (lines text) nothing blank (told-blank d.names) single.1 quiet.0 in
    subst (λ (c : Code). is_formed true (bare_whole c) ≡ true) is.1 (ended d t told said.0 said.1)
