-- Rows at the places that are flagged.
use Rattle.std.proofs.Common.{◌≡◌, ℕ, zero, suc, ◌+◌, ◌≤◌, ◌<◌, Bool, true, false, List, [], ◌∷◌, ◌++◌, length, take, drop, set, get_or, All, Option, Some, None, refl, sym, ap, subst, ◌∙◌, length-set, append_assoc, arith}
use Rattle.std.specs.Prelude.{◌&&◌, ◌==◌, nat_le, replicate, slice_set, slice_get}
use Rattle.std.specs.List.{flat_map, list_all}
use Rattle.std.proofs.lemmas.Bool.{and_parts, lt-ltb, le-leb, eq-eqb}
use Rattle.std.proofs.lemmas.List.{length-replicate, length-map, drop-map, drop_more, drop_all, take_all, take_more_set, drop-set-lt, append-nil}
use Rattle.std.proofs.lemmas.List.Elements.{All-nil, All-cons, All-head, All-tail}
use Rattle.std.proofs.lemmas.List.Concat.{flat_map-cons}
use Rattle.geos_image.specs.declared.instr.Instr.{Instr}
use Rattle.geos_image.specs.declared.row.Row.{Row}
use Rattle.geos_image.specs.declared.routine.Routine.{Routine}
use Rattle.geos_image.specs.declared.point.Point.{Point}
use Rattle.geos_image.specs.Parts.{instrs_of, Parts, total_count}
use Rattle.geos_image.specs.Keys.{starts_from, keys_from, target_key, cut_key, flagged, key_flags, row_stands, row_for, with_rows, flag_bit, flag_count}
use Rattle.geos_image.specs.Legal.{is_row, is_given, is_instr, is_point, rows_stand, row_flags, is_image, is_keyed, keyed_parts, IsCode, LegalWhere}
use Rattle.geos_image.proofs.Instrs.{image_parts}
use Rattle.geos_image.specs.Ranges.{RowFits, GivenFits, PointFits}
use Rattle.geos_image.specs.Spelling.{row, given}
use Rattle.geos_image.proofs.Pushes.{both}
use Rattle.geos_image.proofs.PointLaws.{stripped, potential_told}

-- flags stay as many
flagged-length : (places : List ℕ) (flags : List Bool) → length (flagged places flags) ≡ length flags
flagged-length [] flags = refl
flagged-length (place ∷ places) flags = flagged-length places (slice_set flags place true) ∙ length-set flags place true

pub key_flags-length : (routines : List Routine) (instrs : List Instr) → length (key_flags routines instrs) ≡ 4096
key_flags-length routines instrs = flagged-length (keys_from 0 instrs) (flagged (starts_from 0 routines) (replicate 4096 false))
    ∙ flagged-length (starts_from 0 routines) (replicate 4096 false) ∙ length-replicate 4096 false

-- ---- rows that are put at places

pub with_rows-instrs : (flags : List Bool) (points : List Point) (rows : List Row) → instrs_of (with_rows flags points rows) ≡ instrs_of points
with_rows-instrs flags [] rows = refl
with_rows-instrs [] (point ∷ points) rows = ap (λ (is : List Instr). point.instr ∷ is) (with_rows-instrs [] points rows)
with_rows-instrs (false ∷ flags) (point ∷ points) rows = ap (λ (is : List Instr). point.instr ∷ is) (with_rows-instrs flags points rows)
with_rows-instrs (true ∷ flags) (point ∷ points) [] = ap (λ (is : List Instr). point.instr ∷ is) (with_rows-instrs flags points [])
with_rows-instrs (true ∷ flags) (point ∷ points) (r ∷ rows) = ap (λ (is : List Instr). point.instr ∷ is) (with_rows-instrs flags points rows)

potential-one : (o : Option Row) (point : Point) (next points : List Point) → flat_map potential_told next ≡ flat_map potential_told points
    → flat_map potential_told (record point { row = o } ∷ next) ≡ flat_map potential_told (point ∷ points)
potential-one o point next points e =
    flat_map-cons potential_told (record point { row = o }) next ∙ ap (λ (t : List ℕ). potential_told point ++ t) e
    ∙ sym (flat_map-cons potential_told point points)

pub with_rows-potentials : (flags : List Bool) (points : List Point) (rows : List Row)
    → flat_map potential_told (with_rows flags points rows) ≡ flat_map potential_told points
with_rows-potentials flags [] rows = refl
with_rows-potentials [] (point ∷ points) rows = potential-one None point (with_rows [] points rows) points (with_rows-potentials [] points rows)
with_rows-potentials (false ∷ flags) (point ∷ points) rows = potential-one None point (with_rows flags points rows)
    points (with_rows-potentials flags points rows)
with_rows-potentials (true ∷ flags) (point ∷ points) [] = potential-one None point (with_rows flags points []) points
    (with_rows-potentials flags points [])
with_rows-potentials (true ∷ flags) (point ∷ points) (r ∷ rows) = potential-one (Some r) point (with_rows flags points rows)
    points (with_rows-potentials flags points rows)

abbrev pub given_told : Point → List ℕ
given_told point = given point.row

given-none : (point : Point) (next : List Point) → flat_map given_told (record point { row = None } ∷ next) ≡ flat_map given_told next
given-none point next = flat_map-cons given_told (record point { row = None }) next

given-some : (r : Row) (point : Point) (next : List Point) (rows : List Row) → flat_map given_told next ≡ flat_map row rows
    → flat_map given_told (record point { row = Some r } ∷ next) ≡ flat_map row (r ∷ rows)
given-some r point next rows e = flat_map-cons given_told (record point { row = Some r }) next ∙ ap (λ (t : List ℕ). row r ++ t) e
    ∙ sym (flat_map-cons row r rows)

no_flags : (instrs : List Instr) → flag_count [] instrs ≡ 0
no_flags [] = refl
no_flags (i ∷ instrs) = refl

-- where there are as many as flags, the rows are those that are given
pub with_rows-given : (flags : List Bool) (points : List Point) (rows : List Row) → flag_count flags (instrs_of points) ≡ length rows
    → flat_map given_told (with_rows flags points rows) ≡ flat_map row rows
with_rows-given flags [] [] e = refl
with_rows-given flags [] (r ∷ rows) e = absurd (omega (arith, e))
with_rows-given [] (point ∷ points) [] e = given-none point (with_rows [] points []) ∙ with_rows-given [] points [] (no_flags (instrs_of points))
with_rows-given [] (point ∷ points) (r ∷ rows) e = absurd (omega (arith, e))
with_rows-given (false ∷ flags) (point ∷ points) rows e = given-none point (with_rows flags points rows) ∙ with_rows-given flags points rows e
with_rows-given (true ∷ flags) (point ∷ points) [] e = absurd (omega (arith, e))
with_rows-given (true ∷ flags) (point ∷ points) (r ∷ rows) e = given-some r point (with_rows flags points rows) rows
    (with_rows-given flags points rows (omega (arith, e)))

-- there is a row exactly at each flag
pub with_rows-stand : (flags : List Bool) (points : List Point) (rows : List Row) → length points ≤ length flags
    → flag_count flags (instrs_of points) ≡ length rows → rows_stand flags (with_rows flags points rows) ≡ true
with_rows-stand flags [] rows room e = refl
with_rows-stand [] (point ∷ points) rows room e = absurd (omega (arith, room))
with_rows-stand (false ∷ flags) (point ∷ points) rows room e = with_rows-stand flags points rows (omega (arith, room)) e
with_rows-stand (true ∷ flags) (point ∷ points) [] room e = absurd (omega (arith, e))
with_rows-stand (true ∷ flags) (point ∷ points) (r ∷ rows) room e = with_rows-stand flags points rows (omega (arith, room)) (omega (arith, e))

pub legal-one : (borrows : Bool) (routines instrs : ℕ) (point : Point) (o : Option Row) (next points : List Point)
    → list_all (is_point borrows routines instrs) (point ∷ points) ≡ true → is_given borrows o ≡ true
    → (list_all (is_point borrows routines instrs) points ≡ true → list_all (is_point borrows routines instrs) next ≡ true)
    → list_all (is_point borrows routines instrs) (record point { row = o } ∷ next) ≡ true
legal-one borrows routines instrs point o next points h given_here others =
    let parts = and_parts (is_point borrows routines instrs point) (list_all (is_point borrows routines instrs) points) h in
    let here = and_parts (is_instr routines instrs point.instr) (is_given borrows point.row) parts.0 in
    both (is_point borrows routines instrs (record point { row = o })) (list_all (is_point borrows routines instrs) next)
    (both (is_instr routines instrs point.instr) (is_given borrows o) here.0 given_here) (others parts.1)

-- they are legal where the rows are
pub with_rows-legal : (borrows : Bool) (routines instrs : ℕ) (flags : List Bool) (points : List Point) (rows : List Row)
    → list_all (is_point borrows routines instrs) points ≡ true → list_all (is_row borrows) rows ≡ true
    → list_all (is_point borrows routines instrs) (with_rows flags points rows) ≡ true
with_rows-legal borrows routines instrs flags [] rows h k = refl
with_rows-legal borrows routines instrs [] (point ∷ points) rows h k = legal-one borrows routines instrs point None
    (with_rows [] points rows) points h refl (λ h. with_rows-legal borrows routines instrs [] points rows h k)
with_rows-legal borrows routines instrs (false ∷ flags) (point ∷ points) rows h k = legal-one borrows routines instrs
    point None (with_rows flags points rows) points h refl (λ h. with_rows-legal borrows routines instrs flags points rows h k)
with_rows-legal borrows routines instrs (true ∷ flags) (point ∷ points) [] h k = legal-one borrows routines instrs
    point None (with_rows flags points []) points h refl (λ h. with_rows-legal borrows routines instrs flags points [] h k)
with_rows-legal borrows routines instrs (true ∷ flags) (point ∷ points) (r ∷ rows) h k =
    let parts = and_parts (is_row borrows r) (list_all (is_row borrows) rows) k in
    legal-one borrows routines instrs point (Some r) (with_rows flags points rows) points h parts.0
    (λ h. with_rows-legal borrows routines instrs flags points rows h parts.1)

-- ---- the rows of points

-- the rows, with another one first, if there is one
abbrev pub with_some : Option Row → List Row → List Row
with_some None rows = rows
with_some (Some r) rows = r ∷ rows

-- the rows that points have
abbrev pub rows_in : List Point → List Row
rows_in [] = []
rows_in (point ∷ points) = with_some point.row (rows_in points)

count-one : (flag : Bool) (flags : List Bool) (o : Option Row) (i : Instr) (instrs : List Instr) (rows : List Row)
    → row_stands flag o ≡ true → flag_count flags instrs ≡ length rows → flag_count (flag ∷ flags) (i ∷ instrs) ≡ length (with_some o rows)
count-one true flags (Some r) i instrs rows h e = omega (arith, e)
count-one true flags None i instrs rows h e = absurd cc
count-one false flags (Some r) i instrs rows h e = absurd cc
count-one false flags None i instrs rows h e = e

pub stand-count : (flags : List Bool) (points : List Point) → rows_stand flags points ≡ true
    → flag_count flags (instrs_of points) ≡ length (rows_in points)
stand-count flags [] h = refl
stand-count [] (point ∷ points) h = absurd cc
stand-count (flag ∷ flags) (point ∷ points) h =
    let parts = and_parts (row_stands flag point.row) (rows_stand flags points) h in
    count-one flag flags point.row point.instr (instrs_of points) (rows_in points) parts.0 (stand-count flags points parts.1)

back-one : (flag : Bool) (flags : List Bool) (point : Point) (points back : List Point) (rows : List Row) (o : Option Row)
    → row_stands flag o ≡ true → with_rows flags points rows ≡ back
    → with_rows (flag ∷ flags) (point ∷ points) (with_some o rows) ≡ record point { row = o } ∷ back
back-one true flags point points back rows (Some r) h e = ap (λ (ps : List Point). record point { row = Some r } ∷ ps) e
back-one true flags point points back rows None h e = absurd cc
back-one false flags point points back rows (Some r) h e = absurd cc
back-one false flags point points back rows None h e = ap (λ (ps : List Point). record point { row = None } ∷ ps) e

-- put back where they stood, they make the points again
pub stand-back : (flags : List Bool) (points : List Point) → rows_stand flags points ≡ true
    → with_rows flags (stripped points) (rows_in points) ≡ points
stand-back flags [] h = refl
stand-back [] (point ∷ points) h = absurd cc
stand-back (flag ∷ flags) (point ∷ points) h =
    let parts = and_parts (row_stands flag point.row) (rows_stand flags points) h in
    back-one flag flags (record point { row = None }) (stripped points) points (rows_in points) point.row parts.0 (stand-back flags points parts.1)

given-one : (o : Option Row) (rows : List Row) → given o ++ flat_map row rows ≡ flat_map row (with_some o rows)
given-one None rows = refl
given-one (Some r) rows = sym (flat_map-cons row r rows)

pub given-rows : (points : List Point) → flat_map given_told points ≡ flat_map row (rows_in points)
given-rows [] = refl
given-rows (point ∷ points) = flat_map-cons given_told point points ∙ ap (λ (t : List ℕ). given point.row ++ t) (given-rows points)
    ∙ given-one point.row (rows_in points)

-- a row that an image of version 2 may have, and whose numbers are words
pub record IsFine (r : Row) : Type 0 where
  pub legal : is_row true r ≡ true
  pub fits : RowFits r

fine-one : (o : Option Row) (rows : List Row) → is_given true o ≡ true → GivenFits o → All IsFine rows → All IsFine (with_some o rows)
fine-one None rows h k all = all
fine-one (Some r) rows h k all = All-cons IsFine r rows (record { legal = h; fits = k }) all

pub rows-fine : (routines instrs : ℕ) (points : List Point) → list_all (is_point true routines instrs) points ≡ true
    → All PointFits points → All IsFine (rows_in points)
rows-fine routines instrs [] h k = All-nil IsFine
rows-fine routines instrs (point ∷ points) h k =
    let parts = and_parts (is_point true routines instrs point) (list_all (is_point true routines instrs) points) h in
    let here = and_parts (is_instr routines instrs point.instr) (is_given true point.row) parts.0 in
    fine-one point.row (rows_in points) here.1 (All-head PointFits point points k).row
    (rows-fine routines instrs points parts.1 (All-tail PointFits point points k))

-- ---- flags that are set one after another

pub flagged-append : (xs ys : List ℕ) (flags : List Bool) → flagged (xs ++ ys) flags ≡ flagged ys (flagged xs flags)
flagged-append [] ys flags = refl
flagged-append (x ∷ xs) ys flags = flagged-append xs ys (slice_set flags x true)

-- one more instruction's places
pub keys-more : (pc : ℕ) (i : Instr) (instrs : List Instr) (flags : List Bool)
    → flagged (keys_from pc (i ∷ instrs)) flags ≡ flagged (keys_from (pc + 1) instrs) (flagged (cut_key pc i) (flagged (target_key i) flags))
keys-more pc i instrs flags = flagged-append (target_key i) (cut_key pc i ++ keys_from (pc + 1) instrs) flags
    ∙ flagged-append (cut_key pc i) (keys_from (pc + 1) instrs) (flagged (target_key i) flags)

pub instrs-drop : (points : List Point) (k : ℕ) (d : Point) → k < length points
    → drop k (instrs_of points) ≡ (get_or points k d).instr ∷ drop (k + 1) (instrs_of points)
instrs-drop points k d lt = drop-map (λ (point : Point). point.instr) k points ∙ ap instrs_of (drop_more points k d lt)
    ∙ ap (λ (is : List Instr). (get_or points k d).instr ∷ is) (sym (drop-map (λ (point : Point). point.instr) (k + 1) points))

pub flags-more : (points : List Point) (k : ℕ) (d : Point) (old new total : List Bool) → k < length points
    → flagged (keys_from k (drop k (instrs_of points))) old ≡ total
    → new ≡ flagged (cut_key k (get_or points k d).instr) (flagged (target_key (get_or points k d).instr) old)
    → flagged (keys_from (k + 1) (drop (k + 1) (instrs_of points))) new ≡ total
flags-more points k d old new total lt so_far e =
    let i = (get_or points k d).instr in
    let rest = drop (k + 1) (instrs_of points) in
    ap (flagged (keys_from (k + 1) rest)) e ∙ sym (keys-more k i rest old)
    ∙ ap (λ (is : List Instr). flagged (keys_from k is) old) (sym (instrs-drop points k d lt)) ∙ so_far

pub flags-end : (points : List Point) (k : ℕ) (flags : List Bool) → length points ≤ k
    → flagged (keys_from k (drop k (instrs_of points))) flags ≡ flags
flags-end points k flags le = ap (λ (is : List Instr). flagged (keys_from k is) flags)
    (drop_all k (instrs_of points) (omega (arith, le, length-map points (λ (point : Point). point.instr))))

-- ---- counting

pub bit-small : (flag : Bool) → flag_bit flag ≤ 1
bit-small true = omega arith
bit-small false = omega arith

count-flag : (flag : Bool) (flags : List Bool) (i : Instr) (instrs : List Instr)
    → flag_count (flag ∷ flags) (i ∷ instrs) ≡ flag_count flags instrs + flag_bit flag
count-flag true flags i instrs = refl
count-flag false flags i instrs = omega arith

pub count-more : (flags : List Bool) (points : List Point) (k : ℕ) (flag : Bool) (d : Point) → k < length points
    → k < length flags → get_or flags k false ≡ flag
    → flag_count (drop k flags) (drop k (instrs_of points)) ≡ flag_count (drop (k + 1) flags) (drop (k + 1) (instrs_of points)) + flag_bit flag
count-more flags points k flag d lt room e =
    ap (λ (fs : List Bool). flag_count fs (drop k (instrs_of points))) (drop_more flags k false room)
    ∙ ap (flag_count (get_or flags k false ∷ drop (k + 1) flags)) (instrs-drop points k d lt)
    ∙ count-flag (get_or flags k false) (drop (k + 1) flags) (get_or points k d).instr (drop (k + 1) (instrs_of points))
    ∙ ap (λ (b : Bool). flag_count (drop (k + 1) flags) (drop (k + 1) (instrs_of points)) + flag_bit b) e

pub count-end : (flags : List Bool) (points : List Point) (k : ℕ) → length points ≤ k → flag_count (drop k flags) (drop k (instrs_of points)) ≡ 0
count-end flags points k le = ap (flag_count (drop k flags))
    (drop_all k (instrs_of points) (omega (arith, le, length-map points (λ (point : Point). point.instr))))

-- ---- rows that are tested one after another

pub stand-more : (flags : List Bool) (points : List Point) (k : ℕ) (d : Point) → k < length points → k < length flags
    → rows_stand (drop k flags) (drop k points) ≡ (row_stands (get_or flags k false) (get_or points k d).row && rows_stand
    (drop (k + 1) flags) (drop (k + 1) points))
stand-more flags points k d lt room = ap (λ (fs : List Bool). rows_stand fs (drop k points)) (drop_more flags k false room)
    ∙ ap (rows_stand (get_or flags k false ∷ drop (k + 1) flags)) (drop_more points k d lt)

-- ---- rows that are put one after another

-- the rows that are left
place-flag : (flag : Bool) (flags : List Bool) (point : Point) (points : List Point) (rows : List Row) (next : ℕ)
    → with_rows (flag ∷ flags) (point ∷ points) (drop next rows) ≡ record point { row = row_for flag rows next }
    ∷ with_rows flags points (drop (next + flag_bit flag) rows)
place-flag false flags point points rows next = let e : next ≡ next + 0 = omega arith in
    ap (λ (k : ℕ). record point { row = None } ∷ with_rows flags points (drop k rows)) e
place-flag true flags point points rows next = let e : suc next ≡ next + 1 = omega arith in go rows next
    ∙ ap (λ (k : ℕ). record point { row = slice_get rows next } ∷ with_rows flags points (drop k rows)) e
  where
    go : (rows : List Row) (next : ℕ) → with_rows (true ∷ flags) (point ∷ points) (drop next rows) ≡ record point
        { row = slice_get rows next } ∷ with_rows flags points (drop (suc next) rows)
    go [] zero = refl
    go [] (suc next) = refl
    go (r ∷ rows) zero = refl
    go (r ∷ rows) (suc next) = go rows next

pub place-more : (flags : List Bool) (points : List Point) (rows : List Row) (k next : ℕ) (point : Point)
    → k < length points → k < length flags → get_or points k point ≡ point
    → take (k + 1) (set points k (record point { row = row_for (get_or flags k false) rows next }))
    ++ with_rows (drop (k + 1) flags) (drop (k + 1) (set points k (record point { row = row_for (get_or flags k false) rows next })))
    (drop (next + flag_bit (get_or flags k false)) rows)
    ≡ take k points ++ with_rows (drop k flags) (drop k points) (drop next rows)
place-more flags points rows k next point lt room here =
    let flag = get_or flags k false in
    let made : Point = record point { row = row_for flag rows next } in
    let rest = with_rows (drop (k + 1) flags) (drop (k + 1) points) (drop (next + flag_bit flag) rows) in
    let front : take (k + 1) (set points k made) ≡ take k points ++ made ∷ [] = take_more_set points k made lt in
    let behind : drop (k + 1) (set points k made) ≡ drop (k + 1) points = drop-set-lt (k + 1) points k made (omega arith) in
    let from : drop k points ≡ point ∷ drop (k + 1) points = drop_more points k point lt ∙ ap (λ (p : Point). p ∷ drop (k + 1) points) here in
    let step : with_rows (drop k flags) (drop k points) (drop next rows) ≡ made ∷ rest =
    ap (λ (fs : List Bool). with_rows fs (drop k points) (drop next rows)) (drop_more flags k false room)
    ∙ ap (λ (ps : List Point). with_rows (flag ∷ drop (k + 1) flags) ps (drop next rows)) from
    ∙ place-flag flag (drop (k + 1) flags) point (drop (k + 1) points) rows next in
    rw (front, behind, step) (append_assoc (take k points) (made ∷ []) rest)

pub place-end : (flags : List Bool) (points : List Point) (rows : List Row) (k : ℕ) → length points ≤ k
    → take k points ++ with_rows (drop k flags) (drop k points) rows ≡ points
place-end flags points rows k le =
    let a : take k points ≡ points = take_all k points le in
    let b : drop k points ≡ [] = drop_all k points le in
    rw (a, b) (append-nil points)

-- ---- whole images

pub length-instrs : (points : List Point) → length (instrs_of points) ≡ length points
length-instrs points = length-map points (λ (point : Point). point.instr)

pub with_rows-length : (flags : List Bool) (points : List Point) (rows : List Row) → length (with_rows flags points rows) ≡ length points
with_rows-length flags points rows = sym (length-instrs (with_rows flags points rows)) ∙ ap length (with_rows-instrs flags points rows)
    ∙ length-instrs points

-- code with points that are legal where it is
pub code_legal : (keyed : Bool) (routines : List Routine) (instrs : List Instr) (points : List Point)
    → IsCode keyed routines instrs → LegalWhere keyed instrs points → length points ≡ length instrs
    → rows_stand (row_flags keyed routines points) points ≡ true
    → is_image (record { keyed = keyed; routines = routines; points = points }) ≡ true
code_legal keyed routines instrs points code legal len stand =
    let r = length routines in
    let n = length points in
    let fit : list_all (is_instr r n) instrs ≡ true = subst (λ (k : ℕ). list_all (is_instr r k) instrs ≡ true) (sym len) code.fit in
    let short : n ≤ 4096 = omega (arith, len, code.short) in
    let counts : total_count routines ≡ n = code.counts ∙ sym len in
    rw (lt-ltb 0 r code.some, le-leb r 32 code.few, code.in_order, le-leb n 4096 short, eq-eqb (total_count routines) n counts, legal r n fit, stand)
    refl

-- and with rows that are put at its key places
pub keyed_legal : (routines : List Routine) (instrs : List Instr) (points : List Point) (rows : List Row)
    → IsCode true routines instrs → LegalWhere true instrs points → instrs_of points ≡ instrs → list_all (is_row true) rows ≡ true
    → flag_count (key_flags routines instrs) instrs ≡ length rows
    → is_image (record { keyed = true; routines = routines; points = with_rows (key_flags routines instrs) points rows }) ≡ true
keyed_legal routines instrs points rows code legal same rows_legal as_many =
    let flags = key_flags routines instrs in
    let made = with_rows flags points rows in
    let len : length points ≡ length instrs = sym (length-instrs points) ∙ ap length same in
    let room : length points ≤ length flags = omega (arith, len, code.short, key_flags-length routines instrs) in
    let stand : rows_stand flags made ≡ true = with_rows-stand flags points rows room (ap (flag_count flags) same ∙ as_many) in
    let flags_same : key_flags routines (instrs_of made) ≡ flags = ap (key_flags routines) (with_rows-instrs flags points rows ∙ same) in
    code_legal true routines instrs made code (λ r n h. with_rows-legal true r n flags points rows (legal r n h) rows_legal)
    (with_rows-length flags points rows ∙ len)
    (subst (λ (fs : List Bool). rows_stand fs made ≡ true) (sym flags_same) stand)

-- what makes an image of version 2 is short
pub keyed_short : (routines : List Routine) (points : List Point) (rows : List Row) → is_keyed routines points rows ≡ true
    → (nat_le (length routines) 32 && nat_le (length points) 4096) ≡ true
keyed_short routines points rows h =
    let image : Parts = keyed_parts routines points rows in
    let parts = image_parts image
    ((and_parts (flag_count (key_flags routines (instrs_of points)) (instrs_of points) == length rows) (is_image image) h).1) in
    let len = with_rows-length (key_flags routines (instrs_of points)) points rows in
    both (nat_le (length routines) 32) (nat_le (length points) 4096) (le-leb (length routines) 32 parts.few)
    (le-leb (length points) 4096 (omega (arith, len, parts.short)))
