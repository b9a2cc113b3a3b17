-- Points whose rows are removed except at flags.
use Rattle.std.proofs.Common.{◌≡◌, ℕ, zero, suc, ◌+◌, ◌≤◌, ◌<◌, Bool, true, false, List, [], ◌∷◌, ◌++◌, length, take, drop, set, get_or, Option, Some, None, refl, sym, ap, subst, ◌∙◌, append_assoc, arith}
use Rattle.std.specs.Prelude.{◌&&◌, ◌||◌, ◌==◌, not, nat_lt, replicate, slice_get, slice_index_or}
use Rattle.std.specs.List.{list_all}
use Rattle.std.proofs.lemmas.Bool.{and_parts, lt-ltb, le-leb, eq-eqb, eqb-true}
use Rattle.std.proofs.lemmas.List.{drop_more, drop_all, take_all, take_more_set, drop-set-lt, append-nil}
use Rattle.geos_image.specs.declared.instr.Instr.{Instr}
use Rattle.geos_image.specs.declared.row.Row.{Row}
use Rattle.geos_image.specs.declared.routine.Routine.{Routine}
use Rattle.geos_image.specs.declared.point.Point.{Point}
use Rattle.geos_image.specs.Parts.{Parts, instrs_of, total_count}
use Rattle.geos_image.specs.Keys.{key_flags, row_stands, row_where, kept_rows, keyed_of, gives}
use Rattle.geos_image.specs.Legal.{is_name, is_named, is_own, is_pointer, is_shaped, is_row, is_given, is_instr, is_point, is_routine, are_routines, rows_stand, row_flags, is_formed, is_image}
use Rattle.geos_image.proofs.Instrs.{formed_parts, list_all-get}
use Rattle.geos_image.proofs.Given.{key-given}
use Rattle.geos_image.proofs.Pushes.{both}
use Rattle.geos_image.proofs.KeyLaws.{key_flags-length, length-instrs, legal-one}

-- the instructions stay
pub kept-instrs : (flags : List Bool) (points : List Point) → instrs_of (kept_rows flags points) ≡ instrs_of points
kept-instrs flags [] = refl
kept-instrs [] (point ∷ points) = ap (λ (is : List Instr). point.instr ∷ is) (kept-instrs [] points)
kept-instrs (flag ∷ flags) (point ∷ points) = ap (λ (is : List Instr). point.instr ∷ is) (kept-instrs flags points)

pub kept-length : (flags : List Bool) (points : List Point) → length (kept_rows flags points) ≡ length points
kept-length flags points = sym (length-instrs (kept_rows flags points)) ∙ ap length (kept-instrs flags points) ∙ length-instrs points

-- a point with the row that it keeps
pub kept-point : (flags : List Bool) (points : List Point) (pc : ℕ) (point : Point) → slice_get points pc ≡ Some point
    → slice_get (kept_rows flags points) pc ≡ Some (record point { row = row_where (get_or flags pc false) point.row })
kept-point flags [] pc point e = absurd cc
kept-point [] (x ∷ points) zero point e = let same : x ≡ point = cc in ap (λ (q : Point). Some (record q { row = None })) same
kept-point [] (x ∷ points) (suc pc) point e = kept-point [] points pc point e
kept-point (flag ∷ flags) (x ∷ points) zero point e = let same : x ≡ point = cc in
    ap (λ (q : Point). Some (record q { row = row_where flag q.row })) same
kept-point (flag ∷ flags) (x ∷ points) (suc pc) point e = kept-point flags points pc point e

-- ---- legal images

where-given : (borrows : Bool) (flag : Bool) (o : Option Row) → is_given borrows o ≡ true → is_given borrows (row_where flag o) ≡ true
where-given borrows true o h = h
where-given borrows false o h = refl

given-there : (borrows : Bool) (r n : ℕ) (point : Point) (points : List Point) → list_all (is_point borrows r n) (point ∷ points) ≡ true
    → is_given borrows point.row ≡ true
given-there borrows r n point points h =
    let here = (and_parts (is_point borrows r n point) (list_all (is_point borrows r n) points) h).0 in
    (and_parts (is_instr r n point.instr) (is_given borrows point.row) here).1

kept-legal : (borrows : Bool) (r n : ℕ) (flags : List Bool) (points : List Point) → list_all (is_point borrows r n) points ≡ true
    → list_all (is_point borrows r n) (kept_rows flags points) ≡ true
kept-legal borrows r n flags [] h = refl
kept-legal borrows r n [] (point ∷ points) h = legal-one borrows r n point None (kept_rows [] points) points h refl (kept-legal borrows r n [] points)
kept-legal borrows r n (flag ∷ flags) (point ∷ points) h =
    legal-one borrows r n point (row_where flag point.row) (kept_rows flags points) points h
    (where-given borrows flag point.row (given-there borrows r n point points h)) (kept-legal borrows r n flags points)

-- where all rows are given, those at flags are left
kept-stands : (n : ℕ) (flags : List Bool) (points : List Point) → length points ≤ length flags
    → rows_stand (replicate n true) points ≡ true → rows_stand flags (kept_rows flags points) ≡ true
kept-stands n flags [] room h = refl
kept-stands n [] (point ∷ points) room h = absurd (omega (arith, room))
kept-stands zero (flag ∷ flags) (point ∷ points) room h = absurd cc
kept-stands (suc n) (flag ∷ flags) (point ∷ points) room h =
    let parts = and_parts (row_stands true point.row) (rows_stand (replicate n true) points) h in
    both (row_stands flag (row_where flag point.row)) (rows_stand flags (kept_rows flags points)) (one flag point.row parts.0)
    (kept-stands n flags points (omega (arith, room)) parts.1)
  where
    one : (flag : Bool) (o : Option Row) → row_stands true o ≡ true → row_stands flag (row_where flag o) ≡ true
    one true o h = h
    one false o h = refl

-- if there are rows only at flags, none is removed
kept-same : (flags : List Bool) (points : List Point) → rows_stand flags points ≡ true → kept_rows flags points ≡ points
kept-same flags [] h = refl
kept-same [] (point ∷ points) h = absurd cc
kept-same (flag ∷ flags) (point ∷ points) h =
    let parts = and_parts (row_stands flag point.row) (rows_stand flags points) h in
    ap (λ (o : Option Row). record point { row = o } ∷ kept_rows flags points) (one flag point.row parts.0)
    ∙ ap (λ (ps : List Point). point ∷ ps) (kept-same flags points parts.1)
  where
    one : (flag : Bool) (o : Option Row) → row_stands flag o ≡ true → row_where flag o ≡ o
    one true o h = refl
    one false None h = refl
    one false (Some row) h = absurd cc

keyed-stands : (routines : List Routine) (points : List Point) (keyed : Bool) → length points ≤ 4096
    → rows_stand (row_flags keyed routines points) points ≡ true
    → rows_stand (key_flags routines (instrs_of points)) (kept_rows (key_flags routines (instrs_of points)) points) ≡ true
keyed-stands routines points true short h = let flags = key_flags routines (instrs_of points) in
    subst (λ (ps : List Point). rows_stand flags ps ≡ true) (sym (kept-same flags points h)) h
keyed-stands routines points false short h =
    let flags = key_flags routines (instrs_of points) in
    kept-stands 4096 flags points (omega (arith, short, key_flags-length routines (instrs_of points))) h

-- the image in version 2 is a legal one
pub keyed-legal : (image : Parts) → is_formed true image ≡ true → is_image (keyed_of image) ≡ true
keyed-legal image h =
    let parts = formed_parts true image h in
    let flags = key_flags image.routines (instrs_of image.points) in
    let kept = kept_rows flags image.points in
    let r = length image.routines in
    let len : length kept ≡ length image.points = kept-length flags image.points in
    let same : key_flags image.routines (instrs_of kept) ≡ flags = ap (key_flags image.routines) (kept-instrs flags image.points) in
    let stand : rows_stand (row_flags true image.routines kept) kept ≡ true = subst (λ (fs : List Bool). rows_stand fs kept ≡ true)
    (sym same) (keyed-stands image.routines image.points image.keyed parts.short parts.rows) in
    let points : list_all (is_point true r (length kept)) kept ≡ true = subst (λ (n : ℕ). list_all (is_point true r n) kept ≡ true)
    (sym len) (kept-legal true r (length image.points) flags image.points parts.points) in
    let counts : total_count image.routines ≡ length kept = parts.counts ∙ sym len in
    rw (
      lt-ltb 0 r parts.some,
      le-leb r 32 parts.few,
      parts.routines,
      le-leb (length kept) 4096 (omega (arith, len, parts.short)),
      eq-eqb (total_count image.routines) (length kept) counts,
      points,
      stand,
    ) refl

-- and itself where it is one of version 2
pub keyed-same : (image : Parts) → is_formed true image ≡ true → image.keyed ≡ true → keyed_of image ≡ image
keyed-same image h keyed =
    let flags = key_flags image.routines (instrs_of image.points) in
    let stand : rows_stand flags image.points ≡ true = rw keyed at (formed_parts true image h).rows in
    ap (λ (ps : List Point). record { keyed = true; routines = image.routines; points = ps }) (kept-same flags image.points stand)
    ∙ ap (λ (b : Bool). record { keyed = b; routines = image.routines; points = image.points }) (sym keyed)

-- ---- what the image gives in version 2

-- a row speaks of four slots
pub four-slots : (borrows : Bool) (row : Row) → is_row borrows row ≡ true → length row.slots ≡ 4
four-slots borrows row h =
    let shaped = (and_parts (borrows || list_all is_own row.slots) (is_shaped row)
    ((and_parts ((borrows || list_all is_own row.slots) && is_shaped row) (list_all is_pointer row.pointers) h).0)).1 in
    let a = and_parts (length row.bounds == 8 && length row.slots == 4 && length row.pointers == 4) (length row.pairs == 6) shaped in
    let b = and_parts (length row.bounds == 8 && length row.slots == 4) (length row.pointers == 4) a.0 in
    eqb-true (length row.slots) 4 ((and_parts (length row.bounds == 8) (length row.slots == 4) b.0).1)

exit-row : (borrows : Bool) (earlier routines : List Routine) (r : ℕ) (routine : Routine) → are_routines borrows earlier routines ≡ true
    → slice_get routines r ≡ Some routine → is_row borrows routine.exit ≡ true
exit-row borrows earlier [] r routine h e = absurd cc
exit-row borrows earlier (x ∷ routines) zero routine h e =
    let same : x ≡ routine = cc in
    let here = (and_parts (is_routine borrows earlier x) (are_routines borrows (earlier ++ x ∷ []) routines) h).0 in
    let a = and_parts (is_name x.name && not (is_named x.name earlier) && nat_lt 0 x.count && is_row borrows x.entry) (is_row borrows x.exit) here in
    subst (λ (q : Routine). is_row borrows q.exit ≡ true) same a.1
exit-row borrows earlier (x ∷ routines) (suc r) routine h e =
    exit-row borrows (earlier ++ x ∷ []) routines r routine
    ((and_parts (is_routine borrows earlier x) (are_routines borrows (earlier ++ x ∷ []) routines) h).1) e

-- so does a routine's exit row
pub four-exit : (image : Parts) → is_formed true image ≡ true → (r : ℕ) (routine : Routine) → slice_get image.routines r ≡ Some routine
    → length routine.exit.slots ≡ 4
four-exit image h r routine e = four-slots true routine.exit (exit-row true [] image.routines r routine (formed_parts true image h).routines e)

all-there : (n : ℕ) (points : List Point) (pc : ℕ) (point : Point) → rows_stand (replicate n true) points ≡ true
    → slice_get points pc ≡ Some point → (row : Row) × (point.row ≡ Some row)
all-there n [] pc point h e = absurd cc
all-there zero (x ∷ points) pc point h e = absurd cc
all-there (suc n) (x ∷ points) zero point h e =
    let same : x ≡ point = cc in
    subst (λ (q : Point). (row : Row) × (q.row ≡ Some row)) same
    (one x.row ((and_parts (row_stands true x.row) (rows_stand (replicate n true) points) h).0))
  where
    one : (o : Option Row) → row_stands true o ≡ true → (row : Row) × (o ≡ Some row)
    one (Some row) h = (row, refl)
    one None h = absurd cc
all-there (suc n) (x ∷ points) (suc pc) point h e = all-there n points pc point
    ((and_parts (row_stands true x.row) (rows_stand (replicate n true) points) h).1) e

module _ (image : Parts) (legal : is_formed true image ≡ true) where
  -- in version 1 each point has a row
  pub row-there : image.keyed ≡ false → (pc : ℕ) (point : Point) → slice_get image.points pc ≡ Some point → (row : Row)
      × (point.row ≡ Some row) × (length row.slots ≡ 4)
  row-there all pc point e =
      let parts = formed_parts true image legal in
      let r = length image.routines in
      let n = length image.points in
      let given = all-there 4096 image.points pc point (rw all at parts.rows) e in
      let here = list_all-get (is_point true r n) image.points pc point parts.points e in
      let fine : is_given true point.row ≡ true = (and_parts (is_instr r n point.instr) (is_given true point.row) here).1 in
      (given.0, given.1, four-slots true given.0 (ap (is_given true) (sym given.1) ∙ fine))

  flag-of : (pc : ℕ) → pc < length image.points → gives (keyed_of image) pc ≡ slice_index_or
      (key_flags image.routines (instrs_of image.points)) pc false
  flag-of pc lt =
      let flags = key_flags image.routines (instrs_of image.points) in
      key-given (keyed_of image) (keyed-legal image legal) pc (omega (arith, lt, kept-length flags image.points)) refl ∙ ap
      (λ (is : List Instr). slice_index_or (key_flags image.routines is) pc false) (kept-instrs flags image.points)

  point-as : (pc : ℕ) (point : Point) (b : Bool) → slice_get image.points pc ≡ Some point → pc < length image.points
      → gives (keyed_of image) pc ≡ b → slice_get (keyed_of image).points pc ≡ Some (record point { row = row_where b point.row })
  point-as pc point b e lt is =
      let flags = key_flags image.routines (instrs_of image.points) in
      kept-point flags image.points pc point e ∙ ap (λ (f : Bool). Some (record point { row = row_where f point.row })) (sym (flag-of pc lt) ∙ is)

  -- where a row is given, it is the same
  pub point-given : (pc : ℕ) (point : Point) → slice_get image.points pc ≡ Some point → pc < length image.points
      → gives (keyed_of image) pc ≡ true → slice_get (keyed_of image).points pc ≡ Some point
  point-given pc point e lt is = point-as pc point true e lt is

  pub point-bare : (pc : ℕ) (point : Point) → slice_get image.points pc ≡ Some point → pc < length image.points
      → gives (keyed_of image) pc ≡ false → slice_get (keyed_of image).points pc ≡ Some (record point { row = None })
  point-bare pc point e lt is = point-as pc point false e lt is

-- ---- rows that are taken away one after another

pub kept-more : (flags : List Bool) (points : List Point) (k : ℕ) (point : Point) → k < length points → k < length flags
    → get_or points k point ≡ point
    → take (k + 1) (set points k (record point { row = row_where (get_or flags k false) point.row }))
    ++ kept_rows (drop (k + 1) flags) (drop (k + 1) (set points k (record point { row = row_where (get_or flags k false) point.row })))
    ≡ take k points ++ kept_rows (drop k flags) (drop k points)
kept-more flags points k point lt room here =
    let made : Point = record point { row = row_where (get_or flags k false) point.row } in
    let rest = kept_rows (drop (k + 1) flags) (drop (k + 1) points) in
    let front : take (k + 1) (set points k made) ≡ take k points ++ made ∷ [] = take_more_set points k made lt in
    let behind : drop (k + 1) (set points k made) ≡ drop (k + 1) points = drop-set-lt (k + 1) points k made (omega arith) in
    let from : drop k points ≡ point ∷ drop (k + 1) points = drop_more points k point lt ∙ ap (λ (p : Point). p ∷ drop (k + 1) points) here in
    let step : kept_rows (drop k flags) (drop k points) ≡ made ∷ rest =
    ap (λ (fs : List Bool). kept_rows fs (drop k points)) (drop_more flags k false room)
    ∙ ap (λ (ps : List Point). kept_rows (get_or flags k false ∷ drop (k + 1) flags) ps) from in
    rw (front, behind, step) (append_assoc (take k points) (made ∷ []) rest)

pub kept-end : (flags : List Bool) (points : List Point) (k : ℕ) → length points ≤ k
    → take k points ++ kept_rows (drop k flags) (drop k points) ≡ points
kept-end flags points k le =
    let a : take k points ≡ points = take_all k points le in
    let b : drop k points ≡ [] = drop_all k points le in
    rw (a, b) (append-nil points)
