-- An image has rows at its key places, in either version.
use Rattle.std.proofs.Common.{◌≡◌, ◌<◌, ◌⊎◌, inl, inr, ℕ, zero, suc, ◌+◌, Bool, true, false, List, [], ◌∷◌, ◌++◌, length, take, get_or, set, Option, Some, None, slice_get, refl, sym, subst, ◌∙◌, length-set, arith}
use Rattle.std.specs.Prelude.{◌&&◌, not, nat_lt, replicate}
use Rattle.std.specs.Option.{is_some}
use Rattle.std.proofs.lemmas.Bool.{and_parts, ltb-true, cases_eq}
use Rattle.std.proofs.lemmas.List.{get_or-replicate, get_or-set_same, get_or-set_other, length-replicate}
use Rattle.std.proofs.lemmas.List.Sums.{sum_by-cons}
use Rattle.geos_image.specs.declared.instr.Instr.{Instr}
use Rattle.geos_image.specs.declared.row.Row.{Row}
use Rattle.geos_image.specs.declared.routine.Routine.{Routine}
use Rattle.geos_image.specs.declared.point.Point.{Point}
use Rattle.geos_image.specs.Parts.{Parts, instrs_of, start_of}
use Rattle.geos_image.specs.Keys.{branches, is_label, falls_through, starts_from, target_key, cut_key, keys_from, flagged, key_flags, row_stands, gives, is_key}
use Rattle.geos_image.specs.Legal.{is_name, is_named, is_row, is_routine, are_routines, is_image, rows_stand, row_flags}
use Rattle.geos_image.proofs.Instrs.{image_parts, instr_fits}
use Rattle.std.proofs.lemmas.Option.{slice_get_read}
use Rattle.geos_opcodes.specs.declared.opcode.Operand.{Operand}
use Rattle.geos_opcodes.specs.declared.opcode.Operand.TheVariants.{Label}
use Rattle.geos_opcodes.specs.Facts.{operands_of}

-- the place is one of these
abbrev pub Among : ℕ → List ℕ → Type 0
Among k [] = ⊥
Among k (place ∷ places) = (place ≡ k) ⊎ Among k places

among-left : (k : ℕ) (xs ys : List ℕ) → Among k xs → Among k (xs ++ ys)
among-left k [] ys h = absurd h
among-left k (x ∷ xs) ys (inl e) = inl e
among-left k (x ∷ xs) ys (inr h) = inr (among-left k xs ys h)

among-right : (k : ℕ) (xs ys : List ℕ) → Among k ys → Among k (xs ++ ys)
among-right k [] ys h = h
among-right k (x ∷ xs) ys h = inr (among-right k xs ys h)

set-true : (flags : List Bool) (place k : ℕ) → k < length flags → (place ≡ k) ⊎ (get_or flags k false ≡ true)
    → get_or (set flags place true) k false ≡ true
set-true flags place k lt h =
    elim (cases_eq place k) as (λ _. get_or (set flags place true) k false ≡ true) [
      | inl same ↦ subst (λ p. get_or (set flags p true) k false ≡ true) (sym same) (get_or-set_same flags k true false lt)
      | inr other ↦ get_or-set_other flags place k true false (λ e. other (sym e)) ∙ kept h other
    ]
  where
    kept : (place ≡ k) ⊎ (get_or flags k false ≡ true) → (place ≡ k → ⊥) → get_or flags k false ≡ true
    kept (inl same) other = absurd (other same)
    kept (inr e) other = e

flag-kept : (places : List ℕ) (flags : List Bool) (k : ℕ) → k < length flags → get_or flags k false ≡ true
    → get_or (flagged places flags) k false ≡ true
flag-kept [] flags k lt h = h
flag-kept (place ∷ places) flags k lt h = flag-kept places (set flags place true) k (omega (arith, lt, length-set flags place true))
    (set-true flags place k lt (inr h))

flag-set : (places : List ℕ) (flags : List Bool) (k : ℕ) → k < length flags → Among k places → get_or (flagged places flags) k false ≡ true
flag-set [] flags k lt h = absurd h
flag-set (place ∷ places) flags k lt (inl e) = flag-kept places (set flags place true) k (omega (arith, lt, length-set flags place true))
    (set-true flags place k lt (inl e))
flag-set (place ∷ places) flags k lt (inr h) = flag-set places (set flags place true) k (omega (arith, lt, length-set flags place true)) h

starts-length : (places : List ℕ) (flags : List Bool) → length (flagged places flags) ≡ length flags
starts-length [] flags = refl
starts-length (place ∷ places) flags = starts-length places (set flags place true) ∙ length-set flags place true

key-start : (routines : List Routine) (instrs : List Instr) (k : ℕ) → k < 4096 → Among k (starts_from 0 routines)
    → get_or (key_flags routines instrs) k false ≡ true
key-start routines instrs k lt h =
    let blank = replicate 4096 false in
    let room : k < length blank = omega (arith, lt, length-replicate 4096 false) in
    flag-kept (keys_from 0 instrs) (flagged (starts_from 0 routines) blank) k (omega (arith, room, starts-length (starts_from 0 routines) blank))
    (flag-set (starts_from 0 routines) blank k room h)

key-led : (routines : List Routine) (instrs : List Instr) (k : ℕ) → k < 4096 → Among k (keys_from 0 instrs)
    → get_or (key_flags routines instrs) k false ≡ true
key-led routines instrs k lt h =
    let starts = flagged (starts_from 0 routines) (replicate 4096 false) in
    flag-set (keys_from 0 instrs) starts k
    (omega (arith, lt, starts-length (starts_from 0 routines) (replicate 4096 false), length-replicate 4096 false)) h

-- there is a row at each flag
stands-there : (flags : List Bool) (points : List Point) (pc : ℕ) → rows_stand flags points ≡ true → pc < length points
    → get_or flags pc false ≡ true → elim (slice_get points pc) [ None ↦ false | Some point ↦ is_some point.row ] ≡ true
stands-there flags [] pc h lt e = absurd (omega (arith, lt))
stands-there [] (point ∷ points) pc h lt e = absurd cc
stands-there (flag ∷ flags) (point ∷ points) zero h lt e =
    let here = (and_parts (row_stands flag point.row) (rows_stand flags points) h).0 in
    one point.row (subst (λ f. row_stands f point.row ≡ true) e here)
  where
    one : (o : Option Row) → row_stands true o ≡ true → is_some o ≡ true
    one (Some row) h = refl
    one None h = absurd cc
stands-there (flag ∷ flags) (point ∷ points) (suc pc) h lt e = stands-there flags points pc
    ((and_parts (row_stands flag point.row) (rows_stand flags points) h).1) (omega (arith, lt)) e

-- there is a row exactly at the flags
stands-as : (flags : List Bool) (points : List Point) (pc : ℕ) → rows_stand flags points ≡ true → pc < length points
    → elim (slice_get points pc) [ None ↦ false | Some point ↦ is_some point.row ] ≡ get_or flags pc false
stands-as flags [] pc h lt = absurd (omega (arith, lt))
stands-as [] (point ∷ points) pc h lt = absurd cc
stands-as (flag ∷ flags) (point ∷ points) zero h lt = one flag point.row ((and_parts (row_stands flag point.row) (rows_stand flags points) h).0)
  where
    one : (flag : Bool) (o : Option Row) → row_stands flag o ≡ true → is_some o ≡ flag
    one true (Some row) h = refl
    one false None h = refl
    one true None h = absurd cc
    one false (Some row) h = absurd cc
stands-as (flag ∷ flags) (point ∷ points) (suc pc) h lt = stands-as flags points pc
    ((and_parts (row_stands flag point.row) (rows_stand flags points) h).1) (omega (arith, lt))

module _ (image : Parts) (legal : is_image image ≡ true) where
  gives-at : (pc : ℕ) → pc < length image.points → get_or (key_flags image.routines (instrs_of image.points)) pc false ≡ true → gives image pc ≡ true
  gives-at pc lt e = go image.keyed (image_parts image legal).rows
    where
      go : (keyed : Bool) → rows_stand (row_flags keyed image.routines image.points) image.points ≡ true → gives image pc ≡ true
      go true stand = stands-there (key_flags image.routines (instrs_of image.points)) image.points pc stand lt e
      go false stand = stands-there (replicate 4096 true) image.points pc stand lt
          (get_or-replicate 4096 pc true false (omega (arith, lt, (image_parts image legal).short)))

  -- a row is given at a key place
  pub gives-key : (pc : ℕ) → pc < length image.points → is_key image pc ≡ true → gives image pc ≡ true
  gives-key pc lt e = gives-at pc lt e

  -- in version 2 there is a row exactly at the key places
  pub key-given : (pc : ℕ) → pc < length image.points → image.keyed ≡ true → gives image pc ≡ is_key image pc
  key-given pc lt keyed = stands-as (key_flags image.routines (instrs_of image.points)) image.points pc
      (rw keyed at (image_parts image legal).rows) lt

  short-at : (pc : ℕ) → pc < length image.points → pc < 4096
  short-at pc lt = omega (arith, lt, (image_parts image legal).short)

  -- where a routine begins
  pub gives-start : (r : ℕ) (routine : Routine) → slice_get image.routines r ≡ Some routine
      → start_of image.routines r < length image.points → gives image (start_of image.routines r) ≡ true
  gives-start r routine there lt =
      gives-at (start_of image.routines r) lt (key-start image.routines (instrs_of image.points) (start_of image.routines r)
      (short-at (start_of image.routines r) lt) (subst (λ k. Among k (starts_from 0 image.routines))
      (zero-plus (start_of image.routines r)) (among-start image.routines r 0 routine there)))
    where
      zero-plus : (n : ℕ) → 0 + n ≡ n
      zero-plus n = omega arith

      among-start : (routines : List Routine) (r at : ℕ) (routine : Routine) → slice_get routines r ≡ Some routine
          → Among (at + start_of routines r) (starts_from at routines)
      among-start [] r at routine e = absurd cc
      among-start (x ∷ routines) zero at routine e = inl (omega arith)
      among-start (x ∷ routines) (suc r) at routine e =
          let ih = among-start routines r (at + x.count) routine e in
          let p = sum_by-cons (λ (y : Routine). y.count) x (take r routines) in
          let same : at + x.count + start_of routines r ≡ at + start_of (x ∷ routines) (suc r) = omega (arith, p) in
          inr (subst (λ k. Among k (starts_from (at + x.count) routines)) same ih)

  -- where an instruction leads by its label
  pub gives-target : (pc : ℕ) (point : Point) → slice_get image.points pc ≡ Some point → branches point.instr.opcode ≡ true
      → point.instr.target < length image.points → gives image point.instr.target ≡ true
  gives-target pc point there branch lt =
      gives-at point.instr.target lt (key-led image.routines (instrs_of image.points) point.instr.target
      (short-at point.instr.target lt) (go image.points pc 0 there))
    where
      one : (i : Instr) → branches i.opcode ≡ true → Among i.target (target_key i)
      one i e = rw e (inl refl)

      go : (points : List Point) (pc at : ℕ) → slice_get points pc ≡ Some point → Among point.instr.target (keys_from at (instrs_of points))
      go [] pc at e = absurd cc
      go (x ∷ points) zero at e =
          let same : x ≡ point = cc in
          subst (λ (q : Point). Among point.instr.target (keys_from at (instrs_of (q ∷ points)))) (sym same)
          (among-left point.instr.target (target_key point.instr) (cut_key at point.instr ++ keys_from (at + 1) (instrs_of points))
          (one point.instr branch))
      go (x ∷ points) (suc pc) at e =
          among-right point.instr.target (target_key x.instr) (cut_key at x.instr ++ keys_from (at + 1) (instrs_of points))
          (among-right point.instr.target (cut_key at x.instr) (keys_from (at + 1) (instrs_of points)) (go points pc (at + 1) e))

  -- there is a row after an instruction that never falls through
  pub gives-cut : (pc : ℕ) (point : Point) → slice_get image.points pc ≡ Some point → falls_through point.instr.opcode ≡ false
      → pc + 1 < length image.points → gives image (pc + 1) ≡ true
  gives-cut pc point there cut lt =
      gives-at (pc + 1) lt (key-led image.routines (instrs_of image.points) (pc + 1) (short-at (pc + 1) lt)
      (subst (λ k. Among k (keys_from 0 (instrs_of image.points))) (zero-plus pc) (go image.points pc 0 there)))
    where
      zero-plus : (n : ℕ) → 0 + n + 1 ≡ n + 1
      zero-plus n = omega arith

      one : (at : ℕ) (i : Instr) → falls_through i.opcode ≡ false → Among (at + 0 + 1) (cut_key at i)
      one at i e = rw e (inl (omega arith))

      go : (points : List Point) (pc at : ℕ) → slice_get points pc ≡ Some point → Among (at + pc + 1) (keys_from at (instrs_of points))
      go [] pc at e = absurd cc
      go (x ∷ points) zero at e =
          let same : x ≡ point = cc in
          subst (λ (q : Point). Among (at + 0 + 1) (keys_from at (instrs_of (q ∷ points)))) (sym same)
          (among-right (at + 0 + 1) (target_key point.instr) (cut_key at point.instr ++ keys_from (at + 1) (instrs_of points))
          (among-left (at + 0 + 1) (cut_key at point.instr) (keys_from (at + 1) (instrs_of points)) (one at point.instr cut)))
      go (x ∷ points) (suc pc) at e =
          let same : at + 1 + pc + 1 ≡ at + suc pc + 1 = omega arith in
          among-right (at + suc pc + 1) (target_key x.instr) (cut_key at x.instr ++ keys_from (at + 1) (instrs_of points))
          (among-right (at + suc pc + 1) (cut_key at x.instr) (keys_from (at + 1) (instrs_of points))
          (subst (λ k. Among k (keys_from (at + 1) (instrs_of points))) same (go points pc (at + 1) e)))

is_label-Label : (operand : Operand) → is_label operand ≡ true → operand ≡ Label
is_label-Label Label e = refl
is_label-Label _ e = absurd cc

target-below : (image : Parts) → is_image image ≡ true → (pc : ℕ) (point : Point) → slice_get image.points pc ≡ Some point
    → branches point.instr.opcode ≡ true → point.instr.target < length image.points
target-below image legal pc point there branch = (instr_fits image pc point legal there).1
    (is_label-Label (operands_of point.instr.opcode).target branch)

-- what an instruction that was read from an image tells of the rows that the image gives, as it is viewed
pub given-read : (view image : Parts) (pc : ℕ) (point : Point) → image ≡ view → is_image image ≡ true → pc < length view.points
    → point ≡ get_or image.points pc point
    → (branches point.instr.opcode ≡ true → gives view point.instr.target ≡ true)
    × (falls_through point.instr.opcode ≡ false → pc + 1 < length view.points → gives view (pc + 1) ≡ true)
given-read view image pc point same legal lt read =
    let within : pc < length image.points = subst (λ (p : Parts). pc < length p.points) (sym same) lt in
    let there : slice_get image.points pc ≡ Some point = slice_get_read image.points _ pc point refl within read in
    let label = λ (branch : branches point.instr.opcode ≡ true). target-below image legal pc point there branch in
    let P : Parts → Type 0 = λ p. (branches point.instr.opcode ≡ true → gives p point.instr.target ≡ true)
    × (falls_through point.instr.opcode ≡ false → pc + 1 < length p.points → gives p (pc + 1) ≡ true) in
    subst P same (
      (λ branch. gives-target image legal pc point there branch (label branch)),
      (λ cut more. gives-cut image legal pc point there cut more),
    )

-- what there is at an index below the length
pub item_at : {A : Type 0} (xs : List A) (k : ℕ) → k < length xs → (x : A) × (slice_get xs k ≡ Some x)
item_at [] k lt = absurd (omega arith)
item_at (x ∷ xs) zero lt = (x, refl)
item_at (x ∷ xs) (suc k) lt = item_at xs k (omega arith)

-- each routine has instructions
pub routine_counts : (borrows : Bool) (earlier routines : List Routine) (r : ℕ) (routine : Routine)
    → are_routines borrows earlier routines ≡ true → slice_get routines r ≡ Some routine → 0 < routine.count
routine_counts borrows earlier [] r routine h e = absurd cc
routine_counts borrows earlier (x ∷ routines) zero routine h e =
    let same : x ≡ routine = cc in
    let here = (and_parts (is_routine borrows earlier x) (are_routines borrows (earlier ++ x ∷ []) routines) h).0 in
    let a = and_parts (is_name x.name && not (is_named x.name earlier) && nat_lt 0 x.count && is_row borrows x.entry) (is_row borrows x.exit) here in
    let b = and_parts (is_name x.name && not (is_named x.name earlier) && nat_lt 0 x.count) (is_row borrows x.entry) a.0 in
    let c = and_parts (is_name x.name && not (is_named x.name earlier)) (nat_lt 0 x.count) b.0 in
    subst (λ (q : Routine). 0 < q.count) same (ltb-true 0 x.count c.1)
routine_counts borrows earlier (x ∷ routines) (suc r) routine h e =
    routine_counts borrows (earlier ++ x ∷ []) routines r routine
    ((and_parts (is_routine borrows earlier x) (are_routines borrows (earlier ++ x ∷ []) routines) h).1) e
