-- Things of one width, read one after another.
use Rattle.std.proofs.Common.{Bool, false, ◌≡◌, ℕ, suc, ◌+◌, ◌*◌, ◌-◌, ◌≤◌, ◌<◌, List, [], ◌∷◌, ◌++◌, length, get_or, drop, Some, None, Result, Ok, Err, refl, sym, ap, ◌∙◌, append_assoc, arith, add-one}
use Rattle.std.proofs.lemmas.List.{append-nil, drop_all}
use Rattle.std.proofs.Math.Seq.{drop-cons}
use Rattle.geos_image.specs.declared.instr.Instr.{Instr}
use Rattle.geos_image.specs.declared.row.Row.{Row}
use Rattle.geos_image.specs.declared.potential.Potential.{Potential}
use Rattle.geos_image.specs.declared.routine.Routine.{Routine}
use Rattle.geos_image.specs.declared.point.Point.{Point}
use Rattle.geos_image.specs.Reading.{◌>>=◌, items_at, routine_at, routines_at, row_at, entry_at, points_at, potential_at, bare_points_at}

-- four of them
pub four_items : {A : Type 0} (read : ℕ → Result A ℕ) (width at second third fourth : ℕ) (a b c d : A) → at + width ≡ second
    → second + width ≡ third → third + width ≡ fourth
    → read at ≡ Ok a → read second ≡ Ok b → read third ≡ Ok c → read fourth ≡ Ok d → items_at read width 4 at ≡ Ok (a ∷ b ∷ c ∷ d ∷ [])
four_items read width at second third fourth a b c d e f g p q r s = rw (p, e, q, f, r, g, s) refl

-- eight of them
pub eight_items : {A : Type 0} (read : ℕ → Result A ℕ) (width at n2 n3 n4 n5 n6 n7 n8 : ℕ) (a b c d e f g h : A)
    → at + width ≡ n2 → n2 + width ≡ n3 → n3 + width ≡ n4 → n4 + width ≡ n5 → n5 + width ≡ n6 → n6 + width ≡ n7 → n7 + width ≡ n8
    → read at ≡ Ok a → read n2 ≡ Ok b → read n3 ≡ Ok c → read n4 ≡ Ok d → read n5 ≡ Ok e → read n6 ≡ Ok f → read n7 ≡ Ok g → read n8 ≡ Ok h
    → items_at read width 8 at ≡ Ok (a ∷ b ∷ c ∷ d ∷ e ∷ f ∷ g ∷ h ∷ [])
eight_items read width at n2 n3 n4 n5 n6 n7 n8 a b c d e f g h p2 p3 p4 p5 p6 p7 p8 r1 r2 r3 r4 r5 r6 r7 r8 =
    rw (r1, p2, r2, p3, r3, p4, r4, p5, r5, p6, r6, p7, r7, p8, r8) refl

-- what was read before, and what is still read
abbrev pub with_front : {A : Type 0} → List A → Result (List A) ℕ → Result (List A) ℕ
with_front front read = read >>= λ xs. Ok (front ++ xs)

regroup : {A : Type 0} (front : List A) (x : A) (read : Result (List A) ℕ)
    → with_front front (read >>= λ xs. Ok (x ∷ xs)) ≡ with_front (front ++ x ∷ []) read
regroup front x (Ok xs) = ap Ok (simp append_assoc)
regroup front x (Err at) = refl

module _ {A : Type 0} (read : ℕ → Result A ℕ) (width start count : ℕ) (total : Result (List A) ℕ) where
  -- the next one is read
  pub items-more : (front : List A) (i at : ℕ) (x : A) → at ≡ start + width * i → i < count → read at ≡ Ok x
      → with_front front (items_at read width (count - i) at) ≡ total
      → with_front (front ++ x ∷ []) (items_at read width (count - (i + 1)) (at + width)) ≡ total
  items-more front i at x place lt h so_far =
      let k : count - i ≡ suc (count - (i + 1)) = omega arith in
      let one : with_front front (items_at read width (count - i) at) ≡ with_front (front ++ x ∷ [])
      (items_at read width (count - (i + 1)) (at + width)) = rw (k, h) (regroup front x (items_at read width (count - (i + 1)) (at + width))) in
      sym one ∙ so_far

  -- the next one has a fault
  pub items-fault : (front : List A) (i at fault : ℕ) → i < count → read at ≡ Err fault
      → with_front front (items_at read width (count - i) at) ≡ total → total ≡ Err fault
  items-fault front i at fault lt h so_far =
      let k : count - i ≡ suc (count - (i + 1)) = omega arith in
      let one : with_front front (items_at read width (count - i) at) ≡ Err fault = rw (k, h) refl in
      sym so_far ∙ one

  -- all are read
  pub items-end : (front : List A) (i at : ℕ) → count ≤ i → with_front front (items_at read width (count - i) at) ≡ total → total ≡ Ok front
  items-end front i at le so_far =
      let k : count - i ≡ 0 = omega arith in
      let one : with_front front (items_at read width (count - i) at) ≡ Ok front = rw k (ap Ok (append-nil front)) in
      sym so_far ∙ one

module _ (borrows : Bool) (bytes : List ℕ) (count : ℕ) (total : Result (List Routine) ℕ) where
  pub routines-more : (front : List Routine) (i at : ℕ) (r : Routine) → i < count → routine_at borrows front bytes at ≡ Ok r
      → routines_at borrows bytes (count - i) at front ≡ total
      → routines_at borrows bytes (count - (i + 1)) (at + 100) (front ++ r ∷ []) ≡ total
  unfolding routines_at
  routines-more front i at r lt h so_far =
      let k : count - i ≡ suc (count - (i + 1)) = omega arith in
      let one : routines_at borrows bytes (count - i) at front ≡ routines_at borrows bytes (count - (i + 1)) (at + 100)
      (front ++ r ∷ []) = rw (k, h) refl in
      sym one ∙ so_far

  pub routines-fault : (front : List Routine) (i at fault : ℕ) → i < count → routine_at borrows front bytes at ≡ Err fault
      → routines_at borrows bytes (count - i) at front ≡ total → total ≡ Err fault
  unfolding routines_at
  routines-fault front i at fault lt h so_far =
      let k : count - i ≡ suc (count - (i + 1)) = omega arith in
      let one : routines_at borrows bytes (count - i) at front ≡ Err fault = rw (k, h) refl in
      sym so_far ∙ one

  pub routines-end : (front : List Routine) (i at : ℕ) → count ≤ i → routines_at borrows bytes (count - i) at front ≡ total → total ≡ Ok front
  unfolding routines_at
  routines-end front i at le so_far =
      let k : count - i ≡ 0 = omega arith in
      let one : routines_at borrows bytes (count - i) at front ≡ Ok front = rw k refl in
      sym so_far ∙ one

-- the row and the potential of an instruction are read together
pub entry_whole : (bytes : List ℕ) (at : ℕ) (row : Row) (potential : Potential) → row_at false bytes at ≡ Ok row
    → potential_at bytes (at + 38) ≡ Ok potential → entry_at bytes at ≡ Ok (row, potential)
unfolding entry_at
entry_whole bytes at row potential h k = rw (h, k) refl

-- a fault of its row
pub entry_no_row : (bytes : List ℕ) (at fault : ℕ) → row_at false bytes at ≡ Err fault → entry_at bytes at ≡ Err fault
unfolding entry_at
entry_no_row bytes at fault h = rw h refl

-- a fault of its potential
pub entry_no_potential : (bytes : List ℕ) (at fault : ℕ) (row : Row) → row_at false bytes at ≡ Ok row
    → potential_at bytes (at + 38) ≡ Err fault → entry_at bytes at ≡ Err fault
unfolding entry_at
entry_no_potential bytes at fault row h k = rw (h, k) refl

module _ (bytes : List ℕ) (code : List Instr) (total : Result (List Point) ℕ) where
  pub points-more : (front : List Point) (k at : ℕ) (d : Instr) (row : Row) (potential : Potential) → k < length code
      → entry_at bytes at ≡ Ok (row, potential)
      → with_front front (points_at bytes (drop k code) at) ≡ total
      → with_front (front ++ record { instr = get_or code k d; row = Some row; potential = potential } ∷ [])
      (points_at bytes (drop (k + 1) code) (at + 58)) ≡ total
  unfolding points_at
  points-more front k at d row potential lt h so_far =
      let rest = points_at bytes (drop (suc k) code) (at + 58) in
      let one : with_front front (points_at bytes (drop k code) at) ≡ with_front
      (front ++ record { instr = get_or code k d; row = Some row; potential = potential } ∷ []) rest =
      rw (drop-cons code k d lt, h) (regroup front (record { instr = get_or code k d; row = Some row; potential = potential }) rest) in
      rw add-one (sym one ∙ so_far)

  pub points-fault : (front : List Point) (k at fault : ℕ) (d : Instr) → k < length code → entry_at bytes at ≡ Err fault
      → with_front front (points_at bytes (drop k code) at) ≡ total → total ≡ Err fault
  unfolding points_at
  points-fault front k at fault d lt h so_far =
      let one : with_front front (points_at bytes (drop k code) at) ≡ Err fault = rw (drop-cons code k d lt, h) refl in
      sym so_far ∙ one

  pub points-end : (front : List Point) (k at : ℕ) → length code ≤ k → with_front front (points_at bytes (drop k code) at) ≡ total → total ≡ Ok front
  unfolding points_at
  points-end front k at le so_far =
      let one : with_front front (points_at bytes (drop k code) at) ≡ Ok front = rw (drop_all k code le) (ap Ok (append-nil front)) in
      sym so_far ∙ one

module _ (bytes : List ℕ) (code : List Instr) (total : Result (List Point) ℕ) where
  pub bare-more : (front : List Point) (k at : ℕ) (d : Instr) (potential : Potential) → k < length code → potential_at bytes at ≡ Ok potential
      → with_front front (bare_points_at bytes (drop k code) at) ≡ total
      → with_front (front ++ record { instr = get_or code k d; row = None; potential = potential } ∷ [])
      (bare_points_at bytes (drop (k + 1) code) (at + 20)) ≡ total
  unfolding bare_points_at
  bare-more front k at d potential lt h so_far =
      let rest = bare_points_at bytes (drop (suc k) code) (at + 20) in
      let one : with_front front (bare_points_at bytes (drop k code) at) ≡ with_front
      (front ++ record { instr = get_or code k d; row = None; potential = potential } ∷ []) rest =
      rw (drop-cons code k d lt, h) (regroup front (record { instr = get_or code k d; row = None; potential = potential }) rest) in
      rw add-one (sym one ∙ so_far)

  pub bare-fault : (front : List Point) (k at fault : ℕ) (d : Instr) → k < length code → potential_at bytes at ≡ Err fault
      → with_front front (bare_points_at bytes (drop k code) at) ≡ total → total ≡ Err fault
  unfolding bare_points_at
  bare-fault front k at fault d lt h so_far =
      let one : with_front front (bare_points_at bytes (drop k code) at) ≡ Err fault = rw (drop-cons code k d lt, h) refl in
      sym so_far ∙ one

  pub bare-end : (front : List Point) (k at : ℕ) → length code ≤ k → with_front front (bare_points_at bytes (drop k code) at) ≡ total
      → total ≡ Ok front
  unfolding bare_points_at
  bare-end front k at le so_far =
      let one : with_front front (bare_points_at bytes (drop k code) at) ≡ Ok front = rw (drop_all k code le) (ap Ok (append-nil front)) in
      sym so_far ∙ one
