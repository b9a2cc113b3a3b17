-- What is found is enough, where something is.
use Rattle.std.proofs.Common.{◌≡◌, ℕ, zero, suc, ◌+◌, ◌*◌, ◌<◌, ◌≤◌, Bool, true, false, List, [], ◌∷◌, length, map, Option, Some, None, slice_get, get_or, refl, sym, ap, ◌∙◌, subst, arith}
use Rattle.std.specs.Prelude.{◌&&◌, ◌==◌, nat_le, nat_lt, option_map, replicate}
use Rattle.std.specs.List.{list_all}
use Rattle.std.proofs.lemmas.Bool.{and_parts, le-leb, lt-ltb, eq-eqb}
use Rattle.std.proofs.lemmas.List.{length-map}
use Rattle.std.proofs.lemmas.Option.{slice_get-map, slice_get_within, get_or_from_slice_get, same_Some}
use Rattle.geos_image.specs.declared.instr.Instr.{Instr}
use Rattle.geos_image.specs.declared.row.Row.{Row}
use Rattle.geos_image.specs.declared.routine.Routine.{Routine}
use Rattle.geos_image.specs.declared.point.Point.{Point}
use Rattle.geos_image.specs.Parts.{Parts, start_of, total_count}
use Rattle.geos_image.specs.Keys.{row_stands}
use Rattle.geos_image.specs.Legal.{is_given, is_instr, is_point, are_routines, rows_stand, is_formed, is_image}
use Rattle.geos_image.proofs.Instrs.{image_parts}
use Rattle.geos_verify.specs.declared.place.Place.{Place}
use Rattle.geos_verify.specs.Places.{places}
use Rattle.geos_verify.specs.Rows.{fits, has_edge}
use Rattle.geos_verify.specs.Rules.{has_place, names_empty_slot, refusal, HasPoint, Accepted, IsChecked}
use Rattle.geos_verify.proofs.Places.{item_at, place_bounds, places-length, given-place}
use Rattle.geos_code.specs.Known.{clean, row_of, known_at}
use Rattle.geos_code.specs.Code.{Edge, IsPcOf, Forward, ForwardIn, SameCode, instrs_of, instr_of, edge_end, edge_row}
use Rattle.geos_rows.specs.Solutions.{RowsHoldIn}
use Rattle.geos_counters.specs.Steps.{StepsHoldIn, call_steps}
use Rattle.geos_rows.specs.Flow.{KnownAt, edge_number, Flowing, HaveFlowed}
use Rattle.geos_potentials.specs.Numbers.{Numbers}
use Rattle.geos_counters.specs.Counters.{zeros}
use Rattle.geos_potentials.specs.Count.{Counting, CountedIn, AreCounted}
use Rattle.geos_infer.specs.Points.{potential_of, PointsOf, RoutinesOf}
use Rattle.geos_potentials.specs.Accepted.{HasAccepted}
use Rattle.geos_infer.specs.Theorem.{FindsWhatThereIs, NoneIsAccepted, NothingHoldsIn, with_points}
use Rattle.geos_verify.proofs.Pairwise.{both}
use Rattle.geos_verify.proofs.RowsFit.{fits-trans}
use Rattle.geos_code.proofs.Cleaning.{clean-least}
use Rattle.geos_code.proofs.Bodies.{lies}
use Rattle.geos_infer.proofs.Borrowing.{routines-too}
use Rattle.geos_rows.proofs.Flows.{all-reached}
use Rattle.geos_code.proofs.Ends.{code-at, code-length, code-place, same-edge, map-get, ends-at}
use Rattle.geos_infer.proofs.Wanted.{row_at, constant_at, routine-at, closed-wanted, rows-wanted, steps-wanted, forward-in}
use Rattle.geos_infer.proofs.Accepting.{Beside, accepts}

number-last : (k n : ℕ) (b : Bool) → k < n → edge_number k b < 2 * n
number-last k n true h = omega arith
number-last k n false h = omega arith

-- lists of one length that have the same items
same-lists : {A : Type 0} (xs ys : List A) → length xs ≡ length ys → ((k : ℕ) (y : A) → slice_get ys k ≡ Some y → slice_get xs k ≡ Some y) → xs ≡ ys
same-lists [] [] e same = refl
same-lists [] (y ∷ ys) e same = absurd (omega arith)
same-lists (x ∷ xs) [] e same = absurd (omega arith)
same-lists (x ∷ xs) (y ∷ ys) e same =
    let first : x ≡ y = same_Some x y (same 0 y refl) in
    let rest = same-lists xs ys (omega arith) (λ k z f. same (suc k) z f) in
    ap (λ z. z ∷ xs) first ∙ ap (λ zs. y ∷ zs) rest

list_all-from : {A : Type 0} (test : A → Bool) (xs : List A) → ((k : ℕ) (x : A) → slice_get xs k ≡ Some x → test x ≡ true) → list_all test xs ≡ true
list_all-from test [] h = refl
list_all-from test (x ∷ xs) h = both (test x) (list_all test xs) (h 0 x refl) (list_all-from test xs (λ k y e. h (suc k) y e))

list_all-get : {A : Type 0} (test : A → Bool) (xs : List A) (k : ℕ) (x : A) → list_all test xs ≡ true → slice_get xs k ≡ Some x → test x ≡ true
list_all-get test [] k x h e = absurd cc
list_all-get test (y ∷ xs) zero x h e = let same : y ≡ x = cc in subst (λ v. test v ≡ true) same ((and_parts (test y) (list_all test xs) h).0)
list_all-get test (y ∷ xs) (suc k) x h e = list_all-get test xs k x ((and_parts (test y) (list_all test xs) h).1) e

-- the point of an instruction, where the potential is the same whatever the counters are
abbrev found_point : List (Option Row) → List ℕ → ℕ → Instr → Point
found_point known steps pc i = record { instr = i; row = Some (row_of (known_at known pc)); potential = potential_of (get_or steps pc 0) }

-- and its place
abbrev found_place : List (Option Row) → List ℕ → ℕ → Instr → Place
found_place known steps pc i = record { instr = i; row = row_of (known_at known pc); potential = potential_of (get_or steps pc 0) }

-- points whose potentials are the same whatever the counters are
pub record Plain (image : Parts) (known : List (Option Row)) (steps : List ℕ) (points : List Point) : Type 0 where
  pub len : length points ≡ length image.points
  pub each : (pc : ℕ) (old : Point) → slice_get image.points pc ≡ Some old → slice_get points pc ≡ Some (found_point known steps pc old.instr)

plain : (image : Parts) → is_image image ≡ true → (known : List (Option Row)) (numbers : Numbers) (points : List Point)
    → ((pc : ℕ) → pc < length image.points → get_or numbers.coefficients pc [] ≡ zeros)
    → PointsOf image known numbers points → Plain image known numbers.steps points
plain image legal known numbers points none P = record {
  len = P.len;
  each = λ pc old read.
      let is = none pc (slice_get_within image.points pc old read) in
      subst (λ (k : List ℕ). slice_get points pc ≡ Some
      (record {
        instr = old.instr;
        row = Some (row_of (known_at known pc));
        potential =
            record { constant = get_or numbers.steps pc 0; coefficients = k };
      })) is (P.each pc old read);
}

module _ (image : Parts) (legal : is_image image ≡ true) (o : Parts) (same : SameCode image o) (checked : IsChecked o)
    (known : List (Option Row)) (steps : List ℕ) (points : List Point) (P : Plain image known steps points)
    (r : ℕ) (routine : Routine) (there : slice_get image.routines r ≡ Some routine) (forward : ForwardIn image r)
    (rows : RowsHoldIn image r (map row_at (places o)))
    (F : Flowing image r (map row_at (places o)) known (2 * start_of image.routines (r + 1)))
    (C : Counting image (start_of image.routines (r + 1)) (map constant_at (places o)) steps (start_of image.routines r)) where
  -- everything is reached
  reached : (pc : ℕ) → IsPcOf image r pc → (row : Row) × (known_at known pc ≡ Some row)
  reached pc within =
      let len = code-length image in
      let room = lies image legal r routine there in
      let end = ends-at image.routines r routine there in
      all-reached image r forward routine there (map row_at (places o)) known F (omega (arith, room.0)) pc within

  found-at : (pc : ℕ) (old : Point) → slice_get image.points pc ≡ Some old
      → slice_get (places (with_points image points)) pc ≡ Some (found_place known steps pc old.instr)
  found-at pc old read = given-place (with_points image points) pc old.instr (row_of (known_at known pc))
      (potential_of (get_or steps pc 0)) (P.each pc old read)

  -- the place in the other image
  other-at : (pc : ℕ) (old : Point) → slice_get image.points pc ≡ Some old → (place : Place) × (slice_get (places o) pc ≡ Some place)
      × (place.instr ≡ old.instr)
  other-at pc old read = code-place o pc old.instr (ap (λ (code : List Instr). slice_get code pc) same.instrs ∙ code-at image pc old read)

  want-row : (pc : ℕ) (point : Place) → slice_get (places o) pc ≡ Some point → slice_get (map row_at (places o)) pc ≡ Some point.row
  want-row pc point read = slice_get-map row_at (places o) pc ∙ ap (option_map row_at) read

  want-steps : (pc : ℕ) (point : Place) → slice_get (places o) pc ≡ Some point → get_or (map constant_at (places o)) pc 0 ≡ point.potential.constant
  want-steps pc point read = get_or_from_slice_get (map constant_at (places o)) pc point.potential.constant 0
      (slice_get-map constant_at (places o) pc ∙ ap (option_map constant_at) read)

  row-is : (pc : ℕ) → IsPcOf image r pc → (row : Row) × (known_at known pc ≡ Some row) × (row_of (known_at known pc) ≡ clean row)
  row-is pc within = let got = reached pc within in (got.0, got.1, ap row_of got.1)

  row-below : (pc : ℕ) (point : Place) → IsPcOf image r pc → slice_get (places o) pc ≡ Some point → fits (row_of (known_at known pc)) point.row ≡ true
  row-below pc point within at =
      let got = row-is pc within in
      let below = F.below pc got.0 point.row within got.1 (want-row pc point at) in
      subst (λ (x : Row). fits x point.row ≡ true) (sym got.2)
      ((clean-least got.0).least point.row below (rows.clean pc point.row within (want-row pc point at)))

  row-clean : (pc : ℕ) → IsPcOf image r pc → names_empty_slot (row_of (known_at known pc)) ≡ false
  row-clean pc within = let got = row-is pc within in subst (λ (x : Row). names_empty_slot x ≡ false) (sym got.2) ((clean-least got.0).clean)

  -- a row that fits what is known fits what is found
  known-fits : (pc : ℕ) (row : Row) → KnownAt known pc row → fits row (row_of (known_at known pc)) ≡ true
  known-fits pc row K =
      let is : row_of (known_at known pc) ≡ clean K.known_row = ap row_of K.read in
      subst (λ (x : Row). fits row x ≡ true) (sym is) (fits-trans row K.known_row (clean K.known_row) K.fits ((clean-least K.known_row).weaker))

  -- where an edge leads
  edge-found : (pc to : ℕ) (branch : Bool) (old : Point) (next : Place) → IsPcOf image r pc → slice_get image.points pc ≡ Some old
      → has_edge old.instr branch ≡ true → edge_end pc old.instr branch ≡ to → slice_get (places (with_points image points)) to ≡ Some next
      → (fits (edge_row image old.instr branch (row_of (known_at known pc))) next.row ≡ true)
      × ((n : ℕ) × (next.potential ≡ potential_of n) × (n + 1 + call_steps image old.instr ≤ get_or steps pc 0))
  edge-found pc to branch old next within read has leads at =
      let edge : Edge (instrs_of image) pc branch to old.instr = record { read = code-at image pc old read; has = has; leads = leads } in
      let lt = slice_get_within (places (with_points image points)) to next at in
      let points_len = P.len in
      let there = item_at image.points to (omega (arith, places-length (with_points image points))) in
      let is : found_place known steps to there.0.instr ≡ next = same_Some (found_place known steps to there.0.instr) next
      (sym (found-at to there.0 there.1) ∙ at) in
      let row = row-is pc within in
      let inside = rows.closed pc to branch old.instr within edge in
      let ahead = forward.ahead pc to branch old.instr within edge in
      let low = within.above in
      let K = F.fit.edges pc to branch old.instr row.0 within (record { above = omega (arith, low, ahead); below = inside }) ahead
      (number-last pc (start_of image.routines (r + 1)) branch within.below) edge row.1 in
      let fit : fits (edge_row image old.instr branch (row_of (known_at known pc))) (row_of (known_at known to)) ≡ true =
      subst (λ (x : Row). fits (edge_row image old.instr branch x) (row_of (known_at known to)) ≡ true) (sym row.2)
      (known-fits to (edge_row image old.instr branch (clean row.0)) K) in
      let paid = C.edges pc to branch old.instr within.above within.below edge in (
        subst (λ (x : Place). fits (edge_row image old.instr branch (row_of (known_at known pc))) x.row ≡ true) is fit,
        (get_or steps to 0, ap (λ (x : Place). x.potential) (sym is), paid),
      )

  beside : (pc : ℕ) (old : Point) (point : Place) → IsPcOf image r pc → slice_get image.points pc ≡ Some old → slice_get (places o) pc ≡ Some point
      → Beside (with_points image points) routine (start_of image.routines r) pc old.instr (row_of (known_at known pc)) point.row (get_or steps pc 0)
  beside pc old point within read at = record {
    below = row-below pc point within at;
    clean = row-clean pc within;
    entry = λ start. known-fits pc routine.entry (subst (λ (n : ℕ). KnownAt known n routine.entry) (sym start) (F.fit.entry routine there));
    along = λ next falls e. (let f = edge-found pc (pc + 1) false old next within read falls refl e in (
      subst (λ (x : Row). fits x next.row ≡ true)
          (sym (same-edge image (with_points image points) refl old.instr false (row_of (known_at known pc)))) f.0,
      f.1,
    ));
    branch = λ next goes e. edge-found pc old.instr.target true old next within read goes refl e;
    return = λ is. C.returns pc old.instr within.above within.below (code-at image pc old read) is;
  }

  -- no rule refuses
  pub found-accepted : (pc : ℕ) (point : Place) → HasPoint (with_points image points) r routine pc point
      → refusal (with_points image points) r routine (start_of image.routines r) pc point ≡ None
  found-accepted pc point has =
      let lt = slice_get_within (places (with_points image points)) pc point has.read in
      let points_len = P.len in
      let old = item_at image.points pc (omega (arith, places-length (with_points image points))) in
      let place = place_bounds (start_of image.routines r) routine.count pc has.within in
      let end = ends-at image.routines r routine there in
      let within : IsPcOf image r pc = record { above = place.0; below = omega (arith, place.1) } in
      let is : found_place known steps pc old.0.instr ≡ point = same_Some (found_place known steps pc old.0.instr) point
      (sym (found-at pc old.0 old.1) ∙ has.read) in
      let other = other-at pc old.0 old.1 in
      let there_other : slice_get o.routines r ≡ Some routine = ap (λ (rs : List Routine). slice_get rs r) same.routines ∙ there in
      let within_other = subst (λ (rs : List Routine). has_place (start_of rs r) routine.count pc ≡ true) (sym same.routines) has.within in
      let accepted : refusal o r routine (start_of o.routines r) pc other.0 ≡ None = checked.1 r pc routine other.0
      (record { there = there_other; within = within_other; read = other.1 }) in
      let here : refusal o r routine (start_of image.routines r) pc (record other.0 { instr = old.0.instr }) ≡ None =
      subst (λ (rs : List Routine). refusal o r routine (start_of rs r) pc (record other.0 { instr = old.0.instr }) ≡ None) same.routines
      (subst (λ (i : Instr). refusal o r routine (start_of o.routines r) pc (record other.0 { instr = i }) ≡ None) other.2 accepted) in
      let below = C.below pc within.above within.below in
      let want = want-steps pc other.0 other.1 in
      subst (λ (x : Place). refusal (with_points image points) r routine (start_of image.routines r) pc x ≡ None) is
      (accepts o (with_points image points) same.routines r routine (start_of image.routines r) pc old.0.instr
      (row_of (known_at known pc)) other.0.row (get_or steps pc 0) other.0.potential (omega arith) here
      (beside pc old.0 other.0 within old.1 other.1))

-- the format allows what is found
all-given : (most : ℕ) (points : List Point) → length points ≤ most
    → ((k : ℕ) (point : Point) → slice_get points k ≡ Some point → row_stands true point.row ≡ true) → rows_stand (replicate most true) points ≡ true
all-given most [] le each = refl
all-given zero (point ∷ points) le each = absurd (omega (arith, le))
all-given (suc most) (point ∷ points) le each = both (row_stands true point.row) (rows_stand (replicate most true) points)
    (each 0 point refl) (all-given most points (omega (arith, le)) (λ k other e. each (suc k) other e))

pub found-formed : (image : Parts) (known : List (Option Row)) (numbers : Numbers) (points : List Point)
    → is_image image ≡ true → PointsOf image known numbers points → is_formed true (with_points image points) ≡ true
found-formed image known numbers points legal P =
    let parts = image_parts image legal in
    let len = P.len in
    let r = length image.routines in
    let n = length points in
    let some : nat_lt 0 r ≡ true = lt-ltb 0 r parts.some in
    let few : nat_le r 32 ≡ true = le-leb r 32 parts.few in
    let short : nat_le n 4096 ≡ true = le-leb n 4096 (let s = parts.short in omega arith) in
    let counts : (total_count image.routines == n) ≡ true = eq-eqb (total_count image.routines) n (parts.counts ∙ sym len) in
    let all : list_all (is_point true r n) points ≡ true = list_all-from (is_point true r n) points one in
    let given : rows_stand (replicate 4096 true) points ≡ true = all-given 4096 points (let s = parts.short in omega arith)
    (λ k point at. ap (λ (x : Point). row_stands true x.row) (sym (found k point at).2)) in
    both (nat_lt 0 r && nat_le r 32 && are_routines true [] image.routines && nat_le n 4096 && total_count image.routines
    == n && list_all (is_point true r n) points) (rows_stand (replicate 4096 true) points)
    (both (nat_lt 0 r && nat_le r 32 && are_routines true [] image.routines && nat_le n 4096 && total_count image.routines == n)
    (list_all (is_point true r n) points)
    (both (nat_lt 0 r && nat_le r 32 && are_routines true [] image.routines && nat_le n 4096) (total_count image.routines == n)
    (both (nat_lt 0 r && nat_le r 32 && are_routines true [] image.routines) (nat_le n 4096)
    (both (nat_lt 0 r && nat_le r 32) (are_routines true [] image.routines) (both (nat_lt 0 r) (nat_le r 32) some few)
    (routines-too image.keyed [] image.routines parts.routines)) short) counts) all) given
  where
    -- the point that was made for an instruction
    made : ℕ → Instr → Point
    made k i = record {
      instr = i;
      row = Some (row_of (known_at known k));
      potential =
          record { constant = get_or numbers.steps k 0; coefficients = get_or numbers.coefficients k [] };
    }

    found : (k : ℕ) (point : Point) → slice_get points k ≡ Some point → (old : Point) × (slice_get image.points k ≡ Some old)
        × (made k old.instr ≡ point)
    found k point at =
        let lt = slice_get_within points k point at in
        let points_len = P.len in
        let old = item_at image.points k (omega arith) in
        (old.0, old.1, same_Some (made k old.0.instr) point (sym (P.each k old.0 old.1) ∙ at))

    one : (k : ℕ) (point : Point) → slice_get points k ≡ Some point → is_point true (length image.routines) (length points) point ≡ true
    one k point at =
        let points_len = P.len in
        let old = found k point at in
        let old_legal = list_all-get (is_point image.keyed (length image.routines) (length image.points)) image.points
        k old.0 (image_parts image legal).points old.1 in
        let instr = (and_parts (is_instr (length image.routines) (length image.points) old.0.instr) (is_given image.keyed old.0.row) old_legal).0 in
        let here : is_instr (length image.routines) (length points) old.0.instr ≡ true =
        subst (λ (m : ℕ). is_instr (length image.routines) m old.0.instr ≡ true) (sym points_len) instr in
        subst (λ (x : Point). is_point true (length image.routines) (length points) x ≡ true) old.2
        (both (is_instr (length image.routines) (length points) old.0.instr) (is_given true (Some (row_of (known_at known k)))) here
        (P.legal k old.0 old.1))

-- the code of the image stays
pub found-code : (image : Parts) (known : List (Option Row)) (numbers : Numbers) (points : List Point)
    → PointsOf image known numbers points → instrs_of (with_points image points) ≡ instrs_of image
found-code image known numbers points P = same-lists (map instr_of points) (map instr_of image.points)
    (length-map points instr_of ∙ P.len ∙ sym (length-map image.points instr_of)) each
  where
    each : (k : ℕ) (i : Instr) → slice_get (map instr_of image.points) k ≡ Some i → slice_get (map instr_of points) k ≡ Some i
    each k i e =
        let old = map-get instr_of image.points k i e in
        slice_get-map instr_of points k ∙ ap (option_map instr_of) (P.each k old.0 old.1) ∙ ap (λ (x : Instr). Some x) old.2

-- code without loops that is accepted has none in any routine
pub forward-accepted : (image : Parts) → is_image image ≡ true → Forward image → (has : HasAccepted image) → (r : ℕ) → ForwardIn image r
forward-accepted image legal forward has r = forward-in image legal forward
    (λ q routine there. closed-wanted image has.other has.same has.checked q routine there) r

module _ (image : Parts) (legal : is_image image ≡ true) (known : List (Option Row)) (numbers : Numbers)
    (points : List Point) (flowed : HaveFlowed image known (length image.routines)) (counts : AreCounted image 0 (length image.routines) numbers)
    (P : PointsOf image known numbers points) (forward : Forward image) (has : HasAccepted image) where
  forward-at : (r : ℕ) → ForwardIn image r
  forward-at = forward-accepted image legal forward has

  rows-at : (r : ℕ) → r < length image.routines → RowsHoldIn image r (map row_at (places has.other))
  rows-at r lt = let routine = item_at image.routines r lt in rows-wanted image has.other has.same has.checked r routine.0 routine.1

  steps-at : (r : ℕ) → r < length image.routines → StepsHoldIn image r (map constant_at (places has.other))
  steps-at r lt = let routine = item_at image.routines r lt in steps-wanted image has.other has.same has.checked r
      routine.0 routine.1 forward has.fits

  rows-of : (r : ℕ) → r < length image.routines → Flowing image r (map row_at (places has.other)) known (2 * start_of image.routines (r + 1))
  rows-of = flowed (map row_at (places has.other)) (λ r lt. (forward-at r, rows-at r lt))

  counted-of : (r : ℕ) → r < length image.routines → CountedIn image r (map constant_at (places has.other)) numbers
  counted-of r lt = counts (map constant_at (places has.other)) (λ q q_lt. (forward-at q, steps-at q q_lt)) r (omega arith) lt

  zeros-at : (pc : ℕ) → pc < length image.points → get_or numbers.coefficients pc [] ≡ zeros
  zeros-at pc lt =
      let all = (image_parts image legal).counts in
      let at = routine-at image.routines pc (omega arith) in
      let end = ends-at image.routines at.0 at.1 at.2 in
      (counted-of at.0 (slice_get_within image.routines at.0 at.1 at.2)).zero.each pc at.3 (omega (arith, at.4))

  all-accepted : Accepted (with_points image points)
  all-accepted r pc routine point at =
      let lt = slice_get_within image.routines r routine at.there in
      let L = plain image legal known numbers points zeros-at P in
      found-accepted image legal has.other has.same has.checked known numbers.steps points L r routine at.there
      (forward-at r) (rows-at r lt) (rows-of r lt) (counted-of r lt).steps pc point at

-- where an image with that code is accepted, so is what is found
pub found-acceptable : (image : Parts) → is_image image ≡ true → (known : List (Option Row)) (numbers : Numbers) (points : List Point)
    → HaveFlowed image known (length image.routines) → AreCounted image 0 (length image.routines) numbers
    → PointsOf image known numbers points → FindsWhatThereIs image (with_points image points)
found-acceptable image legal known numbers points flowed counts P =
    λ forward has. (found-formed image known numbers points legal P, all-accepted image legal known numbers points flowed counts P forward has)

-- where nothing holds in some routine, no image is accepted
pub none-accepted : (image : Parts) → is_image image ≡ true → (r : ℕ) → r < length image.routines → NothingHoldsIn image r → NoneIsAccepted image
none-accepted image legal r lt nothing = λ forward has.
    let routine = item_at image.routines r lt in
    nothing (forward-accepted image legal forward has r) (map row_at (places has.other)) (map constant_at (places has.other))
    (rows-wanted image has.other has.same has.checked r routine.0 routine.1)
    (steps-wanted image has.other has.same has.checked r routine.0 routine.1 forward has.fits)

-- What is made of them

-- these routines and points
abbrev pub made_of : List Routine → List Point → Parts
made_of routines points = record { keyed = false; routines = routines; points = points }

pub same-routines : (image : Parts) (routines : List Routine) → RoutinesOf image routines → routines ≡ image.routines
same-routines image routines R = same-lists routines image.routines R.len R.each

pub made-formed : (image : Parts) (routines : List Routine) (points : List Point) → RoutinesOf image routines
    → is_formed true (with_points image points) ≡ true → is_formed true (made_of routines points) ≡ true
made-formed image routines points R h = subst (λ (rs : List Routine). is_formed true (made_of rs points) ≡ true)
    (sym (same-routines image routines R)) h

pub made-is : (image made : Parts) (routines : List Routine) (points : List Point) → RoutinesOf image routines
    → made ≡ made_of routines points → made ≡ with_points image points
made-is image made routines points R e = e ∙ ap (λ (rs : List Routine). made_of rs points) (same-routines image routines R)

pub made-code : (image made : Parts) (points : List Point) → made ≡ with_points image points
    → instrs_of (with_points image points) ≡ instrs_of image → SameCode image made
made-code image made points e same =
    let here : SameCode image (with_points image points) = record { routines = refl; instrs = same } in
    subst (λ (x : Parts). SameCode image x) (sym e) here
