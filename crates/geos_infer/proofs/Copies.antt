-- Lists that are made item after item from the routines and points of an image.
use Rattle.std.proofs.Common.{◌≡◌, ◌∙◌, ◌<◌, ◌≤◌, ℕ, zero, suc, ◌+◌, List, [], ◌∷◌, ◌++◌, length, take, Option, Some, true, slice_get, refl, sym, ap, subst, add-one, arith}
use Rattle.std.specs.Prelude.{IfSome, slice_index, slice_index_or}
use Rattle.std.proofs.lemmas.List.{length-append, take_all}
use Rattle.std.proofs.lemmas.Option.{slice_get_within}
use Rattle.geos_image.specs.declared.instr.Instr.{Instr}
use Rattle.geos_image.specs.declared.point.Point.{Point}
use Rattle.geos_image.specs.declared.routine.Routine.{Routine}
use Rattle.geos_image.specs.declared.row.Row.{Row}
use Rattle.geos_image.specs.Legal.{is_row}
use Rattle.geos_image.specs.Parts.{Parts}
use Rattle.geos_code.specs.Known.{row_of, known_at}
use Rattle.geos_potentials.specs.Numbers.{Numbers}
use Rattle.geos_infer.specs.Points.{PointsOf, RoutinesOf}
use borrow.Author.Count.{below_more}

-- Routines

next_taken : {A : Type 0} (xs : List A) (k : ℕ) (x : A) → slice_get xs k ≡ Some x → take k xs ++ x ∷ [] ≡ take (suc k) xs
next_taken [] k x e = absurd cc
next_taken (y ∷ xs) zero x e = let same : x ≡ y = cc in ap (λ z. z ∷ []) same
next_taken (y ∷ xs) (suc k) x e = ap (λ zs. y ∷ zs) (next_taken xs k x e)

pub taken-more : (all routines next : List Routine) (n : ℕ) (routine : Routine) → routines ≡ take n all
    → slice_get all n ≡ Some routine → next ≡ routines ++ routine ∷ [] → next ≡ take (n + 1) all
taken-more all routines next n routine e there more =
    rw add-one (more ∙ (ap (λ (xs : List Routine). xs ++ routine ∷ []) e ∙ next_taken all n routine there))

pub all-taken : (image : Parts) (routines : List Routine) (n : ℕ) → routines ≡ take n image.routines → length image.routines ≤ n
    → RoutinesOf image routines
all-taken image routines n e le =
    let all : routines ≡ image.routines = e ∙ take_all n image.routines le in
    record { len = ap length all; each = λ r routine there. subst (λ (xs : List Routine). slice_get xs r ≡ Some routine) (sym all) there }

-- Points

got_left : {A : Type 0} (xs ys : List A) (k : ℕ) (v : A) → slice_get xs k ≡ Some v → slice_get (xs ++ ys) k ≡ Some v
got_left [] ys k v e = absurd cc
got_left (x ∷ xs) ys zero v e = e
got_left (x ∷ xs) ys (suc k) v e = got_left xs ys k v e

got_last : {A : Type 0} (xs : List A) (y : A) → slice_get (xs ++ y ∷ []) (length xs) ≡ Some y
got_last [] y = refl
got_last (x ∷ xs) y = got_last xs y

length_more : {A : Type 0} (xs : List A) (y : A) → length (xs ++ y ∷ []) ≡ length xs + 1
length_more xs y = simp length-append

abbrev pub point_of : Instr → Row → ℕ → List ℕ → Point
point_of i row constant coefficients = record { instr = i; row = Some row; potential = record { constant = constant; coefficients = coefficients } }

point_same : (i i' : Instr) (w w' : Row) (m m' : ℕ) (q q' : List ℕ) → i ≡ i' → w ≡ w' → m ≡ m' → q ≡ q' → point_of i w m q ≡ point_of i' w' m' q'
point_same i i' w w' m m' q q' a b d e =
    ap (λ (x : Instr). point_of x w m q) a
    ∙ (ap (λ (x : Row). point_of i' x m q) b ∙ (ap (λ (x : ℕ). point_of i' w' x q) d ∙ ap (λ (x : List ℕ). point_of i' w' m' x) e))

-- the points before the nth are made
pub record Made (image : Parts) (known : List (Option Row)) (numbers : Numbers) (n : ℕ) (points : List Point) : Type 0 where
  pub len : length points ≡ n
  pub each : (k : ℕ) (old : Point) → k < n → slice_get image.points k ≡ Some old
      → slice_get points k ≡ Some (point_of old.instr (row_of (known_at known k)) (slice_index numbers.steps k)
      (slice_index_or numbers.coefficients k []))
  pub legal : (k : ℕ) → k < n → is_row true (row_of (known_at known k)) ≡ true

pub made-none : (image : Parts) (known : List (Option Row)) (numbers : Numbers) (points : List Point) → points ≡ []
    → Made image known numbers 0 points
made-none image known numbers points e = record {
  len = ap length e;
  each = λ k old lt is. absurd (omega arith);
  legal = λ k lt. absurd (omega arith);
}

pub made-more : (image : Parts) (known : List (Option Row)) (numbers : Numbers) (n : ℕ) (points next : List Point) (y : Point) (row : Row)
    → next ≡ points ++ y ∷ []
    → IfSome (slice_get image.points n) (λ point. y.instr ≡ point.instr) → y.row ≡ Some row → row ≡ row_of (known_at known n) → is_row true row ≡ true
    → y.potential.constant ≡ slice_index numbers.steps n → y.potential.coefficients ≡ slice_index_or numbers.coefficients n []
    → Made image known numbers n points → Made image known numbers (n + 1) next
made-more image known numbers n points next y row e there given row_is legal constant coefficients M =
    let last : slice_get next n ≡ Some y = subst (λ (xs : List Point). slice_get xs n ≡ Some y) (sym e)
    (subst (λ (k : ℕ). slice_get (points ++ y ∷ []) k ≡ Some y) M.len (got_last points y)) in
    let P : ℕ → Type 0 = λ k. (old : Point) → slice_get image.points k ≡ Some old
    → slice_get next k ≡ Some (point_of old.instr (row_of (known_at known k)) (slice_index numbers.steps k)
    (slice_index_or numbers.coefficients k [])) in
    let Q : ℕ → Type 0 = λ k. is_row true (row_of (known_at known k)) ≡ true in
    let below : (k : ℕ) → k < n → P k = λ k lt old is.
    subst (λ (xs : List Point). slice_get xs k ≡ Some
    (point_of old.instr (row_of (known_at known k)) (slice_index numbers.steps k) (slice_index_or numbers.coefficients k [])))
    (sym e) (got_left points (y ∷ []) k (point_of old.instr (row_of (known_at known k)) (slice_index numbers.steps k)
    (slice_index_or numbers.coefficients k [])) (M.each k old lt is)) in
    let here : P n = λ old is.
    let same : y.instr ≡ old.instr = subst (λ (o : Option Point). IfSome o (λ point. y.instr ≡ point.instr)) is there in
    last ∙ ap (λ (o : Option Row). Some (record { instr = y.instr; row = o; potential = y.potential })) given
    ∙ ap (λ (p : Point). Some p) (point_same y.instr old.instr row (row_of (known_at known n)) y.potential.constant
    (slice_index numbers.steps n) y.potential.coefficients (slice_index_or numbers.coefficients n []) same row_is constant coefficients) in
    record {
      len = ap length e ∙ (length_more points y ∙ ap (λ (k : ℕ). k + 1) M.len);
      each = λ k old lt is. below_more P n below here k lt old is;
      legal = below_more Q n M.legal (subst (λ (w : Row). is_row true w ≡ true) row_is legal);
    }

pub made-all : (image : Parts) (known : List (Option Row)) (numbers : Numbers) (n : ℕ) (points : List Point)
    → n ≡ length image.points → Made image known numbers n points → PointsOf image known numbers points
made-all image known numbers n points all M = record {
  len = M.len ∙ all;
  each = λ pc old is. M.each pc old (omega (arith, slice_get_within image.points pc old is)) is;
  legal = λ pc old is. M.legal pc (omega (arith, slice_get_within image.points pc old is));
}
