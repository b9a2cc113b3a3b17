-- What is known of an image that is listed.
use Rattle.std.proofs.Common.{◌≡◌, ◌<◌, ◌≤◌, ◌^◌, ℕ, zero, suc, Bool, true, false, not, ◌&&◌, ◌||◌, nat_lt, List, [], ◌∷◌, ◌++◌, length, Some, slice_get, refl, sym, ap, ◌∙◌, subst, append_assoc, arith}
use Rattle.std.specs.Prelude.{bytes_eq}
use Rattle.std.specs.List.{All, list_all}
use Rattle.std.proofs.lemmas.Bool.{and_parts, ltb-true}
use Rattle.geos_image.specs.declared.routine.Routine.{Routine}
use Rattle.geos_image.specs.declared.point.Point.{Point}
use Rattle.geos_image.specs.Parts.{Parts, total_count}
use Rattle.geos_image.specs.Legal.{is_name, is_named, is_row, is_given, is_instr, is_point, is_routine, are_routines, is_image}
use Rattle.geos_image.specs.Ranges.{RoutineFits}
use Rattle.geos_image.proofs.Instrs.{image_parts}
use Rattle.geos_listing.proofs.Limits.{item_at, get_or-at}
use Rattle.round_trip.proofs.RowsAgain.{IsSound, is_sound}
use Rattle.round_trip.proofs.InstrLines.{IsNamed}

-- what is known of a routine
pub record IsListed (r : Routine) : Type 0 where
  pub name : is_name r.name ≡ true
  pub long : length r.name ≡ 16
  pub budget : r.budget < 2 ^ 32
  pub some : 0 < r.count
  pub entry : IsSound r.entry
  pub exit : IsSound r.exit

-- the parts of the rule for routines
record Legal (borrows : Bool) (earlier : List Routine) (r : Routine) : Type 0 where
  name : is_name r.name ≡ true
  new : not (is_named r.name earlier) ≡ true
  some : 0 < r.count
  entry : is_row borrows r.entry ≡ true
  exit : is_row borrows r.exit ≡ true

legal_parts : (borrows : Bool) (earlier : List Routine) (r : Routine) → is_routine borrows earlier r ≡ true → Legal borrows earlier r
legal_parts borrows earlier r h =
    let name = is_name r.name in
    let new = not (is_named r.name earlier) in
    let some = nat_lt 0 r.count in
    let p = and_parts (name && new && some && is_row borrows r.entry) (is_row borrows r.exit) h in
    let q = and_parts (name && new && some) (is_row borrows r.entry) p.0 in
    let s = and_parts (name && new) some q.0 in
    let t = and_parts name new s.0 in
    record { name = t.0; new = t.1; some = ltb-true 0 r.count s.1; entry = q.1; exit = p.1 }

-- what the rule says of one of the routines
legal_at : (borrows : Bool) (earlier routines : List Routine) (n : ℕ) (r : Routine) → are_routines borrows earlier routines ≡ true
    → slice_get routines n ≡ Some r → (before : List Routine) × Legal borrows before r
legal_at borrows earlier [] n r h e = absurd cc
legal_at borrows earlier (x ∷ routines) zero r h e =
    let same : x ≡ r = cc in
    let here = legal_parts borrows earlier x (and_parts (is_routine borrows earlier x) (are_routines borrows (earlier ++ x ∷ []) routines) h).0 in
    (earlier, subst (Legal borrows earlier) same here)
legal_at borrows earlier (x ∷ routines) (suc n) r h e =
    legal_at borrows (earlier ++ x ∷ []) routines n r
    (and_parts (is_routine borrows earlier x) (are_routines borrows (earlier ++ x ∷ []) routines) h).1 e

listed : (image : Parts) (n : ℕ) (r : Routine) → is_image image ≡ true → RoutineFits r → slice_get image.routines n ≡ Some r → IsListed r
listed image n r legal fits e =
    let parts = (legal_at image.keyed [] image.routines n r (image_parts image legal).routines e).1 in
    record {
      name = parts.name;
      long = fits.name;
      budget = fits.budget;
      some = parts.some;
      entry = is_sound image.keyed r.entry parts.entry fits.entry;
      exit = is_sound image.keyed r.exit parts.exit fits.exit;
    }

-- ---- names are different

not_named : (b c : Bool) → not (b || c) ≡ true → (b ≡ false) × (c ≡ false)
not_named false false h = (refl, refl)
not_named false true h = absurd cc
not_named true c h = absurd cc

-- a routine whose name those before it lack
not_first : (name : List ℕ) (earlier later : List Routine) (x : Routine) → not (is_named name (earlier ++ (x ∷ later))) ≡ true
    → bytes_eq x.name name ≡ false
not_first name [] later x h = (not_named (bytes_eq x.name name) (is_named name later) h).0
not_first name (y ∷ earlier) later x h =
    let p = not_named (bytes_eq y.name name) (is_named name (earlier ++ (x ∷ later))) h in
    not_first name earlier later x (ap not p.1)

-- later routines have other names
later_lack : (borrows : Bool) (earlier between routines : List Routine) (x r : Routine) (n : ℕ)
    → are_routines borrows (earlier ++ (x ∷ between)) routines ≡ true → slice_get routines n ≡ Some r → bytes_eq x.name r.name ≡ false
later_lack borrows earlier between [] x r n h e = absurd cc
later_lack borrows earlier between (y ∷ routines) x r zero h e =
    let all = earlier ++ (x ∷ between) in
    let same : y ≡ r = cc in
    let here = legal_parts borrows all y (and_parts (is_routine borrows all y) (are_routines borrows (all ++ y ∷ []) routines) h).0 in
    subst (λ (s : Routine). bytes_eq x.name s.name ≡ false) same (not_first y.name earlier between x here.new)
later_lack borrows earlier between (y ∷ routines) x r (suc n) h e =
    let all = earlier ++ (x ∷ between) in
    let rest = (and_parts (is_routine borrows all y) (are_routines borrows (all ++ y ∷ []) routines) h).1 in
    later_lack borrows earlier (between ++ y ∷ []) routines x r n
    (ap (λ (front : List Routine). are_routines borrows front routines) (sym (append_assoc earlier (x ∷ between) (y ∷ []))) ∙ rest) e

lack_at : (borrows : Bool) (earlier routines : List Routine) (i j : ℕ) (x r : Routine) → are_routines borrows earlier routines ≡ true → i < j
    → slice_get routines i ≡ Some x → slice_get routines j ≡ Some r → bytes_eq x.name r.name ≡ false
lack_at borrows earlier [] i j x r h lt e f = absurd cc
lack_at borrows earlier (y ∷ routines) i zero x r h lt e f = absurd (omega (arith, lt))
lack_at borrows earlier (y ∷ routines) zero (suc j) x r h lt e f =
    let same : y ≡ x = cc in
    let rest = (and_parts (is_routine borrows earlier y) (are_routines borrows (earlier ++ y ∷ []) routines) h).1 in
    subst (λ (s : Routine). bytes_eq s.name r.name ≡ false) same (later_lack borrows earlier [] routines y r j rest f)
lack_at borrows earlier (y ∷ routines) (suc i) (suc j) x r h lt e f =
    lack_at borrows (earlier ++ y ∷ []) routines i j x r
    (and_parts (is_routine borrows earlier y) (are_routines borrows (earlier ++ y ∷ []) routines) h).1 (omega (arith, lt)) e f

-- ---- points

test_at : {A : Type 0} (test : A → Bool) (xs : List A) (k : ℕ) (x : A) → list_all test xs ≡ true → slice_get xs k ≡ Some x → test x ≡ true
test_at test [] k x h e = absurd cc
test_at test (y ∷ xs) zero x h e = let same : y ≡ x = cc in subst (λ v. test v ≡ true) same ((and_parts (test y) (list_all test xs) h).0)
test_at test (y ∷ xs) (suc k) x h e = test_at test xs k x ((and_parts (test y) (list_all test xs) h).1) e

-- what is known of an image
pub record Facts (image : Parts) : Type 0 where
  pub some : 0 < length image.routines
  pub few : length image.routines ≤ 32
  pub short : length image.points ≤ 4096
  pub sums : total_count image.routines ≡ length image.points
  pub named : All IsNamed image.routines
  pub routine : (n : ℕ) (r : Routine) → slice_get image.routines n ≡ Some r → IsListed r
  pub apart : (i j : ℕ) (x r : Routine) → i < j → slice_get image.routines i ≡ Some x → slice_get image.routines j ≡ Some r
      → bytes_eq x.name r.name ≡ false
  pub instr : (pc : ℕ) (point : Point) → slice_get image.points pc ≡ Some point
      → is_instr (length image.routines) (length image.points) point.instr ≡ true

within : {A : Type 0} (xs : List A) (k : ℕ) (x : A) → slice_get xs k ≡ Some x → k < length xs
within [] k x e = absurd cc
within (y ∷ xs) zero x e = omega arith
within (y ∷ xs) (suc k) x e = omega (arith, within xs k x e)

fits_at : {A : Type 0} (P : A → Type 0) (xs : List A) (k : ℕ) (x : A) → All P xs → slice_get xs k ≡ Some x → P x
fits_at P xs k x all e = subst P (get_or-at xs k x x e) (all k x (within xs k x e))

pub facts : (image : Parts) → is_image image ≡ true → All RoutineFits image.routines → Facts image
facts image legal fits =
    let parts = image_parts image legal in
    let r = length image.routines in
    let n = length image.points in
    let here : (k : ℕ) (x : Routine) → slice_get image.routines k ≡ Some x → IsListed x =
    λ k x e. listed image k x legal (fits_at RoutineFits image.routines k x fits e) e in
    record {
      some = parts.some;
      few = parts.few;
      short = parts.short;
      sums = parts.counts;
      named = λ k d lt.
          let at = item_at image.routines k lt in
          let is = here k at.0 at.1 in
          subst IsNamed (sym (get_or-at image.routines k at.0 d at.1)) (is.name, is.long);
      routine = here;
      apart = λ i j x s lt e f. lack_at image.keyed [] image.routines i j x s parts.routines lt e f;
      instr = λ pc point e. (and_parts (is_instr r n point.instr) (is_given image.keyed point.row)
          (test_at (is_point image.keyed r n) image.points pc point parts.points e)).0;
    }
