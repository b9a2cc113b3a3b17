-- Laws of entry states that are given again at the next place.
use Rattle.std.proofs.Common.{◌≡◌, ℕ, ◌+◌, ◌≤◌, ◌<◌, ◌⊎◌, Bool, true, false, List, [], ◌∷◌, ◌++◌, zero, suc, inl, inr, length, Option, Some, None, refl, sym, ap, ◌∙◌, below_more, arith}
use Rattle.std.specs.Prelude.{◌&&◌, take, slice_get, slice_index_or, slice_set, IfSome}
use Rattle.std.specs.Option.{is_some}
use Rattle.std.proofs.lemmas.Bool.{cases_order, and_parts}
use Rattle.std.proofs.lemmas.List.{get_or-set_same, get_or-set_other, length-append, length-take-le}
use Rattle.std.proofs.lemmas.Option.{slice_get_past}
use Rattle.geos_image.specs.declared.point.Point.{Point}
use Rattle.geos_image.specs.declared.row.Row.{Row}
use Rattle.geos_image.specs.Parts.{instrs_of}
use Rattle.geos_image.specs.Keys.{with_rows, flag_bit, flag_count}
use Rattle.geos_image.specs.Repeats.{IsRepeated, AreRepeats, AreAlike, RepeatsBy, flags_before, is_repeat}
use Rattle.geos_image.proofs.KeyLaws.{with_rows-length}

-- what is flagged in a front part is flagged
flagged-front : (n : ℕ) (flags : List Bool) (k : ℕ) → slice_index_or (take n flags) k false ≡ true → slice_index_or flags k false ≡ true
flagged-front zero flags k set = absurd cc
flagged-front (suc n) [] k set = set
flagged-front (suc n) (flag ∷ flags) zero set = set
flagged-front (suc n) (flag ∷ flags) (suc k) set = flagged-front n flags k set

-- flags for as many places are right if all are
pub first-noted : (flags : List Bool) (points : List Point) (n : ℕ) → n ≤ length flags → length points ≡ n → AreRepeats flags points
    → (length (take n flags) ≡ length points) × AreRepeats (take n flags) points
first-noted flags points n le len right = (
  length-take-le n flags le ∙ sym len,
  λ pc set. right pc (flagged-front n flags (pc + 1) set),
)

slice_get-front : {A : Type 0} (xs ys : List A) (n : ℕ) → n < length xs → slice_get (xs ++ ys) n ≡ slice_get xs n
slice_get-front [] ys n lt = absurd (omega (arith, lt))
slice_get-front (x ∷ xs) ys zero lt = refl
slice_get-front (x ∷ xs) ys (suc n) lt = slice_get-front xs ys n (omega (arith, lt))

slice_get-end : {A : Type 0} (xs : List A) (y : A) → slice_get (xs ++ y ∷ []) (length xs) ≡ Some y
slice_get-end [] y = refl
slice_get-end (x ∷ xs) y = slice_get-end xs y

-- the last point has the row
abbrev pub LastHas : List Point → Row → Type 0
LastHas points row = (pc : ℕ) → pc + 1 ≡ length points → IfSome (slice_get points pc) (λ here. here.row ≡ Some row)

-- a point that is added is the last one
pub last-push : (points : List Point) (point : Point) (row : Row) → point.row ≡ Some row → LastHas (points ++ point ∷ []) row
last-push points point row is pc e =
    let end : pc ≡ length points = omega (arith, e, length-append points (point ∷ [])) in
    rw (end, slice_get-end points point) is

-- of one more point it is noted whether its row is that of the last one
pub repeats-push : (flags : List Bool) (points : List Point) (point : Point) (row : Row) (n : ℕ) (known : Bool)
    → length points ≡ n → n < length flags → AreRepeats flags points → (known ≡ true → LastHas points row) → point.row ≡ Some row
    → AreRepeats (slice_set flags n known) (points ++ point ∷ [])
repeats-push flags points point row n known len lt so_far last is pc set = go (cases_order (pc + 1) n) where
  whole : List Point
  whole = points ++ point ∷ []

  same : (here : Option Point) → IfSome here (λ p. p.row ≡ Some row) → IfSome here (λ p. p.row ≡ point.row)
  same None h = h
  same (Some p) h = h ∙ sym is

  go : (pc + 1 ≡ n) ⊎ ((pc + 1 < n) ⊎ (n < pc + 1)) → IsRepeated whole pc
  go (inl e) =
      let flag : known ≡ true = sym (get_or-set_same flags n known false lt)
      ∙ ap (λ (k : ℕ). slice_index_or (slice_set flags n known) k false) (sym e) ∙ set in
      let next : slice_get whole (pc + 1) ≡ Some point = ap (slice_get whole) (e ∙ sym len) ∙ slice_get-end points point in
      rw (next, slice_get-front points (point ∷ []) pc (omega (arith, e, len)))
      (ap is_some is, same (slice_get points pc) (last flag pc (e ∙ sym len)))
  go (inr (inl below)) =
      let old : slice_index_or flags (pc + 1) false ≡ true =
      sym (get_or-set_other flags n (pc + 1) known false (λ e. omega (arith, e, below))) ∙ set in
      rw (
        slice_get-front points (point ∷ []) (pc + 1) (omega (arith, below, len)),
        slice_get-front points (point ∷ []) pc (omega (arith, below, len)),
      ) (so_far pc old)
  go (inr (inr above)) =
      rw (slice_get_past whole (pc + 1) (omega (arith, above, len, length-append points (point ∷ [])))) tt

-- ---- rows that are like the ones before

-- the last row is this one
abbrev pub LastIs : List Row → Row → Type 0
LastIs rows row = (k : ℕ) → k + 1 ≡ length rows → slice_get rows k ≡ Some row

pub last_row-push : (rows : List Row) (row : Row) → LastIs (rows ++ row ∷ []) row
last_row-push rows row k e =
    let end : k ≡ length rows = omega (arith, e, length-append rows (row ∷ [])) in
    rw (end, slice_get-end rows row) refl

-- of one more row it is noted whether it is the last one
pub alike-push : (flags : List Bool) (rows : List Row) (row : Row) (n : ℕ) (known : Bool)
    → length rows ≡ n → n < length flags → AreAlike flags rows → (known ≡ true → LastIs rows row)
    → AreAlike (slice_set flags n known) (rows ++ row ∷ [])
alike-push flags rows row n known len lt so_far last k set = go (cases_order (k + 1) n) where
  whole : List Row
  whole = rows ++ row ∷ []

  go : (k + 1 ≡ n) ⊎ ((k + 1 < n) ⊎ (n < k + 1)) → IfSome (slice_get whole (k + 1)) (λ next. slice_get whole k ≡ Some next)
  go (inl e) =
      let flag : known ≡ true = sym (get_or-set_same flags n known false lt)
      ∙ ap (λ (j : ℕ). slice_index_or (slice_set flags n known) j false) (sym e) ∙ set in
      let next : slice_get whole (k + 1) ≡ Some row = ap (slice_get whole) (e ∙ sym len) ∙ slice_get-end rows row in
      rw (next, slice_get-front rows (row ∷ []) k (omega (arith, e, len))) (last flag k (e ∙ sym len))
  go (inr (inl below)) =
      let old : slice_index_or flags (k + 1) false ≡ true =
      sym (get_or-set_other flags n (k + 1) known false (λ e. omega (arith, e, below))) ∙ set in
      rw (
        slice_get-front rows (row ∷ []) (k + 1) (omega (arith, below, len)),
        slice_get-front rows (row ∷ []) k (omega (arith, below, len)),
      ) (so_far k old)
  go (inr (inr above)) =
      rw (slice_get_past whole (k + 1) (omega (arith, above, len, length-append rows (row ∷ [])))) tt

-- ---- rows that are put at places

-- one place more
pub before-more : (flags : List Bool) (pc : ℕ) → flags_before flags (suc pc) ≡ flags_before flags pc + flag_bit (slice_index_or flags pc false)
before-more [] zero = refl
before-more [] (suc pc) = refl
before-more (true ∷ flags) zero = refl
before-more (false ∷ flags) zero = refl
before-more (true ∷ flags) (suc pc) = omega (arith, before-more flags pc)
before-more (false ∷ flags) (suc pc) = before-more flags pc

-- whether one more place is a repeat is noted
pub noted-more : (flags alike repeats : List Bool) (pc : ℕ) (known : Bool) → pc < length repeats → known ≡ is_repeat flags alike pc
    → RepeatsBy flags alike pc repeats → RepeatsBy flags alike (pc + 1) (slice_set repeats pc known)
noted-more flags alike repeats pc known room is so_far = below_more _ _
    (λ k lt. get_or-set_other repeats pc k known false (λ e. omega (arith, e, lt)) ∙ so_far k lt)
    (get_or-set_same repeats pc known false room ∙ is)

-- the point has this row, and there is one
abbrev HasRow : Option Row → Point → Type 0
HasRow row point = (is_some point.row ≡ true) × (point.row ≡ row)

-- a place that is flagged has the row whose index is the number of the flags before it
with_rows-at : (flags : List Bool) (points : List Point) (rows : List Row) (pc : ℕ)
    → flag_count flags (instrs_of points) ≡ length rows → slice_index_or flags pc false ≡ true
    → IfSome (slice_get (with_rows flags points rows) pc) (HasRow (slice_get rows (flags_before flags pc)))
with_rows-at flags [] rows pc e set = tt
with_rows-at [] (point ∷ points) rows pc e set = absurd cc
with_rows-at (false ∷ flags) (point ∷ points) rows zero e set = absurd cc
with_rows-at (false ∷ flags) (point ∷ points) rows (suc pc) e set = with_rows-at flags points rows pc e set
with_rows-at (true ∷ flags) (point ∷ points) [] pc e set = absurd (omega (arith, e))
with_rows-at (true ∷ flags) (point ∷ points) (r ∷ rows) zero e set = (refl, refl)
with_rows-at (true ∷ flags) (point ∷ points) (r ∷ rows) (suc pc) e set = with_rows-at flags points rows pc (omega (arith, e)) set

both_have : (here next : Option Point) (first second : Option Row) → IfSome here (HasRow first) → IfSome next (HasRow second)
    → IfSome second (λ row. first ≡ Some row) → IfSome next (λ n. (is_some n.row ≡ true) × IfSome here (λ p. p.row ≡ n.row))
both_have here None first second h k same = tt
both_have here (Some n) first None h k same = let none : is_some n.row ≡ false = ap is_some k.1 in absurd cc
both_have None (Some n) first (Some row) h k same = (k.0, tt)
both_have (Some p) (Some n) first (Some row) h k same = (k.0, h.1 ∙ same ∙ sym k.1)

-- where each flagged place has its row, the repeats are those of rows that are alike
pub placed-repeat : (flags alike repeats : List Bool) (points : List Point) (rows : List Row)
    → flag_count flags (instrs_of points) ≡ length rows → AreAlike alike rows → RepeatsBy flags alike (length points) repeats
    → AreRepeats repeats (with_rows flags points rows)
placed-repeat flags alike repeats points rows as_many rows_alike by pc set = go (cases_order (pc + 1) (length points)) where
  made : List Point
  made = with_rows flags points rows

  past : length points ≤ pc + 1 → IsRepeated made pc
  past le = rw (slice_get_past made (pc + 1) (omega (arith, le, with_rows-length flags points rows))) tt

  go : (pc + 1 ≡ length points) ⊎ ((pc + 1 < length points) ⊎ (length points < pc + 1)) → IsRepeated made pc
  go (inl e) = past (omega (arith, e))
  go (inr (inr above)) = past (omega (arith, above))
  go (inr (inl below)) =
      let more : pc + 1 ≡ suc pc = omega arith in
      let is : is_repeat flags alike (suc pc) ≡ true = ap (is_repeat flags alike) (sym more) ∙ sym (by (pc + 1) below) ∙ set in
      let here = slice_index_or flags pc false in
      let next = slice_index_or flags (suc pc) false in
      let like = slice_index_or alike (flags_before flags (suc pc)) false in
      let parts = and_parts (here && next) like is in
      let flagged = and_parts here next parts.0 in
      let count : flags_before flags (suc pc) ≡ flags_before flags pc + 1 = before-more flags pc
      ∙ ap (λ (flag : Bool). flags_before flags pc + flag_bit flag) flagged.0 in
      let same : IfSome (slice_get rows (flags_before flags (suc pc))) (λ row. slice_get rows (flags_before flags pc) ≡ Some row) =
      rw count (rows_alike (flags_before flags pc) (rw count at parts.1)) in
      rw more (both_have (slice_get made pc) (slice_get made (suc pc)) (slice_get rows (flags_before flags pc))
      (slice_get rows (flags_before flags (suc pc)))
      (with_rows-at flags points rows pc as_many flagged.0) (with_rows-at flags points rows (suc pc) as_many flagged.1) same)
