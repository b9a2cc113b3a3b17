-- Entry states that are given again at the next place.
use Rattle.std.specs.Prelude.{◌≡◌, ◌<◌, ℕ, ◌+◌, ◌&&◌, Bool, true, false, List, [], ◌∷◌, zero, suc, Option, Some, Vec, length, slice_get, slice_index_or, IfSome, nat_eq, nat_le, take, drop}
use Rattle.std.specs.Cmp.Lexicographic.{pointwise}
use Rattle.std.specs.Option.{is_some}
use Rattle.std.specs.Global.{Global}
use Rattle.geos_image.specs.declared.point.Point.{Point}
use Rattle.geos_image.specs.declared.row.Row.{Row}

-- the bytes of a row are at both offsets, and they are equal
abbrev pub are_same : List ℕ → ℕ → ℕ → Bool
are_same bytes before at = nat_le (at + 38) (length bytes) && pointwise nat_eq (take 38 (drop before bytes)) (take 38 (drop at bytes))

-- if there is a next pc, it has a row, and the row at this pc is the same
abbrev pub IsRepeated : List Point → ℕ → Type 0
IsRepeated points pc =
    IfSome (slice_get points (pc + 1)) (λ next. (is_some next.row ≡ true) × IfSome (slice_get points pc) (λ here. here.row ≡ next.row))

-- each flagged pc after the first has the same row as the pc before it
abbrev pub AreRepeats : List Bool → List Point → Type 0
AreRepeats flags points = (pc : ℕ) → slice_index_or flags (pc + 1) false ≡ true → IsRepeated points pc

-- a flag for each place, if there are any, and each that is set is right
abbrev pub AreNoted : Option (Vec Bool Global) → List Point → Type 0
AreNoted repeats points = IfSome repeats (λ flags. (length flags.items ≡ length points) × AreRepeats flags.items points)

-- each flagged row after the first equals the row before it
abbrev pub AreAlike : List Bool → List Row → Type 0
AreAlike flags rows =
    (k : ℕ) → slice_index_or flags (k + 1) false ≡ true → IfSome (slice_get rows (k + 1)) (λ next. slice_get rows k ≡ Some next)

-- how many places before the pc are flagged
abbrev pub flags_before : List Bool → ℕ → ℕ
flags_before flags zero = 0
flags_before [] (suc pc) = 0
flags_before (false ∷ flags) (suc pc) = flags_before flags pc
flags_before (true ∷ flags) (suc pc) = suc (flags_before flags pc)

-- the place before the pc is flagged
abbrev pub flag_before : List Bool → ℕ → Bool
flag_before flags zero = false
flag_before flags (suc pc) = slice_index_or flags pc false

-- the place and the one before it have rows, and its row is flagged as the row before
abbrev pub is_repeat : List Bool → List Bool → ℕ → Bool
is_repeat flags alike pc = flag_before flags pc && slice_index_or flags pc false && slice_index_or alike (flags_before flags pc) false

-- of the first `count` places exactly the repeats are flagged
abbrev pub RepeatsBy : List Bool → List Bool → ℕ → List Bool → Type 0
RepeatsBy flags alike count repeats = (pc : ℕ) → pc < count → slice_index_or repeats pc false ≡ is_repeat flags alike pc
