-- What routines touch, wherever their calls lead.
use Rattle.std.proofs.Common.{◌≡◌, ◌<◌, ◌≤◌, ℕ, zero, suc, Bool, false, List, [], ◌∷◌, length, refl, ap, ◌∙◌, arith}
use Rattle.std.specs.Prelude.{◌&&◌, ◌||◌, ◌==◌, slice_index_or}
use Rattle.std.specs.List.{list_any}
use Rattle.std.proofs.lemmas.Bool.{or_parts}
use Rattle.std.proofs.lemmas.Option.{slice_get_past}
use Rattle.geos_image.specs.Parts.{Parts}
use Rattle.geos_verify.specs.Touched.{counts, calls, points_of, touches_here, touches_within, noted, touches_by, noted_by}
use Rattle.geos_verify.specs.Refused.{KnowsTouchedWithin}
use Rattle.geos_verify.proofs.Noted.{list_any-same}

row-blank : (row : List Bool) → list_any (λ b. b) row ≡ false → (k : ℕ) → slice_index_or row k false ≡ false
row-blank [] h k = refl
row-blank (b ∷ row) h zero = (or_parts b (list_any (λ c. c) row) h).0
row-blank (b ∷ row) h (suc k) = row-blank row (or_parts b (list_any (λ c. c) row) h).1 k

-- a table without any mark says nothing
pub rows-blank : (rows : List (List Bool)) → list_any (λ row. list_any (λ b. b) row) rows ≡ false → (c k : ℕ) → noted rows k c ≡ false
rows-blank [] h c k = refl
rows-blank (row ∷ rows) h zero k = row-blank row (or_parts (list_any (λ b. b) row) (list_any (λ other. list_any (λ b. b) other) rows) h).0 k
rows-blank (row ∷ rows) h (suc c) k = rows-blank rows (or_parts (list_any (λ b. b) row) (list_any (λ other. list_any (λ b. b) other) rows) h).1 c k

-- what is noted of a routine by a table
pub noted_by-own : (image : Parts) (table : List (List Bool)) (r k : ℕ) → k < 4
    → slice_index_or (noted_by image table r) k false ≡ touches_by image table k r
noted_by-own image table r zero few = refl
noted_by-own image table r (suc zero) few = refl
noted_by-own image table r (suc (suc zero)) few = refl
noted_by-own image table r (suc (suc (suc zero))) few = refl
noted_by-own image table r (suc (suc (suc (suc k)))) few = absurd (omega arith)

-- where there is no routine, nothing is touched
pub touches_by-past : (image : Parts) (table : List (List Bool)) (k r : ℕ) → length image.routines ≤ r → touches_by image table k r ≡ false
touches_by-past image table k r past = rw (slice_get_past image.routines r past, points_of) refl

-- one more round follows one more call
pub knows-more : (image : Parts) (table next : List (List Bool)) (depth : ℕ) → KnowsTouchedWithin image table depth
    → ((c k : ℕ) → k < 4 → noted next k c ≡ touches_by image table k c) → KnowsTouchedWithin image next (suc depth)
knows-more image table next depth known by c k few =
    by c k few
    ∙ list_any-same (λ point. touches_here (noted table k) k point.instr) (λ point. touches_here (touches_within depth image k) k point.instr)
    (points_of image c)
    (λ j point there.
    ap (λ touched. (counts point.instr.opcode && point.instr.a == k) || (calls point.instr.opcode && touched)) (known point.instr.imm k few))
