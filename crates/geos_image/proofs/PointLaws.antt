-- Reading and encoding the rows and potentials of instructions are inverse.
use Rattle.std.proofs.Common.{◌≡◌, ℕ, zero, suc, ◌+◌, ◌*◌, ◌≤◌, true, false, List, [], ◌∷◌, ◌++◌, length, map, All, Option, Some, None, Ok, refl, sym, ap, subst, ◌∙◌, append_assoc, arith}
use Rattle.std.specs.Prelude.{replicate}
use Rattle.std.specs.List.{flat_map, list_all}
use Rattle.std.proofs.lemmas.Bool.{and_parts}
use Rattle.std.proofs.lemmas.List.Elements.{All-head, All-tail}
use Rattle.geos_image.specs.declared.instr.Instr.{Instr}
use Rattle.geos_image.specs.declared.row.Row.{Row}
use Rattle.geos_image.specs.declared.potential.Potential.{Potential}
use Rattle.geos_image.specs.declared.point.Point.{Point}
use Rattle.geos_image.specs.Legal.{is_row, is_given, is_instr, is_point, rows_stand}
use Rattle.geos_image.specs.Keys.{row_stands}
use Rattle.geos_image.specs.Parts.{instrs_of}
use Rattle.geos_image.specs.Ranges.{IsLong, RowFits, GivenFits, PotentialFits, PointFits}
use Rattle.geos_image.specs.Spelling.{long, row, potential, given, told}
use Rattle.geos_image.specs.Reading.{long_at, items_at, row_at, potential_at, entry_at, points_at, bare_points_at}
use Rattle.geos_image.proofs.Steps.{ok_is, after}
use Rattle.geos_image.proofs.Places.{plus, behind_first, no_more, IsBytes, Takes, Takes-none, Takes-then, Left, Left-as}
use Rattle.geos_image.proofs.NumberLaws.{long_found, long_again}
use Rattle.geos_image.proofs.RunLaws.{takes_more, left_more, items_found, items_again}
use Rattle.geos_image.proofs.RowLaws.{row_found, row_again}

-- ---- potentials

potential_found : (bytes : List ℕ) → IsBytes bytes → (at next : ℕ) (p : Potential) → next ≡ at + 20 → potential_at bytes at ≡ Ok p
    → Takes bytes at (potential p) next
unfolding potential_at
potential_found bytes fits at next p e h =
    after (long_at bytes at) _ p h (λ constant read-constant h.
    after (items_at (long_at bytes) 4 4 (at + 4)) _ p h (λ coefficients read-coefficients h.
    let read : Potential = record { constant = constant; coefficients = coefficients } in
    let takes-constant = long_found bytes fits at (at + 4) constant refl read-constant in
    let takes-others = items_found bytes (long_at bytes) long 4 (long_found bytes fits) 4 (at + 4) next coefficients
    (e ∙ plus at 4 16) read-coefficients in
    subst (λ (q : Potential). Takes bytes at (potential q) next) (ok_is read p h) (Takes-then takes-constant takes-others.0)))

potential_again : (bytes : List ℕ) (at next : ℕ) (p : Potential) (rest : List ℕ) → next ≡ at + 20 → PotentialFits p
    → Left bytes at (potential p ++ rest) → (potential_at bytes at ≡ Ok p) × Left bytes next rest
unfolding potential_at
potential_again bytes at next p rest e fits l =
    let left = Left-as (append_assoc (long p.constant) (flat_map long p.coefficients) rest) l in
    let constant = long_again bytes at (at + 4) p.constant _ refl fits.constant left in
    let coefficients = items_again bytes (long_at bytes) long 4 IsLong (long_again bytes) p.coefficients 4 (at + 4)
    next rest fits.four (e ∙ plus at 4 16) fits.coefficients constant.1 in
    (rw (constant.0, coefficients.0) refl, coefficients.1)

-- ---- a row and a potential

abbrev entry : Row × Potential → List ℕ
entry x = row x.0 ++ potential x.1

entry_found : (bytes : List ℕ) → IsBytes bytes → (at next : ℕ) (x : Row × Potential) → next ≡ at + 58 → entry_at bytes at ≡ Ok x
    → Takes bytes at (entry x) next
unfolding entry_at
entry_found bytes fits at next x e h =
    after (row_at false bytes at) _ x h (λ r read-row h.
    after (potential_at bytes (at + 38)) _ x h (λ p read-potential h.
    let takes-row = row_found false bytes fits at (at + 38) r refl read-row in
    let takes-potential = potential_found bytes fits (at + 38) next p (e ∙ plus at 38 20) read-potential in
    subst (λ (y : Row × Potential). Takes bytes at (entry y) next) (ok_is (r, p) x h) (Takes-then takes-row takes-potential)))

entry_again : (bytes : List ℕ) (at next : ℕ) (r : Row) (p : Potential) (rest : List ℕ) → next ≡ at + 58
    → is_row false r ≡ true → RowFits r → PotentialFits p → Left bytes at (row r ++ potential p ++ rest)
    → (entry_at bytes at ≡ Ok (r, p)) × Left bytes next rest
unfolding entry_at
entry_again bytes at next r p rest e legal row-fits potential-fits l =
    let left = Left-as (append_assoc (row r) (potential p) rest) l in
    let first = row_again false bytes at (at + 38) r _ refl legal row-fits left in
    let second = potential_again bytes (at + 38) next p rest (e ∙ plus at 38 20) potential-fits first.1 in
    (rw (first.0, second.0) refl, second.1)

-- ---- one of them for each instruction

-- the bytes of points that were read are their encoding, and the points have the instructions
pub points_found : (bytes : List ℕ) → IsBytes bytes → (instrs : List Instr) (at next : ℕ) (points : List Point)
    → next ≡ at + 58 * length instrs → points_at bytes instrs at ≡ Ok points
    → Takes bytes at (flat_map told points) next × (instrs_of points ≡ instrs)
unfolding points_at
points_found bytes fits [] at next points e h =
    let same = no_more at 58 next e in
    subst (λ (ps : List Point). Takes bytes at (flat_map told ps) next × (instrs_of ps ≡ [])) (ok_is [] points h)
    (subst (λ (k : ℕ). Takes bytes at [] k) same (Takes-none bytes at), refl)
points_found bytes fits (i ∷ instrs) at next points e h =
    after (entry_at bytes at) _ points h (λ first read-first h.
    after (points_at bytes instrs (at + 58)) _ points h (λ others read-others h.
    let point : Point = record { instr = i; row = Some first.0; potential = first.1 } in
    let place = behind_first at 58 (length instrs) next e in
    let p = entry_found bytes fits at (at + 58) first refl read-first in
    let q = points_found bytes fits instrs (at + 58) next others place read-others in
    subst (λ (ps : List Point). Takes bytes at (flat_map told ps) next × (instrs_of ps ≡ i ∷ instrs))
    (ok_is (point ∷ others) points h) (takes_more told point others p q.0, ap (λ (is : List Instr). i ∷ is) q.1)))

-- the encoding of a point with a row is read as its row and potential
told_again : (bytes : List ℕ) (at next : ℕ) (o : Option Row) (p : Potential) (rest : List ℕ) → next ≡ at + 58
    → row_stands true o ≡ true → is_given false o ≡ true → GivenFits o → PotentialFits p → Left bytes at ((given o ++ potential p) ++ rest)
    → (r : Row) × (o ≡ Some r) × (entry_at bytes at ≡ Ok (r, p)) × Left bytes next rest
told_again bytes at next None p rest e stands legal row-fits potential-fits l = absurd cc
told_again bytes at next (Some r) p rest e stands legal row-fits potential-fits l =
    let read = entry_again bytes at next r p rest e legal row-fits potential-fits l in
    (r, refl, read.0, read.1)

-- the encoding of points, each with its row, is read as the points, given their instructions
pub points_again : (most routines instrs : ℕ) (bytes : List ℕ) (points : List Point) (at next : ℕ) (rest : List ℕ)
    → next ≡ at + 58 * length points → rows_stand (replicate most true) points ≡ true
    → list_all (is_point false routines instrs) points ≡ true → All PointFits points → Left bytes at (flat_map told points ++ rest)
    → (points_at bytes (instrs_of points) at ≡ Ok points) × Left bytes next rest
unfolding points_at
points_again most routines instrs bytes [] at next rest e stand legal fits l =
    let same = no_more at 58 next e in
    (refl, subst (λ (k : ℕ). Left bytes k rest) same l)
points_again zero routines instrs bytes (point ∷ points) at next rest e stand legal fits l = absurd cc
points_again (suc most) routines instrs bytes (point ∷ points) at next rest e stand legal fits l =
    let parts = and_parts (is_point false routines instrs point) (list_all (is_point false routines instrs) points) legal in
    let rows = and_parts (is_instr routines instrs point.instr) (is_given false point.row) parts.0 in
    let stands = and_parts (row_stands true point.row) (rows_stand (replicate most true) points) stand in
    let here = All-head PointFits point points fits in
    let place = behind_first at 58 (length points) next e in
    let p = told_again bytes at (at + 58) point.row point.potential (flat_map told points ++ rest) refl stands.0
    rows.1 here.row here.potential (left_more told point points rest l) in
    let q = points_again most routines instrs bytes points (at + 58) next rest place stands.1 parts.1 (All-tail PointFits point points fits) p.3 in
    (rw (p.2, q.0) (ap (λ (o : Option Row). Ok (record { instr = point.instr; row = o; potential = point.potential } ∷ points)) (sym p.1)), q.1)

-- ---- potentials without rows

abbrev pub potential_told : Point → List ℕ
potential_told point = potential point.potential

-- points without their rows
abbrev pub stripped : List Point → List Point
stripped points = map (λ (point : Point). record point { row = None }) points

-- the bytes of points that were read without rows encode their potentials, and the points have the instructions
pub bare_found : (bytes : List ℕ) → IsBytes bytes → (instrs : List Instr) (at next : ℕ) (points : List Point)
    → next ≡ at + 20 * length instrs → bare_points_at bytes instrs at ≡ Ok points
    → Takes bytes at (flat_map potential_told points) next × (instrs_of points ≡ instrs)
unfolding bare_points_at
bare_found bytes fits [] at next points e h =
    let same = no_more at 20 next e in
    subst (λ (ps : List Point). Takes bytes at (flat_map potential_told ps) next × (instrs_of ps ≡ [])) (ok_is [] points h)
    (subst (λ (k : ℕ). Takes bytes at [] k) same (Takes-none bytes at), refl)
bare_found bytes fits (i ∷ instrs) at next points e h =
    after (potential_at bytes at) _ points h (λ first read-first h.
    after (bare_points_at bytes instrs (at + 20)) _ points h (λ others read-others h.
    let point : Point = record { instr = i; row = None; potential = first } in
    let place = behind_first at 20 (length instrs) next e in
    let p = potential_found bytes fits at (at + 20) first refl read-first in
    let q = bare_found bytes fits instrs (at + 20) next others place read-others in
    subst (λ (ps : List Point). Takes bytes at (flat_map potential_told ps) next × (instrs_of ps ≡ i ∷ instrs)) (ok_is (point ∷ others) points h)
    (takes_more potential_told point others p q.0, ap (λ (is : List Instr). i ∷ is) q.1)))

-- the encoding of potentials is read as the points without their rows, given their instructions
pub bare_again : (bytes : List ℕ) (points : List Point) (at next : ℕ) (rest : List ℕ) → next ≡ at + 20 * length points
    → All PointFits points → Left bytes at (flat_map potential_told points ++ rest)
    → (bare_points_at bytes (instrs_of points) at ≡ Ok (stripped points)) × Left bytes next rest
unfolding bare_points_at
bare_again bytes [] at next rest e fits l =
    let same = no_more at 20 next e in
    (refl, subst (λ (k : ℕ). Left bytes k rest) same l)
bare_again bytes (point ∷ points) at next rest e fits l =
    let here = All-head PointFits point points fits in
    let place = behind_first at 20 (length points) next e in
    let p = potential_again bytes at (at + 20) point.potential (flat_map potential_told points ++ rest) refl here.potential
    (left_more potential_told point points rest l) in
    let q = bare_again bytes points (at + 20) next rest place (All-tail PointFits point points fits) p.1 in
    (rw (p.0, q.0) refl, q.1)

-- points that are read in version 1 have their rows
pub points_given : (bytes : List ℕ) (most : ℕ) (instrs : List Instr) (at : ℕ) (points : List Point) → length instrs ≤ most
    → points_at bytes instrs at ≡ Ok points → rows_stand (replicate most true) points ≡ true
unfolding points_at
points_given bytes most [] at points le h = subst (λ (ps : List Point). rows_stand (replicate most true) ps ≡ true) (ok_is [] points h) refl
points_given bytes zero (i ∷ instrs) at points le h = absurd (omega (arith, le))
points_given bytes (suc most) (i ∷ instrs) at points le h =
    after (entry_at bytes at) _ points h (λ first read-first h.
    after (points_at bytes instrs (at + 58)) _ points h (λ others read-others h.
    let point : Point = record { instr = i; row = Some first.0; potential = first.1 } in
    subst (λ (ps : List Point). rows_stand (replicate (suc most) true) ps ≡ true) (ok_is (point ∷ others) points h)
    (points_given bytes most instrs (at + 58) others (omega (arith, le)) read-others)))
