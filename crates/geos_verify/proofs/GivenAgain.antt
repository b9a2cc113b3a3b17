-- Rows that are repeated at the next pc, and instructions that change only bounds.
use Rattle.std.proofs.Common.{◌≡◌, ℕ, zero, suc, ◌+◌, ◌<◌, Bool, true, false, List, [], ◌∷◌, length, Option, Some, None, slice_get, refl, sym, ap, subst, ◌∙◌, arith}
use Rattle.std.specs.Prelude.{◌&&◌, not, nat_le, slice_index, slice_set, IfSome}
use Rattle.std.specs.Option.{is_some}
use Rattle.std.proofs.Math.Bool.{and-true}
use Rattle.std.proofs.lemmas.Bool.{false≢true}
use Rattle.geos_opcodes.specs.declared.opcode.Opcode.{Opcode}
use Rattle.geos_opcodes.specs.declared.opcode.Opcode.TheVariants.{Call}
use Rattle.geos_opcodes.specs.declared.uses.SlotUse.TheVariants.{NoSlot}
use Rattle.geos_opcodes.specs.declared.uses.Uses.{Uses}
use Rattle.geos_opcodes.specs.Facts.{uses_of}
use Rattle.geos_image.specs.declared.instr.Instr.{Instr}
use Rattle.geos_image.specs.declared.row.Pointer.{Pointer}
use Rattle.geos_image.specs.declared.point.Point.{Point}
use Rattle.geos_image.specs.declared.row.Row.{Row}
use Rattle.geos_image.specs.Parts.{Parts}
use Rattle.geos_image.specs.Repeats.{IsRepeated}
use Rattle.geos_verify.specs.declared.place.Place.{Place}
use Rattle.geos_verify.specs.Lists.{all2}
use Rattle.geos_verify.specs.Places.{places, RowAt}
use Rattle.geos_verify.specs.Rows.{bound, with_bound, with_pointer, bounded, used, row_along, fits}
use Rattle.geos_verify.specs.Rules.{misfits_at}
use Rattle.geos_verify.specs.Touched.{calls}
use Rattle.geos_verify.proofs.Along.{row_along-used}
use Rattle.geos_verify.proofs.Known.{at_place-is, row-given}
use Rattle.geos_verify.proofs.Pairwise.{all2-refl}
use Rattle.geos_verify.proofs.Places.{item_at, if_some, place-at}
use Rattle.geos_verify.proofs.RowsFit.{fitting, fits-refl, le-refl}

-- bounds with one of them set to n imply the bounds exactly if n is at most the old bound
one-changed : (bounds : List ℕ) (a n : ℕ) → a < length bounds → all2 nat_le (slice_set bounds a n) bounds ≡ nat_le n (slice_index bounds a)
one-changed [] a n lt = absurd (omega (arith, lt))
one-changed (b ∷ bounds) zero n lt = ap (λ (rest : Bool). nat_le n b && rest) (all2-refl nat_le le-refl bounds) ∙ and-true (nat_le n b)
one-changed (b ∷ bounds) (suc a) n lt = ap (λ (first : Bool). first && all2 nat_le (slice_set bounds a n) bounds) (le-refl b)
    ∙ one-changed bounds a n (omega (arith, lt))

-- a row with the bound of one word set to n implies the row exactly if n is at most the old bound
pub fits_bound : (row : Row) (a n : ℕ) → a < length row.bounds → fits (with_bound a n row) row ≡ nat_le n (bound row a)
fits_bound row a n lt =
    let self = fitting row row (fits-refl row) in
    let raised = all2 nat_le (slice_set row.bounds a n) row.bounds in
    rw (self.slots, self.pointers, self.pairs)
    (and-true ((raised && true) && true) ∙ and-true (raised && true) ∙ and-true raised ∙ one-changed row.bounds a n lt)

-- a row is enough for itself
pub fits_itself : (row : Row) → fits row row ≡ true
fits_itself = fits-refl

-- what is known at a pc is one row
known-once : (image : Parts) (pc : ℕ) (row other : Row) → pc < length image.points → RowAt image pc row → RowAt image pc other → row ≡ other
known-once image pc row other lt at too =
    let found = item_at image.points pc lt in
    let place = place-at image pc found.0 found.1 in
    sym (if_some (λ (p : Place). p.row ≡ row) (slice_get (places image) pc) place.0 place.1 at)
    ∙ if_some (λ (p : Place). p.row ≡ other) (slice_get (places image) pc) place.0 place.1 too

-- if the next pc has the same row as this pc, the row that is known at this pc is known there too
pub known-again : (image : Parts) (pc : ℕ) (row : Row) → pc + 1 < length image.points → IsRepeated image.points pc → RowAt image pc row
    → RowAt image (pc + 1) row
known-again image pc row lt again known =
    let found = item_at image.points (pc + 1) lt in
    let before = item_at image.points pc (omega (arith, lt)) in
    let h = if_some (λ (p : Point). (is_some p.row ≡ true) × IfSome (slice_get image.points pc) (λ here. here.row ≡ p.row))
    (slice_get image.points (pc + 1)) found.0 found.1 again in
    let same = if_some (λ (p : Point). p.row ≡ found.0.row) (slice_get image.points pc) before.0 before.1 h.1 in
    go found.0 before.0 found.1 before.1 found.0.row refl h.0 same
  where
    go : (next here : Point) → slice_get image.points (pc + 1) ≡ Some next → slice_get image.points pc ≡ Some here → (given : Option Row)
        → next.row ≡ given → is_some next.row ≡ true → here.row ≡ next.row → RowAt image (pc + 1) row
    go next here there at None is some same = absurd (false≢true (sym (ap is_some is) ∙ some))
    go next here there at (Some given) is some same =
        let at_next = row-given image (pc + 1) given (rw there (sym is)) lt in
        let at_here = row-given image pc given (rw at (sym (same ∙ is))) (omega (arith, lt)) in
        subst (RowAt image (pc + 1)) (known-once image pc given row (omega (arith, lt)) at_here known) at_next

used-alone : (i : Instr) (uses : Uses) (row : Row) → uses.slot ≡ NoSlot
    → ((i : Instr) (pointers : List (Option Pointer)) → with_pointer i uses.pointer pointers ≡ pointers) → used i uses row ≡ row
used-alone i uses row slot keeps = rw (slot, keeps i row.pointers) refl

-- an instruction that uses no slot, sets no pointer and calls nothing changes only bounds
pub bounds-alone : (image : Parts) (i : Instr) (opcode : Opcode) (uses : Uses) (row : Row) → uses ≡ uses_of opcode → uses.slot ≡ NoSlot
    → ((i : Instr) (pointers : List (Option Pointer)) → with_pointer i uses.pointer pointers ≡ pointers) → (called : Bool) → called ≡ false
    → called ≡ calls opcode → row_along image i opcode row ≡ bounded i opcode row
bounds-alone image i opcode uses row is slot keeps called not_called called_is =
    row_along-used image i opcode row other ∙ ap (λ (u : Uses). used i u (bounded i opcode row)) (sym is)
    ∙ used-alone i uses (bounded i opcode row) slot keeps
  where
    other : opcode ≡ Call → ⊥
    other e = false≢true (sym not_called ∙ (called_is ∙ ap calls e))

-- if the next pc repeats the row, the edge to it misfits exactly if the row on the edge does not imply the row of
-- this pc
pub fitted-again : (image : Parts) (pc : ℕ) (row next bounds : Row) → pc + 1 < length image.points → IsRepeated image.points pc
    → RowAt image pc row → next ≡ bounds → not (fits bounds row) ≡ misfits_at image (pc + 1) next
unfolding misfits_at
fitted-again image pc row next bounds lt again known is =
    let found = item_at image.points (pc + 1) lt in
    let place = place-at image (pc + 1) found.0 found.1 in
    let row_is : place.0.row ≡ row = if_some (λ (p : Place). p.row ≡ row) (slice_get (places image) (pc + 1)) place.0 place.1
    (known-again image pc row lt again known) in
    rw is (sym (ap not (at_place-is image (pc + 1) place.0 (λ p. fits bounds p.row) place.1) ∙ ap (λ (r : Row). not (fits bounds r)) row_is))
