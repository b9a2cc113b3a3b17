-- The row without pointers into empty slots is the least such row that a row fits.
use Rattle.std.proofs.Common.{◌≡◌, ℕ, zero, suc, Bool, true, false, List, [], ◌∷◌, Option, Some, None, map, length, get_or, ◌<◌, refl, ap, ◌∙◌, arith}
use Rattle.std.specs.Prelude.{◌&&◌, ◌==◌, nat_le, nat_lt}
use Rattle.std.specs.List.{list_any, list_all}
use Rattle.std.proofs.lemmas.Bool.{and_parts, or_parts, eqb-true, lt-ltb}
use Rattle.std.proofs.lemmas.List.{length-map}
use Rattle.geos_image.specs.declared.row.Row.{Row}
use Rattle.geos_image.specs.declared.row.Pointer.{Pointer}
use Rattle.geos_image.specs.declared.row.SlotState.{SlotState}
use Rattle.geos_image.specs.declared.row.SlotState.TheVariants.{Empty}
use Rattle.geos_image.specs.Legal.{is_pointer, is_shaped, is_row}
use Rattle.geos_verify.specs.Lists.{all2}
use Rattle.geos_verify.specs.Rows.{slot_fits, pointer_fits, pair_fits, is_empty, leads_nowhere}
use Rattle.geos_verify.specs.Rules.{names_empty_slot}
use Rattle.geos_code.specs.Known.{without_empty, clean, IsLeastClean}
use Rattle.geos_verify.proofs.Pairwise.{both, all2-refl}
use Rattle.geos_verify.proofs.RowsFit.{empty-at, fitting, fits-from, le-refl, slot-refl, pair-refl, pointer-none, pointer-refl}

module _ (slots : List SlotState) where
  weaker : (p : Option Pointer) (b : Bool) → leads_nowhere slots p ≡ b → pointer_fits p (without_empty slots p) ≡ true
  weaker p true e = rw e (pointer-none p)
  weaker p false e = rw e (pointer-refl p)

  all-weaker : (ps : List (Option Pointer)) → all2 pointer_fits ps (map (without_empty slots) ps) ≡ true
  all-weaker [] = refl
  all-weaker (p ∷ ps) = both (pointer_fits p (without_empty slots p)) (all2 pointer_fits ps (map (without_empty slots) ps))
      (weaker p (leads_nowhere slots p) refl) (all-weaker ps)

  somewhere : (p : Option Pointer) (b : Bool) → leads_nowhere slots p ≡ b → leads_nowhere slots (without_empty slots p) ≡ false
  somewhere p true e = rw e refl
  somewhere p false e = rw e e

  all-somewhere : (ps : List (Option Pointer)) → list_any (leads_nowhere slots) (map (without_empty slots) ps) ≡ false
  all-somewhere [] = refl
  all-somewhere (p ∷ ps) = rw (somewhere p (leads_nowhere slots p) refl) (all-somewhere ps)

  module _ (us : List SlotState) (fit : all2 slot_fits slots us ≡ true) where
    least : (p u : Option Pointer) → pointer_fits p u ≡ true → leads_nowhere us u ≡ false → pointer_fits (without_empty slots p) u ≡ true
    least p None j e = pointer-none (without_empty slots p)
    least None (Some u) j e = absurd cc
    least (Some p) (Some u) j e =
        let a = and_parts (p.slot == u.slot) (nat_le u.least p.least) j in
        let held : is_empty (get_or slots p.slot Empty) ≡ false = empty-at slots us p.slot fit
        ∙ ap (λ k. is_empty (get_or us k Empty)) (eqb-true p.slot u.slot a.0) ∙ e in
        rw held j

    all-least : (ps qs : List (Option Pointer)) → all2 pointer_fits ps qs ≡ true → list_any (leads_nowhere us) qs ≡ false
        → all2 pointer_fits (map (without_empty slots) ps) qs ≡ true
    all-least [] [] j e = refl
    all-least [] (q ∷ qs) j e = absurd cc
    all-least (p ∷ ps) [] j e = absurd cc
    all-least (p ∷ ps) (q ∷ qs) j e =
        let a = and_parts (pointer_fits p q) (all2 pointer_fits ps qs) j in
        let b = or_parts (leads_nowhere us q) (list_any (leads_nowhere us) qs) e in
        both (pointer_fits (without_empty slots p) q) (all2 pointer_fits (map (without_empty slots) ps) qs)
        (least p q a.0 b.0) (all-least ps qs a.1 b.1)

pub clean-least : (row : Row) → IsLeastClean row (clean row)
unfolding names_empty_slot
clean-least row = record {
  weaker = fits-from row (clean row) (record {
    bounds = all2-refl nat_le le-refl row.bounds;
    slots = all2-refl slot_fits slot-refl row.slots;
    pointers = all-weaker row.slots row.pointers;
    pairs = all2-refl pair_fits pair-refl row.pairs;
  });
  clean = all-somewhere row.slots row.pointers;
  least = λ u h e. (
      let p = fitting row u h in
      fits-from (clean row) u (record {
        bounds = p.bounds;
        slots = p.slots;
        pointers = all-least row.slots u.slots p.slots row.pointers u.pointers p.pointers e;
        pairs = p.pairs;
      })
      );
}

-- A pointer into a slot that is not empty leads into one of the four slots.

held-within : (slots : List SlotState) (k : ℕ) → is_empty (get_or slots k Empty) ≡ false → k < length slots
held-within [] k e = absurd cc
held-within (x ∷ slots) zero e = omega arith
held-within (x ∷ slots) (suc k) e = let lt = held-within slots k e in omega arith

pointers-legal : (slots : List SlotState) (ps : List (Option Pointer)) → length slots ≡ 4 → list_any (leads_nowhere slots) ps ≡ false
    → list_all is_pointer ps ≡ true
pointers-legal slots [] len e = refl
pointers-legal slots (None ∷ ps) len e = pointers-legal slots ps len e
pointers-legal slots (Some p ∷ ps) len e =
    let parts = or_parts (leads_nowhere slots (Some p)) (list_any (leads_nowhere slots) ps) e in
    let lt = held-within slots p.slot parts.0 in
    both (nat_lt p.slot 4) (list_all is_pointer ps) (lt-ltb p.slot 4 (omega arith)) (pointers-legal slots ps len parts.1)

-- how long the lists of a row are
pub record Shape (row : Row) : Type 0 where
  pub bounds : length row.bounds ≡ 8
  pub slots : length row.slots ≡ 4
  pub pointers : length row.pointers ≡ 4
  pub pairs : length row.pairs ≡ 6

pub shape-parts : (row : Row) → is_shaped row ≡ true → Shape row
shape-parts row h =
    let p = and_parts (length row.bounds == 8 && length row.slots == 4 && length row.pointers == 4) (length row.pairs == 6) h in
    let q = and_parts (length row.bounds == 8 && length row.slots == 4) (length row.pointers == 4) p.0 in
    let r = and_parts (length row.bounds == 8) (length row.slots == 4) q.0 in
    record {
      bounds = eqb-true (length row.bounds) 8 r.0;
      slots = eqb-true (length row.slots) 4 r.1;
      pointers = eqb-true (length row.pointers) 4 q.1;
      pairs = eqb-true (length row.pairs) 6 p.1;
    }

-- a cleaned row of this shape is legal in an image
pub clean-legal : (row : Row) → is_shaped row ≡ true → is_row true (clean row) ≡ true
unfolding names_empty_slot
clean-legal row h =
    let p = shape-parts row h in
    let four : length (map (without_empty row.slots) row.pointers) ≡ 4 = length-map row.pointers (without_empty row.slots) ∙ p.pointers in
    let shaped : is_shaped (clean row) ≡ true = rw (p.bounds, p.slots, four, p.pairs) refl in
    both (is_shaped (clean row)) (list_all is_pointer (map (without_empty row.slots) row.pointers)) shaped
    (pointers-legal row.slots (map (without_empty row.slots) row.pointers) p.slots (all-somewhere row.slots row.pointers))
