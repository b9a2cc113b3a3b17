-- The join is the least row that both rows fit.
use Rattle.std.proofs.Common.{◌≡◌, ℕ, Bool, true, false, cond, Option, Some, None, refl, sym, ◌∙◌, arith}
use Rattle.std.specs.Prelude.{◌||◌, ◌==◌, nat_le, max, min}
use Rattle.std.proofs.lemmas.Bool.{and_parts, leb-true, le-leb, eqb-true, eq-eqb, false≢true}
use Rattle.geos_image.specs.declared.row.Row.{Row}
use Rattle.geos_image.specs.declared.row.Pointer.{Pointer}
use Rattle.geos_image.specs.declared.row.SlotState.{SlotState}
use Rattle.geos_image.specs.declared.row.SlotState.TheVariants.{Empty, Mem, Vm, Db}
use Rattle.geos_image.specs.Legal.{is_shaped}
use Rattle.geos_verify.specs.Rows.{same_flag, mark_fits, slot_fits, pointer_fits, pair_fits, fits}
use Rattle.geos_flow.specs.Slots.{slots_agree}
use Rattle.geos_rows.specs.Joins.{slot_join, pointer_join, pair_join, agree, joined, IsLeastAbove, FitNothing}
use Rattle.geos_verify.proofs.Pairwise.{both, as_long, as_long-from, all2-above, zip2-left, zip2-right, zip2-least}
use Rattle.geos_code.proofs.Cleaning.{shape-parts}
use Rattle.geos_verify.proofs.RowsFit.{flag-is, fitting, fits-from, slot-refl, pointer-none}

-- Bounds

max-left : (x y : ℕ) → nat_le x (max x y) ≡ true
max-left x y = le-leb x (max x y) (omega arith)

max-right : (x y : ℕ) → nat_le y (max x y) ≡ true
max-right x y = le-leb y (max x y) (omega arith)

max-least : (x y u : ℕ) → nat_le x u ≡ true → nat_le y u ≡ true → nat_le (max x y) u ≡ true
max-least x y u h j = let p = leb-true x u h in let q = leb-true y u j in le-leb (max x y) u (omega arith)

-- Slots

slot-left : (x y : SlotState) → slots_agree x y ≡ true → slot_fits x (slot_join x y) ≡ true
slot-left x y h = by_test (slot_fits x y) refl
  where
    by_test : (b : Bool) → slot_fits x y ≡ b → slot_fits x (cond b y x) ≡ true
    by_test true e = e
    by_test false e = slot-refl x

slot-right : (x y : SlotState) → slots_agree x y ≡ true → slot_fits y (slot_join x y) ≡ true
slot-right x y h = by_test (slot_fits x y) h
  where
    by_test : (b : Bool) → (b || slot_fits y x) ≡ true → slot_fits y (cond b y x) ≡ true
    by_test true h = slot-refl y
    by_test false h = h

-- of two marks one fits the other
pub marks_agree : (a b : Bool) → (mark_fits a b || mark_fits b a) ≡ true
marks_agree true b = refl
marks_agree false true = refl
marks_agree false false = refl

-- VM blocks agree that are both borrowed, or neither
pub borrowed_alike : (a b m n : Bool) → m ≡ n → slots_agree (Vm a m) (Vm b n) ≡ true
borrowed_alike true b true true e = refl
borrowed_alike true b false false e = refl
borrowed_alike false true true true e = refl
borrowed_alike false true false false e = refl
borrowed_alike false false true true e = refl
borrowed_alike false false false false e = refl
borrowed_alike _ _ _ _ e = absurd cc

-- two states that fit one agree
slots-agree : (u x y : SlotState) → slot_fits x u ≡ true → slot_fits y u ≡ true → slots_agree x y ≡ true
slots-agree Empty Empty Empty h j = refl
slots-agree Mem Mem Mem h j = refl
slots-agree (Vm u l) (Vm a m) (Vm b n) h j =
    let p = and_parts (mark_fits a u) (same_flag m l) h in
    let q = and_parts (mark_fits b u) (same_flag n l) j in
    borrowed_alike a b m n (flag-is m l p.1 ∙ sym (flag-is n l q.1))
slots-agree (Db u) (Db a) (Db b) h j = marks_agree a b
slots-agree _ _ _ h j = absurd cc

-- and their join fits it
slot-least : (x y u : SlotState) → slot_fits x u ≡ true → slot_fits y u ≡ true → slot_fits (slot_join x y) u ≡ true
slot-least x y u h j = by_test (slot_fits x y)
  where
    by_test : (b : Bool) → slot_fits (cond b y x) u ≡ true
    by_test true = j
    by_test false = h

-- Pointers

-- the join of two pointers, by whether their slots are one
by-slot : (p q : Pointer) (b : Bool) → (p.slot == q.slot) ≡ b → (pointer_fits (Some p) (pointer_join (Some p) (Some q)) ≡ true)
    × (pointer_fits (Some q) (pointer_join (Some p) (Some q)) ≡ true)
by-slot p q true e = rw e (
  both (p.slot == p.slot) (nat_le (min p.least q.least) p.least) (eq-eqb p.slot p.slot refl) (le-leb (min p.least q.least) p.least (omega arith)),
  both (q.slot == p.slot) (nat_le (min p.least q.least) q.least) (eq-eqb q.slot p.slot (sym (eqb-true p.slot q.slot e)))
      (le-leb (min p.least q.least) q.least (omega arith)),
)
by-slot p q false e = rw e (refl, refl)

pointer-left : (p q : Option Pointer) → pointer_fits p (pointer_join p q) ≡ true
pointer-left None q = refl
pointer-left (Some p) None = refl
pointer-left (Some p) (Some q) = (by-slot p q (p.slot == q.slot) refl).0

pointer-right : (p q : Option Pointer) → pointer_fits q (pointer_join p q) ≡ true
pointer-right None q = pointer-none q
pointer-right (Some p) None = refl
pointer-right (Some p) (Some q) = (by-slot p q (p.slot == q.slot) refl).1

pointer-least : (p q u : Option Pointer) → pointer_fits p u ≡ true → pointer_fits q u ≡ true → pointer_fits (pointer_join p q) u ≡ true
pointer-least p q None h j = pointer-none (pointer_join p q)
pointer-least None q (Some u) h j = absurd cc
pointer-least (Some p) None (Some u) h j = absurd cc
pointer-least (Some p) (Some q) (Some u) h j =
    let a = and_parts (p.slot == u.slot) (nat_le u.least p.least) h in
    let b = and_parts (q.slot == u.slot) (nat_le u.least q.least) j in
    let least = leb-true u.least p.least a.1 in
    let other = leb-true u.least q.least b.1 in
    let same : (p.slot == q.slot) ≡ true = eq-eqb p.slot q.slot (eqb-true p.slot u.slot a.0 ∙ sym (eqb-true q.slot u.slot b.0)) in
    rw same (both (p.slot == u.slot) (nat_le u.least (min p.least q.least)) a.0 (le-leb u.least (min p.least q.least) (omega arith)))

-- Pairs

pair-left : (a b : Bool) → pair_fits a (pair_join a b) ≡ true
pair-left true b = refl
pair-left false b = refl

pair-right : (a b : Bool) → pair_fits b (pair_join a b) ≡ true
pair-right true true = refl
pair-right true false = refl
pair-right false true = refl
pair-right false false = refl

pair-least : (a b u : Bool) → pair_fits a u ≡ true → pair_fits b u ≡ true → pair_fits (pair_join a b) u ≡ true
pair-least true b u h j = j
pair-least false b u h j = h

-- Rows

-- rows whose slots agree, of one shape
pub record Agreeing (r s : Row) : Type 0 where
  pub bounds : as_long r.bounds s.bounds ≡ true
  pub slots : agree r s ≡ true
  pub pointers : as_long r.pointers s.pointers ≡ true
  pub pairs : as_long r.pairs s.pairs ≡ true

-- rows that fit one agree
pub agreeing : (r s u : Row) → fits r u ≡ true → fits s u ≡ true → Agreeing r s
agreeing r s u h j =
    let p = fitting r u h in
    let q = fitting s u j in
    record {
      bounds = all2-above nat_le (λ x y. true) (λ x y v a b. refl) r.bounds s.bounds u.bounds p.bounds q.bounds;
      slots = all2-above slot_fits slots_agree (λ x y v. slots-agree v x y) r.slots s.slots u.slots p.slots q.slots;
      pointers = all2-above pointer_fits (λ x y. true) (λ x y v a b. refl) r.pointers s.pointers u.pointers p.pointers q.pointers;
      pairs = all2-above pair_fits (λ x y. true) (λ x y v a b. refl) r.pairs s.pairs u.pairs p.pairs q.pairs;
    }

pub joined-least : (r s : Row) → Agreeing r s → IsLeastAbove r s (joined r s)
joined-least r s A = record {
  left = fits-from r (joined r s) (record {
    bounds = zip2-left nat_le (λ x y. true) max (λ x y h. max-left x y) r.bounds s.bounds A.bounds;
    slots = zip2-left slot_fits slots_agree slot_join slot-left r.slots s.slots A.slots;
    pointers = zip2-left pointer_fits (λ x y. true) pointer_join (λ x y h. pointer-left x y) r.pointers s.pointers A.pointers;
    pairs = zip2-left pair_fits (λ x y. true) pair_join (λ x y h. pair-left x y) r.pairs s.pairs A.pairs;
  });
  right = fits-from s (joined r s) (record {
    bounds = zip2-right nat_le (λ x y. true) max (λ x y h. max-right x y) r.bounds s.bounds A.bounds;
    slots = zip2-right slot_fits slots_agree slot_join slot-right r.slots s.slots A.slots;
    pointers = zip2-right pointer_fits (λ x y. true) pointer_join (λ x y h. pointer-right x y) r.pointers s.pointers A.pointers;
    pairs = zip2-right pair_fits (λ x y. true) pair_join (λ x y h. pair-right x y) r.pairs s.pairs A.pairs;
  });
  least = λ u h j. (
      let p = fitting r u h in
      let q = fitting s u j in
      fits-from (joined r s) u (record {
        bounds = zip2-least nat_le max max-least r.bounds s.bounds u.bounds p.bounds q.bounds;
        slots = zip2-least slot_fits slot_join slot-least r.slots s.slots u.slots p.slots q.slots;
        pointers = zip2-least pointer_fits pointer_join pointer-least r.pointers s.pointers u.pointers p.pointers q.pointers;
        pairs = zip2-least pair_fits pair_join pair-least r.pairs s.pairs u.pairs p.pairs q.pairs;
      })
      );
}

-- rows that do not agree fit nothing together
pub apart-fit : (r s : Row) → agree r s ≡ false → FitNothing r s
apart-fit r s e = λ u h j. false≢true (sym e ∙ (agreeing r s u h j).slots)

-- rows of the shape that the format requires
pub shaped-agree : (r s : Row) → is_shaped r ≡ true → is_shaped s ≡ true → agree r s ≡ true → Agreeing r s
shaped-agree r s h j e =
    let p = shape-parts r h in
    let q = shape-parts s j in
    record {
      bounds = as_long-from r.bounds s.bounds (p.bounds ∙ sym q.bounds);
      slots = e;
      pointers = as_long-from r.pointers s.pointers (p.pointers ∙ sym q.pointers);
      pairs = as_long-from r.pairs s.pairs (p.pairs ∙ sym q.pairs);
    }
