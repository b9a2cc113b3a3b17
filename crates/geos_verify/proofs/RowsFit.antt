-- Fitting is an order on rows.
use Rattle.std.proofs.Common.{subst, sym, ◌≡◌, ℕ, zero, suc, Bool, true, false, List, [], ◌∷◌, Option, Some, None, get_or, refl, ◌∙◌, arith}
use Rattle.std.specs.Prelude.{◌&&◌, ◌==◌, nat_le}
use Rattle.std.proofs.lemmas.Bool.{and_parts, leb-true, le-leb, eqb-true, eq-eqb, false≢true}
use Rattle.geos_image.specs.declared.row.Row.{Row}
use Rattle.geos_image.specs.declared.row.Pointer.{Pointer}
use Rattle.geos_image.specs.declared.row.SlotState.{SlotState}
use Rattle.geos_image.specs.declared.row.SlotState.TheVariants.{Empty, Mem, Vm, Db}
use Rattle.geos_verify.specs.Lists.{all2}
use Rattle.geos_verify.specs.Rows.{same_flag, mark_fits, slot_fits, pointer_fits, pair_fits, fits, is_empty}
use Rattle.geos_verify.proofs.Pairwise.{both, all2-trans, all2-refl}

-- the parts of the test
pub record Fitting (r s : Row) : Type 0 where
  pub bounds : all2 nat_le r.bounds s.bounds ≡ true
  pub slots : all2 slot_fits r.slots s.slots ≡ true
  pub pointers : all2 pointer_fits r.pointers s.pointers ≡ true
  pub pairs : all2 pair_fits r.pairs s.pairs ≡ true

pub fitting : (r s : Row) → fits r s ≡ true → Fitting r s
fitting r s h =
    let bounds = all2 nat_le r.bounds s.bounds in
    let slots = all2 slot_fits r.slots s.slots in
    let pointers = all2 pointer_fits r.pointers s.pointers in
    let a = and_parts (bounds && slots && pointers) (all2 pair_fits r.pairs s.pairs) h in
    let b = and_parts (bounds && slots) pointers a.0 in
    let c = and_parts bounds slots b.0 in
    record { bounds = c.0; slots = c.1; pointers = b.1; pairs = a.1 }

pub fits-from : (r s : Row) → Fitting r s → fits r s ≡ true
fits-from r s f =
    let bounds = all2 nat_le r.bounds s.bounds in
    let slots = all2 slot_fits r.slots s.slots in
    let pointers = all2 pointer_fits r.pointers s.pointers in
    let pairs = all2 pair_fits r.pairs s.pairs in
    both (bounds && slots && pointers) pairs (both (bounds && slots) pointers (both bounds slots f.bounds f.slots) f.pointers) f.pairs

-- Bounds

pub le-trans : (x y z : ℕ) → nat_le x y ≡ true → nat_le y z ≡ true → nat_le x z ≡ true
le-trans x y z h j = let p = leb-true x y h in let q = leb-true y z j in le-leb x z (omega arith)

pub le-refl : (x : ℕ) → nat_le x x ≡ true
le-refl x = le-leb x x (omega arith)

-- Slots

mark-refl : (a : Bool) → mark_fits a a ≡ true
mark-refl true = refl
mark-refl false = refl

mark-trans : (a b c : Bool) → mark_fits a b ≡ true → mark_fits b c ≡ true → mark_fits a c ≡ true
mark-trans true b c h j = refl
mark-trans false true c h j = absurd cc
mark-trans false false c h j = j

flag-refl : (a : Bool) → same_flag a a ≡ true
flag-refl true = refl
flag-refl false = refl

pub flag-is : (a b : Bool) → same_flag a b ≡ true → a ≡ b
flag-is true true h = refl
flag-is false false h = refl
flag-is true false h = absurd cc
flag-is false true h = absurd cc

pub slot-refl : (x : SlotState) → slot_fits x x ≡ true
slot-refl Empty = refl
slot-refl Mem = refl
slot-refl (Vm marked borrowed) = both (mark_fits marked marked) (same_flag borrowed borrowed) (mark-refl marked) (flag-refl borrowed)
slot-refl (Db marked) = mark-refl marked

slot-trans : (x y z : SlotState) → slot_fits x y ≡ true → slot_fits y z ≡ true → slot_fits x z ≡ true
slot-trans Empty Empty z h j = j
slot-trans Mem Mem z h j = j
slot-trans (Vm a l) (Vm b m) (Vm c n) h j =
    let p = and_parts (mark_fits a b) (same_flag l m) h in
    let q = and_parts (mark_fits b c) (same_flag m n) j in
    both (mark_fits a c) (same_flag l n) (mark-trans a b c p.0 q.0) (subst (λ x. same_flag x n ≡ true) (sym (flag-is l m p.1)) q.1)
slot-trans (Db a) (Db b) (Db c) h j = mark-trans a b c h j
slot-trans _ _ _ h j = absurd cc

-- slots that fit are empty together
pub slot-empty : (x y : SlotState) → slot_fits x y ≡ true → is_empty x ≡ is_empty y
slot-empty Empty Empty h = refl
slot-empty Mem Mem h = refl
slot-empty (Vm a l) (Vm b m) h = refl
slot-empty (Db a) (Db b) h = refl
slot-empty _ _ h = absurd (false≢true h)

pub empty-at : (xs us : List SlotState) (k : ℕ) → all2 slot_fits xs us ≡ true → is_empty (get_or xs k Empty) ≡ is_empty (get_or us k Empty)
empty-at [] [] k h = refl
empty-at [] (u ∷ us) k h = absurd cc
empty-at (x ∷ xs) [] k h = absurd cc
empty-at (x ∷ xs) (u ∷ us) zero h = slot-empty x u ((and_parts (slot_fits x u) (all2 slot_fits xs us) h).0)
empty-at (x ∷ xs) (u ∷ us) (suc k) h = empty-at xs us k ((and_parts (slot_fits x u) (all2 slot_fits xs us) h).1)

-- Pointers

pub pointer-none : (p : Option Pointer) → pointer_fits p None ≡ true
pointer-none None = refl
pointer-none (Some p) = refl

pub pointer-refl : (p : Option Pointer) → pointer_fits p p ≡ true
pointer-refl None = refl
pointer-refl (Some p) = both (p.slot == p.slot) (nat_le p.least p.least) (eq-eqb p.slot p.slot refl) (le-refl p.least)

pointer-trans : (p q o : Option Pointer) → pointer_fits p q ≡ true → pointer_fits q o ≡ true → pointer_fits p o ≡ true
pointer-trans p q None h j = pointer-none p
pointer-trans p None (Some o) h j = absurd cc
pointer-trans None (Some q) (Some o) h j = absurd cc
pointer-trans (Some p) (Some q) (Some o) h j =
    let a = and_parts (p.slot == q.slot) (nat_le q.least p.least) h in
    let b = and_parts (q.slot == o.slot) (nat_le o.least q.least) j in
    both (p.slot == o.slot) (nat_le o.least p.least) (eq-eqb p.slot o.slot (eqb-true p.slot q.slot a.0 ∙ eqb-true q.slot o.slot b.0))
    (le-trans o.least q.least p.least b.1 a.1)

-- Pairs

pub pair-refl : (a : Bool) → pair_fits a a ≡ true
pair-refl true = refl
pair-refl false = refl

pair-trans : (a b c : Bool) → pair_fits a b ≡ true → pair_fits b c ≡ true → pair_fits a c ≡ true
pair-trans true b c h j = refl
pair-trans false true c h j = absurd cc
pair-trans false false c h j = j

-- Rows

pub fits-trans : (r s t : Row) → fits r s ≡ true → fits s t ≡ true → fits r t ≡ true
fits-trans r s t h j =
    let p = fitting r s h in
    let q = fitting s t j in
    fits-from r t (record {
      bounds = all2-trans nat_le le-trans r.bounds s.bounds t.bounds p.bounds q.bounds;
      slots = all2-trans slot_fits slot-trans r.slots s.slots t.slots p.slots q.slots;
      pointers = all2-trans pointer_fits pointer-trans r.pointers s.pointers t.pointers p.pointers q.pointers;
      pairs = all2-trans pair_fits pair-trans r.pairs s.pairs t.pairs p.pairs q.pairs;
    })

pub fits-refl : (r : Row) → fits r r ≡ true
fits-refl r = fits-from r r (record {
  bounds = all2-refl nat_le le-refl r.bounds;
  slots = all2-refl slot_fits slot-refl r.slots;
  pointers = all2-refl pointer_fits pointer-refl r.pointers;
  pairs = all2-refl pair_fits pair-refl r.pairs;
})
