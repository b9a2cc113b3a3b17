-- What each change of a state does to the row that it meets.
use Rattle.geos_verify.proofs.RowsFit.{flag-is}
use Rattle.std.proofs.Common.{◌≡◌, ℕ, ◌+◌, ◌%◌, ◌≤◌, Bool, true, false, Option, Some, None, refl, ◌∙◌, arith, ◌*◌, ◌/◌, ◌^◌}
use Rattle.std.specs.Prelude.{nat_le, ◌==◌, ◌&&◌, min, bit_and}
use Rattle.std.proofs.lemmas.Bool.{eqb-true, and_parts, leb-true}
use Rattle.std.proofs.Math.Nat.{mul-le-mul_right, div-mul-le_self}
use Rattle.std.proofs.lemmas.Nat.{and_le_l, and_le_r, le-div, pow_pos}
use Rattle.std.proofs.lemmas.List.{set-get_or}
use Rattle.geos_image.specs.declared.row.Row.{Row}
use Rattle.geos_image.specs.declared.row.Pointer.{Pointer}
use Rattle.geos_image.specs.declared.row.SlotState.{SlotState}
use Rattle.geos_image.specs.declared.row.SlotState.TheVariants.{Empty, Mem, Vm, Db}
use Rattle.geos_verify.specs.Lists.{all2}
use Rattle.geos_verify.specs.Rows.{same_flag, bound, with_bound, or_any, mark_fits, slot_fits, pointer_fits, pair_fits, fits}
use Rattle.geos_calls.specs.Memory.{Memory}
use Rattle.geos_verify.specs.Pairs.{slot_pairs}
use Rattle.geos_semantics.specs.State.{Held, SlotReference, State, word, with_word}
use Rattle.geos_semantics.specs.Meets.{SlotMeets, PointerMeets, PairMeets, Meets}
use Rattle.geos_semantics.proofs.Lists.{each2-set, each2-get, each2-from_test, each2-trans, each2-trans_back}

mark-known : (marked wanted : Bool) → mark_fits marked wanted ≡ true → wanted ≡ true → marked ≡ true
mark-known true wanted e is = refl
mark-known false wanted e is = absurd cc

slot-meets : (m : Memory) (h : Option Held) (x y : SlotState) → SlotMeets m h x → slot_fits x y ≡ true → SlotMeets m h y
slot-meets m h Empty Empty k e = k
slot-meets m h Mem Mem k e = k
slot-meets m None (Vm marked borrowed) (Vm wanted lent) k e = k
slot-meets m (Some held) (Vm marked borrowed) (Vm wanted lent) k e =
    let parts = and_parts (mark_fits marked wanted) (same_flag borrowed lent) e in
    (k.0, k.1 ∙ flag-is borrowed lent parts.1, λ is. k.2 (mark-known marked wanted parts.0 is))
slot-meets m None (Db marked) (Db wanted) k e = k
slot-meets m (Some held) (Db marked) (Db wanted) k e = (k.0, k.1, λ is. k.2 (mark-known marked wanted e is))
slot-meets m h _ _ k e = absurd cc

pointer-meets : (x : Option SlotReference) (y z : Option Pointer) → PointerMeets x y → pointer_fits y z ≡ true → PointerMeets x z
pointer-meets x y None m e = tt
pointer-meets x None (Some q) m e = absurd cc
pointer-meets None (Some p) (Some q) m e = absurd m
pointer-meets (Some r) (Some p) (Some q) m e =
    let parts = and_parts (p.slot == q.slot) (nat_le q.least p.least) e in
    let least = leb-true q.least p.least parts.1 in
    (m.0 ∙ eqb-true p.slot q.slot parts.0, omega (arith, m.1, least))

pair-known : (y x : Bool) → pair_fits y x ≡ true → x ≡ true → y ≡ true
pair-known true x h e = refl
pair-known false true h e = absurd cc
pair-known false false h e = absurd cc

-- a state that is as a row says is as each row says that the first one fits
pub meets-fits : (s : State) (r q : Row) → Meets s r → fits r q ≡ true → Meets s q
meets-fits s r q M h =
    let bounds = all2 nat_le r.bounds q.bounds in
    let slots = all2 slot_fits r.slots q.slots in
    let pointers = all2 pointer_fits r.pointers q.pointers in
    let pairs = all2 pair_fits r.pairs q.pairs in
    let a = and_parts (bounds && slots && pointers) pairs h in
    let b = and_parts (bounds && slots) pointers a.0 in
    let c = and_parts bounds slots b.0 in
    record {
      words = each2-trans (λ n most. n ≤ most) (λ m n. nat_le m n ≡ true) (λ n most. n ≤ most)
          (λ x y z m e. let k = leb-true y z e in omega arith) s.words r.bounds q.bounds M.words (each2-from_test nat_le r.bounds q.bounds c.0);
      slots = each2-trans (SlotMeets s.memory) (λ x y. slot_fits x y ≡ true) (SlotMeets s.memory) (slot-meets s.memory)
          s.slots r.slots q.slots M.slots (each2-from_test slot_fits r.slots q.slots c.1);
      pointers = each2-trans PointerMeets (λ x y. pointer_fits x y ≡ true) PointerMeets pointer-meets s.pointers
          r.pointers q.pointers M.pointers (each2-from_test pointer_fits r.pointers q.pointers b.1);
      pairs = each2-trans_back (λ y x. pair_fits y x ≡ true) (PairMeets s.slots) (PairMeets s.slots)
          (λ x y z p m e. m (pair-known y x p e)) q.pairs r.pairs slot_pairs (each2-from_test pair_fits r.pairs q.pairs a.1) M.pairs;
    }

-- a word that is written is within the bound that is
pub meets-word : (s : State) (r : Row) (a v n : ℕ) → Meets s r → v ≤ n → Meets (with_word a v s) (with_bound a n r)
meets-word s r a v n M le = record {
  words = each2-set (λ x y. x ≤ y) s.words r.bounds a v n M.words le;
  slots = M.slots;
  pointers = M.pointers;
  pairs = M.pairs;
}

pub word-bound : (s : State) (r : Row) (a : ℕ) → Meets s r → word s a ≤ bound r a
word-bound s r a M = each2-get (λ x y. x ≤ y) s.words r.bounds a 0 0 M.words (omega arith)

-- what a word is after the arithmetic, from the bounds before it

pub sum-bound : (x y m n : ℕ) → x ≤ m → y ≤ n → (x + y) % 65536 ≤ or_any (m + n)
sum-bound x y m n h j = omega arith

pub product-bound : (x m n : ℕ) → x ≤ m → (x * n) % 65536 ≤ or_any (m * n)
product-bound x m n h = let k = mul-le-mul_right n h in omega arith

pub and-bound : (x m n : ℕ) → x ≤ m → bit_and x n ≤ min m n
and-bound x m n h = omega (arith, and_le_l x n, and_le_r x n)

pub shift-bound : (x m n : ℕ) → x ≤ m → x / 2 ^ n ≤ m / 2 ^ n
shift-bound x m n h = le-div (x / 2 ^ n) m (2 ^ n) (pow_pos n) (omega (arith, div-mul-le_self x (2 ^ n)))

-- a word that is found to be at most n
pub meets-capped : (s : State) (r : Row) (a n : ℕ) → Meets s r → word s a ≤ n → Meets s (with_bound a (min (bound r a) n) r)
meets-capped s r a n M le = record {
  words = rw (← (set-get_or s.words a 0)) (each2-set (λ x y. x ≤ y) s.words r.bounds a (word s a) (min (bound r a) n)
      M.words (let k = word-bound s r a M in omega arith));
  slots = M.slots;
  pointers = M.pointers;
  pairs = M.pairs;
}
