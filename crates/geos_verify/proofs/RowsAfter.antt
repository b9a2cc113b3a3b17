-- A row that fits another still does after an instruction.
use Rattle.std.proofs.Common.{◌≡◌, ℕ, ◌≤◌, ◌+◌, ◌*◌, ◌/◌, ◌^◌, Bool, true, false, not, List, [], ◌∷◌, map, Option, Some, None, get_or, slice_get, refl, ap, ◌∙◌, arith}
use Rattle.std.specs.Prelude.{◌&&◌, ◌||◌, ◌==◌, nat_le, min, if◌then◌else◌}
use Rattle.std.proofs.lemmas.Bool.{and_parts, leb-true, le-leb, eqb-true, false≢true}
use Rattle.std.proofs.Math.Nat.{mul-le-mul_right, div-mul-le_self}
use Rattle.std.proofs.lemmas.Nat.{le-div, pow_pos}
use Rattle.geos_opcodes.specs.declared.opcode.Opcode.{Opcode}
use Rattle.geos_opcodes.specs.declared.opcode.Opcode.TheVariants.{Ldi, Mov, Add, Sub, And, Shr, Muli, Chk, Call}
use Rattle.geos_opcodes.specs.declared.facts.Yields.{Yields}
use Rattle.geos_opcodes.specs.declared.facts.Yields.TheVariants.{Nothing, Computed, ByteInA, WordInA, WordInB, WordInAAndB}
use Rattle.geos_image.specs.declared.instr.Instr.{Instr}
use Rattle.geos_image.specs.declared.row.Row.{Row}
use Rattle.geos_image.specs.declared.row.Pointer.{Pointer}
use Rattle.geos_image.specs.declared.row.SlotState.{SlotState}
use Rattle.geos_image.specs.declared.row.SlotState.TheVariants.{Empty, Mem, Vm, Db}
use Rattle.geos_image.specs.declared.routine.Routine.{Routine}
use Rattle.geos_opcodes.specs.Facts.{facts, operands_of, uses_of}
use Rattle.geos_image.specs.Parts.{Parts}
use Rattle.geos_opcodes.specs.declared.uses.Kind.{Kind}
use Rattle.geos_opcodes.specs.declared.uses.Kind.TheVariants.{DbGroup}
use Rattle.geos_opcodes.specs.declared.uses.SlotUse.{SlotUse}
use Rattle.geos_opcodes.specs.declared.uses.SlotUse.TheVariants.{LocksNew, Locks, Unlocks, Marks, Compares, Moves, MovesGroup}
use Rattle.geos_opcodes.specs.declared.uses.PointerUse.{PointerUse}
use Rattle.geos_opcodes.specs.declared.uses.PointerUse.TheVariants.{Sets, Duplicates}
use Rattle.geos_opcodes.specs.declared.uses.Uses.{Uses}
use Rattle.geos_verify.specs.Lists.{all2}
use Rattle.geos_verify.specs.Pairs.{slot_pairs, is_pair, has_slot, each_pair, without_slot, has_pair, are_apart}
use Rattle.geos_verify.specs.Rows.{mark_fits, same_flag, bound, with_bound, or_any, computed, with_result, bounded, slot_state, kind_in, are_alike, holds_kind, held_state, marked_state, slots_after, pairs_after, pointer_at, may_be_same, stale_where, pointers_kept, with_pointer, used, refused, exit_row, row_along, row_branching, slot_fits, pointer_fits, pair_fits, fits}
use Rattle.geos_verify.specs.Touched.{calls}
use Rattle.geos_verify.proofs.Along.{row_along-used}
use Rattle.geos_verify.proofs.Pairwise.{both, all2-set, all2-get}
use Rattle.geos_verify.proofs.RowsFit.{fitting, fits-from, fits-refl, slot-refl, pointer-none, pointer-refl}

-- Bounds

with_bound-mono : (r s : Row) (a m n : ℕ) → fits r s ≡ true → m ≤ n → fits (with_bound a m r) (with_bound a n s) ≡ true
with_bound-mono r s a m n h le =
    let p = fitting r s h in
    fits-from (with_bound a m r) (with_bound a n s) (record {
      bounds = all2-set nat_le r.bounds s.bounds a m n p.bounds (le-leb m n le);
      slots = p.slots;
      pointers = p.pointers;
      pairs = p.pairs;
    })

pub bound-mono : (r s : Row) (a : ℕ) → fits r s ≡ true → bound r a ≤ bound s a
bound-mono r s a h = leb-true (bound r a) (bound s a) (all2-get nat_le r.bounds s.bounds a 0 refl ((fitting r s h).bounds))

shift-mono : (x m n : ℕ) → x ≤ m → x / 2 ^ n ≤ m / 2 ^ n
shift-mono x m n h = le-div (x / 2 ^ n) m (2 ^ n) (pow_pos n) (omega (arith, div-mul-le_self x (2 ^ n)))

product-mono : (x m n : ℕ) → x ≤ m → or_any (x * n) ≤ or_any (m * n)
product-mono x m n h = let k = mul-le-mul_right n h in omega arith

module _ (i : Instr) (r s : Row) (h : fits r s ≡ true) where
  -- a result of which nothing depends on the row
  fixed : (a n : ℕ) → fits (with_bound a n r) (with_bound a n s) ≡ true
  fixed a n = with_bound-mono r s a n n h (omega arith)

  computed-mono : (opcode : Opcode) → fits (computed i opcode r) (computed i opcode s) ≡ true
  computed-mono Ldi = fixed i.a i.imm
  computed-mono Add =
      let b = bound-mono r s i.b h in
      let c = bound-mono r s i.c h in
      with_bound-mono r s i.a (or_any (bound r i.b + bound r i.c)) (or_any (bound s i.b + bound s i.c)) h (omega arith)
  computed-mono Mov = with_bound-mono r s i.a (bound r i.b) (bound s i.b) h (bound-mono r s i.b h)
  computed-mono Sub = fixed i.a 65535
  computed-mono And =
      let b = bound-mono r s i.b h in
      with_bound-mono r s i.a (min (bound r i.b) i.imm) (min (bound s i.b) i.imm) h (omega arith)
  computed-mono Shr = with_bound-mono r s i.a (bound r i.b / 2 ^ i.imm) (bound s i.b / 2 ^ i.imm) h
      (shift-mono (bound r i.b) (bound s i.b) i.imm (bound-mono r s i.b h))
  computed-mono Muli = with_bound-mono r s i.a (or_any (bound r i.b * i.imm)) (or_any (bound s i.b * i.imm)) h
      (product-mono (bound r i.b) (bound s i.b) i.imm (bound-mono r s i.b h))
  computed-mono Chk =
      let a = bound-mono r s i.a h in
      with_bound-mono r s i.a (min (bound r i.a) i.imm) (min (bound s i.a) i.imm) h (omega arith)
  computed-mono _ = h

  result-mono : (opcode : Opcode) (yields : Yields) → fits (with_result i opcode yields r) (with_result i opcode yields s) ≡ true
  result-mono opcode Nothing = h
  result-mono opcode Computed = computed-mono opcode
  result-mono opcode ByteInA = fixed i.a 255
  result-mono opcode WordInA = fixed i.a 65535
  result-mono opcode WordInB = fixed i.b 65535
  result-mono opcode WordInAAndB = with_bound-mono (with_bound i.a 65535 r) (with_bound i.a 65535 s) i.b 65535 65535 (fixed i.a 65535) (omega arith)

  bounded-mono : (opcode : Opcode) → fits (bounded i opcode r) (bounded i opcode s) ≡ true
  bounded-mono opcode = result-mono opcode (facts opcode).yields

-- Slots

pub slot-mono : (r s : Row) (a : ℕ) → fits r s ≡ true → slot_fits (slot_state r a) (slot_state s a) ≡ true
slot-mono r s a h = all2-get slot_fits r.slots s.slots a Empty refl ((fitting r s h).slots)

kind-same : (x y : SlotState) → slot_fits x y ≡ true → kind_in x ≡ kind_in y
kind-same Empty Empty h = refl
kind-same Mem Mem h = refl
kind-same (Vm a l) (Vm b m) h = refl
kind-same (Db a) (Db b) h = refl
kind-same _ _ h = absurd (false≢true h)

pub same-kind : (r s : Row) (a : ℕ) → fits r s ≡ true → kind_in (slot_state r a) ≡ kind_in (slot_state s a)
same-kind r s a h = kind-same (slot_state r a) (slot_state s a) (slot-mono r s a h)

pub same-alike : (r s : Row) (a b : ℕ) → fits r s ≡ true → are_alike (slot_state r a) (slot_state r b) ≡ are_alike (slot_state s a) (slot_state s b)
same-alike r s a b h = rw (same-kind r s a h, same-kind r s b h) refl

pub same-holds : (r s : Row) (kind : Kind) (a : ℕ) → fits r s ≡ true → holds_kind kind (slot_state r a) ≡ holds_kind kind (slot_state s a)
same-holds r s kind a h = rw (same-kind r s a h) refl

marked-mono : (x y : SlotState) → slot_fits x y ≡ true → slot_fits (marked_state x) (marked_state y) ≡ true
marked-mono Empty Empty h = refl
marked-mono Mem Mem h = refl
marked-mono (Vm a l) (Vm b m) h = (and_parts (mark_fits a b) (same_flag l m) h).1
marked-mono (Db a) (Db b) h = refl
marked-mono _ _ h = absurd (false≢true h)

slots_after-mono : (i : Instr) (slot : SlotUse) (xs ys : List SlotState) → all2 slot_fits xs ys ≡ true
    → all2 slot_fits (slots_after i slot xs) (slots_after i slot ys) ≡ true
slots_after-mono i (LocksNew kind) xs ys h = all2-set slot_fits xs ys i.a (held_state kind true) (held_state kind true) h
    (slot-refl (held_state kind true))
slots_after-mono i (Locks kind) xs ys h = all2-set slot_fits xs ys i.a (held_state kind false) (held_state kind false) h
    (slot-refl (held_state kind false))
slots_after-mono i (Unlocks kind) xs ys h = all2-set slot_fits xs ys i.a Empty Empty h refl
slots_after-mono i (Marks kind) xs ys h =
    let x = get_or xs i.a Empty in
    let y = get_or ys i.a Empty in
    all2-set slot_fits xs ys i.a (marked_state x) (marked_state y) h (marked-mono x y (all2-get slot_fits xs ys i.a Empty refl h))
slots_after-mono i _ xs ys h = h

-- Pairs

and-mono : (a b c : Bool) → pair_fits a b ≡ true → pair_fits (a && c) (b && c) ≡ true
and-mono true true true h = refl
and-mono true true false h = refl
and-mono true false true h = refl
and-mono true false false h = refl
and-mono false true c h = absurd cc
and-mono false false c h = refl

or-mono : (a b c d : Bool) → pair_fits a c ≡ true → pair_fits b d ≡ true → pair_fits (a || b) (c || d) ≡ true
or-mono true b c d h j = refl
or-mono false true c d h j = refl
or-mono false false false false h j = refl
or-mono false false true d h j = absurd cc
or-mono false false false true h j = absurd cc

pair-same : (a b : Bool) → a ≡ b → pair_fits a b ≡ true
pair-same true true e = refl
pair-same false false e = refl
pair-same true false e = refl
pair-same false true e = absurd cc

each_pair-mono : (f g : Bool → ℕ × ℕ → Bool) → ((known wanted : Bool) (pair : ℕ × ℕ) → pair_fits known wanted ≡ true
    → pair_fits (f known pair) (g wanted pair) ≡ true)
    → (xs ys : List Bool) (pairs : List (ℕ × ℕ)) → all2 pair_fits xs ys ≡ true → all2 pair_fits (each_pair f xs pairs) (each_pair g ys pairs) ≡ true
each_pair-mono f g m [] [] pairs h = refl
each_pair-mono f g m [] (y ∷ ys) pairs h = absurd cc
each_pair-mono f g m (x ∷ xs) [] pairs h = absurd cc
each_pair-mono f g m (x ∷ xs) (y ∷ ys) [] h = refl
each_pair-mono f g m (x ∷ xs) (y ∷ ys) (pair ∷ pairs) h =
    let p = and_parts (pair_fits x y) (all2 pair_fits xs ys) h in
    both (pair_fits (f x pair) (g y pair)) (all2 pair_fits (each_pair f xs pairs) (each_pair g ys pairs)) (m x y pair p.0)
    (each_pair-mono f g m xs ys pairs p.1)

has_pair-mono : (a b : ℕ) (xs ys : List Bool) (pairs : List (ℕ × ℕ)) → all2 pair_fits xs ys ≡ true
    → pair_fits (has_pair a b xs pairs) (has_pair a b ys pairs) ≡ true
has_pair-mono a b [] [] pairs h = refl
has_pair-mono a b [] (y ∷ ys) pairs h = absurd cc
has_pair-mono a b (x ∷ xs) [] pairs h = absurd cc
has_pair-mono a b (x ∷ xs) (y ∷ ys) [] h = refl
has_pair-mono a b (x ∷ xs) (y ∷ ys) (pair ∷ pairs) h =
    let p = and_parts (pair_fits x y) (all2 pair_fits xs ys) h in
    or-mono (x && is_pair a b pair) (has_pair a b xs pairs) (y && is_pair a b pair) (has_pair a b ys pairs)
    (and-mono x y (is_pair a b pair) p.0) (has_pair-mono a b xs ys pairs p.1)

-- what is known of a pair once a new block of the kind is locked into slot a: it is none that another slot of its
-- kind holds
abbrev with_new : ℕ → Kind → Row → Bool → ℕ × ℕ → Bool
with_new a kind row known pair = known || (pair.0 == a && holds_kind kind (slot_state row (pair.1))) ||
    (pair.1 == a && holds_kind kind (slot_state row (pair.0)))

new-mono : (r s : Row) (a : ℕ) (kind : Kind) → fits r s ≡ true → (known wanted : Bool) (pair : ℕ × ℕ)
    → pair_fits known wanted ≡ true → pair_fits (with_new a kind r known pair) (with_new a kind s wanted pair) ≡ true
new-mono r s a kind h known wanted pair j =
    let first : Row → Bool = λ row. pair.0 == a && holds_kind kind (slot_state row (pair.1)) in
    let second : Row → Bool = λ row. pair.1 == a && holds_kind kind (slot_state row (pair.0)) in
    let first_same : first r ≡ first s = ap (λ b. pair.0 == a && b) (same-holds r s kind (pair.1) h) in
    let second_same : second r ≡ second s = ap (λ b. pair.1 == a && b) (same-holds r s kind (pair.0) h) in
    or-mono (known || first r) (second r) (wanted || first s) (second s)
    (or-mono known (first r) wanted (first s) j (pair-same (first r) (first s) first_same)) (pair-same (second r) (second s) second_same)

dropped-mono : (a : ℕ) (xs ys : List Bool) → all2 pair_fits xs ys ≡ true → all2 pair_fits (without_slot a xs) (without_slot a ys) ≡ true
dropped-mono a xs ys h = each_pair-mono (λ known pair. known && not (has_slot a pair)) (λ known pair. known && not (has_slot a pair))
    (λ known wanted pair j. and-mono known wanted (not (has_slot a pair)) j) xs ys slot_pairs h

pairs_after-mono : (i : Instr) (slot : SlotUse) (r s : Row) → fits r s ≡ true → all2 pair_fits (pairs_after i slot r) (pairs_after i slot s) ≡ true
pairs_after-mono i (LocksNew kind) r s h = each_pair-mono (with_new i.a kind r) (with_new i.a kind s)
    (new-mono r s i.a kind h) r.pairs s.pairs slot_pairs ((fitting r s h).pairs)
pairs_after-mono i (Locks kind) r s h = dropped-mono i.a r.pairs s.pairs ((fitting r s h).pairs)
pairs_after-mono i (Unlocks kind) r s h = dropped-mono i.a r.pairs s.pairs ((fitting r s h).pairs)
pairs_after-mono i Compares r s h =
    each_pair-mono (λ known pair. known || is_pair i.a i.b pair) (λ known pair. known || is_pair i.a i.b pair)
    (λ known wanted pair j. or-mono known (is_pair i.a i.b pair) wanted (is_pair i.a i.b pair) j
    (pair-same (is_pair i.a i.b pair) (is_pair i.a i.b pair) refl)) r.pairs s.pairs slot_pairs ((fitting r s h).pairs)
pairs_after-mono i _ r s h = (fitting r s h).pairs

-- Pointers

pub pointer-mono : (r s : Row) (p : ℕ) → fits r s ≡ true → pointer_fits (pointer_at r p) (pointer_at s p) ≡ true
pointer-mono r s p h = all2-get pointer_fits r.pointers s.pointers p None refl ((fitting r s h).pointers)

-- what is different for the weaker row is different for the stronger one
apart-fewer : (kinds known wanted : Bool) → pair_fits known wanted ≡ true → (kinds && not wanted) ≡ false → (kinds && not known) ≡ false
apart-fewer false known wanted h e = refl
apart-fewer true true wanted h e = refl
apart-fewer true false true h e = absurd cc
apart-fewer true false false h e = e

same-fewer : (r s : Row) (a b : ℕ) → fits r s ≡ true → may_be_same s a b ≡ false → may_be_same r a b ≡ false
same-fewer r s a b h e =
    let alike = same-alike r s b a h in
    let apart = has_pair-mono a b r.pairs s.pairs slot_pairs ((fitting r s h).pairs) in
    let here : (are_alike (slot_state r b) (slot_state r a) && not (are_apart a b s.pairs)) ≡ false =
    ap (λ k. k && not (are_apart a b s.pairs)) alike ∙ e in
    apart-fewer (are_alike (slot_state r b) (slot_state r a)) (are_apart a b r.pairs) (are_apart a b s.pairs) apart here

-- pointers that stay in the weaker row stay in the stronger one
module _ (lost gone : ℕ → Bool) (fewer : (b : ℕ) → gone b ≡ false → lost b ≡ false) where
  stale_where-mono : (p q : Option Pointer) → pointer_fits p q ≡ true → pointer_fits (stale_where lost p) (stale_where gone q) ≡ true
  stale_where-mono p None j = pointer-none (stale_where lost p)
  stale_where-mono None (Some q) j = absurd cc
  stale_where-mono (Some p) (Some q) j = by_test (gone q.slot) refl
    where
      slots : p.slot ≡ q.slot
      slots = eqb-true p.slot q.slot ((and_parts (p.slot == q.slot) (nat_le q.least p.least) j).0)

      by_test : (b : Bool) → gone q.slot ≡ b → pointer_fits (stale_where lost (Some p)) (stale_where gone (Some q)) ≡ true
      by_test true e = rw e (pointer-none (stale_where lost (Some p)))
      by_test false e =
          let stays : lost p.slot ≡ false = fewer p.slot (ap gone slots ∙ e) in
          rw (e, stays) j

  all-stale_where : (ps qs : List (Option Pointer)) → all2 pointer_fits ps qs ≡ true
      → all2 pointer_fits (map (stale_where lost) ps) (map (stale_where gone) qs) ≡ true
  all-stale_where [] [] j = refl
  all-stale_where [] (q ∷ qs) j = absurd cc
  all-stale_where (p ∷ ps) [] j = absurd cc
  all-stale_where (p ∷ ps) (q ∷ qs) j =
      let a = and_parts (pointer_fits p q) (all2 pointer_fits ps qs) j in
      both (pointer_fits (stale_where lost p) (stale_where gone q)) (all2 pointer_fits (map (stale_where lost) ps) (map (stale_where gone) qs))
      (stale_where-mono p q a.0) (all-stale_where ps qs a.1)

pointers_kept-mono : (i : Instr) (slot : SlotUse) (r s : Row) → fits r s ≡ true
    → all2 pointer_fits (pointers_kept i slot r) (pointers_kept i slot s) ≡ true
pointers_kept-mono i Moves r s h = all-stale_where (may_be_same r i.a) (may_be_same s i.a) (λ b e. same-fewer r s i.a b h e)
    r.pointers s.pointers ((fitting r s h).pointers)
pointers_kept-mono i (Unlocks kind) r s h = all-stale_where (λ b. b == i.a) (λ b. b == i.a) (λ b e. e) r.pointers
    s.pointers ((fitting r s h).pointers)
pointers_kept-mono i MovesGroup r s h =
    all-stale_where (λ b. holds_kind DbGroup (slot_state r b)) (λ b. holds_kind DbGroup (slot_state s b))
    (λ b e. same-holds r s DbGroup b h ∙ e) r.pointers s.pointers ((fitting r s h).pointers)
pointers_kept-mono i _ r s h = (fitting r s h).pointers

with_pointer-mono : (i : Instr) (pointer : PointerUse) (ps qs : List (Option Pointer)) → all2 pointer_fits ps qs ≡ true
    → all2 pointer_fits (with_pointer i pointer ps) (with_pointer i pointer qs) ≡ true
with_pointer-mono i Sets ps qs h =
    let set_to : Option Pointer = Some (record { slot = i.a; least = i.imm }) in
    all2-set pointer_fits ps qs i.b set_to set_to h (pointer-refl set_to)
with_pointer-mono i Duplicates ps qs h = all2-set pointer_fits ps qs i.a (get_or ps i.b None) (get_or qs i.b None) h
    (all2-get pointer_fits ps qs i.b None refl h)
with_pointer-mono i _ ps qs h = h

-- After an instruction

used-mono : (i : Instr) (uses : Uses) (r s : Row) → fits r s ≡ true → fits (used i uses r) (used i uses s) ≡ true
used-mono i uses r s h =
    let p = fitting r s h in
    fits-from (used i uses r) (used i uses s) (record {
      bounds = p.bounds;
      slots = slots_after-mono i uses.slot r.slots s.slots p.slots;
      pointers = with_pointer-mono i uses.pointer (pointers_kept i uses.slot r) (pointers_kept i uses.slot s) (pointers_kept-mono i uses.slot r s h);
      pairs = pairs_after-mono i uses.slot r s h;
    })

exit-mono : (image : Parts) (callee : ℕ) (r s : Row) (o : Option Routine) → slice_get image.routines callee ≡ o
    → fits r s ≡ true → fits (exit_row image callee r) (exit_row image callee s) ≡ true
exit-mono image callee r s None e h = rw (e, exit_row) h
exit-mono image callee r s (Some routine) e h = rw (e, exit_row) (fits-refl routine.exit)

pub is-call : (opcode : Opcode) → calls opcode ≡ true → opcode ≡ Call
is-call Call e = refl
is-call _ e = absurd (false≢true e)

pub along-mono : (image : Parts) (i : Instr) (opcode : Opcode) (r s : Row) → fits r s ≡ true
    → fits (row_along image i opcode r) (row_along image i opcode s) ≡ true
along-mono image i opcode r s h = by_test (calls opcode) refl
  where
    by_test : (b : Bool) → calls opcode ≡ b → fits (row_along image i opcode r) (row_along image i opcode s) ≡ true
    by_test true e = rw (is-call opcode e) (exit-mono image i.imm r s (slice_get image.routines i.imm) refl h)
    by_test false e =
        let no_call : opcode ≡ Call → ⊥ = (λ same. absurd (called same e)) in
        rw (row_along-used image i opcode r no_call, row_along-used image i opcode s no_call)
        (used-mono i (uses_of opcode) (bounded i opcode r) (bounded i opcode s) (bounded-mono i r s h opcode))
      where
        called : opcode ≡ Call → calls opcode ≡ false → ⊥
        called same e = (let at_call : calls Call ≡ false = rw same at e in absurd cc)

refused-mono : (i : Instr) (slot : SlotUse) (r s : Row) → fits r s ≡ true → fits (refused i slot r) (refused i slot s) ≡ true
refused-mono i slot r s h =
    let p = fitting r s h in
    fits-from (refused i slot r) (refused i slot s) (record {
      bounds = all2-set nat_le r.bounds s.bounds 7 15 15 p.bounds refl;
      slots = p.slots;
      pointers = pointers_kept-mono i slot r s h;
      pairs = p.pairs;
    })

branch-mono : (i : Instr) (refusable : Bool) (slot : SlotUse) (r s : Row) → fits r s ≡ true
    → fits (if refusable then refused i slot r else r) (if refusable then refused i slot s else s) ≡ true
branch-mono i true slot r s h = refused-mono i slot r s h
branch-mono i false slot r s h = h

pub branching-mono : (i : Instr) (opcode : Opcode) (r s : Row) → fits r s ≡ true → fits (row_branching i opcode r) (row_branching i opcode s) ≡ true
branching-mono i opcode r s h = branch-mono i ((operands_of opcode).refusable) ((uses_of opcode).slot) r s h
