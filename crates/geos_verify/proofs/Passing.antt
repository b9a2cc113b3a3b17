-- What the rules allow with a row, they allow with each row that fits it.
use Rattle.std.proofs.Common.{◌≡◌, ℕ, ◌≤◌, Bool, true, false, not, Option, Some, None, List, [], ◌∷◌, slice_get, refl, sym, ap, ◌∙◌, arith}
use Rattle.std.specs.Prelude.{◌&&◌, ◌||◌, ◌==◌, nat_le, nat_lt}
use Rattle.std.specs.List.{list_any}
use Rattle.std.proofs.lemmas.Bool.{and_parts, or_parts, leb-true, ltb-false, le-ltb, eqb-true, not-false, false≢true}
use Rattle.geos_image.specs.declared.instr.Instr.{Instr}
use Rattle.geos_image.specs.Legal.{is_own}
use Rattle.geos_image.specs.declared.row.Row.{Row}
use Rattle.geos_image.specs.declared.row.Pointer.{Pointer}
use Rattle.geos_image.specs.declared.row.SlotState.{SlotState}
use Rattle.geos_image.specs.declared.row.SlotState.TheVariants.{Empty, Mem, Vm, Db}
use Rattle.geos_image.specs.declared.routine.Routine.{Routine}
use Rattle.geos_image.specs.Parts.{Parts}
use Rattle.geos_opcodes.specs.declared.uses.Width.{Width}
use Rattle.geos_opcodes.specs.declared.uses.Offset.{Offset}
use Rattle.geos_opcodes.specs.declared.uses.Offset.TheVariants.{Fixed, Indexed, Tested}
use Rattle.geos_opcodes.specs.declared.uses.SlotUse.{SlotUse}
use Rattle.geos_opcodes.specs.declared.uses.SlotUse.TheVariants.{LocksNew, Locks, Unlocks, Marks, Compares, Moves, LooksAt, Commits}
use Rattle.geos_opcodes.specs.declared.uses.PointerUse.{PointerUse}
use Rattle.geos_opcodes.specs.declared.uses.PointerUse.TheVariants.{Loads, Stores, Copies, Duplicates, Measures}
use Rattle.geos_opcodes.specs.Facts.{uses_of}
use Rattle.geos_verify.specs.Rows.{same_flag, slot_state, pointer_at, mark_fits, slot_fits, pointer_fits, fits, is_empty, is_stale}
use Rattle.geos_verify.specs.Lists.{all2}
use Rattle.geos_verify.specs.Touched.{calls}
use Rattle.geos_verify.specs.Rules.{returns, uses_stale, stale_pointer, reach, least_at, reaches_past, passes_end, is_unmarked, pointed_state, writes_unmarked, moves_unmarked, changes_unmarked, locks_held, locks_into_held, misuses_slot, wrong_slot, is_of_file, commits_held, commits_with_held, at_routine, call_misfits, exit_misfits}
use Rattle.geos_verify.proofs.RowsFit.{flag-is, fitting, fits-trans, slot-empty}
use Rattle.geos_verify.proofs.RowsAfter.{bound-mono, slot-mono, pointer-mono, same-alike, same-holds}

-- Tests that are false

pub neither : (a b : Bool) → a ≡ false → b ≡ false → (a || b) ≡ false
neither true b p q = p
neither false b p q = q

-- false where the first part, if it holds, makes the second false
pub not-both : (a b : Bool) → (a ≡ true → b ≡ false) → (a && b) ≡ false
not-both true b k = k refl
not-both false b k = refl

pub second-false : (a b : Bool) → (a && b) ≡ false → a ≡ true → b ≡ false
second-false true b e h = e
second-false false b e h = absurd cc

pub true-not : (a : Bool) → a ≡ true → not a ≡ false
true-not true e = refl
true-not false e = absurd cc

-- Pointers

fresh-mono : (p q : Option Pointer) → pointer_fits p q ≡ true → is_stale q ≡ false → is_stale p ≡ false
fresh-mono (Some p) q h e = refl
fresh-mono None (Some q) h e = absurd cc
fresh-mono None None h e = e

least-mono : (p q : Option Pointer) → pointer_fits p q ≡ true → elim q [ None ↦ 0 | Some x ↦ x.least ] ≤ elim p [ None ↦ 0 | Some x ↦ x.least ]
least-mono p None h = omega arith
least-mono None (Some q) h = absurd cc
least-mono (Some p) (Some q) h = leb-true q.least p.least ((and_parts (p.slot == q.slot) (nat_le q.least p.least) h).1)

mark-mono : (a b : Bool) → mark_fits a b ≡ true → not b ≡ false → not a ≡ false
mark-mono true b h e = refl
mark-mono false b h e = sym h ∙ e

unmarked-mono : (x y : SlotState) → slot_fits x y ≡ true → is_unmarked y ≡ false → is_unmarked x ≡ false
unmarked-mono Empty y h e = refl
unmarked-mono Mem y h e = refl
unmarked-mono (Vm a l) (Vm b m) h e = mark-mono a b ((and_parts (mark_fits a b) (same_flag l m) h).0) e
unmarked-mono (Db a) (Db b) h e = mark-mono a b h e
unmarked-mono _ _ h e = absurd (false≢true h)

of_file-same : (x y : SlotState) → slot_fits x y ≡ true → is_of_file x ≡ is_of_file y
of_file-same Empty Empty h = refl
of_file-same Mem Mem h = refl
of_file-same (Vm a l) (Vm b m) h = refl
of_file-same (Db a) (Db b) h = refl
of_file-same _ _ h = absurd (false≢true h)

own-same : (x y : SlotState) → slot_fits x y ≡ true → is_own x ≡ is_own y
own-same Empty Empty h = refl
own-same Mem Mem h = refl
own-same (Vm a l) (Vm b m) h = ap not (flag-is l m ((and_parts (mark_fits a b) (same_flag l m) h).1))
own-same (Db a) (Db b) h = refl
own-same _ _ h = absurd (false≢true h)

-- slots hold blocks of the VM file in both rows, or in neither
file-same : (xs ys : List SlotState) → all2 slot_fits xs ys ≡ true → list_any is_of_file xs ≡ list_any is_of_file ys
file-same [] [] h = refl
file-same [] (y ∷ ys) h = absurd cc
file-same (x ∷ xs) [] h = absurd cc
file-same (x ∷ xs) (y ∷ ys) h = (let p = and_parts (slot_fits x y) (all2 slot_fits xs ys) h in rw (of_file-same x y p.0, file-same xs ys p.1) refl)

module _ (i : Instr) (r s : Row) (h : fits r s ≡ true) where
  fresh : (p : ℕ) → is_stale (pointer_at s p) ≡ false → is_stale (pointer_at r p) ≡ false
  fresh p e = fresh-mono (pointer_at r p) (pointer_at s p) (pointer-mono r s p h) e

  stale-mono : (pointer : PointerUse) → uses_stale i pointer s ≡ false → uses_stale i pointer r ≡ false
  stale-mono (Loads width offset) e = fresh i.b e
  stale-mono (Stores width offset) e = fresh i.b e
  stale-mono Copies e =
      let parts = or_parts (is_stale (pointer_at s i.a)) (is_stale (pointer_at s i.b)) e in
      neither (is_stale (pointer_at r i.a)) (is_stale (pointer_at r i.b)) (fresh i.a parts.0) (fresh i.b parts.1)
  stale-mono Duplicates e = fresh i.b e
  stale-mono Measures e = fresh i.b e
  stale-mono _ e = e

  reach-mono : (width : Width) (offset : Offset) → reach i width offset r ≤ reach i width offset s
  reach-mono width Fixed = omega arith
  reach-mono width Indexed = let below = bound-mono r s i.c h in omega arith
  reach-mono width Tested = omega arith

  longer : (p : ℕ) → least_at s p ≤ least_at r p
  longer p = least-mono (pointer_at r p) (pointer_at s p) (pointer-mono r s p h)

  within : (p m n : ℕ) → m ≤ n → nat_lt (least_at s p) n ≡ false → nat_lt (least_at r p) m ≡ false
  within p m n le e =
      let long = longer p in
      let room = ltb-false (least_at s p) n e in
      le-ltb (least_at r p) m (omega arith)

  past-mono : (pointer : PointerUse) → reaches_past i pointer s ≡ false → reaches_past i pointer r ≡ false
  past-mono (Loads width offset) e = within i.b (reach i width offset r) (reach i width offset s) (reach-mono width offset) e
  past-mono (Stores width offset) e = within i.b (reach i width offset r) (reach i width offset s) (reach-mono width offset) e
  past-mono Copies e =
      let parts = or_parts (nat_lt (least_at s i.a) i.imm) (nat_lt (least_at s i.b) i.imm) e in
      neither (nat_lt (least_at r i.a) i.imm) (nat_lt (least_at r i.b) i.imm) (within i.a i.imm i.imm (omega arith) parts.0)
      (within i.b i.imm i.imm (omega arith) parts.1)
  past-mono _ e = e

  -- a pointer of which the weaker row knows where it leads leads there
  pointed-mono : (p : ℕ) → is_stale (pointer_at s p) ≡ false → is_unmarked (pointed_state s p) ≡ false → is_unmarked (pointed_state r p) ≡ false
  pointed-mono p e unmarked = by_pointers (pointer_at r p) (pointer_at s p) (pointer-mono r s p h) e unmarked
    where
      by_pointers : (x y : Option Pointer) → pointer_fits x y ≡ true → is_stale y ≡ false
          → is_unmarked (elim y [ None ↦ Empty | Some q ↦ slot_state s q.slot ]) ≡ false
          → is_unmarked (elim x [ None ↦ Empty | Some q ↦ slot_state r q.slot ]) ≡ false
      by_pointers x None fit e unmarked = absurd cc
      by_pointers None (Some y) fit e unmarked = refl
      by_pointers (Some x) (Some y) fit e unmarked =
          let same = eqb-true x.slot y.slot ((and_parts (x.slot == y.slot) (nat_le y.least x.least) fit).0) in
          let here : is_unmarked (slot_state s x.slot) ≡ false = ap (λ k. is_unmarked (slot_state s k)) same ∙ unmarked in
          unmarked-mono (slot_state r x.slot) (slot_state s x.slot) (slot-mono r s x.slot h) here

  -- where it reads no pointer of which the weaker row knows nothing
  writes-mono : (pointer : PointerUse) → uses_stale i pointer s ≡ false → writes_unmarked i pointer s ≡ false → writes_unmarked i pointer r ≡ false
  writes-mono (Stores width offset) e w = pointed-mono i.b e w
  writes-mono Copies e w = pointed-mono i.a (or_parts (is_stale (pointer_at s i.a)) (is_stale (pointer_at s i.b)) e).0 w
  writes-mono _ e w = w

  -- Slots

  moves-mono : (slot : SlotUse) → moves_unmarked i slot s ≡ false → moves_unmarked i slot r ≡ false
  moves-mono Moves e = unmarked-mono (slot_state r i.a) (slot_state s i.a) (slot-mono r s i.a h) e
  moves-mono _ e = e

  same-empty : (a : ℕ) → is_empty (slot_state r a) ≡ is_empty (slot_state s a)
  same-empty a = slot-empty (slot_state r a) (slot_state s a) (slot-mono r s a h)

  locks-same : (slot : SlotUse) → locks_held i slot r ≡ locks_held i slot s
  locks-same (LocksNew kind) = rw (same-empty i.a) refl
  locks-same (Locks kind) = rw (same-empty i.a) refl
  locks-same _ = refl

  misuses-same : (slot : SlotUse) → misuses_slot i slot r ≡ misuses_slot i slot s
  misuses-same (Unlocks kind) = rw (same-holds r s kind i.a h, own-same (slot_state r i.a) (slot_state s i.a) (slot-mono r s i.a h)) refl
  misuses-same (Marks kind) = rw (same-holds r s kind i.a h) refl
  misuses-same Compares = rw (same-empty i.a, same-alike r s i.a i.b h) refl
  misuses-same Moves = same-empty i.a
  misuses-same LooksAt = same-empty i.a
  misuses-same _ = refl

  commits-same : (slot : SlotUse) → commits_held slot r ≡ commits_held slot s
  commits-same Commits = file-same r.slots s.slots ((fitting r s h).slots)
  commits-same _ = refl

  -- Calls and returns

  called : (image : Parts) (callee : ℕ) (o : Option Routine) → slice_get image.routines callee ≡ o
      → at_routine image callee (λ routine. fits s routine.entry) ≡ true → at_routine image callee (λ routine. fits r routine.entry) ≡ true
  called image callee None there e = rw (there, at_routine) refl
  called image callee (Some routine) there e = (let fit : fits s routine.entry ≡ true = rw (there, at_routine) at e in
      rw (there, at_routine) (fits-trans r s routine.entry h fit))

  calls-mono : (image : Parts) (index : ℕ) → call_misfits image index i s ≡ false → call_misfits image index i r ≡ false
  unfolding call_misfits
  calls-mono image index e = not-both (calls i.opcode) _ (λ is.
      let parts = or_parts (not (nat_lt i.imm index)) _ (second-false (calls i.opcode) _ e is) in
      neither (not (nat_lt i.imm index)) _ parts.0 (true-not _ (called image i.imm (slice_get image.routines i.imm) refl (not-false _ parts.1))))

  returns-mono : (routine : Routine) → exit_misfits routine i s ≡ false → exit_misfits routine i r ≡ false
  unfolding exit_misfits
  returns-mono routine e = not-both (returns i.opcode) (not (fits r routine.exit)) (λ is.
      let fit = not-false (fits s routine.exit) (second-false (returns i.opcode) (not (fits s routine.exit)) e is) in
      true-not (fits r routine.exit) (fits-trans r s routine.exit h fit))

-- no rule on pointers, slots, calls and returns refuses the instruction of a routine with this row
pub record MayStand (image : Parts) (index : ℕ) (routine : Routine) (i : Instr) (row : Row) : Type 0 where
  pub fresh : stale_pointer i row ≡ false
  pub within : passes_end i row ≡ false
  pub marked : changes_unmarked i row ≡ false
  pub unheld : locks_into_held i row ≡ false
  pub held : wrong_slot i row ≡ false
  pub freed : commits_with_held i row ≡ false
  pub call : call_misfits image index i row ≡ false
  pub exit : exit_misfits routine i row ≡ false

-- it may where a row is known that fits that one
pub may_stand-mono : (image : Parts) (index : ℕ) (routine : Routine) (i : Instr) (r s : Row) → fits r s ≡ true
    → MayStand image index routine i s → MayStand image index routine i r
unfolding stale_pointer passes_end changes_unmarked locks_into_held wrong_slot commits_with_held
may_stand-mono image index routine i r s h M =
    let slot = (uses_of i.opcode).slot in
    let pointer = (uses_of i.opcode).pointer in
    let marks = or_parts (writes_unmarked i pointer s) (moves_unmarked i slot s) M.marked in
    record {
      fresh = stale-mono i r s h pointer M.fresh;
      within = past-mono i r s h pointer M.within;
      marked = neither (writes_unmarked i pointer r) (moves_unmarked i slot r) (writes-mono i r s h pointer M.fresh marks.0)
          (moves-mono i r s h slot marks.1);
      unheld = locks-same i r s h slot ∙ M.unheld;
      held = misuses-same i r s h slot ∙ M.held;
      freed = commits-same i r s h slot ∙ M.freed;
      call = calls-mono i r s h image index M.call;
      exit = returns-mono i r s h routine M.exit;
    }
