-- Slots that differ in marks at most.
use Rattle.std.proofs.Common.{◌≡◌, ℕ, Bool, true, false, List, Option, Some, None, get_or, slice_get, refl, sym, ◌∙◌}
use Rattle.std.specs.Prelude.{if◌then◌else◌}
use Rattle.geos_opcodes.specs.declared.opcode.Opcode.{Opcode}
use Rattle.geos_opcodes.specs.declared.opcode.Opcode.TheVariants as op
use Rattle.geos_opcodes.specs.declared.facts.Yields.{Yields}
use Rattle.geos_opcodes.specs.declared.facts.Yields.TheVariants.{Computed}
use Rattle.geos_opcodes.specs.declared.uses.SlotUse.{SlotUse}
use Rattle.geos_opcodes.specs.declared.uses.SlotUse.TheVariants.{LocksNew, Locks, Unlocks, Marks}
use Rattle.geos_opcodes.specs.Facts.{facts, operands_of, uses_of}
use Rattle.geos_image.specs.declared.instr.Instr.{Instr}
use Rattle.geos_image.specs.declared.point.Point.{Point}
use Rattle.geos_image.specs.declared.routine.Routine.{Routine}
use Rattle.geos_image.specs.declared.row.Row.{Row}
use Rattle.geos_image.specs.declared.row.SlotState.{SlotState}
use Rattle.geos_image.specs.declared.row.SlotState.TheVariants.{Empty, Mem, Vm, Db}
use Rattle.geos_image.specs.Parts.{Parts}
use Rattle.geos_verify.specs.Lists.{all2}
use Rattle.geos_verify.specs.Rows.{computed, with_result, bounded, held_state, marked_state, slots_after, refused, exit_row, row_along, after}
use Rattle.geos_verify.specs.Touched.{calls}
use Rattle.geos_verify.proofs.Along.{row_along-used}
use Rattle.geos_verify.proofs.Pairwise.{all2-refl, all2-set, all2-get, all2-above}
use Rattle.geos_verify.proofs.RowsAfter.{is-call}
use Rattle.geos_flow.specs.Slots.{slots_agree}
use Rattle.geos_rows.specs.Joins.{agree}
use Rattle.geos_rows.proofs.Joining.{marks_agree, borrowed_alike}

-- States

-- of VM blocks that agree both are borrowed, or neither
pub alike-borrowed : (a b m n : Bool) → slots_agree (Vm a m) (Vm b n) ≡ true → m ≡ n
alike-borrowed a b true true h = refl
alike-borrowed a b false false h = refl
alike-borrowed true true true false h = absurd cc
alike-borrowed true false true false h = absurd cc
alike-borrowed false true true false h = absurd cc
alike-borrowed false false true false h = absurd cc
alike-borrowed true true false true h = absurd cc
alike-borrowed true false false true h = absurd cc
alike-borrowed false true false true h = absurd cc
alike-borrowed false false false true h = absurd cc

slot-alike : (x : SlotState) → slots_agree x x ≡ true
slot-alike Empty = refl
slot-alike Mem = refl
slot-alike (Vm marked borrowed) = borrowed_alike marked marked borrowed borrowed refl
slot-alike (Db marked) = marks_agree marked marked

-- two states agree that agree with one
slots-alike : (u x y : SlotState) → slots_agree x u ≡ true → slots_agree y u ≡ true → slots_agree x y ≡ true
slots-alike Empty Empty Empty h j = refl
slots-alike Mem Mem Mem h j = refl
slots-alike (Vm c l) (Vm a m) (Vm b n) h j = borrowed_alike a b m n (alike-borrowed a c m l h ∙ sym (alike-borrowed b c n l j))
slots-alike (Db c) (Db a) (Db b) h j = marks_agree a b
slots-alike _ _ _ h j = absurd cc

marked-alike : (x y : SlotState) → slots_agree x y ≡ true → slots_agree (marked_state x) (marked_state y) ≡ true
marked-alike Empty Empty h = refl
marked-alike Mem Mem h = refl
marked-alike (Vm a m) (Vm b n) h = borrowed_alike true true m n (alike-borrowed a b m n h)
marked-alike (Db a) (Db b) h = refl
marked-alike _ _ h = absurd cc

-- Rows

pub alike-refl : (r : Row) → agree r r ≡ true
alike-refl r = all2-refl slots_agree slot-alike r.slots

pub alike-both : (r s u : Row) → agree r u ≡ true → agree s u ≡ true → agree r s ≡ true
alike-both r s u h j = all2-above slots_agree slots_agree (λ x y v. slots-alike v x y) r.slots s.slots u.slots h j

pub alike-sym : (r s : Row) → agree r s ≡ true → agree s r ≡ true
alike-sym r s h = alike-both s r s (alike-refl s) h

-- After an instruction

slots-after : (i : Instr) (slot : SlotUse) (xs ys : List SlotState) → all2 slots_agree xs ys ≡ true
    → all2 slots_agree (slots_after i slot xs) (slots_after i slot ys) ≡ true
slots-after i (LocksNew kind) xs ys h = let state = held_state kind true in all2-set slots_agree xs ys i.a state state h (slot-alike state)
slots-after i (Locks kind) xs ys h = let state = held_state kind false in all2-set slots_agree xs ys i.a state state h (slot-alike state)
slots-after i (Unlocks kind) xs ys h = all2-set slots_agree xs ys i.a Empty Empty h refl
slots-after i (Marks kind) xs ys h =
    let x = get_or xs i.a Empty in
    let y = get_or ys i.a Empty in
    all2-set slots_agree xs ys i.a (marked_state x) (marked_state y) h (marked-alike x y (all2-get slots_agree xs ys i.a Empty refl h))
slots-after i _ xs ys h = h

module _ (i : Instr) (r s : Row) (h : agree r s ≡ true) where
  computed-alike : (opcode : Opcode) → agree (computed i opcode r) (computed i opcode s) ≡ true
  computed-alike op.Ldi = h
  computed-alike _ = h

  result-alike : (opcode : Opcode) (yields : Yields) → agree (with_result i opcode yields r) (with_result i opcode yields s) ≡ true
  result-alike opcode Computed = computed-alike opcode
  result-alike opcode _ = h

exit-alike : (image : Parts) (callee : ℕ) (r s : Row) (o : Option Routine) → slice_get image.routines callee ≡ o
    → agree r s ≡ true → agree (exit_row image callee r) (exit_row image callee s) ≡ true
exit-alike image callee r s None e h = rw (e, exit_row) h
exit-alike image callee r s (Some routine) e h = rw (e, exit_row) (alike-refl routine.exit)

along-alike : (image : Parts) (i : Instr) (opcode : Opcode) (r s : Row) → agree r s ≡ true
    → agree (row_along image i opcode r) (row_along image i opcode s) ≡ true
along-alike image i opcode r s h = by_test (calls opcode) refl
  where
    by_test : (b : Bool) → calls opcode ≡ b → agree (row_along image i opcode r) (row_along image i opcode s) ≡ true
    by_test true e = rw (is-call opcode e) (exit-alike image i.imm r s (slice_get image.routines i.imm) refl h)
    by_test false e =
        let no_call : opcode ≡ op.Call → ⊥ = (λ same. absurd (called same e)) in
        rw (row_along-used image i opcode r no_call, row_along-used image i opcode s no_call)
        (slots-after i (uses_of opcode).slot (bounded i opcode r).slots (bounded i opcode s).slots
        (result-alike i r s h opcode (facts opcode).yields))
      where
        called : opcode ≡ op.Call → calls opcode ≡ false → ⊥
        called same e = (let at_call : calls op.Call ≡ false = rw same at e in absurd cc)

branch-alike : (i : Instr) (refusable : Bool) (slot : SlotUse) (r s : Row) → agree r s ≡ true
    → agree (if refusable then refused i slot r else r) (if refusable then refused i slot s else s) ≡ true
branch-alike i true slot r s h = h
branch-alike i false slot r s h = h

pub after-alike : (image : Parts) (pc : ℕ) (branch : Bool) (r s : Row) (o : Option Point) → slice_get image.points pc ≡ o
    → agree r s ≡ true → agree (after image pc r branch) (after image pc s branch) ≡ true
after-alike image pc branch r s None e h = rw (e, after) h
after-alike image pc true r s (Some point) e h =
    let i = point.instr in
    rw (e, after) (branch-alike i ((operands_of i.opcode).refusable) ((uses_of i.opcode).slot) r s h)
after-alike image pc false r s (Some point) e h = rw (e, after) (along-alike image point.instr point.instr.opcode r s h)
