-- A row without pointers into empty slots is one after an instruction that the rules allow too.
use Rattle.std.proofs.Common.{◌≡◌, ℕ, zero, suc, Bool, true, false, not, List, [], ◌∷◌, map, Option, Some, None, get_or, set, slice_get, refl, sym, ap, subst, ◌∙◌, inl, inr, length, length-set, arith}
use Rattle.std.specs.Prelude.{◌||◌, ◌==◌, if◌then◌else◌}
use Rattle.std.specs.List.{list_any}
use Rattle.std.proofs.lemmas.Bool.{or_parts, cases_eq, eq-eqb, false≢true}
use Rattle.std.proofs.lemmas.List.{get_or-set_same, get_or-set_other}
use Rattle.geos_opcodes.specs.declared.opcode.Opcode.{Opcode}
use Rattle.geos_opcodes.specs.declared.opcode.Opcode.TheVariants as op
use Rattle.geos_opcodes.specs.declared.facts.Yields.{Yields}
use Rattle.geos_opcodes.specs.declared.facts.Yields.TheVariants.{Computed}
use Rattle.geos_image.specs.declared.instr.Instr.{Instr}
use Rattle.geos_image.specs.Legal.{is_own}
use Rattle.geos_image.specs.declared.row.Row.{Row}
use Rattle.geos_image.specs.declared.row.Pointer.{Pointer}
use Rattle.geos_image.specs.declared.row.SlotState.{SlotState}
use Rattle.geos_image.specs.declared.row.SlotState.TheVariants.{Empty, Mem, Vm, Db}
use Rattle.geos_image.specs.declared.routine.Routine.{Routine}
use Rattle.geos_opcodes.specs.Facts.{facts, uses_of}
use Rattle.geos_image.specs.Fields.{FieldsFit}
use Rattle.geos_image.specs.Parts.{Parts}
use Rattle.geos_opcodes.specs.declared.uses.Kind.{Kind}
use Rattle.geos_opcodes.specs.declared.uses.Kind.TheVariants.{MemBlock, VmBlock, DbGroup}
use Rattle.geos_opcodes.specs.declared.uses.SlotUse.{SlotUse}
use Rattle.geos_opcodes.specs.declared.uses.SlotUse.TheVariants.{NoSlot, LocksNew, Locks, Unlocks, Marks, Compares, Moves, LooksAt, MovesGroup, Commits}
use Rattle.geos_opcodes.specs.declared.uses.PointerUse.{PointerUse}
use Rattle.geos_opcodes.specs.declared.uses.PointerUse.TheVariants.{Sets, Duplicates}
use Rattle.geos_verify.specs.Rows.{computed, with_result, bounded, slot_state, are_alike, holds_kind, held_state, marked_state, slots_after, may_be_same, stale_where, pointers_kept, with_pointer, used, exit_row, row_along, is_empty, leads_nowhere}
use Rattle.geos_verify.specs.Touched.{calls}
use Rattle.geos_verify.specs.Rules.{names_empty_slot, misuses_slot, wrong_slot}
use Rattle.geos_verify.proofs.Along.{row_along-used}
use Rattle.geos_verify.proofs.RowsAfter.{is-call}
use Rattle.geos_verify.proofs.Passing.{neither}

-- no pointer leads nowhere
abbrev Held : List SlotState → List (Option Pointer) → Type 0
Held slots pointers = list_any (leads_nowhere slots) pointers ≡ false

-- slots that are not empty stay so
abbrev StayHeld : List SlotState → List SlotState → Type 0
StayHeld old new = (k : ℕ) → is_empty (get_or old k Empty) ≡ false → is_empty (get_or new k Empty) ≡ false

one-stays : (old new : List SlotState) → StayHeld old new → (p : Option Pointer) → leads_nowhere old p ≡ false → leads_nowhere new p ≡ false
one-stays old new stay None h = refl
one-stays old new stay (Some p) h = stay p.slot h

all-stay : (old new : List SlotState) → StayHeld old new → (pointers : List (Option Pointer)) → Held old pointers → Held new pointers
all-stay old new stay [] h = refl
all-stay old new stay (p ∷ pointers) h =
    let parts = or_parts (leads_nowhere old p) (list_any (leads_nowhere old) pointers) h in
    neither (leads_nowhere new p) (list_any (leads_nowhere new) pointers) (one-stays old new stay p parts.0) (all-stay old new stay pointers parts.1)

stay-set : (slots : List SlotState) (a : ℕ) (state : SlotState) → is_empty state ≡ false → StayHeld slots (set slots a state)
stay-set slots a state held k h =
    elim (cases_eq a k) as (λ _. is_empty (get_or (set slots a state) k Empty) ≡ false) [
      | inl same ↦ subst (λ b. is_empty (get_or (set slots b state) k Empty) ≡ false) (sym same) (at-k slots k state held h)
      | inr other ↦ ap is_empty (get_or-set_other slots a k state Empty (λ e. other (sym e))) ∙ h
    ]
  where
    at-k : (slots : List SlotState) (k : ℕ) (state : SlotState) → is_empty state ≡ false → is_empty (get_or slots k Empty) ≡ false
        → is_empty (get_or (set slots k state) k Empty) ≡ false
    at-k [] k state held h = h
    at-k (s ∷ slots) zero state held h = held
    at-k (s ∷ slots) (suc k) state held h = at-k slots k state held h

stay-marked : (slots : List SlotState) (a : ℕ) → StayHeld slots (set slots a (marked_state (get_or slots a Empty)))
stay-marked [] a k h = h
stay-marked (s ∷ slots) zero zero h = one s h
  where
    one : (s : SlotState) → is_empty s ≡ false → is_empty (marked_state s) ≡ false
    one Empty h = absurd (false≢true (sym h))
    one Mem h = refl
    one (Vm m b) h = refl
    one (Db m) h = refl
stay-marked (s ∷ slots) zero (suc k) h = h
stay-marked (s ∷ slots) (suc a) zero h = h
stay-marked (s ∷ slots) (suc a) (suc k) h = stay-marked slots a k h

held-some : (kind : Kind) (marked : Bool) → is_empty (held_state kind marked) ≡ false
held-some MemBlock marked = refl
held-some VmBlock marked = refl
held-some DbGroup marked = refl

-- pointers of which some are dropped
one-dropped : (slots : List SlotState) (test : ℕ → Bool) (p : Option Pointer) → leads_nowhere slots p ≡ false
    → leads_nowhere slots (stale_where test p) ≡ false
one-dropped slots test None h = refl
one-dropped slots test (Some p) h = go (test p.slot)
  where
    go : (b : Bool) → leads_nowhere slots (if b then None else Some p) ≡ false
    go true = refl
    go false = h

all-dropped : (slots : List SlotState) (test : ℕ → Bool) (pointers : List (Option Pointer)) → Held slots pointers
    → Held slots (map (stale_where test) pointers)
all-dropped slots test [] h = refl
all-dropped slots test (p ∷ pointers) h =
    let parts = or_parts (leads_nowhere slots p) (list_any (leads_nowhere slots) pointers) h in
    neither (leads_nowhere slots (stale_where test p)) (list_any (leads_nowhere slots) (map (stale_where test) pointers))
    (one-dropped slots test p parts.0) (all-dropped slots test pointers parts.1)

-- those of a slot are dropped that is emptied
one-freed : (slots : List SlotState) (a : ℕ) (p : Option Pointer) → leads_nowhere slots p ≡ false
    → leads_nowhere (set slots a Empty) (stale_where (λ b. b == a) p) ≡ false
one-freed slots a None h = refl
one-freed slots a (Some p) h = go (p.slot == a) refl
  where
    go : (b : Bool) → (p.slot == a) ≡ b → leads_nowhere (set slots a Empty) (if b then None else Some p) ≡ false
    go true e = refl
    go false e = ap is_empty (get_or-set_other slots a p.slot Empty Empty (λ same. false≢true (sym e ∙ eq-eqb p.slot a same))) ∙ h

all-freed : (slots : List SlotState) (a : ℕ) (pointers : List (Option Pointer)) → Held slots pointers
    → Held (set slots a Empty) (map (stale_where (λ b. b == a)) pointers)
all-freed slots a [] h = refl
all-freed slots a (p ∷ pointers) h =
    let parts = or_parts (leads_nowhere slots p) (list_any (leads_nowhere slots) pointers) h in
    neither (leads_nowhere (set slots a Empty) (stale_where (λ b. b == a) p)) _ (one-freed slots a p parts.0) (all-freed slots a pointers parts.1)

kept-held : (i : Instr) (slot : SlotUse) (row : Row) → Held row.slots row.pointers → Held (slots_after i slot row.slots) (pointers_kept i slot row)
kept-held i (LocksNew kind) row h = all-stay row.slots _ (stay-set row.slots i.a (held_state kind true) (held-some kind true)) row.pointers h
kept-held i (Locks kind) row h = all-stay row.slots _ (stay-set row.slots i.a (held_state kind false) (held-some kind false)) row.pointers h
kept-held i (Unlocks kind) row h = all-freed row.slots i.a row.pointers h
kept-held i (Marks kind) row h = all-stay row.slots _ (stay-marked row.slots i.a) row.pointers h
kept-held i Moves row h = all-dropped row.slots (may_be_same row i.a) row.pointers h
kept-held i MovesGroup row h = all-dropped row.slots (λ b. holds_kind DbGroup (slot_state row b)) row.pointers h
kept-held i NoSlot row h = h
kept-held i Compares row h = h
kept-held i LooksAt row h = h
kept-held i Commits row h = h

set-held : (slots : List SlotState) (pointers : List (Option Pointer)) (b : ℕ) (p : Option Pointer)
    → leads_nowhere slots p ≡ false → Held slots pointers → Held slots (set pointers b p)
set-held slots [] b p here h = refl
set-held slots (q ∷ pointers) zero p here h = neither (leads_nowhere slots p) (list_any (leads_nowhere slots) pointers) here
    ((or_parts (leads_nowhere slots q) (list_any (leads_nowhere slots) pointers) h).1)
set-held slots (q ∷ pointers) (suc b) p here h =
    let parts = or_parts (leads_nowhere slots q) (list_any (leads_nowhere slots) pointers) h in
    neither (leads_nowhere slots q) (list_any (leads_nowhere slots) (set pointers b p)) parts.0 (set-held slots pointers b p here parts.1)

get-held : (slots : List SlotState) (pointers : List (Option Pointer)) (b : ℕ) → Held slots pointers
    → leads_nowhere slots (get_or pointers b None) ≡ false
get-held slots [] b h = refl
get-held slots (q ∷ pointers) zero h = (or_parts (leads_nowhere slots q) (list_any (leads_nowhere slots) pointers) h).0
get-held slots (q ∷ pointers) (suc b) h = get-held slots pointers b ((or_parts (leads_nowhere slots q) (list_any (leads_nowhere slots) pointers) h).1)

with-held : (i : Instr) (pointer : PointerUse) (slots : List SlotState) (pointers : List (Option Pointer))
    → (pointer ≡ Sets → is_empty (get_or slots i.a Empty) ≡ false) → Held slots pointers → Held slots (with_pointer i pointer pointers)
with-held i Sets slots pointers sets h = set-held slots pointers i.b (Some (record { slot = i.a; least = i.imm })) (sets refl) h
with-held i Duplicates slots pointers sets h = set-held slots pointers i.a (get_or pointers i.b None) (get-held slots pointers i.b h) h
with-held i _ slots pointers sets h = h

-- a pointer is set into a slot that is not empty, or into which the instruction locks a block
sets-held : (opcode : Opcode) (i : Instr) (slots : List SlotState) → FieldsFit opcode i → length slots ≡ 4
    → (uses_of opcode).pointer ≡ Sets → ((uses_of opcode).slot ≡ LooksAt → is_empty (get_or slots i.a Empty) ≡ false)
    → is_empty (get_or (slots_after i (uses_of opcode).slot slots) i.a Empty) ≡ false
sets-held op.Deref i slots fields four e looks = looks refl
sets-held op.Caelt i slots fields four e looks = looks refl
sets-held op.Ilock i slots fields four e looks =
    ap is_empty (get_or-set_same slots i.a (held_state DbGroup false) Empty (omega (arith, fields.0, four)))
sets-held _ i slots fields four e looks = absurd cc

-- the word that a result comes to leaves slots and pointers
computed-clean : (i : Instr) (opcode : Opcode) (row : Row) → names_empty_slot (computed i opcode row) ≡ names_empty_slot row
unfolding names_empty_slot
computed-clean i op.Ldi row = refl
computed-clean i _ row = refl

result-clean : (i : Instr) (opcode : Opcode) (yields : Yields) (row : Row) → names_empty_slot (with_result i opcode yields row) ≡ names_empty_slot row
unfolding names_empty_slot
result-clean i opcode Computed row = computed-clean i opcode row
result-clean i opcode _ row = refl

computed-slots : (i : Instr) (opcode : Opcode) (row : Row) → (computed i opcode row).slots ≡ row.slots
computed-slots i op.Ldi row = refl
computed-slots i _ row = refl

result-slots : (i : Instr) (opcode : Opcode) (yields : Yields) (row : Row) → (with_result i opcode yields row).slots ≡ row.slots
result-slots i opcode Computed row = computed-slots i opcode row
result-slots i opcode _ row = refl

looks-held : (i : Instr) (slot : SlotUse) (row : Row) → misuses_slot i slot row ≡ false → slot ≡ LooksAt
    → is_empty (get_or row.slots i.a Empty) ≡ false
looks-held i LooksAt row h e = h
looks-held i _ row h e = absurd cc

slots-four : (i : Instr) (slot : SlotUse) (slots : List SlotState) → length (slots_after i slot slots) ≡ length slots
slots-four i (LocksNew kind) slots = length-set slots i.a (held_state kind true)
slots-four i (Locks kind) slots = length-set slots i.a (held_state kind false)
slots-four i (Unlocks kind) slots = length-set slots i.a Empty
slots-four i (Marks kind) slots = length-set slots i.a (marked_state (get_or slots i.a Empty))
slots-four i _ slots = refl

-- a row with four slots and without pointers into empty slots
pub record IsClean (row : Row) : Type 0 where
  pub clean : names_empty_slot row ≡ false
  pub four : length row.slots ≡ 4

used-clean : (i : Instr) (opcode : Opcode) (row : Row) → FieldsFit opcode i → IsClean row → misuses_slot i (uses_of opcode).slot row ≡ false
    → IsClean (used i (uses_of opcode) row)
unfolding names_empty_slot
used-clean i opcode row fields h held =
    let slot = (uses_of opcode).slot in
    let slots = slots_after i slot row.slots in
    record {
      clean = with-held i (uses_of opcode).pointer slots (pointers_kept i slot row)
          (λ sets. sets-held opcode i row.slots fields h.four sets (looks-held i slot row held)) (kept-held i slot row h.clean);
      four = slots-four i slot row.slots ∙ h.four;
    }

misuse-slots : (i : Instr) (slot : SlotUse) (r s : Row) → r.slots ≡ s.slots → misuses_slot i slot s ≡ false → misuses_slot i slot r ≡ false
misuse-slots i (Unlocks kind) r s e h =
    subst (λ (xs : List SlotState). (not (holds_kind kind (get_or xs i.a Empty)) || not (is_own (get_or xs i.a Empty))) ≡ false) (sym e) h
misuse-slots i (Marks kind) r s e h = subst (λ (xs : List SlotState). not (holds_kind kind (get_or xs i.a Empty)) ≡ false) (sym e) h
misuse-slots i Compares r s e h =
    subst (λ (xs : List SlotState). (is_empty (get_or xs i.a Empty) || not (are_alike (get_or xs i.a Empty) (get_or xs i.b Empty))) ≡ false) (sym e) h
misuse-slots i Moves r s e h = subst (λ (xs : List SlotState). is_empty (get_or xs i.a Empty) ≡ false) (sym e) h
misuse-slots i LooksAt r s e h = subst (λ (xs : List SlotState). is_empty (get_or xs i.a Empty) ≡ false) (sym e) h
misuse-slots i _ r s e h = refl

-- after an instruction too that is no call
pub beside-calls-clean : (image : Parts) (i : Instr) (opcode : Opcode) (row : Row) → i.opcode ≡ opcode → FieldsFit opcode i
    → calls opcode ≡ false → IsClean row → wrong_slot i row ≡ false → IsClean (row_along image i opcode row)
unfolding wrong_slot
beside-calls-clean image i opcode row is fields goes_on h held =
    let no_call : opcode ≡ op.Call → ⊥ = (λ same. absurd (called same goes_on)) in
    let yields = (facts opcode).yields in
    let slots : (bounded i opcode row).slots ≡ row.slots = result-slots i opcode yields row in
    let clean : IsClean (bounded i opcode row) = record { clean = result-clean i opcode yields row ∙ h.clean; four = ap length slots ∙ h.four } in
    let right : misuses_slot i (uses_of opcode).slot row ≡ false = subst (λ o. misuses_slot i (uses_of o).slot row ≡ false) is held in
    rw (row_along-used image i opcode row no_call) (used-clean i opcode (bounded i opcode row) fields clean
    (misuse-slots i (uses_of opcode).slot (bounded i opcode row) row slots right))
  where
    called : opcode ≡ op.Call → calls opcode ≡ false → ⊥
    called same e = (let at_call : calls op.Call ≡ false = rw same at e in absurd cc)

-- the row is clean after a call as well, if exit rows are clean
pub along-clean : (image : Parts) (i : Instr) (opcode : Opcode) (row : Row) → i.opcode ≡ opcode → FieldsFit opcode i
    → ((routine : Routine) → slice_get image.routines i.imm ≡ Some routine → IsClean routine.exit) → IsClean row → wrong_slot i row ≡ false
    → IsClean (row_along image i opcode row)
along-clean image i opcode row is fields exits h held = by_test (calls opcode) refl
  where
    at_exit : (o : Option Routine) → slice_get image.routines i.imm ≡ o → IsClean (exit_row image i.imm row)
    at_exit None e = rw (e, exit_row) h
    at_exit (Some routine) e = rw (e, exit_row) (exits routine e)

    by_test : (b : Bool) → calls opcode ≡ b → IsClean (row_along image i opcode row)
    by_test true e = rw (is-call opcode e) (at_exit (slice_get image.routines i.imm) refl)
    by_test false e = beside-calls-clean image i opcode row is fields e h held
