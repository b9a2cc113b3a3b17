-- Images of routines that work on blocks of the VM file which their caller has locked: their bytes, and what the rules say of them.
use Rattle.std.proofs.Common.{◌≡◌, refl, ◌+◌, true, false, List, [], ◌∷◌, length, set, replicate, Option, Some, None}
use Rattle.std.specs.Prelude.{Ok, Err, slice_index}
use Rattle.geos_opcodes.specs.declared.opcode.Opcode.TheVariants.{Ldi, Ret, Out, Sne, Lalloc, Deref, Ldw, Stw, Vdirty, Vunlock}
use Rattle.geos_image.specs.declared.instr.Instr.{Instr}
use Rattle.geos_image.specs.declared.point.Point.{Point}
use Rattle.geos_image.specs.declared.row.Row.{Row}
use Rattle.geos_image.specs.declared.row.SlotState.{SlotState}
use Rattle.geos_image.specs.declared.row.SlotState.TheVariants.{Empty, Vm}
use Rattle.geos_image.specs.Parts.{Parts}
use Rattle.geos_image.specs.Open.{open_row}
use Rattle.geos_image.specs.Spelling.{spelling}
use Rattle.geos_image.specs.Legal.{is_name_byte}
use Rattle.geos_image.specs.Reading.{image_at, header_at, routines_at, routine_at, name_at, count_at, row_at, slot_at, pointer_at, instr_at, fields_at, bare_points_at, keyed_at, potential_at}
use Rattle.geos_verify.specs.Rows.{slot_fits}
use Rattle.geos_verify.specs.declared.rule.Rule.TheVariants.{EntryMisfit, StalePointer, ChangesUnmarked, WrongSlot, ExitMisfit}
use Rattle.geos_verify.specs.Rules.{leaves_routine, names_empty_slot, entry_misfits, stale_pointer, passes_end, changes_unmarked, locks_into_held, wrong_slot, commits_with_held, call_misfits, exit_misfits, misfits_at, edge_misfits, unpaid_along, unpaid_branching, edge_unpaid, over_budget}
use Rattle.worked_examples.proofs.Images.{routine, instr, potential}
use Rattle.worked_examples.proofs.BlockImages.{s0}
use Rattle.worked_examples.proofs.Judged.{judged}
use Rattle.worked_examples.proofs.JudgedOnBlocks.{fine, refused_at}

-- a slot that holds a borrowed block, which is not known to be marked, or is
abbrev pub borrowed : SlotState
borrowed = Vm false true

abbrev pub borrowed_marked : SlotState
borrowed_marked = Vm true true

-- s0 and s1 hold such blocks, which may be one
abbrev pub s0_s1 : SlotState → SlotState → Row
s0_s1 first second = record open_row { slots = first ∷ second ∷ Empty ∷ Empty ∷ [] }

-- an instruction, and the row there where it is a key place
abbrev pub along : Instr → Instr × Option Row
along i = (i, None)

abbrev pub key : Instr → Row → Instr × Option Row
key i row = (i, Some row)

-- points of which the last has one step left, and each other one more than the next
abbrev pub points_of : List (Instr × Option Row) → List Point
points_of [] = []
points_of (line ∷ lines) = record { instr = line.0; row = line.1; potential = potential (length lines + 1) 0 } ∷ points_of lines

-- a public routine of version 2 with this entry row and this exit row, and a budget of 40
abbrev pub lending : Row → Row → List (Instr × Option Row) → Parts
lending entry exit lines = record {
  keyed = true;
  routines = record (routine (112 ∷ replicate 15 0) (length lines) 40) { entry = entry; exit = exit } ∷ [];
  points = points_of lines;
}

-- `LDI w1 16`, `DEREF s0 p0 w1 2 e`, `LDW w2 p0 0`, `OUT w2 e`, `e: RET`, where s0 is entered in this state
abbrev pub peek_from : SlotState → Parts
peek_from state = lending (s0 state) (s0 borrowed) (
    key (instr Ldi 1 0 0 16 0) (s0 borrowed)
    ∷ along (instr Deref 0 0 1 2 4)
    ∷ along (instr Ldw 2 0 0 0 0)
    ∷ along (instr Out 2 0 0 0 4)
    ∷ key (instr Ret 0 0 0 0 0) (s0 borrowed)
    ∷ []
    )

abbrev pub peek : Parts
peek = peek_from borrowed

-- the same with `e: VUNLOCK s0`, `RET` at its end
abbrev pub peek_unlocks : Parts
peek_unlocks = lending (s0 borrowed) (s0 borrowed) (
    key (instr Ldi 1 0 0 16 0) (s0 borrowed)
    ∷ along (instr Deref 0 0 1 2 4)
    ∷ along (instr Ldw 2 0 0 0 0)
    ∷ along (instr Out 2 0 0 0 4)
    ∷ key (instr Vunlock 0 0 0 0 0) (s0 borrowed)
    ∷ along (instr Ret 0 0 0 0 0)
    ∷ []
    )

-- `LDI w1 16`, `DEREF s0 p0 w1 2 e`, `STW w0 p0 0`, `e: RET`
abbrev pub poke_unmarked : Parts
poke_unmarked = lending (s0 borrowed) (s0 borrowed) (
    key (instr Ldi 1 0 0 16 0) (s0 borrowed)
    ∷ along (instr Deref 0 0 1 2 3)
    ∷ along (instr Stw 0 0 0 0 0)
    ∷ key (instr Ret 0 0 0 0 0) (s0 borrowed)
    ∷ []
    )

-- the same with `VDIRTY s0` first
abbrev pub poke : Parts
poke = lending (s0 borrowed) (s0 borrowed) (
    key (instr Vdirty 0 0 0 0 0) (s0 borrowed)
    ∷ along (instr Ldi 1 0 0 16 0)
    ∷ along (instr Deref 0 0 1 2 4)
    ∷ along (instr Stw 0 0 0 0 0)
    ∷ key (instr Ret 0 0 0 0 0) (s0 borrowed_marked)
    ∷ []
    )

-- `VDIRTY s0`, `LDI w1 16`, `DEREF s1 p1 w1 2 e`, `LDI w2 4`, `LALLOC s0 w3 w2 e`, `LDW w4 p1 0`, `e: RET`
abbrev pub two : Parts
two = lending (s0_s1 borrowed borrowed) (s0_s1 borrowed borrowed) (
    key (instr Vdirty 0 0 0 0 0) (s0_s1 borrowed borrowed)
    ∷ along (instr Ldi 1 0 0 16 0)
    ∷ along (instr Deref 1 1 1 2 6)
    ∷ along (instr Ldi 2 0 0 4 0)
    ∷ along (instr Lalloc 0 3 2 0 6)
    ∷ along (instr Ldw 4 1 0 0 0)
    ∷ key (instr Ret 0 0 0 0 0) (s0_s1 borrowed_marked borrowed)
    ∷ []
    )

-- the same with `SNE s0 s1 e` before the LALLOC, entered by this row
abbrev pub two_apart_from : Row → Parts
two_apart_from entry = lending entry (s0_s1 borrowed borrowed) (
    key (instr Vdirty 0 0 0 0 0) (s0_s1 borrowed borrowed)
    ∷ along (instr Ldi 1 0 0 16 0)
    ∷ along (instr Deref 1 1 1 2 7)
    ∷ along (instr Ldi 2 0 0 4 0)
    ∷ along (instr Sne 0 1 0 0 7)
    ∷ along (instr Lalloc 0 3 2 0 7)
    ∷ along (instr Ldw 4 1 0 0 0)
    ∷ key (instr Ret 0 0 0 0 0) (s0_s1 borrowed_marked borrowed)
    ∷ []
    )

abbrev pub two_apart : Parts
two_apart = two_apart_from (s0_s1 borrowed borrowed)

-- the same where the entry row says that the two blocks differ
abbrev pub two_claimed : Parts
two_claimed = two_apart_from (record (s0_s1 borrowed borrowed) { pairs = true ∷ replicate 5 false })

-- what reading makes of the byte that says what s0 holds in the entry row
pub record BorrowedSpelled : Type 0 where
  pub byte : slice_index (spelling peek) 48 ≡ 6
  pub read : image_at (spelling peek) ≡ Ok peek
  pub marked : image_at (set (spelling peek) 48 7) ≡ Ok (peek_from borrowed_marked)
  pub no_state : image_at (set (spelling peek) 48 8) ≡ Err 48
  pub in_version_1 : image_at (set (spelling peek) 4 1) ≡ Err 48
  pub marked_in_version_1 : image_at (set (set (spelling peek) 4 1) 48 7) ≡ Err 48

pub spelled_examples : BorrowedSpelled
unfolding image_at header_at routines_at routine_at name_at is_name_byte count_at row_at slot_at pointer_at instr_at
    fields_at bare_points_at keyed_at potential_at
spelled_examples = record { byte = refl; read = refl; marked = refl; no_state = refl; in_version_1 = refl; marked_in_version_1 = refl }

-- what the rules say of each pc
pub record BorrowedJudged : Type 0 where
  pub peek_accepted : judged peek ≡ fine 5
  -- no caller can meet an entry row that requires the mark
  pub peek_wants_mark : judged (peek_from borrowed_marked) ≡ refused_at 0 EntryMisfit 4
  pub peek_not_borrowed : judged (peek_from (Vm false false)) ≡ refused_at 0 EntryMisfit 4
  -- and after the unlock the exit row is not met
  pub unlock_of_borrowed : judged peek_unlocks ≡ None ∷ None ∷ None ∷ None ∷ Some WrongSlot ∷ Some ExitMisfit ∷ []
  pub write_unmarked : judged poke_unmarked ≡ refused_at 2 ChangesUnmarked 1
  pub write_marked : judged poke ≡ fine 5
  -- the slots may hold one block, unless SNE went on
  pub moved_by_other_slot : judged two ≡ refused_at 5 StalePointer 1
  pub moved_apart : judged two_apart ≡ fine 8
  pub claimed_apart : judged two_claimed ≡ refused_at 0 EntryMisfit 7
  pub marked_fits : slot_fits borrowed_marked borrowed ≡ true
  pub unmarked_misfits : slot_fits borrowed borrowed_marked ≡ false
  pub borrowed_misfits_own : slot_fits borrowed (Vm false false) ≡ false
  pub own_misfits_borrowed : slot_fits (Vm false false) borrowed ≡ false
  pub borrowed_misfits_own_marked : slot_fits borrowed_marked (Vm true false) ≡ false
  pub own_misfits_borrowed_marked : slot_fits (Vm true false) borrowed_marked ≡ false

pub examples : BorrowedJudged
unfolding leaves_routine names_empty_slot entry_misfits stale_pointer passes_end changes_unmarked locks_into_held wrong_slot commits_with_held
    call_misfits exit_misfits misfits_at edge_misfits unpaid_along unpaid_branching edge_unpaid over_budget
examples = record {
  peek_accepted = refl;
  peek_wants_mark = refl;
  peek_not_borrowed = refl;
  unlock_of_borrowed = refl;
  write_unmarked = refl;
  write_marked = refl;
  moved_by_other_slot = refl;
  moved_apart = refl;
  claimed_apart = refl;
  marked_fits = refl;
  unmarked_misfits = refl;
  borrowed_misfits_own = refl;
  own_misfits_borrowed = refl;
  borrowed_misfits_own_marked = refl;
  own_misfits_borrowed_marked = refl;
}
