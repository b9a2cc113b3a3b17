-- What the rules say of the worked examples on blocks, chunks and pointers, at each pc.
use Rattle.std.proofs.Common.{◌≡◌, true, false, refl, ℕ, List, [], ◌∷◌, ◌++◌, replicate, Option, Some, None}
use Rattle.geos_opcodes.specs.declared.opcode.Opcode.TheVariants.{Mnew, Mlock, Munlock, Sne, Lsize, Ldb, Stw, Ldxw, Ldcw, Movp, Copy, Plen, Vupdate, Vsave, Vrevert}
use Rattle.geos_image.specs.declared.row.Row.{Row}
use Rattle.geos_image.specs.declared.row.SlotState.{SlotState}
use Rattle.geos_image.specs.declared.row.SlotState.TheVariants.{Empty, Mem, Vm, Db}
use Rattle.geos_image.specs.Open.{open_row}
use Rattle.geos_verify.specs.declared.rule.Rule.{Rule}
use Rattle.geos_verify.specs.declared.rule.Rule.TheVariants.{NamesEmptySlot, StalePointer, PassesEnd, ChangesUnmarked, LocksIntoHeld, WrongSlot, CommitsHeld, EdgeMisfit}
use Rattle.geos_verify.specs.Rules.{leaves_routine, names_empty_slot, entry_misfits, stale_pointer, passes_end, changes_unmarked, locks_into_held, wrong_slot, commits_with_held, call_misfits, exit_misfits, misfits_at, edge_misfits, unpaid_along, unpaid_branching, edge_unpaid, over_budget}
use Rattle.worked_examples.proofs.Images.{instr}
use Rattle.worked_examples.proofs.BlockImages.{s0, s0_p0, s0_s1, with_row, read_at, no_bytes, read_after_move, read_after_deref, read_by_other_slot, read_where_apart, read_after_refusal, deref_after_refusal}
use Rattle.worked_examples.proofs.Judged.{judged}

-- n points that no rule refuses
abbrev pub fine : ℕ → List (Option Rule)
fine n = replicate n None

-- n pcs that are accepted, one that is refused, and `rest` pcs that are accepted
abbrev pub refused_at : ℕ → Rule → ℕ → List (Option Rule)
refused_at n rule rest = fine n ++ Some rule ∷ fine rest

-- p0 leads to 8 bytes at least, and w1 is n at most
abbrev pub indexed : ℕ → Row
indexed n = record (s0_p0 8) { bounds = 65535 ∷ n ∷ replicate 6 65535 }

-- p0 leads into a block of s0, of which the row says this
abbrev pub p0_into : SlotState → Row
p0_into state = record (s0_p0 8) { slots = state ∷ replicate 3 Empty }

-- p0 leads into a slot that is empty
abbrev pub left_behind : Row
left_behind = record (s0_p0 8) { slots = replicate 4 Empty }

pub record JudgedOnBlocks : Type 0 where
  -- a word at 6 ends with the pointer's 8 bytes
  pub last_word : judged (read_at 6) ≡ fine 2
  pub past_last_word : judged (read_at 7) ≡ refused_at 0 PassesEnd 1
  pub last_byte : judged (with_row (s0_p0 8) (instr Ldb 0 0 0 7 0)) ≡ fine 2
  pub past_last_byte : judged (with_row (s0_p0 8) (instr Ldb 0 0 0 8 0)) ≡ refused_at 0 PassesEnd 1
  pub index_bounded : judged (with_row (indexed 6) (instr Ldxw 2 0 1 0 0)) ≡ fine 2
  pub index_past_end : judged (with_row (indexed 7) (instr Ldxw 2 0 1 0 0)) ≡ refused_at 0 PassesEnd 1
  pub index_tested : judged (with_row (s0_p0 8) (instr Ldcw 2 0 1 0 1)) ≡ fine 2
  pub copy_past_end : judged (with_row (s0_p0 8) (instr Copy 0 0 0 9 0)) ≡ refused_at 0 PassesEnd 1
  -- a chunk of no bytes has a length, and no byte
  pub no_bytes_measured : judged (no_bytes 0 (instr Plen 3 0 0 0 0)) ≡ fine 8
  pub no_bytes_read : judged (no_bytes 0 (instr Ldb 3 0 0 0 0)) ≡ refused_at 4 PassesEnd 3
  -- LALLOC may have moved the chunk, and the row cannot say that it has not
  pub moved : judged (read_after_move (s0 Mem)) ≡ refused_at 5 StalePointer 2
  pub moved_claimed : judged (read_after_move (s0_p0 8)) ≡ refused_at 4 EdgeMisfit 3
  pub moved_then_found : judged read_after_deref ≡ fine 10
  -- the slots may hold one block, unless SNE went on
  pub moved_by_other_slot : judged read_by_other_slot ≡ refused_at 6 StalePointer 3
  pub moved_apart : judged read_where_apart ≡ fine 13
  -- LALLOC may have moved the chunk before it was refused
  pub moved_though_refused : judged read_after_refusal ≡ refused_at 7 StalePointer 3
  pub found_though_refused : judged deref_after_refusal ≡ fine 12
  pub write_unmarked : judged (with_row (p0_into (Vm false false)) (instr Stw 0 0 0 0 0)) ≡ refused_at 0 ChangesUnmarked 1
  pub write_marked : judged (with_row (p0_into (Vm true false)) (instr Stw 0 0 0 0 0)) ≡ fine 2
  pub new_into_held : judged (with_row (s0 Mem) (instr Mnew 0 0 0 0 1)) ≡ refused_at 0 LocksIntoHeld 1
  pub lock_into_held : judged (with_row (s0 Mem) (instr Mlock 0 0 0 0 1)) ≡ refused_at 0 LocksIntoHeld 1
  pub unlock_empty : judged (with_row open_row (instr Munlock 0 0 0 0 0)) ≡ refused_at 0 WrongSlot 1
  pub unlock_other_kind : judged (with_row (s0 (Vm false false)) (instr Munlock 0 0 0 0 0)) ≡ refused_at 0 WrongSlot 1
  pub compare_with_empty : judged (with_row (s0 Mem) (instr Sne 0 1 0 0 1)) ≡ refused_at 0 WrongSlot 1
  pub compare_of_one_kind : judged (with_row s0_s1 (instr Sne 0 1 0 0 1)) ≡ fine 2
  pub look_at_empty : judged (with_row (s0 Mem) (instr Lsize 1 0 0 0 1)) ≡ refused_at 0 WrongSlot 1
  pub duplicate_stale : judged (with_row (s0 Mem) (instr Movp 0 1 0 0 0)) ≡ refused_at 0 StalePointer 1
  pub update_over_held : judged (with_row (s0 (Vm true false)) (instr Vupdate 0 0 0 0 1)) ≡ refused_at 0 CommitsHeld 1
  pub save_over_held : judged (with_row (s0 (Vm false false)) (instr Vsave 0 0 0 0 1)) ≡ refused_at 0 CommitsHeld 1
  pub revert_over_group : judged (with_row (s0 (Db false)) (instr Vrevert 0 0 0 0 1)) ≡ refused_at 0 CommitsHeld 1
  -- a slot may have a block of global memory
  pub update_beside_memory : judged (with_row (s0 Mem) (instr Vupdate 0 0 0 0 1)) ≡ fine 2
  pub names_empty : judged (with_row left_behind (instr Movp 0 0 0 0 0)) ≡ Some NamesEmptySlot ∷ Some NamesEmptySlot ∷ []

pub examples : JudgedOnBlocks
unfolding leaves_routine names_empty_slot entry_misfits stale_pointer passes_end changes_unmarked locks_into_held wrong_slot commits_with_held
    call_misfits exit_misfits misfits_at edge_misfits unpaid_along unpaid_branching edge_unpaid over_budget
examples = record {
  last_word = refl;
  past_last_word = refl;
  last_byte = refl;
  past_last_byte = refl;
  index_bounded = refl;
  index_past_end = refl;
  index_tested = refl;
  copy_past_end = refl;
  no_bytes_measured = refl;
  no_bytes_read = refl;
  moved = refl;
  moved_claimed = refl;
  moved_then_found = refl;
  moved_by_other_slot = refl;
  moved_apart = refl;
  moved_though_refused = refl;
  found_though_refused = refl;
  write_unmarked = refl;
  write_marked = refl;
  new_into_held = refl;
  lock_into_held = refl;
  unlock_empty = refl;
  unlock_other_kind = refl;
  compare_with_empty = refl;
  compare_of_one_kind = refl;
  look_at_empty = refl;
  duplicate_stale = refl;
  update_over_held = refl;
  save_over_held = refl;
  revert_over_group = refl;
  update_beside_memory = refl;
  names_empty = refl;
}
