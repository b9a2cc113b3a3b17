-- The steps that are faults, each in a state where only one thing is wrong.
use Rattle.std.proofs.Common.{◌≡◌, refl, false, [], ◌∷◌, Some, None}
use Rattle.geos_opcodes.specs.declared.opcode.Opcode.TheVariants.{Mnew, Mlock, Munlock, Sne, Lalloc, Lsize, Deref, Lcontract, Ldb, Ldw, Stb, Stxw, Ldxb, Ldcb, Stcw, Movp, Copy, Plen, Caadd, Cadel, Cacount, Caelt, Vnew, Vlock, Vdirty, Vunlock, Vupdate, Vsave, Vrevert, Ilock, Idirty, Iunlock}
use Rattle.geos_opcodes.specs.declared.uses.Kind.TheVariants.{VmBlock, DbGroup}
use Rattle.geos_image.specs.declared.instr.Instr.{Instr}
use Rattle.geos_semantics.specs.Model.{Outcome, Fault, step}
use Rattle.worked_examples.proofs.Images.{instr}
use Rattle.worked_examples.proofs.States.{willing, alone, bytes, listed, with_vm, stepped}

-- the step where s3 holds a block of the VM file that is not marked, and p3 leads into it
abbrev pub stepped_on_vm : Instr → Outcome
stepped_on_vm i = step (alone i) willing (with_vm VmBlock (listed 5 false (Some bytes ∷ None ∷ [])))

-- the step where that is a group
abbrev pub stepped_on_group : Instr → Outcome
stepped_on_group i = step (alone i) willing (with_vm DbGroup (listed 65280 false (Some bytes ∷ None ∷ [])))

-- p3 is stale, s3 empty, and p0 leads to 4 bytes, p2 to 2; w3 is 3
pub record Faulty : Type 0 where
  pub read_stale : stepped (instr Ldw 6 3 0 0 0) ≡ Fault
  pub write_stale : stepped (instr Stb 6 3 0 0 0) ≡ Fault
  -- the test of the offset does not save it
  pub tested_read_stale : stepped (instr Ldcb 6 3 4 0 7) ≡ Fault
  pub tested_write_stale : stepped (instr Stcw 6 3 4 0 7) ≡ Fault
  pub copy_to_stale : stepped (instr Copy 3 0 0 0 0) ≡ Fault
  pub copy_from_stale : stepped (instr Copy 0 3 0 0 0) ≡ Fault
  pub duplicate_stale : stepped (instr Movp 0 3 0 0 0) ≡ Fault
  pub measure_stale : stepped (instr Plen 6 3 0 0 0) ≡ Fault
  pub read_byte_past_end : stepped (instr Ldb 6 0 0 4 0) ≡ Fault
  pub read_word_past_end : stepped (instr Ldw 6 0 0 3 0) ≡ Fault
  pub indexed_read_past_end : stepped (instr Ldxb 6 0 4 0 0) ≡ Fault
  pub indexed_write_past_end : stepped (instr Stxw 6 0 3 0 0) ≡ Fault
  pub copy_past_end : stepped (instr Copy 2 0 0 3 0) ≡ Fault
  pub copy_from_past_end : stepped (instr Copy 0 2 0 3 0) ≡ Fault
  pub new_into_held : stepped (instr Mnew 0 6 0 0 7) ≡ Fault
  pub lock_into_held : stepped (instr Mlock 0 3 0 0 7) ≡ Fault
  pub unlock_empty : stepped (instr Munlock 3 0 0 0 0) ≡ Fault
  pub compare_empty : stepped (instr Sne 3 0 0 0 7) ≡ Fault
  pub compare_with_empty : stepped (instr Sne 0 3 0 0 7) ≡ Fault
  pub compare_both_empty : stepped (instr Sne 3 3 0 0 7) ≡ Fault
  pub move_empty : stepped (instr Lalloc 3 6 2 0 7) ≡ Fault
  pub contract_empty : stepped (instr Lcontract 3 0 0 0 0) ≡ Fault
  pub look_at_empty : stepped (instr Lsize 3 6 0 0 7) ≡ Fault
  pub refer_into_empty : stepped (instr Deref 3 3 0 0 7) ≡ Fault
  pub change_array_in_empty : stepped (instr Caadd 3 0 2 0 7) ≡ Fault
  pub count_in_empty : stepped (instr Cacount 3 6 0 0 7) ≡ Fault
  pub element_in_empty : stepped (instr Caelt 3 3 0 0 7) ≡ Fault
  pub unlock_other_kind : stepped_on_vm (instr Munlock 3 0 0 0 0) ≡ Fault
  pub compare_other_kind : stepped_on_vm (instr Sne 0 3 0 0 7) ≡ Fault
  pub write_unmarked : stepped_on_vm (instr Stb 6 3 0 0 0) ≡ Fault
  pub copy_to_unmarked : stepped_on_vm (instr Copy 3 0 0 0 0) ≡ Fault
  pub move_unmarked : stepped_on_vm (instr Lalloc 3 6 2 0 7) ≡ Fault
  pub change_array_unmarked : stepped_on_vm (instr Cadel 3 0 2 0 7) ≡ Fault
  pub unlock_group : stepped_on_group (instr Munlock 3 0 0 0 0) ≡ Fault
  pub write_group_unmarked : stepped_on_group (instr Stb 6 3 0 0 0) ≡ Fault
  pub move_group_unmarked : stepped_on_group (instr Lalloc 3 6 2 0 7) ≡ Fault
  pub new_of_file_into_held : stepped (instr Vnew 0 6 1 0 7) ≡ Fault
  pub lock_of_file_into_held : stepped_on_vm (instr Vlock 3 1 0 0 7) ≡ Fault
  pub lock_group_into_held : stepped_on_group (instr Ilock 3 3 1 0 7) ≡ Fault
  pub mark_empty : stepped (instr Vdirty 3 0 0 0 0) ≡ Fault
  pub mark_group_as_block : stepped_on_group (instr Vdirty 3 0 0 0 0) ≡ Fault
  pub mark_block_as_group : stepped_on_vm (instr Idirty 3 0 0 0 0) ≡ Fault
  pub unlock_group_as_block : stepped_on_group (instr Vunlock 3 0 0 0 0) ≡ Fault
  pub unlock_block_as_group : stepped_on_vm (instr Iunlock 3 0 0 0 0) ≡ Fault
  pub update_over_held : stepped_on_vm (instr Vupdate 0 0 0 0 7) ≡ Fault
  pub save_over_held : stepped_on_vm (instr Vsave 0 0 0 0 7) ≡ Fault
  pub revert_over_held : stepped_on_group (instr Vrevert 0 0 0 0 7) ≡ Fault

pub examples : Faulty
examples = record {
  read_stale = refl;
  write_stale = refl;
  tested_read_stale = refl;
  tested_write_stale = refl;
  copy_to_stale = refl;
  copy_from_stale = refl;
  duplicate_stale = refl;
  measure_stale = refl;
  read_byte_past_end = refl;
  read_word_past_end = refl;
  indexed_read_past_end = refl;
  indexed_write_past_end = refl;
  copy_past_end = refl;
  copy_from_past_end = refl;
  new_into_held = refl;
  lock_into_held = refl;
  unlock_empty = refl;
  compare_empty = refl;
  compare_with_empty = refl;
  compare_both_empty = refl;
  move_empty = refl;
  contract_empty = refl;
  look_at_empty = refl;
  refer_into_empty = refl;
  change_array_in_empty = refl;
  count_in_empty = refl;
  element_in_empty = refl;
  unlock_other_kind = refl;
  compare_other_kind = refl;
  write_unmarked = refl;
  copy_to_unmarked = refl;
  move_unmarked = refl;
  change_array_unmarked = refl;
  unlock_group = refl;
  write_group_unmarked = refl;
  move_group_unmarked = refl;
  new_of_file_into_held = refl;
  lock_of_file_into_held = refl;
  lock_group_into_held = refl;
  mark_empty = refl;
  mark_group_as_block = refl;
  mark_block_as_group = refl;
  unlock_group_as_block = refl;
  unlock_block_as_group = refl;
  update_over_held = refl;
  save_over_held = refl;
  revert_over_held = refl;
}
