-- What the rules say of the worked examples on arrays, and what the model's runs of them come to.
use Rattle.std.proofs.Common.{◌≡◌, false, refl, [], ◌∷◌, ◌++◌, replicate, Some, None}
use Rattle.geos_terms.specs.Bytes.{word}
use Rattle.geos_terms.specs.Chunks.{cost}
use Rattle.geos_terms.specs.Arrays.{arr, spelled}
use Rattle.geos_opcodes.specs.declared.opcode.Opcode.TheVariants.{Canew, Caadd, Cains, Cadel, Cacount, Caelt, Cazero, Caresize}
use Rattle.geos_image.specs.declared.row.SlotState.TheVariants.{Mem, Vm}
use Rattle.geos_verify.specs.declared.rule.Rule.TheVariants.{PassesEnd, ChangesUnmarked, WrongSlot, EdgeMisfit}
use Rattle.geos_verify.specs.Rules.{leaves_routine, names_empty_slot, entry_misfits, stale_pointer, passes_end, changes_unmarked, locks_into_held, wrong_slot, commits_with_held, call_misfits, exit_misfits, misfits_at, edge_misfits, unpaid_along, unpaid_branching, edge_unpaid, over_budget}
use Rattle.worked_examples.proofs.Images.{instr}
use Rattle.worked_examples.proofs.BlockImages.{s0, s0_p0, with_row}
use Rattle.worked_examples.proofs.ArrayImages.{edits, pair}
use Rattle.worked_examples.proofs.Judged.{judged}
use Rattle.worked_examples.proofs.JudgedOnBlocks.{fine, refused_at}
use Rattle.worked_examples.proofs.Runs.{ending_in_128, left, returned}
use Rattle.worked_examples.proofs.States.{willing, block}

pub record JudgedOnArrays : Type 0 where
  pub edits_accepted : judged edits ≡ fine 38
  -- an element of 4 bytes has a word at 2, and none at 3
  pub last_word : judged (pair 4 2) ≡ fine 15
  pub past_last_word : judged (pair 4 3) ≡ refused_at 8 PassesEnd 6
  -- what changes an array may move its chunk, and the row cannot say that it has not
  pub made : judged (with_row (s0_p0 8) (instr Canew 0 1 0 0 1)) ≡ refused_at 0 EdgeMisfit 1
  pub added : judged (with_row (s0_p0 8) (instr Caadd 0 1 2 0 1)) ≡ refused_at 0 EdgeMisfit 1
  pub inserted : judged (with_row (s0_p0 8) (instr Cains 0 1 2 0 1)) ≡ refused_at 0 EdgeMisfit 1
  pub removed : judged (with_row (s0_p0 8) (instr Cadel 0 1 2 0 1)) ≡ refused_at 0 EdgeMisfit 1
  pub emptied : judged (with_row (s0_p0 8) (instr Cazero 0 1 0 0 1)) ≡ refused_at 0 EdgeMisfit 1
  pub resized : judged (with_row (s0_p0 8) (instr Caresize 0 1 2 0 1)) ≡ refused_at 0 EdgeMisfit 1
  -- what looks at one moves nothing
  pub counted : judged (with_row (s0_p0 8) (instr Cacount 0 1 2 0 1)) ≡ fine 2
  pub found : judged (with_row (s0_p0 8) (instr Caelt 0 1 2 0 1)) ≡ fine 2
  pub found_short : judged (with_row (s0_p0 8) (instr Caelt 0 0 2 7 1)) ≡ refused_at 0 EdgeMisfit 1
  pub change_unmarked : judged (with_row (s0 (Vm false false)) (instr Caadd 0 1 2 0 1)) ≡ refused_at 0 ChangesUnmarked 1
  pub count_unmarked : judged (with_row (s0 (Vm false false)) (instr Cacount 0 1 2 0 1)) ≡ fine 2
  pub change_in_empty : judged (with_row (s0 Mem) (instr Cadel 1 1 2 0 1)) ≡ refused_at 0 WrongSlot 1
  pub look_in_empty : judged (with_row (s0 Mem) (instr Caelt 1 1 2 0 1)) ≡ refused_at 0 WrongSlot 1

pub examples : JudgedOnArrays
unfolding leaves_routine names_empty_slot entry_misfits stale_pointer passes_end changes_unmarked locks_into_held wrong_slot commits_with_held
    call_misfits exit_misfits misfits_at edge_misfits unpaid_along unpaid_branching edge_unpaid over_budget
examples = record {
  edits_accepted = refl;
  last_word = refl;
  past_last_word = refl;
  made = refl;
  added = refl;
  inserted = refl;
  removed = refl;
  emptied = refl;
  resized = refl;
  counted = refl;
  found = refl;
  found_short = refl;
  change_unmarked = refl;
  count_unmarked = refl;
  change_in_empty = refl;
  look_in_empty = refl;
}

-- the count, three lengths, and two refusals
pub edits-run : returned (ending_in_128 willing edits 38) ≡ (36, 1 ∷ 16 ∷ 1 ∷ 2 ∷ 5 ∷ 0 ∷ 0 ∷ 8 ∷ [], 3 ∷ 2 ∷ 0 ∷ 5 ∷ 9 ∷ 8 ∷ []) ∷ []
unfolding arr spelled cost word
edits-run = refl

-- 21 bytes, which encoded an array before the word at 2 was set to 1
pub edits-leave : left (ending_in_128 willing edits 38)
    ≡ block 0 (Some ((3 ∷ 0 ∷ 1 ∷ 0 ∷ 0 ∷ 0 ∷ 8 ∷ 0 ∷ 14 ∷ 0 ∷ 16 ∷ 0 ∷ 16 ∷ 0 ∷ []) ++ replicate 7 0) ∷ None ∷ []) ∷ []
unfolding arr spelled cost word
edits-leave = refl

-- a chunk of 16 bytes; elements of one size get no other
pub pair-runs : returned (ending_in_128 willing (pair 4 2) 15) ≡ (14, 1 ∷ 16 ∷ 1 ∷ 16 ∷ 0 ∷ 0 ∷ 0 ∷ 8 ∷ [], 16 ∷ 0 ∷ 8 ∷ []) ∷ []
unfolding arr spelled cost word
pair-runs = refl

-- an element of 4 bytes has not 5
pub pair-is-short : returned (ending_in_128 willing (pair 5 2) 15) ≡ (11, 1 ∷ 16 ∷ 1 ∷ 16 ∷ 0 ∷ 0 ∷ 0 ∷ 3 ∷ [], 16 ∷ 3 ∷ []) ∷ []
unfolding arr spelled cost word
pair-is-short = refl
