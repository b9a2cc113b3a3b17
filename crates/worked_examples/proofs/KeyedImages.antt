-- The image of `add` in version 2, which has rows only at key places: its bytes, the position of the first fault in
-- bytes that encode no image, and the rules' verdicts.
use Rattle.std.proofs.Common.{◌≡◌, refl, ℕ, true, List, [], ◌∷◌, ◌++◌, length, take, set, replicate, Some, None}
use Rattle.std.specs.Prelude.{Ok, Err}
use Rattle.geos_opcodes.specs.declared.opcode.Opcode.TheVariants.{Ldi, Add, Out, Ret}
use Rattle.geos_image.specs.declared.instr.Instr.{Instr}
use Rattle.geos_image.specs.declared.row.Row.{Row}
use Rattle.geos_image.specs.declared.point.Point.{Point}
use Rattle.geos_image.specs.Parts.{Parts}
use Rattle.geos_image.specs.Open.{open_row}
use Rattle.geos_image.specs.Spelling.{spelling}
use Rattle.geos_image.specs.Legal.{is_name_byte}
use Rattle.geos_image.specs.Reading.{image_at, header_at, routines_at, routine_at, name_at, count_at, row_at, slot_at, pointer_at, instr_at, fields_at, bare_points_at, keyed_at, potential_at}
use Rattle.geos_verify.specs.declared.rule.Rule.TheVariants.{EdgeMisfit}
use Rattle.geos_verify.specs.Rules.{leaves_routine, names_empty_slot, entry_misfits, stale_pointer, passes_end, changes_unmarked, locks_into_held, wrong_slot, commits_with_held, call_misfits, exit_misfits, misfits_at, edge_misfits, unpaid_along, unpaid_branching, edge_unpaid, over_budget}
use Rattle.worked_examples.proofs.Images.{routine, instr, potential}
use Rattle.worked_examples.proofs.Judged.{judged}

-- an instruction, and its potential
abbrev bare : Instr → ℕ → Point
bare i steps = record { instr = i; row = None; potential = potential steps 0 }

-- `LDI w0 2`, `LDI w1 3`, `ADD w0 w0 w1`, `OUT w0 x`, `x: RET`, with the row at the RET
abbrev pub keyed_add : Row → Parts
keyed_add last = record {
  keyed = true;
  routines = routine (97 ∷ 100 ∷ 100 ∷ replicate 13 0) 5 5 ∷ [];
  points =
      record (bare (instr Ldi 0 0 0 2 0) 5) { row = Some open_row }
      ∷ bare (instr Ldi 1 0 0 3 0) 4
      ∷ bare (instr Add 0 0 1 0 0) 3
      ∷ bare (instr Out 0 0 0 0 4) 2
      ∷ record (bare (instr Ret 0 0 0 0 0) 1) { row = Some last }
      ∷ [];
}

abbrev bytes : List ℕ
bytes = spelling (keyed_add open_row)

-- w0 is at most 1
abbrev narrow : Row
narrow = record open_row { bounds = set open_row.bounds 0 1 }

-- what reading makes of the bytes, whole, cut, and changed
pub record KeyedSpelled : Type 0 where
  pub spelled_len : length bytes ≡ 334
  pub spelled_read : image_at bytes ≡ Ok (keyed_add open_row)
  -- the byte 0 of the last row is cut
  pub cut_at_333 : image_at (take 333 bytes) ≡ Err 333
  pub one_byte_more : image_at (bytes ++ 0 ∷ []) ≡ Err 334
  pub other_version : image_at (set bytes 4 3) ≡ Err 4
  pub narrowed_read : image_at (set (set bytes 296 1) 297 0) ≡ Ok (keyed_add narrow)

pub examples : KeyedSpelled
unfolding image_at header_at routines_at routine_at name_at is_name_byte count_at row_at slot_at pointer_at instr_at
    fields_at bare_points_at keyed_at potential_at
examples = record { spelled_len = refl; spelled_read = refl; cut_at_333 = refl; one_byte_more = refl; other_version = refl; narrowed_read = refl }

-- the rules' verdict at each pc. The sum after the OUT is at most 5, which does not fit a row that requires a lower
-- bound
pub record KeyedJudged : Type 0 where
  pub accepted : judged (keyed_add open_row) ≡ None ∷ None ∷ None ∷ None ∷ None ∷ []
  pub misfit : judged (keyed_add narrow) ≡ None ∷ None ∷ None ∷ Some EdgeMisfit ∷ None ∷ []

pub judged_examples : KeyedJudged
unfolding leaves_routine names_empty_slot entry_misfits stale_pointer passes_end changes_unmarked locks_into_held wrong_slot commits_with_held
    call_misfits exit_misfits misfits_at edge_misfits unpaid_along unpaid_branching edge_unpaid over_budget
judged_examples = record { accepted = refl; misfit = refl }
