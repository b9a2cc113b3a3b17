-- The bytes of the image of `add`, and the position of the first fault in bytes that encode no image.
use Rattle.std.proofs.Common.{◌≡◌, refl, ℕ, List, [], ◌∷◌, ◌++◌, length, take, set}
use Rattle.std.specs.Prelude.{Ok, Err}
use Rattle.geos_image.specs.Spelling.{spelling}
use Rattle.geos_image.specs.Legal.{is_name_byte}
use Rattle.geos_image.specs.Reading.{image_at, header_at, routines_at, routine_at, name_at, count_at, row_at, slot_at, pointer_at, instr_at, fields_at, points_at, whole_at, entry_at, potential_at}
use Rattle.worked_examples.proofs.Images.{add}

abbrev pub bytes : List ℕ
bytes = spelling (add 5)

-- what reading makes of the bytes, whole, cut, and changed
pub record Spelled : Type 0 where
  pub spelled_len : length bytes ≡ 448
  pub spelled_read : image_at bytes ≡ Ok (add 5)
  -- no byte: the name of the format is cut
  pub cut_at_0 : image_at [] ≡ Err 0
  -- the budget is cut
  pub cut_at_30 : image_at (take 30 bytes) ≡ Err 28
  -- the last coefficient is cut
  pub cut_at_447 : image_at (take 447 bytes) ≡ Err 444
  pub one_byte_more : image_at (bytes ++ 0 ∷ []) ≡ Err 448
  -- field a of the RET, which uses none
  pub unused_field : image_at (set bytes 149 1) ≡ Err 149

pub examples : Spelled
unfolding image_at header_at routines_at routine_at name_at is_name_byte count_at row_at slot_at pointer_at instr_at
    fields_at points_at whole_at entry_at potential_at
examples = record {
  spelled_len = refl;
  spelled_read = refl;
  cut_at_0 = refl;
  cut_at_30 = refl;
  cut_at_447 =
      refl;
  one_byte_more = refl;
  unused_field = refl;
}
