-- What each instruction on groups and items does, on values that a wrong definition would show itself
-- at.
use Rattle.std.proofs.Common.{◌≡◌, refl, ℕ, true, false, List, [], ◌∷◌, Option, Some, None}
use Rattle.geos_terms.specs.Chunks.{cost}
use Rattle.geos_opcodes.specs.declared.opcode.Opcode.TheVariants.{Gnew, Gfree, Inew, Ifree, Irealloc, Iins, Idel, Ilock, Idirty, Iunlock, Igetmap, Isetmap}
use Rattle.geos_opcodes.specs.declared.uses.Kind.TheVariants.{DbGroup}
use Rattle.geos_image.specs.declared.instr.Instr.{Instr}
use Rattle.geos_semantics.specs.State.{State}
use Rattle.geos_semantics.specs.Model.{Outcome}
use Rattle.worked_examples.proofs.Images.{instr}
use Rattle.worked_examples.proofs.States.{willing, unwilling, bytes, registers, on, refused, with_w6, greatest_refused}
use Rattle.worked_examples.proofs.FileStates.{no_place, no_growth, no_device, one, no_chunks, listed_as, clean, group, dirty, directory, file, with_file, listing, on_file, mapping, no_handle, with_s3, with_p3, stepped_from, stepped_on, having}

-- s3 holds the group, and what led into it is stale
abbrev pub left : State
left = with_s3 DbGroup 2 (listing (clean ∷ listed_as 65280 false 1 one ∷ dirty 1 ∷ None ∷ []))

-- s3 holds the group, and p3 leads to its item 16
abbrev pub held_group : State
held_group = with_p3 2 left

-- s3 holds the group, which has other items and is marked, and what led into it is stale
abbrev pub moved : List (Option (List ℕ)) → State
moved chunks = with_s3 DbGroup 2 (listing (clean ∷ listed_as 65280 true 1 chunks ∷ dirty 1 ∷ None ∷ []))

-- the group is locked as often as can be
abbrev pub locked_full : State
locked_full = listing (clean ∷ listed_as 65280 false 65535 one ∷ dirty 1 ∷ None ∷ [])

-- the step if a slot has the group
abbrev pub stepped_held : Instr → Outcome
stepped_held i = stepped_from willing held_group i

-- the same from where w6 has the greatest word
abbrev pub stepped_greatest : Instr → Outcome
stepped_greatest i = stepped_from willing (having 65535 held_group) i

-- w0 is 16, w1 to w3 are 1 to 3, w4 is 44, w5 is 18, w7 is 0
pub record OnItems : Type 0 where
  pub gnew : stepped_on (instr Gnew 6 0 0 0 7) ≡ with_w6 4 (listing (clean ∷ group ∷ dirty 1 ∷ listed_as 65280 true 0 no_chunks ∷ []))
  pub gnew_no_handle : stepped_from willing no_handle (instr Gnew 6 0 0 0 7) ≡ refused 5 no_handle
  pub gnew_no_room : stepped_from unwilling on_file (instr Gnew 6 0 0 0 7) ≡ refused 4 on_file
  -- the map item was in it
  pub gfree : stepped_on (instr Gfree 2 0 0 0 7) ≡ on (with_file (file (directory (clean ∷ None ∷ dirty 1 ∷ None ∷ []) 1 0 0)))
  pub gfree_no_group : stepped_on (instr Gfree 1 0 0 0 7) ≡ refused 1 on_file
  pub gfree_locked : stepped_from willing held_group (instr Gfree 2 0 0 0 7) ≡ refused 7 held_group
  -- a slot may have the group or not
  pub inew : stepped_held (instr Inew 6 2 2 0 7) ≡ with_w6 18 (moved (Some bytes ∷ Some (0 ∷ 0 ∷ []) ∷ []))
  pub inew_idle : stepped_on (instr Inew 6 2 2 0 7) ≡ with_w6 18
      (listing (clean ∷ listed_as 65280 true 0 (Some bytes ∷ Some (0 ∷ 0 ∷ []) ∷ []) ∷ dirty 1 ∷ None ∷ []))
  pub inew_no_group : stepped_held (instr Inew 6 1 2 0 7) ≡ refused 1 held_group
  pub inew_no_place : stepped_from no_place on_file (instr Inew 6 2 2 0 7) ≡ refused 4 on_file
  pub inew_no_device : stepped_from no_device held_group (instr Inew 6 2 2 0 7) ≡ refused 11 left
  pub inew_too_big : stepped_greatest (instr Inew 6 2 6 0 7) ≡ greatest_refused 6 left
  pub inew_no_room : stepped_from no_growth held_group (instr Inew 6 2 4 0 7) ≡ refused 4 left
  pub ifree : stepped_held (instr Ifree 2 0 0 0 7) ≡ on (moved (None ∷ None ∷ []))
  pub ifree_no_group : stepped_held (instr Ifree 1 0 0 0 7) ≡ refused 1 held_group
  pub ifree_no_place : stepped_from no_place on_file (instr Ifree 2 0 0 0 7) ≡ refused 4 on_file
  pub ifree_no_device : stepped_from no_device held_group (instr Ifree 2 0 0 0 7) ≡ refused 11 left
  pub ifree_no_item : stepped_held (instr Ifree 2 5 0 0 7) ≡ refused 2 left
  pub irealloc : stepped_held (instr Irealloc 2 0 3 0 7) ≡ on (moved (Some (1 ∷ 2 ∷ 3 ∷ []) ∷ None ∷ []))
  pub irealloc_no_group : stepped_held (instr Irealloc 1 0 3 0 7) ≡ refused 1 held_group
  pub irealloc_no_place : stepped_from no_place on_file (instr Irealloc 2 0 3 0 7) ≡ refused 4 on_file
  pub irealloc_no_device : stepped_from no_device held_group (instr Irealloc 2 0 3 0 7) ≡ refused 11 left
  pub irealloc_no_item : stepped_held (instr Irealloc 2 5 3 0 7) ≡ refused 2 left
  pub irealloc_too_big : stepped_greatest (instr Irealloc 2 0 6 0 7) ≡ greatest_refused 6 left
  pub irealloc_no_room : stepped_from no_growth held_group (instr Irealloc 2 0 4 0 7) ≡ refused 4 left
  pub iins : stepped_held (record (instr Iins 2 0 1 0 7) { d = 2 }) ≡ on (moved (Some (1 ∷ 0 ∷ 0 ∷ 2 ∷ 3 ∷ 4 ∷ []) ∷ None ∷ []))
  pub iins_no_group : stepped_held (record (instr Iins 1 0 1 0 7) { d = 2 }) ≡ refused 1 held_group
  pub iins_no_place : stepped_from no_place on_file (record (instr Iins 2 0 1 0 7) { d = 2 }) ≡ refused 4 on_file
  pub iins_no_device : stepped_from no_device held_group (record (instr Iins 2 0 1 0 7) { d = 2 }) ≡ refused 11 left
  pub iins_no_item : stepped_held (record (instr Iins 2 5 4 0 7) { d = 2 }) ≡ refused 2 left
  pub iins_past_end : stepped_held (record (instr Iins 2 0 4 0 7) { d = 1 }) ≡ refused 14 left
  pub iins_too_big : stepped_greatest (record (instr Iins 2 0 1 0 7) { d = 6 }) ≡ greatest_refused 6 left
  pub iins_no_room : stepped_from no_growth held_group (record (instr Iins 2 0 1 0 7) { d = 4 }) ≡ refused 4 left
  pub idel : stepped_held (record (instr Idel 2 0 1 0 7) { d = 2 }) ≡ on (moved (Some (1 ∷ 4 ∷ []) ∷ None ∷ []))
  pub idel_no_group : stepped_held (record (instr Idel 1 0 1 0 7) { d = 2 }) ≡ refused 1 held_group
  pub idel_no_place : stepped_from no_place on_file (record (instr Idel 2 0 1 0 7) { d = 2 }) ≡ refused 4 on_file
  pub idel_no_device : stepped_from no_device held_group (record (instr Idel 2 0 1 0 7) { d = 2 }) ≡ refused 11 left
  pub idel_no_item : stepped_held (record (instr Idel 2 5 4 0 7) { d = 2 }) ≡ refused 2 left
  pub idel_past_end : stepped_held (record (instr Idel 2 0 3 0 7) { d = 2 }) ≡ refused 14 left
  pub ilock : stepped_on (instr Ilock 3 3 2 4 7) ≡ on held_group
  pub ilock_no_group : stepped_on (instr Ilock 3 3 1 4 7) ≡ refused 1 on_file
  pub ilock_full : stepped_from unwilling locked_full (instr Ilock 3 3 2 4 7) ≡ refused 7 locked_full
  pub ilock_no_place : stepped_from unwilling on_file (instr Ilock 3 3 2 4 7) ≡ refused 4 on_file
  pub ilock_no_device : stepped_from no_device on_file (instr Ilock 3 3 2 4 7) ≡ refused 11 on_file
  pub ilock_no_item : stepped_on (record (instr Ilock 3 3 2 4 7) { d = 5 }) ≡ refused 2 on_file
  pub ilock_short : stepped_on (instr Ilock 3 3 2 5 7) ≡ refused 3 on_file
  pub idirty : stepped_held (instr Idirty 3 0 0 0 0) ≡ on (with_p3 2 (moved one))
  pub iunlock : stepped_held (instr Iunlock 3 0 0 0 0) ≡ on on_file
  pub igetmap : stepped_on (instr Igetmap 6 7 0 0 0) ≡ on (record on_file { words = registers 2 16 })
  -- the item comes last
  pub igetmap_one_word : stepped_on (instr Igetmap 6 6 0 0 0) ≡ with_w6 16 on_file
  -- there is no such item, which nothing asks
  pub isetmap : stepped_on (instr Isetmap 2 5 0 0 7) ≡ on (mapping 1 2 18)
  pub isetmap_none : stepped_on (instr Isetmap 7 7 0 0 7) ≡ on (mapping 1 0 0)
  pub isetmap_no_group : stepped_on (instr Isetmap 1 0 0 0 7) ≡ refused 1 on_file
  pub isetmap_item_alone : stepped_on (instr Isetmap 7 0 0 0 7) ≡ refused 14 on_file

pub examples : OnItems
unfolding cost
examples = record {
  gnew = refl;
  gnew_no_handle = refl;
  gnew_no_room = refl;
  gfree = refl;
  gfree_no_group = refl;
  gfree_locked = refl;
  inew = refl;
  inew_idle = refl;
  inew_no_group = refl;
  inew_no_place = refl;
  inew_no_device = refl;
  inew_too_big = refl;
  inew_no_room = refl;
  ifree = refl;
  ifree_no_group = refl;
  ifree_no_place = refl;
  ifree_no_device = refl;
  ifree_no_item = refl;
  irealloc = refl;
  irealloc_no_group = refl;
  irealloc_no_place = refl;
  irealloc_no_device = refl;
  irealloc_no_item = refl;
  irealloc_too_big = refl;
  irealloc_no_room = refl;
  iins = refl;
  iins_no_group = refl;
  iins_no_place = refl;
  iins_no_device = refl;
  iins_no_item = refl;
  iins_past_end = refl;
  iins_too_big = refl;
  iins_no_room = refl;
  idel = refl;
  idel_no_group = refl;
  idel_no_place = refl;
  idel_no_device = refl;
  idel_no_item = refl;
  idel_past_end = refl;
  ilock = refl;
  ilock_no_group = refl;
  ilock_full = refl;
  ilock_no_place = refl;
  ilock_no_device = refl;
  ilock_no_item = refl;
  ilock_short = refl;
  idirty = refl;
  iunlock = refl;
  igetmap = refl;
  igetmap_one_word = refl;
  isetmap = refl;
  isetmap_none = refl;
  isetmap_no_group = refl;
  isetmap_item_alone = refl;
}
