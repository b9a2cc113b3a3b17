-- What each instruction on blocks of the VM file does, on values that a wrong definition would show
-- itself at.
use Rattle.std.proofs.Common.{◌≡◌, refl, true, false, [], ◌∷◌, None}
use Rattle.geos_terms.specs.Chunks.{cost}
use Rattle.geos_opcodes.specs.declared.opcode.Opcode.TheVariants.{Vnew, Vlock, Vdirty, Vunlock, Vfree, Vfind, Vuid, Vgetmap, Vsetmap}
use Rattle.geos_opcodes.specs.declared.uses.Kind.TheVariants.{VmBlock}
use Rattle.geos_semantics.specs.State.{State}
use Rattle.worked_examples.proofs.Images.{instr}
use Rattle.worked_examples.proofs.States.{willing, unwilling, on, refused, with_w6}
use Rattle.worked_examples.proofs.FileStates.{no_device, one, no_chunks, listed_as, clean, group, dirty, directory, file, with_file, listing, on_file, mapping, no_handle, with_s3, with_p3, stepped_from, stepped_on, having, refused_having}

-- s3 holds the first block
abbrev pub held_clean : State
held_clean = with_s3 VmBlock 1 (listing (listed_as 18 false 1 one ∷ group ∷ dirty 1 ∷ None ∷ []))

-- the third block is locked as often as can be
abbrev pub locked_full : State
locked_full = listing (clean ∷ group ∷ dirty 65535 ∷ None ∷ [])

-- w1 to w3 are 1 to 3, w4 is 44, w5 is 18, w7 is 0
pub record OnFileBlocks : Type 0 where
  pub vnew : stepped_on (instr Vnew 3 6 1 0 7) ≡ with_w6 4 (with_s3 VmBlock 4 (listing (clean ∷ group ∷ dirty 1 ∷ listed_as 1 true 1 no_chunks ∷ [])))
  pub vnew_reserved : stepped_from willing (having 65280 on_file) (instr Vnew 3 6 6 0 7) ≡ refused_having 65280 15 on_file
  pub vnew_no_handle : stepped_from willing no_handle (instr Vnew 3 6 1 0 7) ≡ refused 5 no_handle
  pub vnew_no_room : stepped_from unwilling on_file (instr Vnew 3 6 1 0 7) ≡ refused 4 on_file
  pub vlock : stepped_on (instr Vlock 3 1 0 0 7) ≡ on held_clean
  -- a second time
  pub vlock_again : stepped_on (instr Vlock 3 3 0 0 7) ≡ on (with_s3 VmBlock 3 (listing (clean ∷ group ∷ dirty 2 ∷ None ∷ [])))
  pub vlock_no_block : stepped_on (instr Vlock 3 4 0 0 7) ≡ refused 1 on_file
  pub vlock_group : stepped_on (instr Vlock 3 2 0 0 7) ≡ refused 15 on_file
  pub vlock_full : stepped_from willing locked_full (instr Vlock 3 3 0 0 7) ≡ refused 7 locked_full
  pub vlock_no_room : stepped_from unwilling on_file (instr Vlock 3 1 0 0 7) ≡ refused 4 on_file
  -- a block in a slot is in memory, and has its room
  pub vlock_held : stepped_from unwilling on_file (instr Vlock 3 3 0 0 7) ≡ refused 11 on_file
  pub vlock_no_device : stepped_from no_device on_file (instr Vlock 3 1 0 0 7) ≡ refused 11 on_file
  pub vdirty : stepped_from willing (with_p3 1 held_clean) (instr Vdirty 3 0 0 0 0) ≡ on
      (with_p3 1 (with_s3 VmBlock 1 (listing (listed_as 18 true 1 one ∷ group ∷ dirty 1 ∷ None ∷ []))))
  pub vunlock : stepped_from willing (with_p3 1 held_clean) (instr Vunlock 3 0 0 0 0) ≡ on on_file
  -- it was the map block
  pub vfree : stepped_on (instr Vfree 1 0 0 0 7) ≡ on (with_file (file (directory (None ∷ group ∷ dirty 1 ∷ None ∷ []) 0 2 16)))
  pub vfree_no_block : stepped_on (instr Vfree 4 0 0 0 7) ≡ refused 1 on_file
  pub vfree_group : stepped_on (instr Vfree 2 0 0 0 7) ≡ refused 15 on_file
  pub vfree_locked : stepped_on (instr Vfree 3 0 0 0 7) ≡ refused 7 on_file
  -- from 0 on, from 1 on, which is the first one, and from 3 on, the last
  pub vfind : stepped_on (instr Vfind 6 7 5 0 7) ≡ with_w6 1 on_file
  pub vfind_above : stepped_on (instr Vfind 6 1 5 0 7) ≡ with_w6 3 on_file
  pub vfind_none : stepped_on (instr Vfind 6 3 5 0 7) ≡ with_w6 0 on_file
  pub vfind_reserved : stepped_from willing (having 65280 on_file) (instr Vfind 6 7 6 0 7) ≡ refused_having 65280 15 on_file
  pub vuid : stepped_on (instr Vuid 6 1 0 0 7) ≡ with_w6 18 on_file
  pub vuid_group : stepped_on (instr Vuid 6 2 0 0 7) ≡ with_w6 65280 on_file
  pub vuid_no_block : stepped_on (instr Vuid 6 4 0 0 7) ≡ refused 1 on_file
  pub vgetmap : stepped_on (instr Vgetmap 6 0 0 0 0) ≡ with_w6 1 on_file
  pub vsetmap : stepped_on (instr Vsetmap 3 0 0 0 7) ≡ on (mapping 3 2 16)
  pub vsetmap_none : stepped_on (instr Vsetmap 7 0 0 0 7) ≡ on (mapping 0 2 16)
  pub vsetmap_no_block : stepped_on (instr Vsetmap 4 0 0 0 7) ≡ refused 1 on_file
  pub vsetmap_group : stepped_on (instr Vsetmap 2 0 0 0 7) ≡ refused 15 on_file

pub examples : OnFileBlocks
unfolding cost
examples = record {
  vnew = refl;
  vnew_reserved = refl;
  vnew_no_handle = refl;
  vnew_no_room = refl;
  vlock = refl;
  vlock_again = refl;
  vlock_no_block = refl;
  vlock_group = refl;
  vlock_full = refl;
  vlock_no_room = refl;
  vlock_held = refl;
  vlock_no_device = refl;
  vdirty = refl;
  vunlock = refl;
  vfree = refl;
  vfree_no_block = refl;
  vfree_group = refl;
  vfree_locked = refl;
  vfind = refl;
  vfind_above = refl;
  vfind_none = refl;
  vfind_reserved = refl;
  vuid = refl;
  vuid_group = refl;
  vuid_no_block = refl;
  vgetmap = refl;
  vsetmap = refl;
  vsetmap_none = refl;
  vsetmap_no_block = refl;
  vsetmap_group = refl;
}
