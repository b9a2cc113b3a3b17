-- What the instructions that write the VM file do, on values that a wrong definition would show itself
-- at.
use Rattle.std.proofs.Common.{◌≡◌, refl, ℕ, false, [], ◌∷◌, Some, None}
use Rattle.geos_terms.specs.Chunks.{cost}
use Rattle.geos_calls.specs.Directories.{VmBlock as Listed, KeptBlock, Directory}
use Rattle.geos_calls.specs.VmFile.{Pair, Sure, Unsure}
use Rattle.geos_opcodes.specs.declared.opcode.Opcode.TheVariants.{Vupdate, Vsave, Vrevert}
use Rattle.geos_semantics.specs.State.{State}
use Rattle.worked_examples.proofs.Images.{instr}
use Rattle.worked_examples.proofs.States.{willing, unwilling, few_bytes, on, refused}
use Rattle.worked_examples.proofs.FileStates.{no_device, late, one, no_chunks, listed_as, kept_as, clean, group, dirty, directory, saved, pair, file, with_file, stepped_from}

-- no block of the file is locked, and the third one is marked
abbrev pub current : Directory Listed
current = directory (clean ∷ group ∷ dirty 0 ∷ None ∷ []) 1 2 16

abbrev pub unlocked : State
unlocked = with_file (file current)

-- no block is marked
abbrev pub unmarked : Directory Listed
unmarked = directory (clean ∷ group ∷ listed_as 18 false 0 no_chunks ∷ None ∷ []) 1 2 16

-- what is current as it is written, in 8 bytes and three times 70
abbrev pub written : Directory KeptBlock
written = record { blocks = kept_as 18 one ∷ kept_as 65280 one ∷ kept_as 18 no_chunks ∷ None ∷ []; map_block = 1; map_group = 2; map_item = 16 }

-- what was saved, in 8 bytes and 70, is current again
abbrev pub reverted : Directory Listed
reverted = directory (listed_as 18 false 0 (Some few_bytes ∷ None ∷ []) ∷ None ∷ None ∷ None ∷ []) 1 0 0

-- this is current, that is saved, and the device holds a pair
abbrev pub goes_on : Directory Listed → Directory KeptBlock → Pair → State
goes_on cur saved kept = with_file (record { cur = cur; saved = saved; kept = Sure kept; area = 512 })

-- the file's areas have so many bytes
abbrev pub with_area : ℕ → State → State
with_area n s = record s { memory = record s.memory { file = record s.memory.file { area = n } } }

abbrev pub in_areas : ℕ → State
in_areas n = with_area n unlocked

-- the device holds the pair from before, or this one
abbrev pub in_doubt : Pair → State
in_doubt new = with_file (record (file current) { kept = Unsure (pair saved saved) new })

pub record OnCommits : Type 0 where
  pub vupdate : stepped_from willing unlocked (instr Vupdate 0 0 0 0 7) ≡ on (goes_on unmarked saved (pair written saved))
  pub vupdate_fits : stepped_from willing (in_areas 296) (instr Vupdate 0 0 0 0 7) ≡ on (with_area 296 (goes_on unmarked saved (pair written saved)))
  pub vupdate_unsure : stepped_from unwilling (in_doubt (pair saved written)) (instr Vupdate 0 0 0 0 7) ≡ refused 12 (in_doubt (pair saved written))
  pub vupdate_too_long : stepped_from unwilling (in_areas 295) (instr Vupdate 0 0 0 0 7) ≡ refused 6 (in_areas 295)
  pub vupdate_no_memory : stepped_from unwilling unlocked (instr Vupdate 0 0 0 0 7) ≡ refused 13 unlocked
  pub vupdate_no_device : stepped_from no_device unlocked (instr Vupdate 0 0 0 0 7) ≡ refused 11 unlocked
  -- the device may hold the new pair, too
  pub vupdate_late : stepped_from late unlocked (instr Vupdate 0 0 0 0 7) ≡ refused 11 (in_doubt (pair written saved))
  pub vsave : stepped_from willing unlocked (instr Vsave 0 0 0 0 7) ≡ on (goes_on unmarked written (pair written written))
  pub vsave_fits : stepped_from willing (in_areas 436) (instr Vsave 0 0 0 0 7) ≡ on (with_area 436 (goes_on unmarked written (pair written written)))
  pub vsave_unsure : stepped_from unwilling (in_doubt (pair saved written)) (instr Vsave 0 0 0 0 7) ≡ refused 12 (in_doubt (pair saved written))
  pub vsave_too_long : stepped_from unwilling (in_areas 435) (instr Vsave 0 0 0 0 7) ≡ refused 6 (in_areas 435)
  pub vsave_no_memory : stepped_from unwilling unlocked (instr Vsave 0 0 0 0 7) ≡ refused 13 unlocked
  pub vsave_no_device : stepped_from no_device unlocked (instr Vsave 0 0 0 0 7) ≡ refused 11 unlocked
  -- the device may hold the new pair, too
  pub vsave_late : stepped_from late unlocked (instr Vsave 0 0 0 0 7) ≡ refused 11 (in_doubt (pair written written))
  pub vrevert : stepped_from willing unlocked (instr Vrevert 0 0 0 0 7) ≡ on (goes_on reverted saved (pair saved saved))
  pub vrevert_fits : stepped_from willing (in_areas 156) (instr Vrevert 0 0 0 0 7) ≡ on (with_area 156 (goes_on reverted saved (pair saved saved)))
  pub vrevert_unsure : stepped_from unwilling (in_doubt (pair saved written)) (instr Vrevert 0 0 0 0 7) ≡ refused 12 (in_doubt (pair saved written))
  pub vrevert_too_long : stepped_from unwilling (in_areas 155) (instr Vrevert 0 0 0 0 7) ≡ refused 6 (in_areas 155)
  pub vrevert_no_memory : stepped_from unwilling unlocked (instr Vrevert 0 0 0 0 7) ≡ refused 13 unlocked
  pub vrevert_no_device : stepped_from no_device unlocked (instr Vrevert 0 0 0 0 7) ≡ refused 11 unlocked
  -- the device may hold the new pair, too
  pub vrevert_late : stepped_from late unlocked (instr Vrevert 0 0 0 0 7) ≡ refused 11 (in_doubt (pair saved saved))

pub examples : OnCommits
unfolding cost
examples = record {
  vupdate = refl;
  vupdate_fits = refl;
  vupdate_unsure = refl;
  vupdate_too_long = refl;
  vupdate_no_memory = refl;
  vupdate_no_device = refl;
  vupdate_late = refl;
  vsave = refl;
  vsave_fits = refl;
  vsave_unsure = refl;
  vsave_too_long = refl;
  vsave_no_memory = refl;
  vsave_no_device = refl;
  vsave_late = refl;
  vrevert = refl;
  vrevert_fits = refl;
  vrevert_unsure = refl;
  vrevert_too_long = refl;
  vrevert_no_memory = refl;
  vrevert_no_device = refl;
  vrevert_late = refl;
}
