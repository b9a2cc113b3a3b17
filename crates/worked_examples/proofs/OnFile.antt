-- What a slot knows that holds a block or a group of the VM file, and what instructions do there.
use Rattle.std.proofs.Common.{◌≡◌, refl, ℕ, Bool, true, false, List, [], ◌∷◌, Option, Some, None}
use Rattle.geos_terms.specs.Chunks.{cost}
use Rattle.geos_terms.specs.Bytes.{word}
use Rattle.geos_calls.specs.Memory.{Memory}
use Rattle.geos_opcodes.specs.declared.opcode.Opcode.TheVariants.{Lalloc, Lsize, Ldb, Stb, Copy}
use Rattle.geos_opcodes.specs.declared.uses.Kind.{Kind}
use Rattle.geos_opcodes.specs.declared.uses.Kind.TheVariants.{VmBlock, DbGroup}
use Rattle.geos_image.specs.declared.instr.Instr.{Instr}
use Rattle.geos_image.specs.declared.row.SlotState.TheVariants.{Vm, Db}
use Rattle.geos_semantics.specs.State.{State}
use Rattle.geos_semantics.specs.Meets.{SlotIsSound, SlotMeets}
use Rattle.geos_semantics.specs.Model.{Outcome, step}
use Rattle.worked_examples.proofs.Images.{instr}
use Rattle.worked_examples.proofs.States.{willing, alone, bytes, leads, listed, beside_listed, held_listed, with_vm, on, with_w6}

-- a user ID of the kind's blocks
abbrev pub uid : Kind → ℕ
uid DbGroup = 65280
uid _ = 5

-- the VM file lists one of the kind, of these chunks, marked or not
abbrev pub file_of : Kind → Bool → List (Option (List ℕ)) → Memory
file_of kind marked chunks = beside_listed (listed (uid kind) marked chunks)

-- s3 holds that, and p3 leads into it
abbrev pub on_file : Kind → Bool → List (Option (List ℕ)) → State
on_file kind marked chunks = with_vm kind (listed (uid kind) marked chunks)

-- the step from there, with one chunk of four bytes
abbrev pub stepped_on : Kind → Bool → Instr → Outcome
stepped_on kind marked i = step (alone i) willing (on_file kind marked (Some bytes ∷ None ∷ []))

-- chunks were changed, and what led into them is stale
abbrev pub moved_on : Kind → List (Option (List ℕ)) → State
moved_on kind chunks = record (on_file kind true chunks) { pointers = leads 0 1 4 ∷ leads 1 1 4 ∷ leads 2 2 2 ∷ None ∷ [] }

-- w0 is 16, w2 is 2, and w6 is 171 times 256 and 205; the chunk has 4 bytes
pub record OnFile : Type 0 where
  -- a block is sound only in a slot of its own kind
  pub block : SlotIsSound (file_of VmBlock false []) (held_listed VmBlock)
  pub block_as_group : SlotIsSound (file_of VmBlock false []) (held_listed DbGroup) → ⊥
  pub group : SlotIsSound (file_of DbGroup false []) (held_listed DbGroup)
  pub group_as_block : SlotIsSound (file_of DbGroup false []) (held_listed VmBlock) → ⊥
  pub nothing : SlotIsSound (beside_listed None) (held_listed VmBlock) → ⊥
  -- it is as a row says that knows its mark where it is marked
  pub marked : SlotMeets (file_of VmBlock true []) (held_listed VmBlock) (Vm true false)
  pub unmarked : SlotMeets (file_of VmBlock false []) (held_listed VmBlock) (Vm false false)
  pub unmarked_as_marked : SlotMeets (file_of VmBlock false []) (held_listed VmBlock) (Vm true false) → ⊥
  pub group_marked : SlotMeets (file_of DbGroup true []) (held_listed DbGroup) (Db true)
  pub group_unmarked_as_marked : SlotMeets (file_of DbGroup false []) (held_listed DbGroup) (Db true) → ⊥
  -- it is read without a mark, and changed with one, which it keeps, as it does its user ID
  pub read : stepped_on VmBlock false (instr Ldb 6 3 0 3 0) ≡ with_w6 4 (on_file VmBlock false (Some bytes ∷ None ∷ []))
  pub sized : stepped_on DbGroup false (instr Lsize 3 6 0 0 7) ≡ with_w6 4 (on_file DbGroup false (Some bytes ∷ None ∷ []))
  pub write : stepped_on VmBlock true (instr Stb 6 3 0 3 0) ≡ on (on_file VmBlock true (Some (1 ∷ 2 ∷ 3 ∷ 205 ∷ []) ∷ None ∷ []))
  pub write_group : stepped_on DbGroup true (instr Stb 6 3 0 3 0) ≡ on (on_file DbGroup true (Some (1 ∷ 2 ∷ 3 ∷ 205 ∷ []) ∷ None ∷ []))
  pub copy : stepped_on VmBlock true (instr Copy 3 2 0 2 0) ≡ on (on_file VmBlock true (Some (9 ∷ 8 ∷ 3 ∷ 4 ∷ []) ∷ None ∷ []))
  pub lalloc : stepped_on VmBlock true (instr Lalloc 3 6 2 0 7) ≡ with_w6 18 (moved_on VmBlock (Some bytes ∷ Some (0 ∷ 0 ∷ []) ∷ []))
  pub lalloc_group : stepped_on DbGroup true (instr Lalloc 3 6 2 0 7) ≡ with_w6 18 (moved_on DbGroup (Some bytes ∷ Some (0 ∷ 0 ∷ []) ∷ []))

pub examples : OnFile
unfolding cost word
examples = record {
  block = (refl, refl);
  block_as_group = λ h. absurd (let both : false ≡ true = h.1 in cc);
  group = (refl, refl);
  group_as_block = λ h. absurd (let both : true ≡ false = h.1 in cc);
  nothing = λ h. absurd (let both : false ≡ true = h.0 in cc);
  marked = (refl, refl, λ is. refl);
  unmarked = (refl, refl, λ is. absurd (let both : false ≡ true = is in cc));
  unmarked_as_marked = λ h. absurd (let both : true ≡ false = h.2 refl in cc);
  group_marked = (refl, refl, λ is. refl);
  group_unmarked_as_marked = λ h. absurd (let both : true ≡ false = h.2 refl in cc);
  read = refl;
  sized = refl;
  write = refl;
  write_group = refl;
  copy = refl;
  lalloc = refl;
  lalloc_group = refl;
}
