-- The refusals of a commit are those of its row.
use Rattle.std.proofs.Common.{◌≡◌, ℕ, ◌+◌, ◌<◌, [], Bool, true, false, refl, sym, ap, ◌∙◌, arith}
use Rattle.std.specs.Prelude.{not, nat_lt}
use Rattle.geos_calls.specs.Effects.{Choice}
use Rattle.geos_calls.specs.Memory.{Memory}
use Rattle.geos_calls.specs.VmCalls.{pair_to_keep}
use Rattle.geos_calls.specs.VmFile as model_file
use Rattle.geos_calls.specs.VmFile.{Kept, Sure, Unsure, is_unsure, pair_length}
use Rattle.block_handles.specs.Store.{Store}
use Rattle.vm_file.specs.Device.{Medium}
use Rattle.vm_file.specs.declared.commit.How.{How}
use Rattle.vm_file.specs.Committing.{current_after, kept_after, length_after, saved_after}
use Rattle.vm_file.specs.Directories.{is_directory}
use Rattle.vm_file.specs.State.{FileState}
use Rattle.vm_file.proofs.CommitLaws.{current_legal, saved_legal}
use Rattle.vm_blocks.specs.View.{VmState}
use Rattle.vm_blocks.specs.Listed.{directory_of, resident_of}
use Rattle.vm_blocks.specs.FileOf.{IsKeptOf, IsMemoryOf}
use Rattle.vm_blocks.specs.ListedCalls.{keeper_of}
use Rattle.vm_blocks.proofs.CommitRows.{kept-is}
use Rattle.vm_blocks.proofs.Stored.{length-same}

-- A choice: memory is refused or not, and the device fails or not, and is unsure then or not
abbrev pub offered : Bool → Bool → Bool → Choice
offered memory device unsure = record { first_room = false; last_room = false; device = device; unsure = unsure; memory = memory; given = [] }

-- what is sure
unsure-told : {D : Type 0} (medium : Medium D) (f : FileState D) (k : Kept) → IsKeptOf medium.image medium.honest f k → is_unsure k ≡ not f.sure
unsure-told medium f (Sure p) is = sym (ap not is.0)
unsure-told medium f (Unsure p q) is = sym (ap not is.0)

over : (n m : ℕ) → n < m → nat_lt n m ≡ true
over n m l = grind (arith, l)

not-over : (n m : ℕ) → (n < m → ⊥) → nat_lt n m ≡ false
not-over n m none = on (nat_lt n m) refl
  where
    on : (b : Bool) → nat_lt n m ≡ b → nat_lt n m ≡ false
    on true e = absurd (none (grind (arith, e)))
    on false e = e

pub true-or : (b : Bool) → (b ≡ false → ⊥) → b ≡ true
true-or true none = refl
true-or false none = absurd (none refl)

module _ {D : Type 0} (medium : Medium D) (v : VmState D) (s : Store) (m : Memory) (is : IsMemoryOf medium v s m) (how : How)
    (cur_legal : is_directory (directory_of v s) ≡ true) (old_legal : is_directory v.file.saved ≡ true) where
  abbrev pub pair_now : model_file.Pair
  pair_now = pair_to_keep (keeper_of how) m

  -- what the pair takes
  length-told : pair_length pair_now ≡ length_after how (directory_of v s) v.file.saved
  length-told =
      let kept = kept-is medium v s m is how in
      let from = kept_after medium.image (resident_of s) how (directory_of v s) v.file in
      let one = length-same (medium.honest v.file.device) (current_after how (directory_of v s) v.file.saved)
      from.cur.blocks pair_now.cur (current_legal how (directory_of v s) v.file.saved cur_legal old_legal) kept.cur in
      let two = length-same (medium.honest v.file.device) (saved_after how (directory_of v s) v.file.saved)
      from.saved.blocks pair_now.saved (saved_legal how (directory_of v s) v.file.saved cur_legal old_legal) kept.saved in
      λ k. one k + two k

  pub sure-test : v.file.sure ≡ true → is_unsure m.file.kept ≡ false
  sure-test sure = unsure-told medium v.file m.file.kept is.file.kept ∙ ap not sure

  pub unsure-test : v.file.sure ≡ false → is_unsure m.file.kept ≡ true
  unsure-test sure = unsure-told medium v.file m.file.kept is.file.kept ∙ ap not sure

  pub area-test : (v.file.area < length_after how (directory_of v s) v.file.saved → ⊥) → nat_lt m.file.area (pair_length pair_now) ≡ false
  area-test none = ap (λ n. nat_lt n (pair_length pair_now)) is.file.area ∙ ap (nat_lt v.file.area) length-told
      ∙ not-over v.file.area (length_after how (directory_of v s) v.file.saved) none

  pub big-test : v.file.area < length_after how (directory_of v s) v.file.saved → nat_lt m.file.area (pair_length pair_now) ≡ true
  big-test big = ap (λ n. nat_lt n (pair_length pair_now)) is.file.area ∙ ap (nat_lt v.file.area) length-told
      ∙ over v.file.area (length_after how (directory_of v s) v.file.saved) big
