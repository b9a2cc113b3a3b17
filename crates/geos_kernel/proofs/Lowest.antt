-- The lowest handle that is free.
use Rattle.std.proofs.Common.{◌≡◌, ℕ, zero, suc, ◌<◌, ◌≤◌, length, length-take, take, get_or, Some, None, true, false, refl, ap, ◌∙◌, arith}
use Rattle.std.specs.Prelude.{is_none, nat_le, nat_lt}
use Rattle.std.specs.List.{position_or_len}
use Rattle.std.proofs.lemmas.List.{length-map}
use Rattle.std.proofs.lemmas.List.Sums.{position_or_len_is}
use Rattle.geos_terms.specs.declared.name.Owner.TheVariants.{Mem}
use Rattle.geos_terms.specs.Names.{mem}
use Rattle.geos_calls.specs.Memory.{Memory, lowest_handle, lowest_of, up_to}
use Rattle.block_handles.specs.Names.{slot_of}
use Rattle.block_handles.specs.Store.{Store, block_at, handles_of, IsThere}
use Rattle.block_handles.specs.Used.{IsLowest, AllInUse}
use Rattle.vm_file.specs.Device.{Medium}
use Rattle.vm_blocks.specs.FileOf.{IsMemoryOf}
use Rattle.vm_blocks.specs.Spelled.{block_in}
use Rattle.vm_blocks.specs.Tied.{IsTied}
use Rattle.vm_blocks.specs.View.{VmState}
use Rattle.chunk_calls.proofs.Named.{mem-known}
use Rattle.geos_kernel.proofs.Named.{view-there, view-absent}

module _ {D : Type 0} (medium : Medium D) (v : VmState D) (s : Store) (m : Memory) (tied : IsTied medium v s) (is : IsMemoryOf medium v s m) where
  pub count : length m.blocks ≡ 1024
  count = ap length is.blocks ∙ omega (arith, length-map (take 1024 s.blocks) block_in, length-take 1024 s.blocks, tied.laid.slots)

  used : (i : ℕ) → IsThere s (slot_of (mem (suc i))) → is_none (get_or m.blocks i None) ≡ false
  used i there = ap is_none (mem-known medium v s tied m is (suc i) ∙ view-there (block_at s (slot_of (mem (suc i)))) there)

  unused : (i : ℕ) → (IsThere s (slot_of (mem (suc i))) → ⊥) → is_none (get_or m.blocks i None) ≡ true
  unused i absent = ap is_none (mem-known medium v s tied m is (suc i) ∙ view-absent (block_at s (slot_of (mem (suc i)))) absent)

  -- the lowest free handle is the model's
  lowest-is : (h : ℕ) → IsLowest s Mem h → lowest_of m.blocks ≡ Some h
  lowest-is zero l = absurd (omega (arith, l.handle.0))
  lowest-is (suc i) l =
      let lt : i < 1024 = omega (arith, l.handle.1) in
      let first : position_or_len is_none m.blocks ≡ i =
      position_or_len_is is_none m.blocks i None (omega (arith, count)) (λ j below. used j (l.lower (suc j) (omega arith, omega arith) (omega arith)))
      (λ inside. unused i l.free) in
      let inside : nat_lt i (length m.blocks) ≡ true = rw count (grind (arith, lt)) in
      rw (first, inside) refl

  -- a new block may get it
  pub lowest-some : (h : ℕ) → IsLowest s Mem h → h ≤ handles_of s → lowest_handle m Mem ≡ Some h
  lowest-some h l within =
      let fits : nat_le h m.handles ≡ true = rw is.handles (grind (arith, within)) in
      ap (up_to m.handles) (lowest-is h l) ∙ rw fits refl

  -- or it is above the limit
  pub lowest-high : (h : ℕ) → IsLowest s Mem h → handles_of s < h → lowest_handle m Mem ≡ None
  lowest-high h l above =
      let over : nat_le h m.handles ≡ false = rw is.handles (grind (arith, above)) in
      ap (up_to m.handles) (lowest-is h l) ∙ rw over refl

  pub lowest-none : AllInUse s Mem → lowest_handle m Mem ≡ None
  lowest-none all =
      let last : position_or_len is_none m.blocks ≡ 1024 =
      position_or_len_is is_none m.blocks 1024 None (omega (arith, count)) (λ j below. used j (all (suc j) (omega arith, omega (arith, below))))
      (λ inside. absurd (omega (arith, inside, count))) in
      rw (last, count) refl
