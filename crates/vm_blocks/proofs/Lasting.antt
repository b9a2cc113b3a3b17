-- Blocks of the file stay tied where others change, and where a marked one does.
use Rattle.std.proofs.Common.{◌≡◌, ◌∙◌, ℕ, Option, Some, None, true, false, sym, subst, arith, inl, inr}
use Rattle.std.proofs.lemmas.Bool.{cases_eq}
use Rattle.geos_terms.specs.Block.{handle_word}
use Rattle.geos_terms.specs.Heap.{IsHeap}
use Rattle.block_handles.specs.Layout.{IsLaidOut}
use Rattle.block_handles.specs.Store.{Block, Store, block_at}
use Rattle.vm_file.specs.Device.{Medium}
use Rattle.vm_blocks.specs.declared.entries.Held.{Held}
use Rattle.vm_blocks.specs.View.{VmState, held_at, vm_slot}
use Rattle.vm_blocks.specs.Tied.{IsTied, TiedAt}
use Rattle.vm_blocks.specs.Keeping.{IsMarkedHeap, SameBut}

module _ {D : Type 0} (medium : Medium D) (v : VmState D) (s t : Store) (tied : IsTied medium v s) (laid : IsLaidOut t) where
  pub others-change : SameBut s t 0 → IsTied medium v t
  others-change same = record {
    laid = laid;
    long = tied.long;
    each = λ h p. subst (TiedAt medium v.file h (held_at v h)) (sym (same h p (λ z. let some = p.0 in omega (arith, some, z)))) (tied.each h p);
    maps = tied.maps;
  }

  clash : (b : Held) → b.marked ≡ true → b.marked ≡ false → ⊥
  clash b is not = let e : true ≡ false = sym is ∙ not in absurd cc

  marked-tied-at : (h : ℕ) (e : Held) (b : Option Block) (c : Block) → e.marked ≡ true → IsHeap c.bytes
      → handle_word c.bytes ≡ h → TiedAt medium v.file h (Some e) b → TiedAt medium v.file h (Some e) (Some c)
  marked-tied-at h e None c is heap word u = absurd (clash e is u.clean)
  marked-tied-at h e (Some b) c is heap word u = record {
    size = u.size;
    heap = heap;
    handle = word;
    kept =
        λ other. absurd (clash e is other);
    clean = λ other. absurd (clash e is other);
  }

  pub marked-changes : (h : ℕ) → SameBut s t h → IsMarkedHeap v t h → IsTied medium v t
  marked-changes h same own = record {
    laid = laid;
    long = tied.long;
    each = λ k p. elim (cases_eq k h) [
      | inl here ↦ subst (λ j. TiedAt medium v.file j (held_at v j) (block_at t (vm_slot j))) (sym here)
          (subst (TiedAt medium v.file h (held_at v h)) (sym own.at)
          (subst (λ o. TiedAt medium v.file h o (Some own.block)) (sym own.listed)
          (marked-tied-at h own.held (block_at s (vm_slot h)) own.block own.marked own.heap own.word
          (subst (λ o. TiedAt medium v.file h o (block_at s (vm_slot h))) own.listed (tied.each h own.handle)))))
      | inr other ↦ subst (TiedAt medium v.file k (held_at v k)) (sym (same k p other)) (tied.each k p)
    ];
    maps = tied.maps;
  }
