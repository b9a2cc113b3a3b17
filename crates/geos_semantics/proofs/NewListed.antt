-- Memory after a block of the VM file was made.
use Rattle.std.proofs.Common.{◌≡◌, ℕ, ◌≤◌, true, false, Some, None, refl, sym, ap, ◌∙◌, subst, arith}
use Rattle.std.specs.Prelude.{not, is_none, option_map}
use Rattle.geos_terms.specs.declared.name.Name.{Name}
use Rattle.geos_terms.specs.declared.name.Owner.{Owner}
use Rattle.geos_terms.specs.declared.name.Owner.TheVariants.{Mem, Vm}
use Rattle.geos_terms.specs.Names.{vm}
use Rattle.geos_calls.specs.Directories.{is_marked_in}
use Rattle.geos_calls.specs.Memory.{Memory, with_listed, owned_block, block_of, locks_in, chunks_in, locks_of}
use Rattle.geos_calls.specs.Legal.{IsMemory}
use Rattle.geos_calls.specs.Effects.{Nothing}
use Rattle.geos_calls.specs.VmCalls.{new_listed}
use Rattle.geos_calls.specs.Leaving.{OneBlock, new_vm, LeavesOthers}
use Rattle.geos_calls.proofs.HandleLists.{entry-told, entry-kept, lowest-none}
use Rattle.geos_calls.proofs.Laws.{entry-other}
use Rattle.geos_calls.proofs.NamedBlocks.{block_in_file}
use Rattle.geos_semantics.specs.State.{Held, owner_of, name_of}
use Rattle.geos_semantics.specs.Faults.{is_unmarked_block}
use Rattle.geos_semantics.proofs.Memories.{lowest-within}
use Rattle.geos_semantics.proofs.Stays.{Stays, kind-there, block_of-beside, stays-beside}
use Rattle.geos_semantics.proofs.Kept.{Leaves}
use Rattle.geos_semantics.proofs.Locking.{leads-there}

-- the lowest free handle of the VM file is a word
pub new-small : (m : Memory) → IsMemory m → (new_vm m).h ≤ 65535
new-small m legal = omega (arith, lowest-within m.file.cur.blocks, legal.file.cur.handles)

-- no block has it, nor 0, which stands for it where none is free
pub new-free : (m : Memory) → block_of m (new_vm m) ≡ None
new-free m = ap (option_map block_in_file) (lowest-none m.file.cur.blocks)

module _ (m : Memory) (uid n : ℕ) where
  -- memory with a block under that handle
  abbrev pub with_new : Memory
  with_new = with_listed m (new_vm m).h (Some (new_listed uid n))

  pub new-others : LeavesOthers (OneBlock (new_vm m)) m with_new
  new-others = record {
    blocks = λ k out. refl;
    listed = λ k out. entry-other None (Some (new_listed uid n)) m.file.cur.blocks (new_vm m).h k (λ e. out (ap vm (sym e)));
    region = refl;
    handles = refl;
  }

  -- a block that is there is not the one that is made
  pub new-apart : (other : Name) → is_none (block_of m other) ≡ false → new_vm m ≡ other → ⊥
  new-apart other there same =
      (let none : is_none (block_of m other) ≡ true = subst (λ name. is_none (block_of m name) ≡ true) same (ap is_none (new-free m)) in
      let both : false ≡ true = sym there ∙ none in absurd cc)

  -- what slots know stays so
  pub stays-new : (held : Held) → Stays m with_new held
  stays-new held = record {
    is = λ h. (stays-beside (new_vm m) m with_new new-others held (new-apart (name_of held) (kind-there m held.kind (name_of held) h))).is h;
    mark = λ h. of (owner_of held.kind) held.handle h;
  }
    where
      of : (o : Owner) (k : ℕ) → is_unmarked_block m o k ≡ false → is_unmarked_block with_new o k ≡ false
      of Mem k e = refl
      of Vm k e = entry-kept (λ x. not (is_marked_in x) ≡ false) m.file.cur.blocks (new_vm m).h k (Some (new_listed uid n)) None refl e

-- one that is not locked
module _ (m : Memory) (uid : ℕ) where
  new-unlocked : (name : Name) → locks_of (with_new m uid 0) name ≡ locks_of m name
  new-unlocked name = of name.owner name.h
    where
      of : (o : Owner) (k : ℕ) → locks_in (owned_block (with_new m uid 0) o k) ≡ locks_in (owned_block m o k)
      of Mem k = refl
      of Vm k = entry-told (λ e. locks_in (option_map block_in_file e)) m.file.cur.blocks (new_vm m).h k
          (Some (new_listed uid 0)) None (sym (ap locks_in (new-free m)))

  pub leaves-new : (a : ℕ) → IsMemory (with_new m uid 0) → Leaves a Nothing m (with_new m uid 0)
  leaves-new a legal = record {
    legal = legal;
    locks = new-unlocked;
    held = stays-new m uid 0;
    chunks = λ target fresh h.
        let same = block_of-beside (new_vm m) m (with_new m uid 0) (new-others m uid 0) target.reference.name
        (new-apart m uid 0 target.reference.name (leads-there m target.reference h)) in
        record { bytes = h.bytes; there = rw (ap chunks_in same) h.there; fits = h.fits };
  }
