-- Slots of the file's blocks.
use Rattle.std.proofs.Common.{◌≡◌, ℕ, zero, suc, ◌+◌, ◌<◌, List, [], ◌∷◌, set, get_or, Option, Some, None, Bool, true, false, refl, arith}
use Rattle.std.specs.Prelude.{◌&&◌, ◌==◌, ◌↔◌, not, Result, Ok, Err, OnOk}
use Rattle.block_handles.specs.declared.error.HandleError.{HandleError}
use Rattle.block_handles.specs.declared.error.HandleError.TheVariants.{BadHandle, Locked}
use Rattle.block_handles.specs.Change.{without}
use Rattle.std.proofs.lemmas.Bool.Decides.{nat_tests}
use Rattle.geos_terms.specs.declared.name.Owner.TheVariants.{Vm}
use Rattle.block_handles.specs.Names.{IsHandle}
use Rattle.block_handles.specs.Store.{Block, Store, IsBlock, IsThere, locks_of}
use Rattle.block_handles.proofs.Laws.{slot_of-handle}
use Rattle.vm_blocks.specs.declared.entries.Held.{Held}
use Rattle.vm_blocks.specs.View.{vm_slot}
use Rattle.vm_blocks.specs.Room.{is_idle_in, count_there}

-- the slot of a handle
pub slot-is : (h : ℕ) → IsHandle h → vm_slot h ≡ 1023 + h
slot-is h p = omega (arith, slot_of-handle Vm h p, p.0)

-- two handles of one slot are one
pub slot-one : (h k : ℕ) → IsHandle h → IsHandle k → vm_slot h ≡ vm_slot k → h ≡ k
slot-one h k p q e = omega (arith, slot-is h p, slot-is k q, e)

-- what there is to know of one that may be discarded
pub record Idle (e : Option Held) (b : Option Block) : Type 0 where
  pub held : Held
  pub block : Block
  pub listed : e ≡ Some held
  pub there : b ≡ Some block
  pub clean : held.marked ≡ false
  pub free : block.locks ≡ 0

not-true : (b : Bool) → not b ≡ true → b ≡ false
not-true true e = absurd cc
not-true false e = refl

both : (a b : Bool) → (a && b) ≡ true → (a ≡ true) × (b ≡ true)
both true true e = (refl, refl)
both true false e = absurd cc
both false b e = absurd cc

pub idle-parts : (e : Held) (b : Block) → is_idle_in (Some e) (Some b) ≡ true → (e.marked ≡ false) × (b.locks ≡ 0)
idle-parts e b i =
    let parts = both (not e.marked) (b.locks == 0) i in
    let last = parts.1 in
    (not-true e.marked parts.0, grind (arith, nat_tests))

pub idle : (e : Option Held) (b : Option Block) → is_idle_in e b ≡ true → Idle e b
idle None b i = absurd cc
idle (Some e) None i = absurd cc
idle (Some e) (Some b) i = let p = idle-parts e b i in record { held = e; block = b; listed = refl; there = refl; clean = p.0; free = p.1 }

-- a block that goes is one less
pub count-gone : (bs : List (Option Block)) (i : ℕ) → IsBlock (get_or bs i None) → count_there (set bs i None) < count_there bs
count-gone [] i there = absurd there
count-gone (None ∷ bs) zero there = absurd there
count-gone (Some b ∷ bs) zero there = less-suc (count_there bs)
  where
    less-suc : (n : ℕ) → n < suc n
    less-suc n = omega arith
count-gone (None ∷ bs) (suc i) there = count-gone bs i there
count-gone (Some b ∷ bs) (suc i) there = more (count_there (set bs i None)) (count_there bs) (count-gone bs i there)
  where
    more : (m n : ℕ) → m < n → suc m < suc n
    more m n less = omega (arith, less)

-- a block that is there and not locked is freed
pub freed : (old new : Store) (slot : ℕ) (r : Result (Unit {0}) HandleError) → OnOk r (new ≡ without old slot)
    → ((r ≡ Err BadHandle) ↔ (IsThere old slot → ⊥)) → ((r ≡ Err Locked) ↔ (0 < locks_of old slot))
    → IsThere old slot → locks_of old slot ≡ 0 → new ≡ without old slot
freed old new slot (Ok done) ok bad locked there free = ok
freed old new slot (Err BadHandle) ok bad locked there free = absurd (bad.0 refl there)
freed old new slot (Err Locked) ok bad locked there free = absurd (omega (arith, locked.0 refl, free))

-- what is not there is nothing
pub no-block : (o : Option Block) → (IsBlock o → ⊥) → o ≡ None
no-block None absent = refl
no-block (Some b) absent = absurd (absent tt)

-- what is there is some block
pub some-block : (o : Option Block) → IsBlock o → (b : Block) × (o ≡ Some b)
some-block None there = absurd there
some-block (Some b) there = (b, refl)
