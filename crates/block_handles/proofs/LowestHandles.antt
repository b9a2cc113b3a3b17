-- The lowest free slot of an owner as its lowest free handle.
use Rattle.std.proofs.Common.{◌≡◌, ℕ, ◌+◌, ◌-◌, ◌*◌, ◌/◌, ◌<◌, ◌≤◌, List, Option, Some, None, refl, sym, ◌∙◌, subst, arith}
use Rattle.std.specs.Prelude.{IfNone}
use Rattle.std.proofs.lemmas.Bool.Decides.{nat_tests}
use Rattle.geos_terms.specs.declared.name.Owner.{Owner}
use Rattle.geos_terms.specs.declared.name.Owner.TheVariants.{Mem, Vm}
use Rattle.block_handles.specs.Bits.{bit_of, IsLowestFree}
use Rattle.block_handles.specs.Names.{first_slot, slot_of, IsHandle}
use Rattle.block_handles.specs.Store.{Store, IsThere}
use Rattle.block_handles.specs.Used.{AllInUse, IsLowest, IsUsed}

-- an owner's slots begin with a word
pub first-words : (owner : Owner) → 64 * (first_slot owner / 64) ≡ first_slot owner
first-words Mem = refl
first-words Vm = refl

pub first-small : (owner : Owner) → first_slot owner ≤ 1024
first-small Mem = omega arith
first-small Vm = omega arith

slot-is : (owner : Owner) (h : ℕ) → IsHandle h → slot_of (record { owner = owner; h = h }) ≡ first_slot owner + (h - 1)
slot-is owner h known = grind (arith, nat_tests)

pub lowest-found : (store : Store) (owner : Owner) (words : List ℕ) (slot : ℕ) → IsUsed store words
    → IsLowestFree words (first_slot owner) slot → IsLowest store owner (slot - first_slot owner + 1)
lowest-found store owner words slot used f =
    let first = first_slot owner in
    let most = first-small owner in
    let handle : IsHandle (slot - first + 1) = (omega arith, omega arith) in
    let is : slot_of (record { owner = owner; h = slot - first + 1 }) ≡ slot = slot-is owner (slot - first + 1) handle ∙ omega arith in
    let T : ℕ → Type 0 = λ x. IsThere store x in
    record {
      handle = handle;
      free = (λ there. used.none slot (omega arith) f.free (subst T is there));
      lower = (λ k known less. subst T (sym (slot-is owner k known))
          (used.there (first + (k - 1)) (omega arith) (f.lower (first + (k - 1)) (omega arith) (omega arith))));
    }

pub all-in-use : (store : Store) (owner : Owner) (words : List ℕ) → IsUsed store words
    → ((slot : ℕ) → first_slot owner ≤ slot → slot < first_slot owner + 1024 → bit_of words slot ≡ 1) → AllInUse store owner
all-in-use store owner words used set h known =
    let first = first_slot owner in
    let most = first-small owner in
    subst (λ (x : ℕ). IsThere store x) (sym (slot-is owner h known))
    (used.there (first + (h - 1)) (omega arith) (set (first + (h - 1)) (omega arith) (omega arith)))

-- where a call answers nothing, what always holds does
pub none-holds : {A : Type 0} (answer : Option A) (P : Type 0) → P → IfNone answer P
none-holds None P p = p
none-holds (Some x) P p = tt
