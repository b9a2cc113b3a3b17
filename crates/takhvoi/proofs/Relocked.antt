-- A block of memory that is locked once more and unlocked is as it was.
use Rattle.std.proofs.Common.{◌≡◌, ◌∙◌, ℕ, ◌+◌, ◌-◌, ◌<◌, zero, suc, Bool, true, false, List, [], ◌∷◌, Option, Some, None, Result, Ok, Err, refl, ap, sym, subst, arith}
use Rattle.std.specs.Prelude.{◌==◌, is_none, not, slice_index_or, slice_set, option_map}
use Rattle.std.proofs.lemmas.Bool.{false≢true}
use Rattle.block_handles.specs.Names.{slot_of}
use Rattle.block_handles.specs.Store as store
use Rattle.geos_terms.specs.Names.{mem}
use Rattle.geos_terms.specs.declared.name.Name.{Name}
use Rattle.geos_terms.specs.declared.refusal.Refusal.{Refusal}
use Rattle.geos_terms.specs.declared.refusal.Refusal.TheVariants.{BadHandle, Locked}
use Rattle.geos_terms.specs.Refusals.{first_refusal, refusal_number}
use Rattle.geos_calls.specs.Blocks.{Block, locked_block, locks_in}
use Rattle.geos_calls.specs.Calls.{mlock, unlock}
use Rattle.geos_calls.specs.Effects.{come_to, most_locks, unchanged}
use Rattle.geos_calls.specs.Memory.{Memory, block_of, locks_of, with_locks}
use Rattle.geos_calls.specs.VmFile.{VmFile}
use Rattle.geos_kernel.specs.Kernel.{Calls}
use Rattle.geos_kernel.specs.View.{IsFileOf, KernelState, memory_of}
use Rattle.geos_kernel.proofs.Chosen.{lasts-on}
use Rattle.takhvoi.specs.Lists.{is_block, looks}
use Rattle.takhvoi.proofs.Looking.{StaysWith, fresh-still, looking, plainly, quiet, went}

-- of an entry that is there, one lock more and one less
entry-back : (xs : List (Option Block)) (i : ℕ) → is_none (slice_index_or xs i None) ≡ false
    → (ys : List (Option Block))
    → slice_set xs i (option_map (locked_block (locks_in (slice_index_or xs i None) + 1)) (slice_index_or xs i None)) ≡ ys
    → slice_set ys i (option_map (locked_block (locks_in (slice_index_or ys i None) - 1)) (slice_index_or ys i None)) ≡ xs
entry-back [] i there ys is = absurd cc
entry-back (None ∷ xs) zero there ys is = absurd cc
entry-back (Some b ∷ xs) zero there ys is =
    let back : b.locks + 1 - 1 ≡ b.locks = omega arith in
    subst (λ (ys : List (Option Block)). slice_set ys 0 (option_map (locked_block (locks_in (slice_index_or ys 0 None) - 1)) (slice_index_or ys 0 None)) ≡ Some b ∷ xs)
    is (ap (λ n. Some (locked_block n b) ∷ xs) back)
entry-back (o ∷ xs) (suc i) there ys is =
    subst (λ (ys : List (Option Block)). slice_set ys (suc i) (option_map (locked_block (locks_in (slice_index_or ys (suc i) None) - 1)) (slice_index_or ys (suc i) None)) ≡ o ∷ xs)
    is (ap (λ zs. o ∷ zs) (entry-back xs i there _ refl))

entry-locks : (xs : List (Option Block)) (i n : ℕ) → is_none (slice_index_or xs i None) ≡ false
    → locks_in (slice_index_or (slice_set xs i (option_map (locked_block n) (slice_index_or xs i None))) i None) ≡ n
entry-locks [] i n there = absurd cc
entry-locks (None ∷ xs) zero n there = absurd cc
entry-locks (Some b ∷ xs) zero n there = refl
entry-locks (o ∷ xs) (suc i) n there = entry-locks xs i n there

module _ (m : Memory) where
  memory-back : (h : ℕ) → is_none (block_of m (mem h)) ≡ false → (m1 : Memory) → with_locks m (mem h) (locks_of m (mem h) + 1) ≡ m1
      → with_locks m1 (mem h) (locks_of m1 (mem h) - 1) ≡ m
  memory-back zero there m1 is = absurd cc
  memory-back (suc i) there m1 is =
      subst (λ (m1 : Memory). with_locks m1 (mem (suc i)) (locks_of m1 (mem (suc i)) - 1) ≡ m) is
      (ap (λ bs. record m { blocks = bs }) (entry-back m.blocks i there _ refl))

  locked-once : (h : ℕ) → is_none (block_of m (mem h)) ≡ false → (m1 : Memory) → with_locks m (mem h) (locks_of m (mem h) + 1) ≡ m1
      → locks_of m1 (mem h) ≡ locks_of m (mem h) + 1
  locked-once zero there m1 is = absurd cc
  locked-once (suc i) there m1 is =
      subst (λ (m1 : Memory). locks_of m1 (mem (suc i)) ≡ locks_of m (mem (suc i)) + 1) is
      (entry-locks m.blocks i (locks_of m (mem (suc i)) + 1) there)

-- what a row with these two tests tells
abbrev is-locked : {A B : Type 0} → Result A Refusal × B → Bool
is-locked x = elim x.0 [ Ok a ↦ false | Err why ↦ refusal_number why == 7 ]

locks-ok : (none most : Bool) (m after n : Memory)
    → come_to (first_refusal ((none, BadHandle) ∷ (most, Locked) ∷ [])) (unchanged m) (tt {0}) after ≡ (Ok (tt {0}), n) → (none ≡ false) × (after ≡ n)
locks-ok true most m after n e = absurd (false≢true (ap went e))
locks-ok false true m after n e = absurd (false≢true (ap went e))
locks-ok false false m after n e = (refl, ap (λ x. x.1) e)

locks-not : (none most : Bool) (why : Refusal) (m after n : Memory)
    → come_to (first_refusal ((none, BadHandle) ∷ (most, Locked) ∷ [])) (unchanged m) (tt {0}) after ≡ (Err why, n)
    → ((refusal_number why == 7) ≡ not none) × (m ≡ n)
locks-not true most why m after n e = (sym (ap is-locked e), ap (λ x. x.1) e)
locks-not false true why m after n e = (sym (ap is-locked e), ap (λ x. x.1) e)
locks-not false false why m after n e = absurd (false≢true (sym (ap went e)))

-- it was not locked
module _ (old new : KernelState) (h : ℕ) (why : Refusal) (calls : Calls (Unit {0}) (mlock h) (Err why) old new) where
  told-not : (f : VmFile) (is : IsFileOf (Unit {0}) old f)
      → ((refusal_number why == 7) ≡ is_block (memory_of old f) h) × (memory_of old f ≡ memory_of new (calls.answers f is).file)
  told-not f is =
      let a = calls.answers f is in
      let m = memory_of old f in
      locks-not (is_none (block_of m (mem h))) (locks_of m (mem h) == most_locks) why m (with_locks m (mem h) (locks_of m (mem h) + 1))
      (memory_of new a.file) (plainly (mlock h) (Err why) old new f a)

  pub refused-looks : Calls (Unit {0}) looks (Ok tt) old new
  refused-looks = looking old new
      (λ f is. (let a = calls.answers f is in record { file = a.file; tied = a.tied; same = sym (told-not f is).1; lasts = a.lasts }))
      (λ f is. calls.spans f is quiet)

  pub refused-found : (f : VmFile) → IsFileOf (Unit {0}) old f → (refusal_number why == 7) ≡ is_block (memory_of old f) h
  refused-found f is = (told-not f is).0

-- it was
module _ (old mid : KernelState) (h : ℕ) (calls : Calls (Unit {0}) (mlock h) (Ok tt) old mid) where
  module _ (f : VmFile) (is : IsFileOf (Unit {0}) old f) where
    after : Memory
    after = memory_of mid (calls.answers f is).file

    told : (is_none (block_of (memory_of old f) (mem h)) ≡ false)
        × (with_locks (memory_of old f) (mem h) (locks_of (memory_of old f) (mem h) + 1) ≡ memory_of mid (calls.answers f is).file)
    told =
        let m = memory_of old f in
        locks-ok (is_none (block_of m (mem h))) (locks_of m (mem h) == most_locks) m (with_locks m (mem h) (locks_of m (mem h) + 1))
        (memory_of mid (calls.answers f is).file) (plainly (mlock h) (Ok tt) old mid f (calls.answers f is))

    pub locked-found : true ≡ is_block (memory_of old f) h
    locked-found = ap not (sym told.0)

    once : locks_of (memory_of mid (calls.answers f is).file) (mem h) ≡ locks_of (memory_of old f) (mem h) + 1
    once = locked-once (memory_of old f) h told.0 (memory_of mid (calls.answers f is).file) told.1

    -- so it may be unlocked
    pub may-unlock : ((f : VmFile) → IsFileOf (Unit {0}) mid f → (name : Name)
        → locks_of (memory_of mid f) name ≡ store.locks_of mid.blocks (slot_of name)) → 0 < store.locks_of mid.blocks (slot_of (mem h))
    may-unlock known =
        let one = once in
        let same = known (calls.answers f is).file (calls.answers f is).tied (mem h) in
        omega (arith, one, same)

  module _ (new : KernelState) (unlocks : Calls (Unit {0}) (unlock (mem h)) (Ok tt) mid new)
      (known : (f : VmFile) → IsFileOf (Unit {0}) old f → (name : Name)
      → locks_of (memory_of old f) name ≡ store.locks_of old.blocks (slot_of name)) where
    stays : (f : VmFile) → IsFileOf (Unit {0}) old f → StaysWith old new f
    stays f is =
        let one = calls.answers f is in
        let two = unlocks.answers one.file one.tied in
        let back : with_locks (memory_of mid one.file) (mem h) (locks_of (memory_of mid one.file) (mem h) - 1) ≡ memory_of new two.file =
        ap (λ x. x.1) (plainly (unlock (mem h)) (Ok tt) mid new one.file two) in
        record {
          file = two.file;
          tied = two.tied;
          same = sym back ∙ memory-back (memory_of old f) h (told f is).0 (memory_of mid one.file) (told f is).1;
          lasts = lasts-on (Unit {0}) old mid new one.lasts two.lasts;
        }

    pub back-again : Calls (Unit {0}) looks (Ok tt) old new
    back-again = looking old new stays (λ f is span ref stands fresh.
        let one = calls.answers f is in
        unlocks.spans one.file one.tied quiet span ref (calls.spans f is quiet span ref stands tt)
        (fresh-still old (memory_of old f) (memory_of mid one.file) (mem h) (once f is) (known f is (mem h)) ref stands.locked))
