-- A group that is locked for an item and unlocked is as it was.
use Rattle.std.proofs.Common.{◌≡◌, ◌∙◌, ℕ, ◌+◌, ◌-◌, ◌<◌, zero, suc, Bool, true, false, List, [], ◌∷◌, Option, Some, None, Result, Ok, Err, refl, ap, sym, subst, arith}
use Rattle.std.specs.Prelude.{◌==◌, nat_lt, is_none, not, slice_index_or, slice_set, if◌then◌else◌, option_map}
use Rattle.std.proofs.lemmas.Bool.{false≢true, le-ltb, not-false, true≢false}
use Rattle.block_handles.specs.Names.{slot_of}
use Rattle.block_handles.specs.Store as store
use Rattle.geos_terms.specs.Names.{group_uid, vm}
use Rattle.geos_terms.specs.declared.name.Name.{Name}
use Rattle.geos_terms.specs.declared.refusal.Refusal.{Refusal}
use Rattle.geos_terms.specs.declared.refusal.Refusal.TheVariants.{BadHandle, BadChunk, Disk, Locked, NoRoom, Short}
use Rattle.geos_terms.specs.Chunks.{chunk_of}
use Rattle.geos_terms.specs.Edits.{length_of}
use Rattle.geos_terms.specs.Refusals.{first_refusal, refusal_number}
use Rattle.geos_calls.specs.Blocks.{locked_block, locks_in}
use Rattle.geos_calls.specs.Directories.{VmBlock, relisted, uid_in}
use Rattle.geos_calls.specs.Effects.{Call, Choice, Reference, cannot_bring, come_to, effect_of, most_locks, outcome, unchanged}
use Rattle.geos_calls.specs.Given.{given_memory}
use Rattle.geos_calls.specs.ItemCalls.{ilock, iunlock}
use Rattle.geos_calls.specs.Memory.{Memory, chunks_at, is_group, locks_of, with_locks}
use Rattle.geos_calls.specs.VmFile.{VmFile}
use Rattle.geos_kernel.specs.Kernel.{Calls}
use Rattle.geos_kernel.specs.View.{IsFileOf, KernelState, memory_of}
use Rattle.geos_kernel.proofs.Chosen.{chosen-before, lasts-on}
use Rattle.takhvoi.specs.Lists.{brings, is_chunk}
use Rattle.takhvoi.proofs.Looking.{StaysWith, fresh-still, plainly, quiet, stays-found, stays-then, went}

-- an entry of the current directory, with its block locked n times
abbrev relocked : ℕ → Option VmBlock → Option VmBlock
relocked n o = option_map (relisted o) (option_map (locked_block n) (option_map (λ (v : VmBlock). v.block) o))

abbrev locks-at : Option VmBlock → ℕ
locks-at o = locks_in (option_map (λ (v : VmBlock). v.block) o)

-- of a group that is there, one lock more and one less
entry-back : (xs : List (Option VmBlock)) (i : ℕ) → (uid_in (slice_index_or xs i None) == group_uid) ≡ true → (ys : List (Option VmBlock))
    → slice_set xs i (relocked (locks-at (slice_index_or xs i None) + 1) (slice_index_or xs i None)) ≡ ys
    → slice_set ys i (relocked (locks-at (slice_index_or ys i None) - 1) (slice_index_or ys i None)) ≡ xs
entry-back [] i there ys is = absurd cc
entry-back (None ∷ xs) zero there ys is = absurd cc
entry-back (Some v ∷ xs) zero there ys is =
    let back : v.block.locks + 1 - 1 ≡ v.block.locks = omega arith in
    subst (λ (ys : List (Option VmBlock)). slice_set ys 0 (relocked (locks-at (slice_index_or ys 0 None) - 1) (slice_index_or ys 0 None)) ≡ Some v ∷ xs)
    is (ap (λ n. Some (record { uid = v.uid; marked = v.marked; block = locked_block n v.block }) ∷ xs) back)
entry-back (o ∷ xs) (suc i) there ys is =
    subst (λ (ys : List (Option VmBlock)). slice_set ys (suc i)
    (relocked (locks-at (slice_index_or ys (suc i) None) - 1) (slice_index_or ys (suc i) None)) ≡ o ∷ xs)
    is (ap (λ zs. o ∷ zs) (entry-back xs i there _ refl))

entry-locks : (xs : List (Option VmBlock)) (i n : ℕ) → (uid_in (slice_index_or xs i None) == group_uid) ≡ true
    → locks-at (slice_index_or (slice_set xs i (relocked n (slice_index_or xs i None))) i None) ≡ n
entry-locks [] i n there = absurd cc
entry-locks (None ∷ xs) zero n there = absurd cc
entry-locks (Some v ∷ xs) zero n there = refl
entry-locks (o ∷ xs) (suc i) n there = entry-locks xs i n there

module _ (m : Memory) where
  memory-back : (g : ℕ) → is_group m g ≡ true → (m1 : Memory) → with_locks m (vm g) (locks_of m (vm g) + 1) ≡ m1
      → with_locks m1 (vm g) (locks_of m1 (vm g) - 1) ≡ m
  memory-back zero there m1 is = absurd cc
  memory-back (suc i) there m1 is =
      subst (λ (m1 : Memory). with_locks m1 (vm (suc i)) (locks_of m1 (vm (suc i)) - 1) ≡ m) is
      (ap (λ bs. record m { file = record m.file { cur = record m.file.cur { blocks = bs } } }) (entry-back m.file.cur.blocks i there _ refl))

  locked-once : (g : ℕ) → is_group m g ≡ true → (m1 : Memory) → with_locks m (vm g) (locks_of m (vm g) + 1) ≡ m1
      → locks_of m1 (vm g) ≡ locks_of m (vm g) + 1
  locked-once zero there m1 is = absurd cc
  locked-once (suc i) there m1 is =
      subst (λ (m1 : Memory). locks_of m1 (vm (suc i)) ≡ locks_of m (vm (suc i)) + 1) is
      (entry-locks m.file.cur.blocks i (locks_of m (vm (suc i)) + 1) there)

-- the tests of bringing a group, then those of an item
abbrev four : Bool → Bool → Bool → Bool → List (Bool × Refusal)
four b1 b2 b3 b4 = (b1, BadHandle) ∷ (b2, Locked) ∷ (b3, NoRoom) ∷ (b4, Disk) ∷ []

abbrev six : Bool → Bool → Bool → Bool → Bool → Bool → List (Bool × Refusal)
six b1 b2 b3 b4 b5 b6 = (b1, BadHandle) ∷ (b2, Locked) ∷ (b3, NoRoom) ∷ (b4, Disk) ∷ (b5, BadChunk) ∷ (b6, Short) ∷ []

abbrev brought : Memory → Bool → Bool → Bool → Bool → Result (Unit {0}) Refusal × Memory
brought m b1 b2 b3 b4 = come_to (first_refusal (four b1 b2 b3 b4)) (unchanged m) (tt {0}) m

six-ok : (b1 b2 b3 b4 b5 b6 : Bool) (ref : Reference) (m after n : Memory) (r : Reference)
    → come_to (first_refusal (six b1 b2 b3 b4 b5 b6)) (unchanged m) ref after ≡ (Ok r, n)
    → (brought m b1 b2 b3 b4 ≡ (Ok tt, m)) × (b1 ≡ false) × (b5 ≡ false) × (after ≡ n)
six-ok true b2 b3 b4 b5 b6 ref m after n r e = absurd (false≢true (ap went e))
six-ok false true b3 b4 b5 b6 ref m after n r e = absurd (false≢true (ap went e))
six-ok false false true b4 b5 b6 ref m after n r e = absurd (false≢true (ap went e))
six-ok false false false true b5 b6 ref m after n r e = absurd (false≢true (ap went e))
six-ok false false false false true b6 ref m after n r e = absurd (false≢true (ap went e))
six-ok false false false false false true ref m after n r e = absurd (false≢true (ap went e))
six-ok false false false false false false ref m after n r e = (refl, refl, refl, ap (λ x. x.1) e)

-- what a refusal by one of the six tests is by the first four
abbrev as_brought : Memory → Result Reference Refusal × Memory → Result (Unit {0}) Refusal × Memory
as_brought m x = elim x.0 [ Ok ref ↦ (Ok tt, m) | Err why ↦ if refusal_number why == 2 then (Ok tt, m) else (Err why, m) ]

abbrev is_no_chunk : Result Reference Refusal × Memory → Bool
is_no_chunk x = elim x.0 [ Ok ref ↦ false | Err why ↦ refusal_number why == 2 ]

six-not : (b1 b2 b3 b4 b5 b6 : Bool) → b6 ≡ false → (ref : Reference) (m after n : Memory) (why : Refusal)
    → come_to (first_refusal (six b1 b2 b3 b4 b5 b6)) (unchanged m) ref after ≡ (Err why, n)
    → (brought m b1 b2 b3 b4 ≡ as_brought m (Err why, n)) × (m ≡ n) × ((refusal_number why == 2) ≡ true → b5 ≡ true)
six-not true b2 b3 b4 b5 b6 none ref m after n why e =
    (ap (as_brought m) e, ap (λ x. x.1) e, λ is. absurd (false≢true (ap is_no_chunk e ∙ is)))
six-not false true b3 b4 b5 b6 none ref m after n why e =
    (ap (as_brought m) e, ap (λ x. x.1) e, λ is. absurd (false≢true (ap is_no_chunk e ∙ is)))
six-not false false true b4 b5 b6 none ref m after n why e =
    (ap (as_brought m) e, ap (λ x. x.1) e, λ is. absurd (false≢true (ap is_no_chunk e ∙ is)))
six-not false false false true b5 b6 none ref m after n why e =
    (ap (as_brought m) e, ap (λ x. x.1) e, λ is. absurd (false≢true (ap is_no_chunk e ∙ is)))
six-not false false false false true b6 none ref m after n why e = (ap (as_brought m) e, ap (λ x. x.1) e, λ is. refl)
six-not false false false false false true none ref m after n why e = absurd (true≢false none)
six-not false false false false false false none ref m after n why e = absurd (false≢true (sym (ap went e)))

-- a row that is read on memory as it is, on an honest device
given-back : {A : Type 0} (row : Call A) (choice : Choice) (m : Memory) (x : Result A Refusal × Memory) → choice.given ≡ []
    → outcome (row choice m) ≡ x → outcome (effect_of row choice m) ≡ x
given-back row choice m x none is = subst (λ given. outcome (row choice (given_memory given m)) ≡ x) (sym none) is

never-less : (n : ℕ) → nat_lt n 0 ≡ false
never-less n = le-ltb n 0 (omega arith)

-- it has no such item, or does not come
module _ (old new : KernelState) (g c : ℕ) (why : Refusal) (calls : Calls (Unit {0}) (ilock g c 0) (Err why) old new) where
  module _ (f : VmFile) (is : IsFileOf (Unit {0}) old f) where
    told : (outcome (brings g (calls.answers f is).choice (memory_of old f))
        ≡ as_brought (memory_of old f) (Err why, memory_of new (calls.answers f is).file))
        × (memory_of old f ≡ memory_of new (calls.answers f is).file)
        × ((refusal_number why == 2) ≡ true → is_none (chunk_of (chunks_at (memory_of old f) (vm g)) c) ≡ true)
    told =
        let a = calls.answers f is in
        let m = memory_of old f in
        six-not (not (is_group m g)) (locks_of m (vm g) == most_locks) (cannot_bring a.choice m g) a.choice.device
        (is_none (chunk_of (chunks_at m (vm g)) c)) (nat_lt (length_of (chunks_at m (vm g)) c) 0) (never-less (length_of (chunks_at m (vm g)) c))
        (ilock g c 0 a.choice m).answer m (ilock g c 0 a.choice m).after (memory_of new a.file) why
        (plainly (ilock g c 0) (Err why) old new f a)

    pub no-item : (refusal_number why == 2) ≡ true → false ≡ is_chunk (vm g) (memory_of old f) c
    no-item is_two = ap not (sym (told.2 is_two))

  answered : (r : Result (Unit {0}) Refusal) → ((f : VmFile) (is : IsFileOf (Unit {0}) old f)
      → as_brought (memory_of old f) (Err why, memory_of new (calls.answers f is).file) ≡ (r, memory_of old f)) → Calls (Unit {0}) (brings g) r old new
  answered r same = record {
    answers = λ f is.
        let a = calls.answers f is in
        let t = told f is in
        record {
          choice = a.choice;
          chosen = a.chosen;
          lasts = a.lasts;
          file = a.file;
          tied = a.tied;
          comes = given-back (brings g) a.choice (memory_of old f) (r, memory_of new a.file) (a.chosen.given tt)
              (t.0 ∙ same f is ∙ ap (λ m. (r, m)) t.1);
        };
    spans = λ f is choice. calls.spans f is choice;
  }

  pub brought-still : (refusal_number why == 2) ≡ true → Calls (Unit {0}) (brings g) (Ok tt) old new
  brought-still is_two = answered (Ok tt) (λ f is. ap (λ b. if b then (Ok tt, memory_of old f) else (Err why, memory_of old f)) is_two)

  pub not-brought : (refusal_number why == 2) ≡ false → Calls (Unit {0}) (brings g) (Err why) old new
  not-brought other = answered (Err why) (λ f is. ap (λ b. if b then (Ok tt, memory_of old f) else (Err why, memory_of old f)) other)

-- it has one
module _ (old mid : KernelState) (g c : ℕ) (ref : Reference) (calls : Calls (Unit {0}) (ilock g c 0) (Ok ref) old mid) where
  module _ (f : VmFile) (is : IsFileOf (Unit {0}) old f) where
    has : (outcome (brings g (calls.answers f is).choice (memory_of old f)) ≡ (Ok tt, memory_of old f))
        × (not (is_group (memory_of old f) g) ≡ false) × (is_none (chunk_of (chunks_at (memory_of old f) (vm g)) c) ≡ false)
        × (with_locks (memory_of old f) (vm g) (locks_of (memory_of old f) (vm g) + 1) ≡ memory_of mid (calls.answers f is).file)
    has =
        let a = calls.answers f is in
        let m = memory_of old f in
        six-ok (not (is_group m g)) (locks_of m (vm g) == most_locks) (cannot_bring a.choice m g) a.choice.device
        (is_none (chunk_of (chunks_at m (vm g)) c)) (nat_lt (length_of (chunks_at m (vm g)) c) 0)
        (ilock g c 0 a.choice m).answer m (ilock g c 0 a.choice m).after (memory_of mid a.file) ref (plainly (ilock g c 0) (Ok ref) old mid f a)

    pub item-found : true ≡ is_chunk (vm g) (memory_of old f) c
    item-found = ap not (sym has.2)

    once : locks_of (memory_of mid (calls.answers f is).file) (vm g) ≡ locks_of (memory_of old f) (vm g) + 1
    once = locked-once (memory_of old f) g (not-false (is_group (memory_of old f) g) has.1) (memory_of mid (calls.answers f is).file) has.3

    -- so it may be unlocked
    pub may-unlock : ((f : VmFile) → IsFileOf (Unit {0}) mid f → (name : Name)
        → locks_of (memory_of mid f) name ≡ store.locks_of mid.blocks (slot_of name)) → 0 < store.locks_of mid.blocks (slot_of (vm g))
    may-unlock known =
        let one = once in
        let same = known (calls.answers f is).file (calls.answers f is).tied (vm g) in
        omega (arith, one, same)

  module _ (new : KernelState) (unlocks : Calls (Unit {0}) (iunlock g) (Ok tt) mid new)
      (known : (f : VmFile) → IsFileOf (Unit {0}) old f → (name : Name)
      → locks_of (memory_of old f) name ≡ store.locks_of old.blocks (slot_of name)) where
    pub brought-again : Calls (Unit {0}) (brings g) (Ok tt) old new
    brought-again = record {
      answers = λ f is.
          let one = calls.answers f is in
          let two = unlocks.answers one.file one.tied in
          let h = has f is in
          let back : with_locks (memory_of mid one.file) (vm g) (locks_of (memory_of mid one.file) (vm g) - 1) ≡ memory_of new two.file =
          ap (λ x. x.1) (plainly (iunlock g) (Ok tt) mid new one.file two) in
          let same : memory_of old f ≡ memory_of new two.file =
          sym (memory-back (memory_of old f) g (not-false (is_group (memory_of old f) g) h.1) (memory_of mid one.file) h.3) ∙ back in
          record {
            choice = one.choice;
            chosen = chosen-before (Unit {0}) old mid new one.choice two.lasts one.chosen;
            lasts = lasts-on (Unit {0}) old mid new one.lasts two.lasts;
            file = two.file;
            tied = two.tied;
            comes = given-back (brings g) one.choice (memory_of old f) (Ok tt, memory_of new two.file) (one.chosen.given tt)
                (h.0 ∙ ap (λ m. (Ok tt, m)) same);
          };
      spans = λ f is choice span ref stands fresh.
          let one = calls.answers f is in
          unlocks.spans one.file one.tied choice span ref (calls.spans f is choice span ref stands tt)
          (fresh-still old (memory_of old f) (memory_of mid one.file) (vm g) (once f is) (known f is (vm g)) ref stands.locked);
    }

-- bringing leaves memory as it was, whatever it answers
same-left : (m : Memory) (o : Option Refusal) → (come_to o (unchanged m) (tt {0}) m).1 ≡ m
same-left m None = refl
same-left m (Some why) = refl

module _ (a b : KernelState) (g : ℕ) (first : Calls (Unit {0}) (brings g) (Ok tt) a b) where
  stays : (f : VmFile) → IsFileOf (Unit {0}) a f → StaysWith a b f
  stays f is =
      let one = first.answers f is in
      let m = memory_of a f in
      record {
        file = one.file;
        tied = one.tied;
        same = sym (ap (λ x. x.1) (plainly (brings g) (Ok tt) a b f one)) ∙ same-left m (first_refusal (brings g one.choice m).refusals);
        lasts = one.lasts;
      }

  pub brings-then : {A : Type 0} (row : Call A) (r : Result A Refusal) (c : KernelState) → Calls (Unit {0}) row r b c → Calls (Unit {0}) row r a c
  brings-then row r c later = stays-then row r a b c stays (λ f is. first.spans f is quiet) later

  pub brings-found : (test : Memory → ℕ → Bool) (n : ℕ) (t : Bool) → ((f : VmFile) → IsFileOf (Unit {0}) b f → t ≡ test (memory_of b f) n)
      → (f : VmFile) → IsFileOf (Unit {0}) a f → t ≡ test (memory_of a f) n
  brings-found test n t found = stays-found test n t a b stays found
