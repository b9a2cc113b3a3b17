-- Blocks that are locked for a routine and unlocked after it: how often each is locked, and that each exists.
use Rattle.geos_machine.proofs.LentBlocks.{block-there, there-block}
use Rattle.block_handles.specs.Names.{slot_of}
use Rattle.geos_calls.specs.VmFile.{VmFile}
use Rattle.std.proofs.Common.{◌≡◌, ℕ, ◌+◌, ◌-◌, ◌<◌, ◌≤◌, Bool, true, false, cond, List, [], ◌∷◌, ◌++◌, length, take, drop, drop-cons, add-one, get_or, Option, Some, None, refl, sym, ap, ◌∙◌, subst, arith, true≢false}
use Rattle.std.specs.Prelude.{Result, Ok, Err, is_none, ◌==◌, IsSome, option_map, OnOk, OnErr}
use Rattle.std.specs.List.{AllByRecursion}
use Rattle.std.proofs.lemmas.Bool.{eq-eqb, eqb-true, eqb-false, and_parts}
use Rattle.std.proofs.lemmas.List.{take_more}
use Rattle.std.proofs.lemmas.List.Sums.{sum_by-cons}
use Rattle.block_handles.specs.Store as store
use Rattle.vm_blocks.specs.View.{vm_slot}
use Rattle.geos_kernel.specs.View.{KernelState, IsFileOf, memory_of}
use Rattle.geos_calls.specs.Table.{Unlock, Vlock}
use Rattle.geos_calls.proofs.Leaves.{rows_leave}
use Rattle.geos_image.specs.declared.row.SlotState.{SlotState}
use Rattle.geos_image.specs.declared.row.SlotState.TheVariants.{Empty, Mem, Vm, Db}
use Rattle.geos_verify.specs.Lists.{all2}
use Rattle.geos_verify.proofs.Pairwise.{both}
use Rattle.geos_semantics.specs.Lending.{given, given_slots}
use Rattle.geos_machine.specs.Lent.{has_block, is_handed, Lends}
use Rattle.script_commands.specs.Lines.{is_placed}
use Rattle.script_commands.specs.Lent.{lent_handles}
use Rattle.geos_cli.specs.Script.{once, times}
use Rattle.geos_terms.specs.declared.name.Name.{Name}
use Rattle.geos_terms.specs.declared.refusal.Refusal.{Refusal}
use Rattle.geos_terms.specs.Names.{vm}
use Rattle.geos_terms.specs.Refusals.{first_refusal}
use Rattle.geos_calls.specs.Memory.{Memory, listed_at, locks_in, locks_of, with_locks, locked_block}
use Rattle.geos_calls.specs.Directories.{VmBlock}
use Rattle.geos_calls.specs.Given.{given_memory}
use Rattle.geos_calls.specs.Effects.{Choice, Effect, outcome, come_to, effect_of, unchanged}
use Rattle.geos_calls.specs.VmCalls.{vlock, vunlock}
use Rattle.geos_opcodes.specs.declared.uses.Kind.TheVariants.{VmBlock as AVmBlock}
use Rattle.geos_semantics.specs.State.{Held}
use Rattle.geos_semantics.specs.Meets.{IsOfKind, holds, holds_once}
use Rattle.geos_semantics.proofs.Stays.{stays-given, stays-mapped}

-- a block of the file in a slot, in terms of the model
abbrev held_block : ℕ → Held
held_block h = record { kind = AVmBlock; handle = h; borrowed = false }

-- what a call came to, where it was done and where it was refused
pub done-parts : {A : Type 0} (e : Effect A) (x : A) (n : Memory) → outcome e ≡ (Ok x, n) → (first_refusal e.refusals ≡ None) × (e.after ≡ n)
done-parts {A} e x n comes = go (first_refusal e.refusals) refl comes
  where
    go : (o : Option Refusal) → first_refusal e.refusals ≡ o → come_to o e.left e.answer e.after ≡ (Ok x, n)
        → (first_refusal e.refusals ≡ None) × (e.after ≡ n)
    go None is c = (is, ap (λ (p : Result A Refusal × Memory). p.1) c)
    go (Some why) is c = absurd (true≢false (sym (ap (λ (p : Result A Refusal × Memory). elim p.0 [ Ok y ↦ true | Err r ↦ false ]) c)))

-- where nothing refuses, no test holds
all-passed : (tests : List (Bool × Refusal)) → first_refusal tests ≡ None → AllByRecursion (λ test. test.0 ≡ false) tests
all-passed [] e = tt
all-passed ((false, why) ∷ tests) e = (refl, all-passed tests e)
all-passed ((true, why) ∷ tests) e = absurd cc

module _ (h : ℕ) (choice : Choice) (old new : Memory) where
  abbrev m : Memory
  m = given_memory choice.given old

  stays : (g : ℕ) (next : Memory) → next ≡ with_locks m (vm h) (locks_of m (vm h) + 1) → IsOfKind old AVmBlock (vm g) → IsOfKind next AVmBlock (vm g)
  stays g next is there = subst (λ (x : Memory). IsOfKind x AVmBlock (vm g)) (sym is)
      ((stays-mapped m (locked_block (locks_of m (vm h) + 1)) (vm h) (held_block g)).is ((stays-given choice.given old (held_block g)).is there))

  -- a block was locked
  pub locked-stays : outcome (effect_of (vlock h) choice old) ≡ (Ok tt, new) → (g : ℕ) → IsOfKind old AVmBlock (vm g) → IsOfKind new AVmBlock (vm g)
  locked-stays comes g there = stays g new (sym (done-parts (vlock h choice m) tt new comes).1) there

  -- it is there then
  pub locked-there : outcome (effect_of (vlock h) choice old) ≡ (Ok tt, new) → IsOfKind new AVmBlock (vm h)
  locked-there comes =
      let parts = done-parts (vlock h choice m) tt new comes in
      let passed = all-passed (vlock h choice m).refusals parts.0 in
      subst (λ (x : Memory). IsOfKind x AVmBlock (vm h)) parts.1
      ((stays-mapped m (locked_block (locks_of m (vm h) + 1)) (vm h) (held_block h)).is (some-listed (listed_at m h) passed.0, passed.1.0))
    where
      some-listed : (l : Option VmBlock) → is_none l ≡ false → IsSome (option_map (λ (x : VmBlock). x.block) l)
      some-listed None e = absurd cc
      some-listed (Some l) e = refl

  -- and is locked once more; others as often as before
  pub locked-counts : outcome (effect_of (vlock h) choice old) ≡ (Ok tt, new) → (g : ℕ) → locks_of new (vm g) ≡ locks_of old (vm g) + once h g
  locked-counts comes g = go (h == g) refl
    where
      parts : (first_refusal (vlock h choice m).refusals ≡ None) × ((vlock h choice m).after ≡ new)
      parts = done-parts (vlock h choice m) tt new comes

      go : (b : Bool) → (h == g) ≡ b → locks_of new (vm g) ≡ locks_of old (vm g) + cond b 1 0
      go true e =
          let same : h ≡ g = eqb-true h g e in
          let counted = rows_leave.counts (Vlock h) choice m tt parts.0 in
          let here : locks_of new (vm h) ≡ locks_of m (vm h) + 1 = ap (λ (x : Memory). locks_of x (vm h)) (sym parts.1) ∙ counted in
          let given = rows_leave.given_counts choice.given old (vm h) in
          subst (λ k. locks_of new (vm k) ≡ locks_of old (vm k) + 1) same (omega (arith, here, given))
      go false e =
          let other = (rows_leave.others (Vlock h) choice m).listed g (λ is. eqb-false h g e (ap (λ (n : Name). n.h) is)) in
          let end : (outcome (vlock h choice m)).1 ≡ new = ap (λ (x : Result (Unit {0}) Refusal × Memory). x.1) comes in
          let here : locks_of new (vm g) ≡ locks_of m (vm g) = ap (λ (x : Memory). locks_of x (vm g)) (sym end)
          ∙ ap (λ l. locks_in (option_map (λ (x : VmBlock). x.block) l)) other in
          omega (arith, here, rows_leave.given_counts choice.given old (vm g))

  -- where it was refused, each block is locked as often as before, and there
  refused-same : (why : Refusal) → outcome (effect_of (vlock h) choice old) ≡ (Err why, new) → new ≡ m
  refused-same why comes = go (first_refusal (vlock h choice m).refusals) comes
    where
      go : (o : Option Refusal) → come_to {A = Unit {0}} o (unchanged m) (tt {0}) (with_locks m (vm h) (locks_of m (vm h) + 1)) ≡ (Err why, new)
          → new ≡ m
      go None c = absurd (true≢false (ap (λ (p : Result (Unit {0}) Refusal × Memory). elim p.0 [ Ok y ↦ true | Err r ↦ false ]) c))
      go (Some r) c = sym (ap (λ (p : Result (Unit {0}) Refusal × Memory). p.1) c)

  pub refused-counts : (why : Refusal) → outcome (effect_of (vlock h) choice old) ≡ (Err why, new) → (g : ℕ)
      → locks_of new (vm g) ≡ locks_of old (vm g)
  refused-counts why comes g = ap (λ (x : Memory). locks_of x (vm g)) (refused-same why comes) ∙ rows_leave.given_counts choice.given old (vm g)

  pub refused-stays : (why : Refusal) → outcome (effect_of (vlock h) choice old) ≡ (Err why, new) → (g : ℕ)
      → IsOfKind old AVmBlock (vm g) → IsOfKind new AVmBlock (vm g)
  refused-stays why comes g there = subst (λ (x : Memory). IsOfKind x AVmBlock (vm g)) (sym (refused-same why comes))
      ((stays-given choice.given old (held_block g)).is there)

  -- a block was unlocked
  pub unlocked-counts : 0 < locks_of old (vm h) → outcome (effect_of (vunlock h) choice old) ≡ (Ok tt, new) → (g : ℕ)
      → locks_of new (vm g) + once h g ≡ locks_of old (vm g)
  unlocked-counts some comes g = go (h == g) refl
    where
      parts : (first_refusal (vunlock h choice m).refusals ≡ None) × ((vunlock h choice m).after ≡ new)
      parts = done-parts (vunlock h choice m) tt new comes

      go : (b : Bool) → (h == g) ≡ b → locks_of new (vm g) + cond b 1 0 ≡ locks_of old (vm g)
      go true e =
          let same : h ≡ g = eqb-true h g e in
          let counted = rows_leave.counts (Unlock (vm h)) choice m tt parts.0 in
          let here : locks_of new (vm h) ≡ locks_of m (vm h) - 1 = ap (λ (x : Memory). locks_of x (vm h)) (sym parts.1) ∙ counted in
          let given = rows_leave.given_counts choice.given old (vm h) in
          subst (λ k. locks_of new (vm k) + 1 ≡ locks_of old (vm k)) same (omega (arith, here, given, some))
      go false e =
          let other = (rows_leave.others (Unlock (vm h)) choice m).listed g (λ is. eqb-false h g e (ap (λ (n : Name). n.h) is)) in
          let end : (outcome (vunlock h choice m)).1 ≡ new = ap (λ (x : Result (Unit {0}) Refusal × Memory). x.1) comes in
          let here : locks_of new (vm g) ≡ locks_of m (vm g) = ap (λ (x : Memory). locks_of x (vm g)) (sym end)
          ∙ ap (λ l. locks_in (option_map (λ (x : VmBlock). x.block) l)) other in
          omega (arith, here, rows_leave.given_counts choice.given old (vm g))

pub times-more : (g : ℕ) (front : List ℕ) (h : ℕ) → times g (front ++ h ∷ []) ≡ times g front + once h g
times-more g [] h = omega arith
times-more g (x ∷ front) h = omega (arith, times-more g front h)

-- one handle more is counted
pub times-one : (g : ℕ) (handles : List ℕ) (k : ℕ) → k < length handles → (n m : ℕ) → n ≡ m + times g (take k handles)
    → n + once (get_or handles k 0) g ≡ m + times g (take (k + 1) handles)
times-one g handles k lt n m e = omega (arith, e, times-more g (take k handles) (get_or handles k 0), ap (times g) (take_more handles k 0 lt))

-- the next one is among those that are left
pub times-left : (g : ℕ) (handles : List ℕ) (k : ℕ) → k < length handles
    → times g (drop k handles) ≡ once (get_or handles k 0) g + times g (drop (k + 1) handles)
times-left g handles k lt = ap (times g) (drop-cons handles k 0 lt)
    ∙ ap (λ n. once (get_or handles k 0) g + times g (drop n handles)) (sym (add-one k))

-- so its block is locked, where each is locked as often as they are among them at least
pub times-here : (handles : List ℕ) (k : ℕ) → k < length handles → (n : ℕ) → times (get_or handles k 0) (drop k handles) ≤ n → 0 < n
times-here handles k lt n le =
    let h = get_or handles k 0 in
    omega (arith, le, times-left h handles k lt, ap {B = ℕ} (λ b. cond b 1 0) (eq-eqb h h refl))

-- after an unlock, each block is still locked often enough for the others
pub times-fewer : (g : ℕ) (handles : List ℕ) (k : ℕ) → k < length handles → (now before : ℕ) → now + once (get_or handles k 0) g ≡ before
    → times g (drop k handles) ≤ before → times g (drop (k + 1) handles) ≤ now
times-fewer g handles k lt now before e le = omega (arith, e, le, times-left g handles k lt)

none : (n : ℕ) → n ≡ 0 + n
none n = omega arith

-- that is how often a routine that is lent them holds it
pub times-held : (g : ℕ) (states : List SlotState) (handles : List ℕ) → holds (given_slots states handles) (vm g) ≡ times g
    (lent_handles states handles)
times-held g [] handles = refl
times-held g (x ∷ states) [] = refl
times-held g (x ∷ states) (h ∷ handles) = omega (
  arith,
  sum_by-cons (holds_once (vm g)) (given x h) (given_slots states handles),
  one x,
  times-held g states handles,
)
  where
    one : (x : SlotState) → times g (lent_handles (x ∷ states) (h ∷ handles)) ≡ holds_once (vm g) (given x h) + times g (lent_handles states handles)
    one (Vm marked true) = refl
    one (Vm marked false) = none (times g (lent_handles states handles))
    one Empty = none (times g (lent_handles states handles))
    one Mem = none (times g (lent_handles states handles))
    one (Db marked) = none (times g (lent_handles states handles))

-- ---- the kernel lends what was locked

module _ (k : KernelState) where
  lent-handed : (states : List SlotState) (handles : List ℕ) → all2 is_placed states handles ≡ true
      → AllByRecursion (λ h. has_block k h ≡ true) (lent_handles states handles) → all2 (is_handed k) states handles ≡ true
  lent-handed [] [] placed there = refl
  lent-handed [] (h ∷ handles) placed there = absurd cc
  lent-handed (x ∷ states) [] placed there = absurd cc
  lent-handed (x ∷ states) (h ∷ handles) placed there = one x refl (lent-handed states handles parts.1)
    where
      parts : (is_placed x h ≡ true) × (all2 is_placed states handles ≡ true)
      parts = and_parts (is_placed x h) (all2 is_placed states handles) placed

      one : (y : SlotState) → x ≡ y → (AllByRecursion (λ h. has_block k h ≡ true) (lent_handles states handles)
          → all2 (is_handed k) states handles ≡ true)
          → all2 (is_handed k) (x ∷ states) (h ∷ handles) ≡ true
      one (Vm marked true) e others =
          let here : AllByRecursion (λ h. has_block k h ≡ true) (h ∷ lent_handles states handles) = rw e at there in
          rw e (both (has_block k h) (all2 (is_handed k) states handles) here.0 (others here.1))
      one (Vm marked false) e others = (let here = rw e at there in let zero : (h == 0) ≡ true = rw e at parts.0 in
          rw e (both (h == 0) (all2 (is_handed k) states handles) zero (others here)))
      one Empty e others = (let here = rw e at there in let zero : (h == 0) ≡ true = rw e at parts.0 in
          rw e (both (h == 0) (all2 (is_handed k) states handles) zero (others here)))
      one Mem e others = (let here = rw e at there in let zero : (h == 0) ≡ true = rw e at parts.0 in
          rw e (both (h == 0) (all2 (is_handed k) states handles) zero (others here)))
      one (Db marked) e others = (let here = rw e at there in let zero : (h == 0) ≡ true = rw e at parts.0 in
          rw e (both (h == 0) (all2 (is_handed k) states handles) zero (others here)))

  pub lends-locked : (states : List SlotState) (handles : List ℕ) → all2 is_placed states handles ≡ true
      → AllByRecursion (λ h. has_block k h ≡ true) (lent_handles states handles)
      → ((g : ℕ) → store.locks_of k.blocks (vm_slot g) ≡ times g (lent_handles states handles)) → Lends k states handles
  lends-locked states handles placed there counts = record {
    each = lent-handed states handles placed there;
    counts = λ g. counts g ∙ sym (times-held g states handles);
  }

-- ---- what a lock and an unlock of the kernel come to

module _ (honest : Type 0) (h : ℕ) (k l : KernelState) (f g : VmFile) (tied : IsFileOf honest k f) (tied_after : IsFileOf honest l g)
    (same : (name : Name) → locks_of (memory_of k f) name ≡ store.locks_of k.blocks (slot_of name))
    (same_after : (name : Name) → locks_of (memory_of l g) name ≡ store.locks_of l.blocks (slot_of name)) (choice : Choice) where
  pub lock-counts : (r : Result (Unit {0}) Refusal) → outcome (effect_of (vlock h) choice (memory_of k f)) ≡ (r, memory_of l g)
      → OnOk r ((n : ℕ) → store.locks_of l.blocks (vm_slot n) ≡ store.locks_of k.blocks (vm_slot n) + once h n)
  lock-counts (Ok done) comes = λ n. omega (arith, locked-counts h choice (memory_of k f) (memory_of l g) comes n, same (vm n), same_after (vm n))
  lock-counts (Err why) comes = tt

  pub lock-same : (r : Result (Unit {0}) Refusal) → outcome (effect_of (vlock h) choice (memory_of k f)) ≡ (r, memory_of l g)
      → OnErr r ((n : ℕ) → store.locks_of l.blocks (vm_slot n) ≡ store.locks_of k.blocks (vm_slot n))
  lock-same (Ok done) comes = tt
  lock-same (Err why) comes = λ n. omega (arith, refused-counts h choice (memory_of k f) (memory_of l g) why comes n, same (vm n), same_after (vm n))

  pub lock-there : (r : Result (Unit {0}) Refusal) → outcome (effect_of (vlock h) choice (memory_of k f)) ≡ (r, memory_of l g)
      → OnOk r (has_block l h ≡ true)
  lock-there (Ok done) comes = there-block honest l g tied_after h (locked-there h choice (memory_of k f) (memory_of l g) comes)
  lock-there (Err why) comes = tt

  pub lock-stays : (r : Result (Unit {0}) Refusal) → outcome (effect_of (vlock h) choice (memory_of k f)) ≡ (r, memory_of l g)
      → (n : ℕ) → has_block k n ≡ true → has_block l n ≡ true
  lock-stays (Ok done) comes n there = there-block honest l g tied_after n
      (locked-stays h choice (memory_of k f) (memory_of l g) comes n (block-there honest k f tied n there))
  lock-stays (Err why) comes n there = there-block honest l g tied_after n
      (refused-stays h choice (memory_of k f) (memory_of l g) why comes n (block-there honest k f tied n there))

  pub unlock-counts : 0 < store.locks_of k.blocks (vm_slot h) → outcome (effect_of (vunlock h) choice (memory_of k f)) ≡ (Ok tt, memory_of l g)
      → (n : ℕ) → store.locks_of l.blocks (vm_slot n) + once h n ≡ store.locks_of k.blocks (vm_slot n)
  unlock-counts some comes n = omega (
    arith,
    unlocked-counts h choice (memory_of k f) (memory_of l g)
        (omega (arith, some, same (vm h))) comes n,
    same (vm n),
    same_after (vm n),
  )
