-- Calls that lock, unlock and mark a block do their rows.
use Rattle.std.proofs.Common.{◌≡◌, ◌≢◌, ℕ, ◌+◌, ◌-◌, ◌<◌, ◌≤◌, List, [], ◌∷◌, length, Option, Some, None, Bool, true, false, refl, sym, ap, ◌∙◌, subst, arith, inl, inr}
use Rattle.std.specs.Prelude.{◌⊎◌, ◌==◌, Ok, Err, is_none, option_map}
use Rattle.std.proofs.lemmas.Bool.{cases_lt}
use Rattle.std.proofs.lemmas.Bool.Decides.{nat_tests}
use Rattle.geos_terms.specs.Names.{vm}
use Rattle.geos_terms.specs.Refusals.{first_refusal}
use Rattle.geos_terms.specs.declared.refusal.Refusal.{Refusal}
use Rattle.geos_terms.specs.declared.refusal.Refusal.TheVariants as refusal
use Rattle.geos_calls.specs.Blocks as model
use Rattle.geos_calls.specs.Blocks.{Block as ModelBlock, locked_block}
use Rattle.geos_calls.specs.Calls.{unlock}
use Rattle.geos_calls.specs.Directories.{VmBlock}
use Rattle.geos_calls.specs.Effects.{Choice, come_to, effect_of, unchanged, bringing}
use Rattle.geos_calls.specs.Given.{given_memory}
use Rattle.geos_calls.specs.Legal.{IsLegalBlock}
use Rattle.geos_calls.specs.Memory as memory
use Rattle.geos_calls.specs.Memory.{Memory, listed_at}
use Rattle.geos_calls.specs.VmCalls.{bring, vdirty}
use Rattle.block_handles.specs.Change.{with_locks, with_lock_less}
use Rattle.block_handles.specs.Names.{IsHandle}
use Rattle.block_handles.specs.Store.{Block, Store, block_at, bytes_in, IsBlock, IsThere, locks_in, locks_of}
use Rattle.block_handles.proofs.Laws.{handle_of_there, laid-with_locks, with_locks-same, with_locks-other}
use Rattle.block_handles.proofs.Layouts.{there_small}
use Rattle.vm_file.specs.Device.{Medium}
use Rattle.vm_file.specs.State.{FileState}
use Rattle.vm_blocks.specs.declared.entries.Held.{Held}
use Rattle.vm_blocks.specs.View.{VmState, bytes_read, held_at, vm_slot, with_held}
use Rattle.vm_blocks.specs.Blocks.{marked}
use Rattle.vm_blocks.specs.Tied.{IsTied, TiedAt}
use Rattle.vm_blocks.specs.Bring.{Keeps, NotBrought}
use Rattle.vm_blocks.specs.Spelled.{spelled}
use Rattle.vm_blocks.specs.Matches.{IsListedAs}
use Rattle.vm_blocks.specs.FileOf.{IsMemoryOf}
use Rattle.vm_blocks.specs.DoesRow.{DoesRow}
use Rattle.vm_blocks.specs.ListedCalls.{lock_listed}
use Rattle.vm_blocks.proofs.BringRows.{chosen}
use Rattle.vm_blocks.proofs.Changed.{listed-there, own-legal, memory-changed, memory-marked}
use Rattle.vm_blocks.proofs.Tables.{handle-or, table-past, table-own}
use Rattle.geos_calls.proofs.Laws.{entry-other}

-- A block that is in memory

some-block : (o : Option Block) → IsBlock o → (b : Block) × (o ≡ Some b)
some-block None there = absurd there
some-block (Some b) there = (b, refl)

locked-there : (o : Option Block) → 0 < locks_in o → IsBlock o
locked-there None some = absurd (omega (arith, some))
locked-there (Some b) some = tt

listed-some : {D : Type 0} (medium : Medium D) (x : FileState D) (h : ℕ) (o : Option Held) (b : Option Block)
    → IsBlock b → TiedAt medium x h o b → (e : Held) × (o ≡ Some e)
listed-some medium x h None None there t = absurd there
listed-some medium x h None (Some b) there t = absurd t
listed-some medium x h (Some e) b there t = (e, refl)

-- what a block in memory is, as it is listed and as it lies there
pub record Known {D : Type 0} (v : VmState D) (s : Store) (h : ℕ) : Type 0 where
  pub handle : IsHandle h
  pub held : Held
  pub listed : held_at v h ≡ Some held
  pub block : Block
  pub there : block_at s (vm_slot h) ≡ Some block

pub known : {D : Type 0} (medium : Medium D) (v : VmState D) (s : Store) (h : ℕ) → IsTied medium v s → IsThere s (vm_slot h) → Known v s h
known medium v s h tied there =
    let p : IsHandle h = handle_of_there s s (vm h) refl tied.laid there in
    let b = some-block (block_at s (vm_slot h)) there in
    let e = listed-some medium v.file h (held_at v h) (block_at s (vm_slot h)) there (tied.each h p) in
    record { handle = p; held = e.0; listed = e.1; block = b.0; there = b.1 }

-- How often it is locked

counted : (good : Type 0) (read : List ℕ) (o : Option Held) (b : Option Block) (l : Option VmBlock) → (o ≡ None → b ≡ None)
    → IsListedAs good read o b l → model.locks_in (option_map (λ (x : VmBlock). x.block) l) ≡ locks_in b
counted good read None b l absent is = ap (λ x. model.locks_in (option_map (λ (x : VmBlock). x.block) x)) is ∙ sym (ap locks_in (absent refl))
counted good read (Some e) (Some b) l absent is = ap (λ x. model.locks_in (option_map (λ (x : VmBlock). x.block) x)) is
counted good read (Some e) None None absent is = absurd is
counted good read (Some e) None (Some l) absent is = is.locks

unlisted-absent : {D : Type 0} (medium : Medium D) (x : FileState D) (h : ℕ) (e : Option Held) (b : Option Block)
    → TiedAt medium x h e b → e ≡ None → b ≡ None
unlisted-absent medium x h None None t none = refl
unlisted-absent medium x h None (Some b) t none = absurd t
unlisted-absent medium x h (Some e) b t none = absurd cc

free-or : (n : ℕ) → (n ≡ 0) ⊎ (0 < n)
free-or n = elim (cases_lt 0 n) [ inl l ↦ inr l | inr l ↦ inl (omega (arith, l)) ]

module _ {D : Type 0} (medium : Medium D) (v : VmState D) (s : Store) (h : ℕ) (tied : IsTied medium v s) (m : Memory)
    (is : IsMemoryOf medium v s m) where
  -- the model knows how often
  pub locks-told : memory.locks_of m (vm h) ≡ locks_of s (vm_slot h)
  locks-told = elim (handle-or {X = ℕ} 0 h) [
    | inl p ↦ counted (medium.honest v.file.device) (bytes_read medium.image v.file h) (held_at v h) (block_at s (vm_slot h))
        (listed_at m h) (unlisted-absent medium v.file h (held_at v h) (block_at s (vm_slot h)) (tied.each h p)) (is.file.cur.each h p)
    | inr past ↦ (
        let none : memory.locks_of m (vm h) ≡ 0 = ap (λ x. model.locks_in (option_map (λ (x : VmBlock). x.block) x))
        (table-past None m.file.cur.blocks h is.file.cur.handles past) in
        none ∙ sym (no-lock past (free-or (locks_of s (vm_slot h))))
        )
  ]
    where
      no-lock : (h ≡ 0) ⊎ (1024 < h) → (locks_of s (vm_slot h) ≡ 0) ⊎ (0 < locks_of s (vm_slot h)) → locks_of s (vm_slot h) ≡ 0
      no-lock past (inl free) = free
      no-lock past (inr some) = let p = handle_of_there s s (vm h) refl tied.laid (locked-there (block_at s (vm_slot h)) some) in absurd (none p past)
        where
          none : IsHandle h → (h ≡ 0) ⊎ (1024 < h) → ⊥
          none p (inl e) = omega (arith, p.0, e)
          none p (inr l) = omega (arith, p.1, l)

  -- another count
  module _ (there : IsThere s (vm_slot h)) (n : ℕ) (few : n ≤ 65535) where
    small : vm_slot h < length s.blocks
    small = omega (arith, there_small s (vm_slot h) tied.laid there, tied.laid.slots)

    keeps : Keeps v s (with_locks s (vm_slot h) n) h
    keeps = record {
      each = λ slot ne. inl (with_locks-other s (vm_slot h) n slot ne, λ some. refl);
      laid =
          laid-with_locks s tied.laid (vm_slot h) there n;
      len = refl;
    }

    pub memory-locked : IsMemoryOf medium v (with_locks s (vm_slot h) n) (memory.with_locks m (vm h) n)
    memory-locked =
        let k = known medium v s h tied there in
        let c : Block = record { locks = n; bytes = k.block.bytes } in
        let now : block_at (with_locks s (vm_slot h) n) (vm_slot h) ≡ Some c = with_locks-same s (vm_slot h) n small
        ∙ ap (λ o. Some (record { locks = n; bytes = bytes_in o })) k.there in
        let legal : IsLegalBlock (spelled n k.block.bytes) =
        record {
          heap = (own-legal medium v s (with_locks s (vm_slot h) n) m is h k.handle tied keeps k.held k.listed k.block k.there).block.heap;
          few = few;
        } in
        memory-changed medium v s (with_locks s (vm_slot h) n) m is h k.handle tied keeps k.held k.listed k.block k.there
        (locked_block n) c now refl legal

    pub few-locks : locks_of s (vm_slot h) ≤ 65535
    few-locks =
        let k = known medium v s h tied there in
        let few = (own-legal medium v s (with_locks s (vm_slot h) n) m is h k.handle tied keeps k.held k.listed k.block k.there).block.few in
        subst (λ o. locks_in o ≤ 65535) (sym k.there) few

-- Unlocking and marking

quiet : Choice
quiet = chosen false false []

module _ {D : Type 0} (medium : Medium D) (v : VmState D) (s : Store) (h : ℕ) (tied : IsTied medium v s) where
  pub unlock-row : (t : Store) → 0 < locks_of s (vm_slot h) → t ≡ with_lock_less s (vm_slot h) → DoesRow medium (unlock (vm h)) (Ok tt) v s v t
  unlock-row t some is_t m is =
      let there = locked-there (block_at s (vm_slot h)) some in
      let n : ℕ = locks_of s (vm_slot h) - 1 in
      let few = few-locks medium v s h tied m is there 0 (omega arith) in
      let told = locks-told medium v s h tied m is in
      let after = memory-locked medium v s h tied m is there n (omega (arith, few)) in
      let same : memory.with_locks m (vm h) n ≡ memory.with_locks m (vm h) (memory.locks_of m (vm h) - 1) =
      ap (λ k. memory.with_locks m (vm h) (k - 1)) (sym told) in (
        chosen false false [],
        record { given = λ g. refl; device = λ g t. absurd cc },
        memory.with_locks m (vm h) (memory.locks_of m (vm h) - 1),
        subst (λ u. IsMemoryOf medium v u (memory.with_locks m (vm h) (memory.locks_of m (vm h) - 1))) (sym is_t)
            (subst (IsMemoryOf medium v (with_lock_less s (vm_slot h))) same after),
        refl,
      )

  pub dirty-row : (w : VmState D) → IsThere s (vm_slot h) → w ≡ with_held v h (option_map marked (held_at v h))
      → DoesRow medium (vdirty h) (Ok tt) v s w s
  dirty-row w there same m is =
      let k = known medium v s h tied there in
      let x : VmState D = with_held v h (option_map marked (held_at v h)) in
      let keeps : Keeps v s s h = record { each = λ slot ne. inl (refl, λ some. refl); laid = tied.laid; len = refl } in
      let held : held_at x h ≡ Some (record k.held { marked = true }) = table-own None (option_map marked (held_at v h))
      v.entries h tied.long k.handle ∙ ap (option_map marked) k.listed in
      let after = memory-marked medium v s s m is h k.handle tied keeps k.held k.listed k.block k.there x true
      refl (λ j ne. entry-other None (option_map marked (held_at v h)) v.entries h j ne) refl refl held k.there in (
        chosen false false [],
        record { given = λ g. refl; device = λ g t. absurd cc },
        memory.with_mark m h true,
        subst (λ y. IsMemoryOf medium y s (memory.with_mark m h true)) (sym same) after,
        refl,
      )

-- Locking

not-full : (n : ℕ) → n ≢ 65535 → (n == 65535) ≡ false
not-full n ne = grind (arith, nat_tests, ne)

full : (n : ℕ) → n ≡ 65535 → (n == 65535) ≡ true
full n e = grind (arith, nat_tests, e)

-- a second test that does not refuse changes nothing
same-tests : (x y : Bool) (a b : Refusal) (rest : List (Bool × Refusal)) → y ≡ false
    → first_refusal ((x, a) ∷ (y, b) ∷ rest) ≡ first_refusal ((x, a) ∷ rest)
same-tests true y a b rest e = refl
same-tests false true a b rest e = absurd cc
same-tests false false a b rest e = refl

-- what comes of a call that leaves memory as it was
come-same : (o : Option Refusal) (m : Memory) → (come_to {A = Unit {0}} o (unchanged m) tt m).1 ≡ m
come-same None m = refl
come-same (Some r) m = refl

come-ok : (o : Option Refusal) (m : Memory) → (come_to {A = Unit {0}} o (unchanged m) tt m).0 ≡ Ok tt → o ≡ None
come-ok None m e = refl
come-ok (Some r) m e = absurd cc

come-err : (o : Option Refusal) (m : Memory) (r : Refusal) → (come_to {A = Unit {0}} o (unchanged m) tt m).0 ≡ Err r → o ≡ Some r
come-err None m r e = absurd cc
come-err (Some x) m r e = cc

module _ {D : Type 0} (medium : Medium D) (v w : VmState D) (s t : Store) (h : ℕ) (now : IsTied medium w t)
    (few : locks_of t (vm_slot h) ≢ 65535) where
  -- the tests of the row are those of bringing the block
  lock-tests : (choice : Choice) (m : Memory) → IsMemoryOf medium w t (given_memory choice.given m)
      → first_refusal (effect_of (lock_listed h) choice m).refusals ≡ first_refusal (effect_of (bring h) choice m).refusals
  lock-tests choice m is =
      let n = given_memory choice.given m in
      same-tests (is_none (listed_at n h)) (memory.locks_of n (vm h) == 65535) refusal.BadHandle refusal.Locked (bringing choice n h)
      (not-full (memory.locks_of n (vm h)) (λ e. few (sym (locks-told medium w t h now n is) ∙ e)))

  -- the block was not brought
  pub lock-refused : (r : Refusal) → DoesRow medium (bring h) (Err r) v s w t → DoesRow medium (lock_listed h) (Err r) v s w t
  lock-refused r row m is =
      let b = row m is in
      let n = given_memory b.0.given m in
      let o = first_refusal (effect_of (bring h) b.0 m).refusals in
      let same : n ≡ b.2 = sym (come-same o n) ∙ ap (λ x. x.1) b.4 in
      let n_is : IsMemoryOf medium w t n = subst (IsMemoryOf medium w t) (sym same) b.3 in
      let came : first_refusal (effect_of (lock_listed h) b.0 m).refusals ≡ Some r = lock-tests b.0 m n_is ∙ come-err o n r (ap (λ x. x.0) b.4) in
      (b.0, b.1, n, n_is, ap (λ x. come_to {A = Unit {0}} x (unchanged n) tt (memory.with_locks n (vm h) (memory.locks_of n (vm h) + 1))) came)

  -- it was, and is locked once more
  pub lock-done : (u : Store) → IsThere t (vm_slot h) → u ≡ with_locks t (vm_slot h) (locks_of t (vm_slot h) + 1)
      → DoesRow medium (bring h) (Ok tt) v s w t → DoesRow medium (lock_listed h) (Ok tt) v s w u
  lock-done u there is_u row m is =
      let b = row m is in
      let n = given_memory b.0.given m in
      let o = first_refusal (effect_of (bring h) b.0 m).refusals in
      let same : n ≡ b.2 = sym (come-same o n) ∙ ap (λ x. x.1) b.4 in
      let n_is : IsMemoryOf medium w t n = subst (IsMemoryOf medium w t) (sym same) b.3 in
      let none : first_refusal (effect_of (lock_listed h) b.0 m).refusals ≡ None = lock-tests b.0 m n_is ∙ come-ok o n (ap (λ x. x.0) b.4) in
      let most = few-locks medium w t h now n n_is there 0 (omega arith) in
      let more : locks_of t (vm_slot h) + 1 ≤ 65535 = omega (arith, most, few) in
      let after = memory-locked medium w t h now n n_is there (locks_of t (vm_slot h) + 1) more in
      let locks : memory.with_locks n (vm h) (locks_of t (vm_slot h) + 1) ≡ memory.with_locks n (vm h) (memory.locks_of n (vm h) + 1) =
      ap (λ k. memory.with_locks n (vm h) (k + 1)) (sym (locks-told medium w t h now n n_is)) in (
        b.0,
        b.1,
        memory.with_locks n (vm h) (memory.locks_of n (vm h) + 1),
        subst (λ x. IsMemoryOf medium w x (memory.with_locks n (vm h) (memory.locks_of n (vm h) + 1))) (sym is_u)
            (subst (IsMemoryOf medium w (with_locks t (vm_slot h) (locks_of t (vm_slot h) + 1))) locks after),
        ap (λ x. come_to {A = Unit {0}} x (unchanged n) tt (memory.with_locks n (vm h) (memory.locks_of n (vm h) + 1))) none,
      )

-- the count is full
pub lock-full : {D : Type 0} (medium : Medium D) (v : VmState D) (s : Store) (h : ℕ) → IsTied medium v s → locks_of s (vm_slot h) ≡ 65535
    → DoesRow medium (lock_listed h) (Err refusal.Locked) v s v s
lock-full medium v s h tied many m is =
    let there = locked-there (block_at s (vm_slot h)) (omega (arith, many)) in
    let k = known medium v s h tied there in
    let keeps : Keeps v s s h = record { each = λ slot ne. inl (refl, λ some. refl); laid = tied.laid; len = refl } in
    let listed : is_none (listed_at m h) ≡ false =
    ap is_none (listed-there medium v s s m is h k.handle tied keeps k.held k.listed k.block k.there) in
    let test : (memory.locks_of m (vm h) == 65535) ≡ true = full (memory.locks_of m (vm h)) (locks-told medium v s h tied m is ∙ many) in
    (chosen false false [], record { given = λ g. refl; device = λ g t. absurd cc }, m, is, rw (listed, test) refl)

-- a block that was not brought is locked no more often than it was
pub not-brought-few : (s t : Store) (h : ℕ) → NotBrought s t h → locks_of s (vm_slot h) ≢ 65535 → locks_of t (vm_slot h) ≢ 65535
not-brought-few s t h not few = on (block_at s (vm_slot h)) refl
  where
    on : (o : Option Block) → block_at s (vm_slot h) ≡ o → locks_of t (vm_slot h) ≢ 65535
    on None e full = let none : locks_of t (vm_slot h) ≡ 0 = ap locks_in (not.absent (λ there. subst IsBlock e there)) in omega (arith, none, full)
    on (Some b) e full = few (sym (ap (λ u. locks_of u (vm_slot h)) (not.stays (subst IsBlock (sym e) tt))) ∙ full)
