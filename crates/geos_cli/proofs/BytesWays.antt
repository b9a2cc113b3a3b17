-- Calls on the bytes of a place, one after another, from kernel to kernel.
use Rattle.std.proofs.Common.{◌≡◌, ◌<◌, ◌≤◌, ◌+◌, ℕ, suc, max, true, false, cond, List, [], ◌∷◌, length, Option, Some, None, refl, sym, ap, ◌∙◌, subst, inl, arith, true≢false}
use Rattle.std.specs.Prelude.{◌↔◌, is_none, option_map, slice_index, Result, Ok, Err, IfOk, OnOk}
use Rattle.std.proofs.lemmas.Bool.{eq-eqb}
use Rattle.block_handles.specs.Names.{slot_of}
use Rattle.block_handles.specs.Store as blocks
use Rattle.geos_terms.specs.declared.name.Name.{Name}
use Rattle.geos_terms.specs.declared.refusal.Refusal.{Refusal}
use Rattle.geos_terms.specs.Names.{vm}
use Rattle.geos_terms.specs.Refusals.{first_refusal}
use Rattle.geos_calls.specs.declared.call.Change.TheVariants.{Lrealloc}
use Rattle.geos_calls.specs.Directories.{VmBlock}
use Rattle.geos_calls.specs.Effects.{Call, Choice, Effect, Reference, come_to, effect_of, outcome, unchanged}
use Rattle.geos_calls.specs.Given.{given_memory}
use Rattle.geos_calls.specs.Memory.{Memory, listed_at, locks_in, locks_of}
use Rattle.geos_calls.specs.Table.{Changes, Vdirty}
use Rattle.geos_calls.specs.Calls.{deref, load8, lrealloc, store}
use Rattle.geos_calls.specs.VmCalls.{vdirty, vlock, vunlock}
use Rattle.geos_calls.specs.VmFile.{VmFile}
use Rattle.geos_calls.specs.ItemCalls.{ilock, irealloc}
use Rattle.geos_calls.proofs.Leaves.{rows_leave}
use Rattle.vm_file.specs.Device.{Medium}
use Rattle.geos_kernel.specs.declared.span.Span.{Span}
use Rattle.geos_kernel.specs.Files.{Between, LeavesKept, Stops}
use Rattle.geos_kernel.specs.Kernel.{Calls, LeadsToSpan}
use Rattle.geos_kernel.specs.Loads.{Loads}
use Rattle.geos_kernel.specs.Spans.{IsStanding, IsWritable}
use Rattle.geos_kernel.specs.View.{KernelOn, IsFileOf, IsLocked, IsMarked, MayChange, memory_of}
use Rattle.geos_kernel.proofs.Stops.{between-same}
use Rattle.geos_machine.specs.Runs.{Throughout}
use Rattle.geos_machine.proofs.Stops.{stops-first}
use Rattle.geos_machine.proofs.Honest.{alike-on}
use Rattle.geos_cli.specs.declared.bytes.Place.{Place}
use Rattle.geos_cli.specs.declared.bytes.Place.TheVariants.{Chunk, Item}
use Rattle.geos_cli.specs.Bytes.{handle_of, Closes, Gets, Measures, Opened, Opens, Puts, Reads, Resizes, Stores, Writes}
use Rattle.geos_cli.specs.Script.{once, Allows, Comes, IsAllowed, Leads, LeadsOn, LocksOne, MarksOne, Then, UnlocksOne, Way}
use Rattle.geos_cli.proofs.Prints.{Wider, comes-wider, then-wider}
use Rattle.geos_cli.proofs.LentLocks.{done-parts}
use Rattle.geos_cli.proofs.LentRuns.{allowed-alike, comes-leads, leads-as, leads-wider, on-leads, stays-leads, stops-between}

-- what is led to under some choices is led to where more are allowed
module _ (P Q : Allows) (wider : (before now : ℕ) (choice : Choice) → P before now choice → Q before now choice) where
  pub opens-wider : (place : Place) (n : ℕ) (ref : Reference) → Wider (Opens P place n ref) (Opens Q place n ref)
  opens-wider (Chunk h c) n ref =
      then-wider (LocksOne P h) (Comes P (deref (vm h) c n) (Ok ref)) (LocksOne Q h) (Comes Q (deref (vm h) c n) (Ok ref))
      (comes-wider P Q wider (vlock h) (Ok tt)) (comes-wider P Q wider (deref (vm h) c n) (Ok ref))
  opens-wider (Item g i) n ref = comes-wider P Q wider (ilock g i n) (Ok ref)

  pub closes-wider : (place : Place) → Wider (Closes P place) (Closes Q place)
  closes-wider place = comes-wider P Q wider (vunlock (handle_of place)) (Ok tt)

  pub reads-wider : (ref : Reference) (i : ℕ) (bytes : List ℕ) → Wider (Reads P ref i bytes) (Reads Q ref i bytes)
  reads-wider ref i [] = λ before after keeps stays. stays
  reads-wider ref i (byte ∷ bytes) =
      then-wider (Comes P (load8 ref i) (Ok byte)) (Reads P ref (i + 1) bytes) (Comes Q (load8 ref i) (Ok byte)) (Reads Q ref (i + 1) bytes)
      (comes-wider P Q wider (load8 ref i) (Ok byte)) (reads-wider ref (i + 1) bytes)

  pub resizes-wider : (place : Place) (n : ℕ) → Wider (Resizes P place n) (Resizes Q place n)
  resizes-wider (Chunk h c) n =
      let lock = comes-wider P Q wider (vlock h) (Ok tt) in
      let mark = comes-wider P Q wider (vdirty h) (Ok tt) in
      let resize = comes-wider P Q wider (lrealloc (vm h) c n) (Ok tt) in
      let unlock = comes-wider P Q wider (vunlock h) (Ok tt) in
      then-wider _ (UnlocksOne P h) _ (UnlocksOne Q h)
      (then-wider _ (Comes P (lrealloc (vm h) c n) (Ok tt)) _ (Comes Q (lrealloc (vm h) c n) (Ok tt))
      (then-wider (LocksOne P h) (MarksOne P h) (LocksOne Q h) (MarksOne Q h) lock mark) resize)
      unlock
  resizes-wider (Item g i) n = comes-wider P Q wider (irealloc g i n) (Ok tt)

  pub writes-wider : (place : Place) (at : ℕ) (bytes : List ℕ) → Wider (Writes P place at bytes) (Writes Q place at bytes)
  writes-wider place at bytes before after keeps (ref, way) = (
    ref,
    then-wider (Then (Opens P place (at + length bytes) ref) (Comes P (store ref at bytes) (Ok tt))) (Closes P place)
        (Then (Opens Q place (at + length bytes) ref) (Comes Q (store ref at bytes) (Ok tt))) (Closes Q place)
        (then-wider (Opens P place (at + length bytes) ref) (Comes P (store ref at bytes) (Ok tt))
        (Opens Q place (at + length bytes) ref) (Comes Q (store ref at bytes) (Ok tt))
        (opens-wider place (at + length bytes) ref) (comes-wider P Q wider (store ref at bytes) (Ok tt)))
        (closes-wider place) before after keeps way,
  )

  pub stores-wider : (place : Place) (at least : ℕ) (bytes : List ℕ) → Wider (Stores P place at least bytes) (Stores Q place at least bytes)
  stores-wider place at least bytes =
      let n = max (at + length bytes) least in
      then-wider (Resizes P place n) (Writes P place at bytes) (Resizes Q place n) (Writes Q place at bytes)
      (resizes-wider place n) (writes-wider place at bytes)

module _ {D : Type 0} (medium : Medium D) (old new : KernelOn D)
    (at_once : (c : List ℕ) → medium.may_have_left old.device old.device c → medium.may_leave old.device c) (kept : LeavesKept medium old) where
  -- a call of the kernel
  pub called : {A : Type 0} (row : Call A) (result : Result A Refusal) → Stops medium old new
      → Calls (medium.honest old.device) row result old.core new.core → LeadsOn medium old new (λ allows. Comes allows row result)
  called row result stops calls =
      comes-leads (medium.honest old.device) (Throughout medium old.device new.device) old.core new.core row result
      (stops-between medium old new at_once kept stops) calls

module _ {D : Type 0} (medium : Medium D) (old mid new : KernelOn D) (alike : medium.honest mid.device ↔ medium.honest old.device) where
  abbrev was : Allows
  was = IsAllowed (medium.honest mid.device)

  abbrev now : Allows
  now = IsAllowed (medium.honest old.device)

  -- one transition after another, where the wider transition allows more than the second
  pub on-way : (first second wide : Way) → Wider second wide
      → Leads (medium.honest old.device) (Throughout medium old.device mid.device) old.core mid.core first
      → Leads (medium.honest mid.device) (Throughout medium mid.device new.device) mid.core new.core second
      → Leads (medium.honest old.device) (Throughout medium old.device new.device) old.core new.core (Then first wide)
  on-way first second wide wider A B =
      on-leads medium old mid new first wide A
      (leads-wider (medium.honest mid.device) (medium.honest old.device) alike (Throughout medium mid.device new.device) mid.core new.core
      second wide wider B)

  -- as much is allowed
  pub as_much : (before after : ℕ) (choice : Choice) → was before after choice → now before after choice
  as_much = allowed-alike (medium.honest mid.device) (medium.honest old.device) alike

  -- then a call of the kernel
  pub then-comes : {A : Type 0} (first : Way) (row : Call A) (result : Result A Refusal)
      → Leads (medium.honest old.device) (Throughout medium old.device mid.device) old.core mid.core first
      → LeadsOn medium mid new (λ allows. Comes allows row result)
      → Leads (medium.honest old.device) (Throughout medium old.device new.device) old.core new.core (Then first (Comes now row result))
  then-comes first row result A B = on-way first (Comes was row result) (Comes now row result) (comes-wider was now as_much row result) A B

  -- then bytes are read
  pub then-reads : (first : Way) (ref : Reference) (i : ℕ) (bytes : List ℕ)
      → Leads (medium.honest old.device) (Throughout medium old.device mid.device) old.core mid.core first
      → LeadsOn medium mid new (λ allows. Reads allows ref i bytes)
      → Leads (medium.honest old.device) (Throughout medium old.device new.device) old.core new.core (Then first (Reads now ref i bytes))
  then-reads first ref i bytes A B = on-way first (Reads was ref i bytes) (Reads now ref i bytes) (reads-wider was now as_much ref i bytes) A B

  -- then bytes are written there
  pub then-writes : (first : Way) (place : Place) (at : ℕ) (bytes : List ℕ)
      → Leads (medium.honest old.device) (Throughout medium old.device mid.device) old.core mid.core first
      → LeadsOn medium mid new (λ allows. Writes allows place at bytes)
      → Leads (medium.honest old.device) (Throughout medium old.device new.device) old.core new.core (Then first (Writes now place at bytes))
  then-writes first place at bytes A B =
      on-way first (Writes was place at bytes) (Writes now place at bytes) (writes-wider was now as_much place at bytes) A B

  -- the place is resized for them before
  pub then-stores : (first : Way) (place : Place) (at least : ℕ) (bytes : List ℕ)
      → Leads (medium.honest old.device) (Throughout medium old.device mid.device) old.core mid.core first
      → LeadsOn medium mid new (λ allows. Stores allows place at least bytes)
      → Leads (medium.honest old.device) (Throughout medium old.device new.device) old.core new.core (Then first (Stores now place at least bytes))
  then-stores first place at least bytes A B =
      on-way first (Stores was place at least bytes) (Stores now place at least bytes) (stores-wider was now as_much place at least bytes) A B

-- ---- locks

-- a block that was locked once more is locked
pub locked-now : (h old new : ℕ) → new ≡ old + once h h → 0 < new
locked-now h old new e = omega (arith, e, ap {B = ℕ} (λ b. cond b 1 0) (eq-eqb h h refl))

-- what a call answers is what its row does
done-answer : {A : Type 0} (e : Effect A) (x : A) (n : Memory) → outcome e ≡ (Ok x, n) → e.answer ≡ x
done-answer {A} e x n comes = go (first_refusal e.refusals) comes
  where
    go : (o : Option Refusal) → come_to o e.left e.answer e.after ≡ (Ok x, n) → e.answer ≡ x
    go None c = ap (λ (p : Result A Refusal × Memory). elim p.0 [ Ok y ↦ y | Err why ↦ e.answer ]) c
    go (Some why) c = absurd (true≢false (sym (ap (λ (p : Result A Refusal × Memory). elim p.0 [ Ok y ↦ true | Err r ↦ false ]) c)))

-- a refusal that changes nothing leaves memory
refused-left : {A : Type 0} (o : Option Refusal) (m : Memory) (x : A) (after : Memory) (why : Refusal) (n : Memory)
    → come_to o (unchanged m) x after ≡ (Err why, n) → n ≡ m
refused-left {A} None m x after why n c = absurd (true≢false (ap (λ (p : Result A Refusal × Memory). elim p.0 [ Ok y ↦ true | Err r ↦ false ]) c))
refused-left {A} (Some r) m x after why n c = sym (ap (λ (p : Result A Refusal × Memory). p.1) c)

-- a locked block is listed
pub listed-locked : (m : Memory) (h : ℕ) → 0 < locks_of m (vm h) → is_none (listed_at m h) ≡ false
listed-locked m h some = go (listed_at m h) some
  where
    go : (l : Option VmBlock) → 0 < locks_in (option_map (λ (x : VmBlock). x.block) l) → is_none l ≡ false
    go None lt = absurd (omega (arith, lt))
    go (Some l) lt = refl

module _ (h : ℕ) (choice : Choice) (old new : Memory) where
  abbrev m : Memory
  m = given_memory choice.given old

  -- a mark leaves counts
  marked-locks : 0 < locks_of old (vm h) → outcome (effect_of (vdirty h) choice old) ≡ (Ok tt, new) → locks_of new (vm h) ≡ locks_of old (vm h)
  marked-locks some comes =
      let parts = done-parts (vdirty h choice m) tt new comes in
      let given = rows_leave.given_counts choice.given old (vm h) in
      let counted = rows_leave.counts (Vdirty h) choice m (listed-locked m h (omega (arith, some, given))) parts.0 (vm h) in
      ap (λ (x : Memory). locks_of x (vm h)) (sym parts.1) ∙ counted ∙ given

  -- and so does a chunk that is resized, also where that is refused
  resized-locks : (c n : ℕ) (r : Result (Unit {0}) Refusal) → outcome (effect_of (lrealloc (vm h) c n) choice old) ≡ (r, new)
      → locks_of new (vm h) ≡ locks_of old (vm h)
  resized-locks c n (Ok done) comes =
      let parts = done-parts (lrealloc (vm h) c n choice m) tt new comes in
      let counted = rows_leave.counts (Changes (vm h) (Lrealloc c n)) choice m tt parts.0 (vm h) in
      ap (λ (x : Memory). locks_of x (vm h)) (sym parts.1) ∙ counted ∙ rows_leave.given_counts choice.given old (vm h)
  resized-locks c n (Err why) comes =
      let row = lrealloc (vm h) c n choice m in
      ap (λ (x : Memory). locks_of x (vm h)) (refused-left (first_refusal row.refusals) m row.answer row.after why new comes)
      ∙ rows_leave.given_counts choice.given old (vm h)

-- so the kernel's block is locked afterwards
module _ {D : Type 0} (medium : Medium D) (old new : KernelOn D) (h : ℕ) (f : VmFile) (tied : IsFileOf (medium.honest old.device) old.core f)
    (same : locks_of (memory_of old.core f) (vm h) ≡ blocks.locks_of old.core.blocks (slot_of (vm h)))
    (same_after : (g : VmFile) → IsFileOf (medium.honest old.device) new.core g
    → locks_of (memory_of new.core g) (vm h) ≡ blocks.locks_of new.core.blocks (slot_of (vm h))) where
  pub mark-locked : Calls (medium.honest old.device) (vdirty h) (Ok tt) old.core new.core → IsLocked old.core (vm h) → IsLocked new.core (vm h)
  mark-locked calls some =
      let done = calls.answers f tied in
      let counts = marked-locks h done.choice (memory_of old.core f) (memory_of new.core done.file) (omega (arith, some, same)) done.comes in
      omega (arith, some, same, counts, same_after done.file done.tied)

  pub resize-locked : (c n : ℕ) (r : Result (Unit {0}) Refusal) → Calls (medium.honest old.device) (lrealloc (vm h) c n) r old.core new.core
      → IsLocked old.core (vm h) → IsLocked new.core (vm h)
  resize-locked c n r calls some =
      let done = calls.answers f tied in
      let counts = resized-locks h done.choice (memory_of old.core f) (memory_of new.core done.file) c n r done.comes in
      omega (arith, some, same, counts, same_after done.file done.tied)

-- ---- places that were opened

module _ {D : Type 0} (medium : Medium D) where
  -- a chunk, in a block that was locked
  pub opened-chunk : (old locked : KernelOn D) (h c n : ℕ) (span : Span) (alike : medium.honest locked.device ↔ medium.honest old.device)
      → LeadsOn medium old locked (λ allows. LocksOne allows h)
      → ((x : List ℕ) → medium.may_have_left locked.device locked.device x → medium.may_leave locked.device x) → LeavesKept medium locked
      → (f : VmFile) → IsFileOf (medium.honest locked.device) locked.core f
      → LeadsToSpan (medium.honest locked.device) (deref (vm h) c n) (Ok span) locked.core locked.core
      → n ≤ span.len → (MayChange locked.core (vm h) → IsWritable locked.core span) → Opened medium (Chunk h c) n old locked span
  opened-chunk old locked h c n span alike first at_once kept f tied (Err why, calls, none) long may = absurd none
  opened-chunk old locked h c n span alike first at_once kept f tied (Ok ref, calls, stands) long may =
      let done = calls.answers f tied in
      let answer =
      done-answer (effect_of (deref (vm h) c n) done.choice (memory_of locked.core f)) ref (memory_of locked.core done.file) done.comes in
      record {
        ref = ref;
        leads = then-comes medium old locked locked alike (LocksOne (IsAllowed (medium.honest old.device)) h) (deref (vm h) c n)
            (Ok ref) first (called medium locked locked at_once kept (deref (vm h) c n) (Ok ref) (between-same medium locked).stops calls);
        stands = stands;
        inside = ap (λ (r : Reference). r.name) (sym answer);
        long = long;
        writable = λ marked. may (λ own. marked);
        alike = alike;
      }

  -- an item, in a group that was locked with it
  opened-item : (old new : KernelOn D) (i g n : ℕ) (span : Span)
      → ((x : List ℕ) → medium.may_have_left old.device old.device x → medium.may_leave old.device x) → LeavesKept medium old
      → (f : VmFile) → IsFileOf (medium.honest old.device) old.core f → Between medium old new
      → LeadsToSpan (medium.honest old.device) (ilock g i n) (Ok span) old.core new.core
      → n ≤ span.len → (IsMarked new.core g → IsWritable new.core span) → Opened medium (Item g i) n old new span
  opened-item old new i g n span at_once kept f tied between (Err why, calls, none) long may = absurd none
  opened-item old new i g n span at_once kept f tied between (Ok ref, calls, stands) long may =
      let done = calls.answers f tied in
      let answer = done-answer (effect_of (ilock g i n) done.choice (memory_of old.core f)) ref (memory_of new.core done.file) done.comes in
      record {
        ref = ref;
        leads = called medium old new at_once kept (ilock g i n) (Ok ref) between.stops calls;
        stands = stands;
        inside = ap (λ (r : Reference). r.name) (sym answer);
        long = long;
        writable = may;
        alike = between.honest;
      }

  pub item-opened : (old new : KernelOn D) (i g n : ℕ) (result : Result Span Refusal)
      → ((x : List ℕ) → medium.may_have_left old.device old.device x → medium.may_leave old.device x) → LeavesKept medium old
      → (f : VmFile) → IsFileOf (medium.honest old.device) old.core f → Between medium old new
      → LeadsToSpan (medium.honest old.device) (ilock g i n) result old.core new.core
      → IfOk result (λ span. IsStanding new.core span × (n ≤ span.len)) → IfOk result (λ span. IsMarked new.core g → IsWritable new.core span)
      → IfOk result (Opened medium (Item g i) n old new)
  item-opened old new i g n (Err why) at_once kept f tied between gives long may = tt
  item-opened old new i g n (Ok span) at_once kept f tied between gives long may =
      opened-item old new i g n span at_once kept f tied between gives long.1 may

  -- its block or group is locked
  pub opened-locked : (place : Place) (n : ℕ) (old new : KernelOn D) (span : Span) → Opened medium place n old new span
      → IsLocked new.core (vm (handle_of place))
  opened-locked place n old new span o = subst (λ (name : Name). IsLocked new.core name) o.inside o.stands.locked

  -- it is closed again, and was measured
  pub measured : (old opened new : KernelOn D) (place : Place) (span : Span) → Opened medium place 0 old opened span
      → LeadsOn medium opened new (λ allows. Closes allows place) → LeadsOn medium old new (λ allows. Measures allows place span.len)
  measured old opened new place span o C =
      let now = IsAllowed (medium.honest old.device) in
      leads-as (medium.honest old.device) (Throughout medium old.device new.device) old.core new.core
      (Then (Opens now place 0 o.ref) (Closes now place)) (Measures now place span.len) (λ before after keeps w. (o.ref, sym o.stands.len, w))
      (then-comes medium old opened new o.alike (Opens now place 0 o.ref) (vunlock (handle_of place)) (Ok tt) o.leads C)

  -- bytes were stored there
  pub written-there : (old opened stored new : KernelOn D) (place : Place) (at end : ℕ) (bytes : List ℕ) (span : Span) → end ≡ at + length bytes
      → (o : Opened medium place end old opened span) → (medium.honest stored.device ↔ medium.honest opened.device)
      → LeadsOn medium opened stored (λ allows. Comes allows (store o.ref at bytes) (Ok tt))
      → LeadsOn medium stored new (λ allows. Closes allows place) → LeadsOn medium old new (λ allows. Writes allows place at bytes)
  written-there old opened stored new place at end bytes span e o alike S C =
      let now = IsAllowed (medium.honest old.device) in
      let ref = o.ref in
      let so : Way = Then (Opens now place (at + length bytes) ref) (Comes now (store ref at bytes) (Ok tt)) in
      let both : medium.honest stored.device ↔ medium.honest old.device = alike-on _ _ _ alike o.alike in
      let opens = subst (λ n. LeadsOn medium old opened (λ allows. Opens allows place n ref)) e o.leads in
      leads-as (medium.honest old.device) (Throughout medium old.device new.device) old.core new.core
      (Then so (Closes now place)) (Writes now place at bytes) (λ before after keeps w. (ref, w))
      (then-comes medium old stored new both so (vunlock (handle_of place)) (Ok tt)
      (then-comes medium old opened stored o.alike (Opens now place (at + length bytes) ref) (store ref at bytes) (Ok tt) opens S) C)

  -- a chunk of a block was resized
  pub resized-chunk : (old locked marked resized new : KernelOn D) (h c n : ℕ) (r : Result (Unit {0}) Refusal)
      → (medium.honest locked.device ↔ medium.honest old.device) → (medium.honest marked.device ↔ medium.honest locked.device)
      → (medium.honest resized.device ↔ medium.honest marked.device)
      → LeadsOn medium old locked (λ allows. LocksOne allows h)
      → LeadsOn medium locked marked (λ allows. MarksOne allows h)
      → LeadsOn medium marked resized (λ allows. Comes allows (lrealloc (vm h) c n) r)
      → LeadsOn medium resized new (λ allows. UnlocksOne allows h)
      → OnOk r (LeadsOn medium old new (λ allows. Resizes allows (Chunk h c) n))
  resized-chunk old locked marked resized new h c n (Err why) one two three L M R U = tt
  resized-chunk old locked marked resized new h c n (Ok done) one two three L M R U =
      let now = IsAllowed (medium.honest old.device) in
      let locks : Way = LocksOne now h in
      let marks : Way = Then locks (MarksOne now h) in
      let resizes : Way = Then marks (Comes now (lrealloc (vm h) c n) (Ok tt)) in
      let one_two : medium.honest marked.device ↔ medium.honest old.device = ((λ x. one.0 (two.0 x)), (λ x. two.1 (one.1 x))) in
      let all : medium.honest resized.device ↔ medium.honest old.device = ((λ x. one_two.0 (three.0 x)), (λ x. three.1 (one_two.1 x))) in
      then-comes medium old resized new all resizes (vunlock h) (Ok tt)
      (then-comes medium old marked resized one_two marks (lrealloc (vm h) c n) (Ok tt)
      (then-comes medium old locked marked one locks (vdirty h) (Ok tt) L M) R) U

  -- an item was
  pub resized-item : (old new : KernelOn D) (g i n : ℕ) (r : Result (Unit {0}) Refusal)
      → LeadsOn medium old new (λ allows. Comes allows (irealloc g i n) r) → OnOk r (LeadsOn medium old new (λ allows. Resizes allows (Item g i) n))
  resized-item old new g i n (Err why) R = tt
  resized-item old new g i n (Ok done) R = R

  -- bytes were stored
  pub stored : (old resized new : KernelOn D) (place : Place) (at least end len : ℕ) (bytes : List ℕ) (r : Result (Unit {0}) Refusal)
      → end ≡ at + length bytes → len ≡ max end least → (medium.honest resized.device ↔ medium.honest old.device)
      → LeadsOn medium old resized (λ allows. Resizes allows place len) → OnOk r (LeadsOn medium resized new (λ allows. Writes allows place at bytes))
      → OnOk r (LeadsOn medium old new (λ allows. Stores allows place at least bytes))
  stored old resized new place at least end len bytes (Err why) e l alike R W = tt
  stored old resized new place at least end len bytes (Ok done) e l alike R W =
      let n = max (at + length bytes) least in
      let same : len ≡ n = l ∙ ap (λ k. max k least) e in
      then-writes medium old resized new alike (Resizes (IsAllowed (medium.honest old.device)) place n) place at bytes
      (subst (λ k. LeadsOn medium old resized (λ allows. Resizes allows place k)) same R) W

  -- bytes were put over some
  pub put-over : (old sized new : KernelOn D) (place : Place) (at n : ℕ) (bytes : List ℕ) (r : Result (Unit {0}) Refusal)
      → (medium.honest sized.device ↔ medium.honest old.device) → LeadsOn medium old sized (λ allows. Measures allows place n)
      → OnOk r (LeadsOn medium sized new (λ allows. Stores allows place at n bytes))
      → OnOk r (LeadsOn medium old new (λ allows. Puts allows place (Some at) bytes))
  put-over old sized new place at n bytes (Err why) alike M S = tt
  put-over old sized new place at n bytes (Ok done) alike M S =
      let now = IsAllowed (medium.honest old.device) in
      leads-as (medium.honest old.device) (Throughout medium old.device new.device) old.core new.core
      (Then (Measures now place n) (Stores now place at n bytes)) (Puts now place (Some at) bytes) (λ before after keeps w. (n, w))
      (then-stores medium old sized new alike (Measures now place n) place at n bytes M S)

-- ---- bytes that are got

-- bytes that the rows of loads give, one after another, and no call asks the device
module _ {D : Type 0} (medium : Medium D) (k : KernelOn D)
    (at_once : (c : List ℕ) → medium.may_have_left k.device k.device c → medium.may_leave k.device c) (kept : LeavesKept medium k)
    (ref : Reference) where
  pub reads-all : (i : ℕ) (bytes : List ℕ)
      → ((j : ℕ) → j < length bytes → Calls (medium.honest k.device) (load8 ref (i + j)) (Ok (slice_index bytes j)) k.core k.core)
      → LeadsOn medium k k (λ allows. Reads allows ref i bytes)
  reads-all i [] loads =
      stays-leads (medium.honest k.device) (Throughout medium k.device k.device) k.core
      (λ f tied h. stops-first medium k f tied at_once kept h _ (λ x opens. inl opens))
  reads-all i (byte ∷ bytes) loads =
      on-leads medium k k k (Comes (IsAllowed (medium.honest k.device)) (load8 ref i) (Ok byte))
      (Reads (IsAllowed (medium.honest k.device)) ref (i + 1) bytes)
      (called medium k k at_once kept (load8 ref i) (Ok byte) (between-same medium k).stops
      (subst (λ n. Calls (medium.honest k.device) (load8 ref n) (Ok byte) k.core k.core) zeroth (loads 0 (omega arith))))
      (reads-all (i + 1) bytes (λ j less. subst (λ n. Calls (medium.honest k.device) (load8 ref n) (Ok (slice_index bytes j)) k.core k.core)
      (next j) (loads (suc j) (omega (arith, less)))))
    where
      zeroth : i + 0 ≡ i
      zeroth = omega arith

      next : (j : ℕ) → i + suc j ≡ i + 1 + j
      next j = omega arith

-- a place was opened, all its bytes were read, and it is closed
pub got-there : {D : Type 0} (medium : Medium D) (old opened new : KernelOn D) (place : Place) (span : Span) (bytes : List ℕ)
    → Opened medium place 0 old opened span
    → ((x : List ℕ) → medium.may_have_left opened.device opened.device x → medium.may_leave opened.device x) → LeavesKept medium opened
    → Loads (medium.honest opened.device) span 0 bytes opened.core → length bytes ≡ span.len
    → LeadsOn medium opened new (λ allows. Closes allows place) → LeadsOn medium old new (λ allows. Gets allows place bytes)
got-there medium old opened new place span bytes o at_once kept loads long C =
    let now = IsAllowed (medium.honest old.device) in
    let ref = o.ref in
    let so : Way = Then (Opens now place 0 ref) (Reads now ref 0 bytes) in
    leads-as (medium.honest old.device) (Throughout medium old.device new.device) old.core new.core
    (Then so (Closes now place)) (Gets now place bytes) (λ before after keeps w. (ref, long ∙ o.stands.len, w))
    (then-comes medium old opened new o.alike so (vunlock (handle_of place)) (Ok tt)
    (then-reads medium old opened opened o.alike (Opens now place 0 ref) ref 0 bytes o.leads
    (reads-all medium opened at_once kept ref 0 bytes (λ j less. loads ref o.stands j less))) C)
