-- Calls on the bytes of a place that the kernel refuses, from kernel to kernel.
use Rattle.std.proofs.Common.{◌≡◌, ◌∙◌, ◌+◌, ℕ, max, List, length, Some, sym, ap, subst, inl, inr}
use Rattle.std.specs.Prelude.{◌↔◌, Result, Ok, Err, IfErr}
use Rattle.geos_terms.specs.declared.refusal.Refusal.{Refusal}
use Rattle.geos_terms.specs.Names.{vm}
use Rattle.geos_calls.specs.Effects.{Choice}
use Rattle.geos_calls.specs.Calls.{deref, lrealloc}
use Rattle.geos_calls.specs.VmCalls.{vdirty, vlock, vunlock}
use Rattle.geos_calls.specs.ItemCalls.{ilock, irealloc}
use Rattle.vm_file.specs.Device.{Medium}
use Rattle.geos_kernel.specs.declared.span.Span.{Span}
use Rattle.geos_kernel.specs.Files.{Between, LeavesKept}
use Rattle.geos_kernel.specs.Kernel.{Calls, LeadsToSpan}
use Rattle.geos_kernel.specs.View.{KernelOn}
use Rattle.geos_kernel.proofs.Stops.{between-same}
use Rattle.geos_machine.specs.Runs.{Throughout}
use Rattle.geos_machine.proofs.Stops.{stops-first}
use Rattle.geos_cli.specs.declared.bytes.Place.{Place}
use Rattle.geos_cli.specs.declared.bytes.Place.TheVariants.{Chunk, Item}
use Rattle.geos_cli.specs.Bytes.{IsTooLong, Measures, NotOpened, NotPut, NotResized, NotStored, Resizes}
use Rattle.geos_cli.specs.Script.{Allows, Comes, IsAllowed, Leads, LeadsOn, LocksOne, MarksOne, NotLocked, Stays, Then, UnlocksOne, Way}
use Rattle.geos_cli.proofs.BytesWays.{as_much, called, on-way, resizes-wider, then-comes}
use Rattle.geos_cli.proofs.Prints.{Wider, comes-wider, then-wider}
use Rattle.geos_cli.proofs.LentRuns.{leads-as, stays-leads}

-- what is refused under some choices is refused where more are allowed
module _ (P Q : Allows) (wider : (before now : ℕ) (choice : Choice) → P before now choice → Q before now choice) where
  not-opened-wider : (place : Place) (n : ℕ) (why : Refusal) → Wider (NotOpened P place n why) (NotOpened Q place n why)
  not-opened-wider (Chunk h c) n why before after keeps (inl w) = inl (comes-wider P Q wider (vlock h) (Err why) before after keeps w)
  not-opened-wider (Chunk h c) n why before after keeps (inr w) =
      inr (then-wider (Then (LocksOne P h) (Comes P (deref (vm h) c n) (Err why))) (UnlocksOne P h)
      (Then (LocksOne Q h) (Comes Q (deref (vm h) c n) (Err why))) (UnlocksOne Q h)
      (then-wider (LocksOne P h) (Comes P (deref (vm h) c n) (Err why)) (LocksOne Q h) (Comes Q (deref (vm h) c n) (Err why))
      (comes-wider P Q wider (vlock h) (Ok tt)) (comes-wider P Q wider (deref (vm h) c n) (Err why)))
      (comes-wider P Q wider (vunlock h) (Ok tt)) before after keeps w)
  not-opened-wider (Item g i) n why before after keeps w = comes-wider P Q wider (ilock g i n) (Err why) before after keeps w

  not-resized-wider : (place : Place) (n : ℕ) (why : Refusal) → Wider (NotResized P place n why) (NotResized Q place n why)
  not-resized-wider (Chunk h c) n why before after keeps (inl w) = inl (comes-wider P Q wider (vlock h) (Err why) before after keeps w)
  not-resized-wider (Chunk h c) n why before after keeps (inr w) =
      let lock = comes-wider P Q wider (vlock h) (Ok tt) in
      let mark = comes-wider P Q wider (vdirty h) (Ok tt) in
      let resize = comes-wider P Q wider (lrealloc (vm h) c n) (Err why) in
      let unlock = comes-wider P Q wider (vunlock h) (Ok tt) in
      inr (then-wider _ (UnlocksOne P h) _ (UnlocksOne Q h)
      (then-wider _ (Comes P (lrealloc (vm h) c n) (Err why)) _ (Comes Q (lrealloc (vm h) c n) (Err why))
      (then-wider (LocksOne P h) (MarksOne P h) (LocksOne Q h) (MarksOne Q h) lock mark) resize)
      unlock before after keeps w)
  not-resized-wider (Item g i) n why before after keeps w = comes-wider P Q wider (irealloc g i n) (Err why) before after keeps w

  not-stored-wider : (place : Place) (at least : ℕ) (bytes : List ℕ) (why : Refusal)
      → Wider (NotStored P place at least bytes why) (NotStored Q place at least bytes why)
  not-stored-wider place at least bytes why before after keeps (inl w) = inl w
  not-stored-wider place at least bytes why before after keeps (inr (inl w)) =
      inr (inl (not-resized-wider place (max (at + length bytes) least) why before after keeps w))
  not-stored-wider place at least bytes why before after keeps (inr (inr w)) =
      let n = max (at + length bytes) least in
      inr (inr (then-wider (Resizes P place n) (NotOpened P place (at + length bytes) why) (Resizes Q place n) (NotOpened Q place (at + length bytes) why)
      (resizes-wider P Q wider place n) (not-opened-wider place (at + length bytes) why) before after keeps w))

module _ {D : Type 0} (medium : Medium D) (old mid new : KernelOn D) (alike : medium.honest mid.device ↔ medium.honest old.device) where
  abbrev was : Allows
  was = IsAllowed (medium.honest mid.device)

  abbrev now : Allows
  now = IsAllowed (medium.honest old.device)

  more : (before after : ℕ) (choice : Choice) → was before after choice → now before after choice
  more = as_much medium old mid new alike

  -- then a place is not opened
  then-not-opened : (first : Way) (place : Place) (n : ℕ) (why : Refusal)
      → Leads (medium.honest old.device) (Throughout medium old.device mid.device) old.core mid.core first
      → LeadsOn medium mid new (λ allows. NotOpened allows place n why)
      → Leads (medium.honest old.device) (Throughout medium old.device new.device) old.core new.core (Then first (NotOpened now place n why))
  then-not-opened first place n why A B =
      on-way medium old mid new alike first (NotOpened was place n why) (NotOpened now place n why) (not-opened-wider was now more place n why) A B

  -- nor are bytes stored
  then-not-stored : (first : Way) (place : Place) (at least : ℕ) (bytes : List ℕ) (why : Refusal)
      → Leads (medium.honest old.device) (Throughout medium old.device mid.device) old.core mid.core first
      → LeadsOn medium mid new (λ allows. NotStored allows place at least bytes why)
      → Leads (medium.honest old.device) (Throughout medium old.device new.device) old.core new.core
      (Then first (NotStored now place at least bytes why))
  then-not-stored first place at least bytes why A B =
      on-way medium old mid new alike first (NotStored was place at least bytes why) (NotStored now place at least bytes why)
      (not-stored-wider was now more place at least bytes why) A B

module _ {D : Type 0} (medium : Medium D) where
  -- a block was not locked for its chunk
  pub lock-refused : (old new : KernelOn D) (h c n : ℕ) (why : Refusal) → LeadsOn medium old new (λ allows. NotLocked allows h why)
      → LeadsOn medium old new (λ allows. NotOpened allows (Chunk h c) n why)
  lock-refused old new h c n why L =
      let now = IsAllowed (medium.honest old.device) in
      leads-as (medium.honest old.device) (Throughout medium old.device new.device) old.core new.core (NotLocked now h why)
      (NotOpened now (Chunk h c) n why) (λ before after keeps w. inl w) L

  -- or it was, and the chunk was refused
  pub chunk-refused : (old locked new : KernelOn D) (h c n : ℕ) (why : Refusal) (alike : medium.honest locked.device ↔ medium.honest old.device)
      → LeadsOn medium old locked (λ allows. LocksOne allows h)
      → ((x : List ℕ) → medium.may_have_left locked.device locked.device x → medium.may_leave locked.device x) → LeavesKept medium locked
      → LeadsToSpan (medium.honest locked.device) (deref (vm h) c n) (Err why) locked.core locked.core
      → LeadsOn medium locked new (λ allows. UnlocksOne allows h)
      → LeadsOn medium old new (λ allows. NotOpened allows (Chunk h c) n why)
  chunk-refused old locked new h c n why alike first at_once kept (Ok ref, calls, none) U = absurd none
  chunk-refused old locked new h c n why alike first at_once kept (Err same, calls, e) U =
      let now = IsAllowed (medium.honest old.device) in
      let locks : Way = LocksOne now h in
      let row = subst (λ (x : Refusal). Calls (medium.honest locked.device) (deref (vm h) c n) (Err x) locked.core locked.core) (sym e) calls in
      leads-as (medium.honest old.device) (Throughout medium old.device new.device) old.core new.core
      (Then (Then locks (Comes now (deref (vm h) c n) (Err why))) (UnlocksOne now h)) (NotOpened now (Chunk h c) n why)
      (λ before after keeps w. inr w)
      (then-comes medium old locked new alike (Then locks (Comes now (deref (vm h) c n) (Err why))) (vunlock h) (Ok tt)
      (then-comes medium old locked locked alike locks (deref (vm h) c n) (Err why) first
      (called medium locked locked at_once kept (deref (vm h) c n) (Err why) (between-same medium locked).stops row)) U)

  -- a group was not locked for its item
  pub item-refused : (old new : KernelOn D) (i g n : ℕ) (result : Result Span Refusal)
      → ((x : List ℕ) → medium.may_have_left old.device old.device x → medium.may_leave old.device x) → LeavesKept medium old
      → Between medium old new → LeadsToSpan (medium.honest old.device) (ilock g i n) result old.core new.core
      → IfErr result (λ why. LeadsOn medium old new (λ allows. NotOpened allows (Item g i) n why))
  item-refused old new i g n (Ok span) at_once kept between gives = tt
  item-refused old new i g n (Err why) at_once kept between (Ok ref, calls, none) = absurd none
  item-refused old new i g n (Err why) at_once kept between (Err same, calls, e) =
      let row = subst (λ (x : Refusal). Calls (medium.honest old.device) (ilock g i n) (Err x) old.core new.core) (sym e) calls in
      called medium old new at_once kept (ilock g i n) (Err why) between.stops row

  -- a chunk was not resized
  pub unsized-chunk : (old locked marked resized new : KernelOn D) (h c n : ℕ) (r : Result (Unit {0}) Refusal)
      → (medium.honest locked.device ↔ medium.honest old.device) → (medium.honest marked.device ↔ medium.honest locked.device)
      → (medium.honest resized.device ↔ medium.honest marked.device)
      → LeadsOn medium old locked (λ allows. LocksOne allows h)
      → LeadsOn medium locked marked (λ allows. MarksOne allows h)
      → LeadsOn medium marked resized (λ allows. Comes allows (lrealloc (vm h) c n) r)
      → LeadsOn medium resized new (λ allows. UnlocksOne allows h)
      → IfErr r (λ why. LeadsOn medium old new (λ allows. NotResized allows (Chunk h c) n why))
  unsized-chunk old locked marked resized new h c n (Ok done) one two three L M R U = tt
  unsized-chunk old locked marked resized new h c n (Err why) one two three L M R U =
      let now = IsAllowed (medium.honest old.device) in
      let locks : Way = LocksOne now h in
      let marks : Way = Then locks (MarksOne now h) in
      let resizes : Way = Then marks (Comes now (lrealloc (vm h) c n) (Err why)) in
      let one_two : medium.honest marked.device ↔ medium.honest old.device = ((λ x. one.0 (two.0 x)), (λ x. two.1 (one.1 x))) in
      let all : medium.honest resized.device ↔ medium.honest old.device = ((λ x. one_two.0 (three.0 x)), (λ x. three.1 (one_two.1 x))) in
      leads-as (medium.honest old.device) (Throughout medium old.device new.device) old.core new.core
      (Then resizes (UnlocksOne now h)) (NotResized now (Chunk h c) n why) (λ before after keeps w. inr w)
      (then-comes medium old resized new all resizes (vunlock h) (Ok tt)
      (then-comes medium old marked resized one_two marks (lrealloc (vm h) c n) (Err why)
      (then-comes medium old locked marked one locks (vdirty h) (Ok tt) L M) R) U)

  -- nor was its block locked
  pub unsized-unlocked : (old new : KernelOn D) (h c n : ℕ) (why : Refusal) → LeadsOn medium old new (λ allows. NotLocked allows h why)
      → LeadsOn medium old new (λ allows. NotResized allows (Chunk h c) n why)
  unsized-unlocked old new h c n why L =
      let now = IsAllowed (medium.honest old.device) in
      leads-as (medium.honest old.device) (Throughout medium old.device new.device) old.core new.core (NotLocked now h why)
      (NotResized now (Chunk h c) n why) (λ before after keeps w. inl w) L

  -- an item was not resized
  pub unsized-item : (old new : KernelOn D) (g i n : ℕ) (r : Result (Unit {0}) Refusal)
      → LeadsOn medium old new (λ allows. Comes allows (irealloc g i n) r)
      → IfErr r (λ why. LeadsOn medium old new (λ allows. NotResized allows (Item g i) n why))
  unsized-item old new g i n (Err why) R = R
  unsized-item old new g i n (Ok done) R = tt

  -- a place was not opened for bytes
  pub stored-not : (old resized new : KernelOn D) (place : Place) (at least end len : ℕ) (bytes : List ℕ) (r : Result (Unit {0}) Refusal)
      → end ≡ at + length bytes → len ≡ max end least → (medium.honest resized.device ↔ medium.honest old.device)
      → LeadsOn medium old resized (λ allows. Resizes allows place len)
      → IfErr r (λ why. LeadsOn medium resized new (λ allows. NotOpened allows place (at + length bytes) why))
      → IfErr r (λ why. LeadsOn medium old new (λ allows. NotStored allows place at least bytes why))
  stored-not old resized new place at least end len bytes (Ok done) e l alike R W = tt
  stored-not old resized new place at least end len bytes (Err why) e l alike R W =
      let now = IsAllowed (medium.honest old.device) in
      let n = max (at + length bytes) least in
      let same : len ≡ n = l ∙ ap (λ k. max k least) e in
      leads-as (medium.honest old.device) (Throughout medium old.device new.device) old.core new.core
      (Then (Resizes now place n) (NotOpened now place (at + length bytes) why)) (NotStored now place at least bytes why)
      (λ before after keeps w. inr (inr w))
      (then-not-opened medium old resized new alike (Resizes now place n) place (at + length bytes) why
      (subst (λ k. LeadsOn medium old resized (λ allows. Resizes allows place k)) same R) W)

  -- or it was not resized
  pub stored-unsized : (old new : KernelOn D) (place : Place) (at least end len : ℕ) (bytes : List ℕ) (why : Refusal)
      → end ≡ at + length bytes → len ≡ max end least → LeadsOn medium old new (λ allows. NotResized allows place len why)
      → LeadsOn medium old new (λ allows. NotStored allows place at least bytes why)
  stored-unsized old new place at least end len bytes why e l R =
      let now = IsAllowed (medium.honest old.device) in
      let n = max (at + length bytes) least in
      let same : len ≡ n = l ∙ ap (λ k. max k least) e in
      leads-as (medium.honest old.device) (Throughout medium old.device new.device) old.core new.core (NotResized now place n why)
      (NotStored now place at least bytes why) (λ before after keeps w. inr (inl w))
      (subst (λ k. LeadsOn medium old new (λ allows. NotResized allows place k why)) same R)

  -- or they are too many
  pub stored-long : (k : KernelOn D) (place : Place) (at least : ℕ) (bytes : List ℕ) (why : Refusal)
      → ((c : List ℕ) → medium.may_have_left k.device k.device c → medium.may_leave k.device c) → LeavesKept medium k
      → IsTooLong why (at + length bytes) → LeadsOn medium k k (λ allows. NotStored allows place at least bytes why)
  stored-long k place at least bytes why at_once kept long =
      leads-as (medium.honest k.device) (Throughout medium k.device k.device) k.core k.core Stays
      (NotStored (IsAllowed (medium.honest k.device)) place at least bytes why) (λ before after keeps w. inl (long, w))
      (stays-leads (medium.honest k.device) (Throughout medium k.device k.device) k.core
      (λ f tied h. stops-first medium k f tied at_once kept h _ (λ x opens. inl opens)))

  -- bytes were not put over some
  pub put-not : (old sized new : KernelOn D) (place : Place) (at n : ℕ) (bytes : List ℕ) (r : Result (Unit {0}) Refusal)
      → (medium.honest sized.device ↔ medium.honest old.device) → LeadsOn medium old sized (λ allows. Measures allows place n)
      → IfErr r (λ why. LeadsOn medium sized new (λ allows. NotStored allows place at n bytes why))
      → IfErr r (λ why. LeadsOn medium old new (λ allows. NotPut allows place (Some at) bytes why))
  put-not old sized new place at n bytes (Ok done) alike M S = tt
  put-not old sized new place at n bytes (Err why) alike M S =
      let now = IsAllowed (medium.honest old.device) in
      leads-as (medium.honest old.device) (Throughout medium old.device new.device) old.core new.core
      (Then (Measures now place n) (NotStored now place at n bytes why)) (NotPut now place (Some at) bytes why) (λ before after keeps w. inr (n, w))
      (then-not-stored medium old sized new alike (Measures now place n) place at n bytes why M S)

  -- the place was not measured
  pub put-unmeasured : (old new : KernelOn D) (place : Place) (at : ℕ) (bytes : List ℕ) (why : Refusal)
      → LeadsOn medium old new (λ allows. NotOpened allows place 0 why) → LeadsOn medium old new (λ allows. NotPut allows place (Some at) bytes why)
  put-unmeasured old new place at bytes why O =
      let now = IsAllowed (medium.honest old.device) in
      leads-as (medium.honest old.device) (Throughout medium old.device new.device) old.core new.core (NotOpened now place 0 why)
      (NotPut now place (Some at) bytes why) (λ before after keeps w. inl w) O
