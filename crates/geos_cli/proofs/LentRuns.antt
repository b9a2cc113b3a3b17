-- Calls of the kernel and runs, one after another, from kernel to kernel.
use Rattle.std.proofs.Common.{◌<◌, ◌+◌, ℕ, List, [], ◌∷◌, ◌++◌, length, take, drop, get_or, refl, sym, ap, ◌∙◌, inl, inr, ⊎_elim, suc, take-append-drop, drop-cons}
use Rattle.std.specs.Prelude.{◌↔◌, Result, Ok}
use Rattle.std.proofs.lemmas.List.{take_more}
use Rattle.geos_terms.specs.declared.refusal.Refusal.{Refusal}
use Rattle.geos_calls.specs.VmFile.{Kept, VmFile}
use Rattle.geos_calls.specs.VmCalls.{vlock, vunlock}
use Rattle.geos_calls.specs.Effects.{Call, Choice}
use Rattle.vm_file.specs.Device.{Medium}
use Rattle.geos_kernel.specs.Files.{LeavesKept, Stops}
use Rattle.geos_kernel.specs.View.{KernelOn, KernelState, IsFileOf}
use Rattle.geos_kernel.specs.Kernel.{Calls}
use Rattle.geos_image.specs.Parts.{Parts}
use Rattle.geos_machine.specs.declared.outcome.Outcome.{Outcome}
use Rattle.geos_machine.specs.Runs.{OpensAsOneOf, Throughout, Within}
use Rattle.geos_machine.proofs.Stops.{stops-first, stops-on}
use Rattle.geos_kernel.proofs.Chosen.{lasts-on}
use Rattle.geos_kernel.proofs.Seen.{file-on}
use Rattle.script_commands.specs.declared.command.Call.{Call as ScriptCall}
use Rattle.script_commands.specs.Outputs.{printed}
use Rattle.geos_cli.specs.Script.{stage_of, Stage, Allows, IsAllowed, Way, Comes, Then, Stays, LocksOne, NotLocked, UnlocksOne, LockedBehind, UnlockedBehind, Locks, Unlocks, Leads, RunsOn, RunsLent, NotLent}
use Rattle.script_commands.specs.Lent.{lent_by}
use Rattle.geos_cli.proofs.Prints.{runs-wider, same-way, unlocked-wider}
use Rattle.geos_cli.proofs.CommandsRun.{Joins, throughout-then, RunsCall, StopsBetween, allowed-between, one-left, one-right, run-leads}

-- nothing happened yet
pub stays-leads : (honest : Type 0) (within : Within) (kernel : KernelState)
    → ((f : VmFile) → IsFileOf honest kernel f → honest → within (OpensAsOneOf (f.kept ∷ []))) → Leads honest within kernel kernel Stays
stays-leads honest within kernel started f tied = record {
  file = f;
  tied = tied;
  lasts = λ g. inl refl;
  keeps =
      f.kept ∷ [];
  does = (refl, refl);
  stops = started f tied;
}

-- a call of the kernel
pub comes-leads : {A : Type 0} (honest : Type 0) (within : Within) (kernel later : KernelState) (row : Call A) (result : Result A Refusal)
    → StopsBetween honest within kernel later → Calls honest row result kernel later
    → Leads honest within kernel later (Comes (IsAllowed honest) row result)
comes-leads honest within kernel later row result stops calls f tied =
    let c = calls.answers f tied in
    record {
      file = c.file;
      tied = c.tied;
      lasts = c.lasts;
      keeps = f.kept ∷ c.file.kept ∷ [];
      does = (c.choice, allowed-between honest kernel later c.lasts c.choice c.chosen, c.comes, refl);
      stops = stops f c.file tied c.tied;
    }

-- one thing after another
pub leads-then : (honest : Type 0) (within next whole : Within) → Joins honest within next whole
    → (kernel mid later : KernelState) (first second : Way) → Leads honest within kernel mid first → Leads honest next mid later second
    → Leads honest whole kernel later (Then first second)
leads-then honest within next whole join kernel mid later first second A B f tied =
    let a = A f tied in
    let b = B a.file a.tied in
    record {
      file = b.file;
      tied = b.tied;
      lasts = lasts-on honest kernel mid later a.lasts b.lasts;
      keeps = a.keeps ++ b.keeps;
      does = (stage_of mid a.file, a.keeps, b.keeps, a.does, b.does, refl);
      stops = λ h. join h (OpensAsOneOf a.keeps) (OpensAsOneOf b.keeps) (OpensAsOneOf (a.keeps ++ b.keeps))
          (λ x o. one-left a.keeps b.keeps x o) (λ x o. one-right a.keeps b.keeps x o) (a.stops h) (b.stops h);
    }

-- what is led to leads to all that it implies, where other words say that the device is honest
pub leads-wider : (other good : Type 0) → other ↔ good → (within : Within) (kernel later : KernelState) (A B : Way)
    → ((before after : Stage) (keeps : List Kept) → A before after keeps → B before after keeps)
    → Leads other within kernel later A → Leads good within kernel later B
leads-wider other good alike within kernel later A B wider leads f tied =
    let l = leads f (file-on good other alike.0 kernel f tied) in
    record {
      file = l.file;
      tied = file-on other good alike.1 later l.file l.tied;
      lasts = λ g. l.lasts (alike.1 g);
      keeps = l.keeps;
      does = wider (stage_of kernel f) (stage_of later l.file) l.keeps l.does;
      stops = λ g. l.stops (alike.1 g);
    }

-- the same words about the device
pub leads-as : (honest : Type 0) (within : Within) (kernel later : KernelState) (A B : Way)
    → ((before after : Stage) (keeps : List Kept) → A before after keeps → B before after keeps)
    → Leads honest within kernel later A → Leads honest within kernel later B
leads-as honest within kernel later A B wider leads = leads-wider honest honest ((λ h. h), (λ h. h)) within kernel later A B wider leads

-- ---- one block more

locked-more : (allows : Allows) (way : Way) (handles : List ℕ) (h : ℕ) (before after : Stage) (keeps : List Kept)
    → Then (LockedBehind allows way handles) (LocksOne allows h) before after keeps
    → LockedBehind allows way (handles ++ h ∷ []) before after keeps
locked-more allows way [] h before after keeps w = w
locked-more allows way (x ∷ handles) h before after keeps w = locked-more allows (Then way (LocksOne allows x))
    handles h before after keeps w

unlocked-more : (allows : Allows) (way : Way) (handles : List ℕ) (h : ℕ) (before after : Stage) (keeps : List Kept)
    → Then (UnlockedBehind allows way handles) (UnlocksOne allows h) before after keeps
    → UnlockedBehind allows way (handles ++ h ∷ []) before after keeps
unlocked-more allows way [] h before after keeps w = w
unlocked-more allows way (x ∷ handles) h before after keeps w = unlocked-more allows (Then way (UnlocksOne allows x))
    handles h before after keeps w

pub locks-one : (allows : Allows) (handles : List ℕ) (k : ℕ) → k < length handles → (before after : Stage) (keeps : List Kept)
    → Then (LockedBehind allows Stays (take k handles)) (LocksOne allows (get_or handles k 0)) before after keeps
    → LockedBehind allows Stays (take (k + 1) handles) before after keeps
locks-one allows handles k lt before after keeps w = rw (take_more handles k 0 lt)
    (locked-more allows Stays (take k handles) (get_or handles k 0) before after keeps w)

pub unlocks-one : (allows : Allows) (handles : List ℕ) (k : ℕ) → k < length handles → (before after : Stage) (keeps : List Kept)
    → Then (UnlockedBehind allows Stays (take k handles)) (UnlocksOne allows (get_or handles k 0)) before after keeps
    → UnlockedBehind allows Stays (take (k + 1) handles) before after keeps
unlocks-one allows handles k lt before after keeps w = rw (take_more handles k 0 lt)
    (unlocked-more allows Stays (take k handles) (get_or handles k 0) before after keeps w)

-- other words about the device
pub allowed-alike : (other good : Type 0) → other ↔ good → (before now : ℕ) (choice : Choice) → IsAllowed other before now choice
    → IsAllowed good before now choice
allowed-alike other good alike before now choice allowed = record {
  given = λ g. allowed.given (alike.1 g);
  device =
      λ g t. allowed.device (alike.1 g) t;
  lasts = λ g. allowed.lasts (alike.1 g);
}

pub comes-alike : {A : Type 0} (other good : Type 0) → other ↔ good → (within : Within) (kernel later : KernelState)
    (row : Call A) (result : Result A Refusal) → Leads other within kernel later (Comes (IsAllowed other) row result)
    → Leads good within kernel later (Comes (IsAllowed good) row result)
comes-alike other good alike within kernel later row result leads =
    leads-wider other good alike within kernel later (Comes (IsAllowed other) row result) (Comes (IsAllowed good) row result)
    (λ before after keeps w. (w.0, allowed-alike other good alike before.failed after.failed w.0 w.1, w.2, w.3)) leads

-- a stop between two states of a kernel leaves the committed pair of one of the two models
pub stops-between : {D : Type 0} (medium : Medium D) (k new : KernelOn D)
    → ((c : List ℕ) → medium.may_have_left k.device k.device c → medium.may_leave k.device c) → LeavesKept medium k → Stops medium k new
    → StopsBetween (medium.honest k.device) (Throughout medium k.device new.device) k.core new.core
stops-between medium k new at_once kept stops f after tied tied_after h =
    let first = stops-first medium k f tied at_once kept h (λ x. OpensAsOneOf (f.kept ∷ after.kept ∷ []) x) (λ x opens. inl opens) in
    stops-on medium k k new ((λ a. a), (λ a. a)) stops h f after tied tied_after (OpensAsOneOf (f.kept ∷ after.kept ∷ []))
    (OpensAsOneOf (f.kept ∷ after.kept ∷ [])) (λ x o. o)
    (λ x either. ⊎_elim (λ was. inl was) (λ now. inr (inl now)) either) first

-- ---- blocks and a run, over a device

module _ {D : Type 0} (medium : Medium D) (old mid new : KernelOn D) where
  -- a way from the one kernel, and then another
  pub on-leads : (first second : Way) → Leads (medium.honest old.device) (Throughout medium old.device mid.device) old.core mid.core first
      → Leads (medium.honest old.device) (Throughout medium mid.device new.device) mid.core new.core second
      → Leads (medium.honest old.device) (Throughout medium old.device new.device) old.core new.core (Then first second)
  on-leads first second A B =
      leads-then (medium.honest old.device) (Throughout medium old.device mid.device) (Throughout medium mid.device new.device)
      (Throughout medium old.device new.device)
      (throughout-then medium old.device mid.device new.device) old.core mid.core new.core first second A B

  module _ (alike : medium.honest mid.device ↔ medium.honest old.device) where
    -- and then a call of the kernel
    pub on-comes : {A : Type 0} (first : Way) (row : Call A) (result : Result A Refusal)
        → Leads (medium.honest old.device) (Throughout medium old.device mid.device) old.core mid.core first
        → Leads (medium.honest mid.device) (Throughout medium mid.device new.device) mid.core new.core
        (Comes (IsAllowed (medium.honest mid.device)) row result)
        → Leads (medium.honest old.device) (Throughout medium old.device new.device) old.core new.core
        (Then first (Comes (IsAllowed (medium.honest old.device)) row result))
    on-comes first row result A B =
        on-leads first (Comes (IsAllowed (medium.honest old.device)) row result) A
        (comes-alike (medium.honest mid.device) (medium.honest old.device) alike (Throughout medium mid.device new.device)
        mid.core new.core row result B)

    -- and then blocks are unlocked
    pub on-unlocked : (first : Way) (handles : List ℕ) → Leads (medium.honest old.device) (Throughout medium old.device mid.device)
        old.core mid.core first
        → Leads (medium.honest mid.device) (Throughout medium mid.device new.device) mid.core new.core
        (Unlocks (IsAllowed (medium.honest mid.device)) handles)
        → Leads (medium.honest old.device) (Throughout medium old.device new.device) old.core new.core
        (Then first (Unlocks (IsAllowed (medium.honest old.device)) handles))
    on-unlocked first handles A B =
        let was = IsAllowed (medium.honest mid.device) in
        let now = IsAllowed (medium.honest old.device) in
        on-leads first (Unlocks now handles) A
        (leads-wider (medium.honest mid.device) (medium.honest old.device) alike (Throughout medium mid.device new.device)
        mid.core new.core (Unlocks was handles) (Unlocks now handles)
        (unlocked-wider was now (allowed-alike (medium.honest mid.device) (medium.honest old.device) alike) Stays Stays (same-way Stays) handles) B)

    -- and then a routine runs
    pub on-run : (first : Way) (image : Parts) (call : ScriptCall) (outcome : Outcome)
        → Leads (medium.honest old.device) (Throughout medium old.device mid.device) old.core mid.core first
        → RunsCall (medium.honest mid.device) (Throughout medium mid.device new.device) image call outcome mid.core new.core
        → Leads (medium.honest old.device) (Throughout medium old.device new.device) old.core new.core
        (Then first (RunsOn (IsAllowed (medium.honest old.device)) image call (printed outcome.output.items)))
    on-run first image call outcome A ran =
        let was = IsAllowed (medium.honest mid.device) in
        let now = IsAllowed (medium.honest old.device) in
        let text = printed outcome.output.items in
        on-leads first (RunsOn now image call text) A
        (leads-wider (medium.honest mid.device) (medium.honest old.device) alike (Throughout medium mid.device new.device)
        mid.core new.core (RunsOn was image call text) (RunsOn now image call text)
        (runs-wider was now (allowed-alike (medium.honest mid.device) (medium.honest old.device) alike) image call text)
        (run-leads (medium.honest mid.device) (Throughout medium mid.device new.device) image mid.core new.core call outcome ran))

    module _ (handles : List ℕ) (k : ℕ) (in_range : k < length handles) where
      -- one block more is locked
      pub on-locks : Leads (medium.honest old.device) (Throughout medium old.device mid.device) old.core mid.core
          (Locks (IsAllowed (medium.honest old.device)) (take k handles))
          → Leads (medium.honest mid.device) (Throughout medium mid.device new.device) mid.core new.core
          (LocksOne (IsAllowed (medium.honest mid.device)) (get_or handles k 0))
          → Leads (medium.honest old.device) (Throughout medium old.device new.device) old.core new.core
          (Locks (IsAllowed (medium.honest old.device)) (take (k + 1) handles))
      on-locks A B =
          let allows = IsAllowed (medium.honest old.device) in
          leads-as (medium.honest old.device) (Throughout medium old.device new.device) old.core new.core
          (Then (Locks allows (take k handles)) (LocksOne allows (get_or handles k 0))) (Locks allows (take (k + 1) handles))
          (locks-one allows handles k in_range) (on-comes (Locks allows (take k handles)) (vlock (get_or handles k 0)) (Ok tt) A B)

      -- or unlocked
      pub on-unlocks : Leads (medium.honest old.device) (Throughout medium old.device mid.device) old.core mid.core
          (Unlocks (IsAllowed (medium.honest old.device)) (take k handles))
          → Leads (medium.honest mid.device) (Throughout medium mid.device new.device) mid.core new.core
          (UnlocksOne (IsAllowed (medium.honest mid.device)) (get_or handles k 0))
          → Leads (medium.honest old.device) (Throughout medium old.device new.device) old.core new.core
          (Unlocks (IsAllowed (medium.honest old.device)) (take (k + 1) handles))
      on-unlocks A B =
          let allows = IsAllowed (medium.honest old.device) in
          leads-as (medium.honest old.device) (Throughout medium old.device new.device) old.core new.core
          (Then (Unlocks allows (take k handles)) (UnlocksOne allows (get_or handles k 0))) (Unlocks allows (take (k + 1) handles))
          (unlocks-one allows handles k in_range) (on-comes (Unlocks allows (take k handles)) (vunlock (get_or handles k 0)) (Ok tt) A B)

-- blocks are locked, a routine runs, and they are unlocked
pub lent-ran : {D : Type 0} (medium : Medium D) (old locked ran new : KernelOn D) → (medium.honest locked.device ↔ medium.honest old.device)
    → (medium.honest ran.device ↔ medium.honest old.device)
    → (image : Parts) (call : ScriptCall) (outcome : Outcome)
    → Leads (medium.honest old.device) (Throughout medium old.device locked.device) old.core locked.core
    (Locks (IsAllowed (medium.honest old.device)) (lent_by image call))
    → RunsCall (medium.honest locked.device) (Throughout medium locked.device ran.device) image call outcome locked.core ran.core
    → Leads (medium.honest ran.device) (Throughout medium ran.device new.device) ran.core new.core
    (Unlocks (IsAllowed (medium.honest ran.device)) (lent_by image call))
    → Leads (medium.honest old.device) (Throughout medium old.device new.device) old.core new.core
    (RunsLent (IsAllowed (medium.honest old.device)) image call (printed outcome.output.items))
lent-ran medium old locked ran new alike alike_ran image call outcome A R U =
    let allows = IsAllowed (medium.honest old.device) in
    let lent = lent_by image call in
    on-unlocked medium old ran new alike_ran (Then (Locks allows lent) (RunsOn allows image call (printed outcome.output.items))) lent
    (on-run medium old locked ran alike (Locks allows lent) image call outcome A R) U

-- one is refused, and those before it are unlocked
pub lent-refused : {D : Type 0} (medium : Medium D) (old refused new : KernelOn D) → (medium.honest refused.device ↔ medium.honest old.device)
    → (handles : List ℕ) (k : ℕ) → k < length handles → (why : Refusal)
    → Leads (medium.honest old.device) (Throughout medium old.device refused.device) old.core refused.core
    (Then (Locks (IsAllowed (medium.honest old.device)) (take k handles))
    (NotLocked (IsAllowed (medium.honest old.device)) (get_or handles k 0) why))
    → Leads (medium.honest refused.device) (Throughout medium refused.device new.device) refused.core new.core
    (Unlocks (IsAllowed (medium.honest refused.device)) (take k handles))
    → Leads (medium.honest old.device) (Throughout medium old.device new.device) old.core new.core
    (NotLent (IsAllowed (medium.honest old.device)) handles why)
lent-refused medium old refused new alike handles k in_range why A U =
    let allows = IsAllowed (medium.honest old.device) in
    let whole : Way = Then (Then (Locks allows (take k handles)) (NotLocked allows (get_or handles k 0) why))
    (Unlocks allows (take k handles)) in
    leads-as (medium.honest old.device) (Throughout medium old.device new.device) old.core new.core whole (NotLent allows handles why)
    (λ before after keeps w. record {
      locked = take k handles;
      refused = get_or handles k 0;
      others = drop (suc k) handles;
      in_order = sym (take-append-drop k handles) ∙ ap (λ hs. take k handles ++ hs) (drop-cons handles k 0 in_range);
      does = w;
    })
    (on-unlocked medium old refused new alike (Then (Locks allows (take k handles)) (NotLocked allows (get_or handles k 0) why))
    (take k handles) A U)
