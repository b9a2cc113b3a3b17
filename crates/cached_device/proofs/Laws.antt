-- What a stop may leave of a device with a cache, call by call.
use Rattle.std.proofs.Common.{◌≡◌, ◌∙◌, ◌⊎◌, ℕ, zero, suc, ◌-◌, List, [], ◌∷◌, ◌++◌, Global, Vec, length, reverse, take, refl, ap, sym, subst, inl, inr, arith}
use Rattle.std.proofs.lemmas.List.{reverse-append}
use Rattle.std.proofs.lemmas.Grind.{common_steps}
use Rattle.vm_file.specs.Device.{AfterWrite, Only, Touched}
use Rattle.vm_file.specs.Outcomes.{ReadsOnly, WritesOnly}
use Rattle.vm_file.proofs.Touches.{touched_not}
use Rattle.cached_device.specs.declared.device.CachedDevice.{CachedDevice}
use Rattle.cached_device.specs.declared.event.Event.{Event}
use Rattle.cached_device.specs.declared.event.Event.TheVariants.{Written, Synced}
use Rattle.cached_device.specs.History.{IsStill, Leaves, LeavesSince, MayHaveLeft, MayLeave, bytes_of, events_of, medium}

-- where one event more was, it was before it or after it
left_more : (start : List ℕ) (had : ℕ) (e : Event) (before : List Event) (c : List ℕ)
    → LeavesSince start (suc (length before) - had) (e ∷ before) c → LeavesSince start (length before - had) before c ⊎ Leaves start (e ∷ before) c
left_more start had e before c since = by (suc (length before) - had) refl since
  where
    by : (count : ℕ) → suc (length before) - had ≡ count → LeavesSince start count (e ∷ before) c
        → LeavesSince start (length before - had) before c ⊎ Leaves start (e ∷ before) c
    by zero is now = inr now
    by (suc count) is (inl now) = inr now
    by (suc count) is (inr past) = (let same : count ≡ length before - had = omega (arith, is) in let P : ℕ
        → Type 0 = λ n. LeavesSince start n before c in inl (subst P same past))

-- one event more is the last one
pub events_more : (events more : List Event) (e : Event) → more ≡ events ++ (e ∷ []) → reverse more ≡ e ∷ reverse events
events_more events more e is = ap reverse is ∙ reverse-append events (e ∷ [])

-- without the last event they are as they were before it
pub popped : (events more fewer : List Event) (e : Event) (n : ℕ) → more ≡ events ++ (e ∷ []) → n ≡ length more
    → fewer ≡ take (n - 1) more → fewer ≡ events
popped events more fewer e n is count rest = grind (arith, common_steps)

module _ (old new : CachedDevice) (still : IsStill old new) where
  may_leave_still : (c : List ℕ) → MayLeave new c → MayLeave old c
  may_leave_still c (inl now) = inl (now ∙ still.bytes)
  may_leave_still c (inr now) =
      inr (subst (λ es. Leaves old.start.items es c) still.events (subst (λ xs. Leaves xs (events_of new) c) still.start now))

  left_still : (s : CachedDevice) (c : List ℕ) → MayHaveLeft s new c → MayHaveLeft s old c
  left_still s c (inl now) = inl (now ∙ still.bytes)
  left_still s c (inr past) = inr (subst (λ es. LeavesSince old.start.items (length es - length (events_of s)) es c)
      still.events (subst (λ xs. LeavesSince xs (length (events_of new) - length (events_of s)) (events_of new) c) still.start past))

  pub reads_still : ReadsOnly medium old new
  reads_still = record {
    same = still.bytes;
    stays = (λ _. tt);
    was = (λ _. tt);
    stop = (λ _ c now. may_leave_still c now);
    time = (λ _ s c past. inl (left_still s c past));
  }

  -- a write that did nothing
  pub writes_still : (at n : ℕ) → WritesOnly medium at n old new
  writes_still at n = record {
    long = ap length still.bytes;
    stays = (λ _. tt);
    was = (λ _. tt);
    torn = (λ _. subst (Touched at n (bytes_of old)) (sym still.bytes) (touched_not at n (bytes_of old)));
    stop = (λ _ c now. (c, may_leave_still c now, touched_not at n c));
    time = (λ _ s c past. inl (left_still s c past));
  }

-- a write, in part or whole
module _ (old new : CachedDevice) (at n : ℕ) (torn : Touched at n (bytes_of old) (bytes_of new))
    (start : new.start.items ≡ old.start.items) (events : events_of new ≡ Written at n ∷ events_of old) where
  may_leave_written : (c : List ℕ) → MayLeave new c → AfterWrite at n (MayLeave old) c
  may_leave_written c (inl now) = (bytes_of old, inl refl, subst (Touched at n (bytes_of old)) (sym now) torn)
  may_leave_written c (inr now) =
      let a = subst (λ es. Leaves old.start.items es c) events (subst (λ xs. Leaves xs (events_of new) c) start now) in
      (a.0, inr a.1, a.2)

  left_written : (s : CachedDevice) (c : List ℕ) → MayHaveLeft s new c → MayHaveLeft s old c ⊎ AfterWrite at n (MayLeave old) c
  left_written s c (inl now) = inr (may_leave_written c (inl now))
  left_written s c (inr past) =
      let a = subst (λ es. LeavesSince old.start.items (length es - length (events_of s)) es c) events
      (subst (λ xs. LeavesSince xs (length (events_of new) - length (events_of s)) (events_of new) c) start past) in
      elim (left_more old.start.items (length (events_of s)) (Written at n) (events_of old) c a)
      [ inl before ↦ inl (inr before) | inr now ↦ inr (now.0, inr now.1, now.2) ]

  pub writes_happened : WritesOnly medium at n old new
  writes_happened = record {
    long = torn.long;
    stays = (λ _. tt);
    was = (λ _. tt);
    torn = (λ _. torn);
    stop = (λ _ c now. may_leave_written c now);
    time = (λ _ s c past. left_written s c past);
  }

-- a sync
module _ (old new : CachedDevice) (bytes : Vec ℕ Global) (same : bytes_of new ≡ bytes_of old) (kept : bytes.items ≡ bytes_of old)
    (start : new.start.items ≡ old.start.items) (events : events_of new ≡ Synced bytes ∷ events_of old) where
  only_synced : (c : List ℕ) → Leaves new.start.items (events_of new) c → c ≡ bytes_of new
  only_synced c now = subst (λ es. Leaves new.start.items es c) events now ∙ kept ∙ sym same

  pub synced_lasts : Only (bytes_of new) (MayLeave new)
  synced_lasts c (inl now) = now
  synced_lasts c (inr now) = only_synced c now

  left_synced : (s : CachedDevice) (c : List ℕ) → MayHaveLeft s new c → MayHaveLeft s old c ⊎ MayLeave old c
  left_synced s c (inl now) = inr (inl (now ∙ same))
  left_synced s c (inr past) =
      let a = subst (λ es. LeavesSince old.start.items (length es - length (events_of s)) es c) events
      (subst (λ xs. LeavesSince xs (length (events_of new) - length (events_of s)) (events_of new) c) start past) in
      elim (left_more old.start.items (length (events_of s)) (Synced bytes) (events_of old) c a)
      [ inl before ↦ inl (inr before) | inr now ↦ inr (inl (now ∙ kept)) ]

  pub reads_synced : ReadsOnly medium old new
  reads_synced = record {
    same = same;
    stays = (λ _. tt);
    was = (λ _. tt);
    stop = (λ _ c now. inl (synced_lasts c now ∙ same));
    time = (λ _ s c past. left_synced s c past);
  }
