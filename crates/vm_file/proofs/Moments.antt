-- How runs of device calls compose, and what a stop at some moment of them leaves.
use Rattle.std.proofs.Common.{◌≡◌, ◌+◌, ◌-◌, ◌^◌, inl, inr, ⊎_elim, ℕ, List, Result, Ok, refl, ◌∙◌, subst, arith}
use Rattle.std.proofs.lemmas.Bool.{cases_lt}
use Rattle.std.proofs.lemmas.Result.{on_ok_weaker}
use Rattle.vm_file.specs.declared.error.OpenError.{OpenError}
use Rattle.vm_file.specs.Device.{FailedOnce, Medium, Passes, Rose, one_more}
use Rattle.vm_file.specs.Outcomes.{IsCaused, LeavesAlike, LeavesBytes, ReadsOnly, ReadsToFailure, WritesOnly}
use Rattle.vm_file.proofs.Touches.{touched_not}

module _ {D : Type 0} (left : D → D → List ℕ → Type 0) where
  pub weaker : (old new : D) (P Q : List ℕ → Type 0) → ((c : List ℕ) → P c → Q c) → Passes left old new P → Passes left old new Q
  weaker old new P Q so passes s c between = ⊎_elim (λ past. inl past) (λ now. inr (so c now)) (passes s c between)

  pub goes_on : (old mid new : D) (P : List ℕ → Type 0) → Passes left old mid P → Passes left mid new P → Passes left old new P
  goes_on old mid new P first second s c between = ⊎_elim (first s c) (λ now. inr now) (second s c between)

  -- what a stop at any moment of the whole run leaves
  pub at_any_moment : (old new : D) (P : List ℕ → Type 0) → Passes left old new P → ((c : List ℕ) → left old old c → P c)
      → (c : List ℕ) → left old new c → P c
  at_any_moment old new P passes here c between = ⊎_elim (here c) (λ now. now) (passes old c between)

-- a call that makes none of the device, and calls that read one after the other
pub reads_none : {D : Type 0} (medium : Medium D) (a : D) → ReadsOnly medium a a
reads_none medium a = record { same = refl; stays = (λ h. h); was = (λ h. h); stop = (λ h x l. l); time = (λ h d x l. inl l) }

pub reads_then : {D : Type 0} (medium : Medium D) (a b c : D) →
    ReadsOnly medium a b → ReadsOnly medium b c → ReadsOnly medium a c
reads_then medium a b c r s = record {
  same = s.same ∙ r.same;
  stays = (λ h. s.stays (r.stays h));
  was = (λ h. r.was (s.was h));
  stop = (λ h x l. r.stop h x (s.stop (r.stays h) x l));
  time = (λ h d x l. (elim (s.time (r.stays h) d x l) [ inl p ↦ r.time h d x p | inr n ↦ inr (r.stop h x n) ]));
}

-- the same up to the first call that fails
pub reads_well : {D T E : Type 0} (medium : Medium D) (a b : D) (x : T) → ReadsOnly medium a b → medium.failed b ≡ medium.failed a
    → ReadsToFailure {E = E} medium a b (Ok x)
reads_well medium a b x only ok = record { only = only; ok = ok; once = inl ok; steady = λ s. ok }

pub reads_on : {D T E : Type 0} (medium : Medium D) (a b c : D) (result : Result T E) → ReadsOnly medium a b → medium.failed b ≡ medium.failed a →
    ReadsToFailure medium b c result → ReadsToFailure medium a c result
reads_on medium a b c result only ok then = record {
  only = reads_then medium a b c only then.only;
  ok = on_ok_weaker result (λ e. e ∙ ok) then.ok;
  once = subst (λ (k : ℕ). FailedOnce k (medium.failed c)) ok then.once;
  steady = λ s. then.steady s ∙ ok;
}

-- a count that is one more has risen
pub rose : (before now : ℕ) → now ≡ one_more before → Rose before now
rose before now is = elim (cases_lt (before + 1) (2 ^ 64 - 1)) [
  | inl less ↦ inl (omega (arith, is))
  | inr most ↦ inr (omega (arith, is))
]

-- an error has the same cause where nothing failed before
pub caused_on : (e : OpenError) (before mid now : ℕ) → mid ≡ before → IsCaused mid now e → IsCaused before now e
caused_on e before mid now same caused = subst (λ (k : ℕ). IsCaused k now e) same caused

-- what a stop at any moment of calls leaves that write in one range, and of calls that only read
module _ {D : Type 0} (medium : Medium D) (old : D)
    (at_once : (c : List ℕ) → medium.may_have_left old old c → medium.may_leave old c) where
  pub leaves_bytes : (at n : ℕ) (new : D) → WritesOnly medium at n old new → LeavesBytes medium at n old new
  leaves_bytes at n new writes h = at_any_moment medium.may_have_left old new _ (writes.time h)
      (λ c here. (c, at_once c here, touched_not at n c))

  pub leaves_alike : (new : D) → ReadsOnly medium old new → LeavesAlike medium old new
  leaves_alike new reads h = at_any_moment medium.may_have_left old new _ (reads.time h) at_once
