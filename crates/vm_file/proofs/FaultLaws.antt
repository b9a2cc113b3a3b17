-- What a device below a device of faults was made to do.
use Rattle.std.proofs.Common.{⊎_elim, inl, inr, ℕ, ◌≤◌}
use Rattle.vm_file.specs.Device.{Medium}
use Rattle.vm_file.specs.declared.faulty.FaultDevice.{FaultDevice}
use Rattle.vm_file.specs.Faulty.{inner_of, over}
use Rattle.vm_file.specs.Outcomes.{WritesOnly}
use Rattle.vm_file.proofs.Touches.{after_more, touched_more}

module _ {D : Type 0} (medium : Medium D) where
  -- what was written below lies within a longer range too
  pub writes_below : (at n m : ℕ) (old new : FaultDevice D) → n ≤ m → WritesOnly medium at n (inner_of old) (inner_of new) →
      WritesOnly (over medium) at m old new
  writes_below at n m old new le writes = record {
    long = writes.long;
    stays = writes.stays;
    was = writes.was;
    torn = (λ h. touched_more at n m _ _ le (writes.torn h));
    stop = (λ h c l. after_more at n m _ c le (writes.stop h c l));
    time = (λ h s c l. ⊎_elim (λ past. inl past) (λ now. inr (after_more at n m _ c le now)) (writes.time h (inner_of s) c l));
  }
