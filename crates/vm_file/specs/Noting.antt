-- What is known of a device whose notes were performed.
use Rattle.std.specs.Prelude.{◌≡◌, List, ℕ}
use Rattle.vm_file.specs.Device.{Medium}

-- nothing was written: reads return the same, and a stop from
-- now on leaves nothing new; stops before now are not covered
pub record Rests {D : Type 0} (medium : Medium D) (old new : D) : Type 0 where
  pub same : medium.image new ≡ medium.image old
  pub stays : medium.honest old → medium.honest new
  pub was : medium.honest new → medium.honest old
  pub stop : medium.honest old → (c : List ℕ) → medium.may_leave new c → medium.may_leave old c
