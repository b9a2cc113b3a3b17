-- The state of a device whose calls fail on order.
use Rattle.std.specs.Prelude.{◌≡◌, ◌⊎◌, ℕ, ◌/◌, Bool, not, ◌&&◌, ◌||◌, ◌==◌, nat_lt, List, length, take, Result, OnOk}
use Rattle.lmem_raw.specs.Bytes.{with_part}
use Rattle.vm_file.specs.Device.{Counts, Medium, Touched, all_failures, one_more}
use Rattle.vm_file.specs.declared.device.Disk.{Disk}
use Rattle.vm_file.specs.declared.faulty.FaultDevice.{FaultDevice}

-- the device below
abbrev pub inner_of : {D : Type 0} → FaultDevice D → D
inner_of device = device.inner

-- how many calls were made
abbrev pub calls_of : {D : Type 0} → FaultDevice D → ℕ
calls_of device = device.calls

-- how many calls failed on order, and not below
abbrev pub own_of : {D : Type 0} → FaultDevice D → ℕ
own_of device = device.own

-- the number of the call that is to fail, or 0
abbrev pub call_of : {D : Type 0} → FaultDevice D → ℕ
call_of device = device.call

-- whether each later one is to fail too
abbrev pub rest_of : {D : Type 0} → FaultDevice D → Bool
rest_of device = device.rest

-- whether a call of this number is to fail
abbrev pub is_due : ℕ → ℕ → Bool → Bool
is_due number call rest = not (call == 0) && (number == call || (rest && nat_lt call number))

-- whether the next call is to fail
abbrev pub is_next_due : {D : Type 0} → FaultDevice D → Bool
is_next_due device = is_due (one_more (calls_of device)) (call_of device) (rest_of device)

-- a call that fails counts once, whether it failed below or on order
abbrev pub CountsOver : {D T E : Type 0} → (D → ℕ) → FaultDevice D → FaultDevice D → Result T E → Type 0
CountsOver failed old new result = Counts (all_failures (failed (inner_of old)) (own_of old))
    (all_failures (failed (inner_of new)) (own_of new)) result

-- a call was counted, and what is to fail stays
pub record CountsCall {D : Type 0} (old new : FaultDevice D) : Type 0 where
  pub calls : calls_of new ≡ one_more (calls_of old)
  pub call : call_of new ≡ call_of old
  pub rest : rest_of new ≡ rest_of old

-- a call was passed to the device below, as one call of it: it fails if the call below fails
pub record PassesOn {D T E : Type 0} (failed : D → ℕ) (one_call : D → Result T E → D → Type 0) (old new : FaultDevice D)
    (result : Result T E) : Type 0 where
  pub call : one_call (inner_of old) result (inner_of new)
  pub counts : Counts (failed (inner_of old)) (failed (inner_of new)) result
  pub own : own_of new ≡ own_of old

-- a call failed on order, and nothing happened below
pub record FailsAlone {D T E : Type 0} (old new : FaultDevice D) (result : Result T E) : Type 0 where
  pub fails : OnOk result ⊥
  pub inner : inner_of new ≡ inner_of old
  pub own : own_of new ≡ one_more (own_of old)

-- the first half of these bytes, rounded down, was written below
pub record HalfWritten {D : Type 0} (medium : Medium D) (at : ℕ) (bytes : List ℕ) (old new : FaultDevice D) : Type 0 where
  pub written : medium.honest (inner_of old) → medium.image (inner_of new) ≡ with_part (medium.image (inner_of old)) at
      (take (length bytes / 2) bytes)
  pub count : medium.failed (inner_of new) ≡ medium.failed (inner_of old)
  pub own : own_of new ≡ one_more (own_of old)

-- the device below failed when they were to be written: that counts once
pub record HalfFailed {D : Type 0} (medium : Medium D) (at : ℕ) (bytes : List ℕ) (old new : FaultDevice D) : Type 0 where
  pub torn : medium.honest (inner_of old) → Touched at (length bytes / 2) (medium.image (inner_of old)) (medium.image (inner_of new))
  pub count : medium.failed (inner_of new) ≡ one_more (medium.failed (inner_of old))
  pub own : own_of new ≡ own_of old

-- a write failed on order: half of it was one call of the device below
pub record FailsHalf {D T E : Type 0} (medium : Medium D) (at : ℕ) (bytes : List ℕ) (old new : FaultDevice D) (result : Result T E) : Type 0 where
  pub fails : OnOk result ⊥
  pub answer : Result (Unit {0}) Disk
  pub call : medium.writes (inner_of old) at (take (length bytes / 2) bytes) answer (inner_of new)
  pub half : HalfWritten medium at bytes old new ⊎ HalfFailed medium at bytes old new

-- a device over this one
abbrev pub over : {D : Type 0} → Medium D → Medium (FaultDevice D)
over medium = record {
  image = λ device. medium.image (inner_of device);
  honest = λ device. medium.honest (inner_of device);
  failed = λ device. all_failures (medium.failed (inner_of device)) (own_of device);
  may_leave = λ device. medium.may_leave (inner_of device);
  may_have_left = λ start device. medium.may_have_left (inner_of start) (inner_of device);
  reads = λ old at bytes result new. medium.reads (inner_of old) at bytes result (inner_of new) ⊎ FailsAlone old new result;
  writes = λ old at bytes result new. medium.writes (inner_of old) at bytes result (inner_of new) ⊎ FailsHalf medium at bytes old new result;
  syncs = λ old result new. medium.syncs (inner_of old) result (inner_of new) ⊎ FailsAlone old new result;
}
