-- What calls return to C.
use Rattle.std.specs.Prelude.{◌≡◌, ◌<◌, ◌≤◌, ℕ, Bool, if◌then◌else◌, List, [], Result, Ok, Err, IfOk}
use Rattle.geos_terms.specs.declared.name.Name.{Name}
use Rattle.geos_terms.specs.declared.name.Owner.TheVariants.{Vm}
use Rattle.geos_terms.specs.declared.refusal.Refusal.{Refusal}
use Rattle.geos_terms.specs.Refusals.{refusal_number}
use Rattle.geos_calls.specs.Effects.{Call}
use Rattle.geos_kernel.specs.Kernel.{Calls}
use Rattle.geos_kernel.specs.Limits.{with_last_handle, with_room}
use Rattle.host_device.specs.Journal.{GoesOn, MayHaveLeft, MayLeave, bytes_of, journal_of}
use Rattle.takhvoi.specs.declared.system.System.{System}
use Rattle.takhvoi.specs.declared.handle.Handle.{Handle}

-- the number of a reply: 0 if the call is done, otherwise that of its refusal
abbrev pub IsStatus : {A : Type 0} → Result A Refusal → ℕ → Type 0
IsStatus (Ok a) status = status ≡ 0
IsStatus (Err refusal) status = status ≡ refusal_number refusal

-- the device was read at most: it has the same bytes and every earlier note, and its notes, performed on a host's bytes, result in the same as
-- before. A stop of the host meanwhile leaves only what a stop before might have left. The clause leaves open which notes came after the earlier
-- ones, as a sync
pub record ReadsDevice (old new : System) : Type 0 where
  pub bytes : bytes_of new.kernel.device ≡ bytes_of old.kernel.device
  pub goes_on : GoesOn old.kernel.device new.kernel.device
  pub stops : (c : List ℕ) → MayHaveLeft old.kernel.device new.kernel.device c → MayLeave old.kernel.device c

-- the kernel's reply is that of the call's row, and the number is that of the reply
abbrev pub IsReply : Call (Unit {0}) → ℕ → System → System → Type 0
IsReply call status old new = (reply : Result (Unit {0}) Refusal) × Calls (Unit {0}) call reply old.kernel.core new.kernel.core
    × IsStatus reply status

-- the same, and if the call is done, n is the row's answer
abbrev pub IsNumber : Call ℕ → ℕ → ℕ → System → System → Type 0
IsNumber call n status old new = (reply : Result ℕ Refusal) × Calls (Unit {0}) call reply old.kernel.core new.kernel.core
    × IsStatus reply status × IfOk reply (λ m. n ≡ m)

-- the same without a call of the device: its notes stay
abbrev pub IsAnswer : Call (Unit {0}) → ℕ → System → System → Type 0
IsAnswer call status old new = IsReply call status old new × (new.kernel.device ≡ old.kernel.device)

-- the same, and the device was read at most
abbrev pub IsAnswerRead : Call (Unit {0}) → ℕ → System → System → Type 0
IsAnswerRead call status old new = IsReply call status old new × ReadsDevice old new

-- `IsNumber` without a call of the device
abbrev pub IsTold : Call ℕ → ℕ → ℕ → System → System → Type 0
IsTold call n status old new = IsNumber call n status old new × (new.kernel.device ≡ old.kernel.device)

-- `IsNumber`, and the device was read at most
abbrev pub IsToldRead : Call ℕ → ℕ → ℕ → System → System → Type 0
IsToldRead call n status old new = IsNumber call n status old new × ReadsDevice old new

-- the same for a row with two numbers as its answer and no refusal, without a call of the device
abbrev pub IsToldTwo : Call (ℕ × ℕ) → ℕ → ℕ → ℕ → System → System → Type 0
IsToldTwo call m n status old new = (status ≡ 0) × Calls (Unit {0}) call (Ok (m, n)) old.kernel.core new.kernel.core
    × (new.kernel.device ≡ old.kernel.device)

-- the number of a flag: 1 for true, 0 for false
abbrev pub IsFlag : ℕ → Bool → Type 0
IsFlag n flag = n ≡ (if flag then 1 else 0)

-- the call is done, the kernel is as before, and the fact holds
abbrev pub Looks : Type 0 → ℕ → System → System → Type 0
Looks fact status old new = (status ≡ 0) × (new.kernel ≡ old.kernel) × fact

-- the call is done, and changes only how many bytes blocks may have: so many more than they have, at most the whole region
abbrev pub Limits : ℕ → ℕ → System → System → Type 0
Limits more status old new = (status ≡ 0) × (new.kernel.core ≡ with_room old.kernel.core more) × (new.kernel.device ≡ old.kernel.device)

-- the call is done, and changes only which handles new blocks of global memory may get: those up to this one
abbrev pub LimitsBlocks : ℕ → ℕ → System → System → Type 0
LimitsBlocks last status old new = (status ≡ 0) × (new.kernel.core ≡ with_last_handle old.kernel.core last) × (new.kernel.device ≡ old.kernel.device)

-- for a number below 100 `came` holds; a number from 100 on is the library's own: then `own` holds, and the kernel is as before. In both cases
-- the images stay, and so does whether a host performs the notes
abbrev pub Done : (ℕ → System → Type 0) → (ℕ → System → System → Type 0) → ℕ → System → System → Type 0
Done own came status old new = (new.images.items ≡ old.images.items) × (new.hosted ≡ old.hosted) × (status < 100 → came status old new)
    × (100 ≤ status → (new.kernel ≡ old.kernel) × own status old)

-- `came` holds, and before the call the host had performed every note: each change of the VM file begins like this
abbrev pub Changes : (ℕ → System → System → Type 0) → ℕ → System → System → Type 0
Changes came status old new = (journal_of old.kernel.device ≡ []) × came status old new

-- the same for a change of a block, if it is one of the VM file
abbrev pub ChangesIn : Name → (ℕ → System → System → Type 0) → ℕ → System → System → Type 0
ChangesIn name came status old new = (name.owner ≡ Vm → journal_of old.kernel.device ≡ []) × came status old new

-- a call on a handle: if the handle is empty, the call returns 100, and the handle stays empty; otherwise `does` holds of its values before and
-- after the call
abbrev pub On : (System → System → Type 0) → ℕ → Handle → Handle → Type 0
On does status old new =
    (old.live ≡ 0 → (status ≡ 100) × (new.live ≡ 0)) × ((old.live ≡ 0 → ⊥) → (new.live ≡ 1) × does old.value new.value)

-- a call on the kernel of a handle
abbrev pub Served : (ℕ → System → Type 0) → (ℕ → System → System → Type 0) → ℕ → Handle → Handle → Type 0
Served own came status old new = On (Done own came status) status old new
