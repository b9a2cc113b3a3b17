-- The results of copying bytes from and to chunks.
use Rattle.std.specs.Prelude.{◌≡◌, ◌<◌, ◌+◌, ℕ, List, length, slice_index, Ok, OnErr, IfOk, Result}
use Rattle.geos_terms.specs.declared.refusal.Refusal.{Refusal}
use Rattle.geos_calls.specs.Calls.{load8, store}
use Rattle.geos_calls.specs.Effects.{Call, Reference}
use Rattle.geos_kernel.specs.Kernel.{Calls}
use Rattle.geos_kernel.specs.View.{KernelState}
use Rattle.geos_terms.specs.declared.name.Name.{Name}
use Rattle.takhvoi.specs.declared.system.System.{System}
use Rattle.takhvoi.specs.declared.handle.Handle.{Handle}
use Rattle.takhvoi.specs.Answers.{ChangesIn, IsStatus, ReadsDevice, Served}
use Rattle.takhvoi.specs.Own.{MayNotRead, MayNotWrite}

-- the kernel's reply is that of the call's row, a reference to n bytes; the device was read at most, and the number is that of the reply
abbrev pub IsReferred : Call Reference → ℕ → ℕ → System → System → Type 0
IsReferred call n status old new =
    ReadsDevice old new
    × ((reply : Result Reference Refusal) × Calls (Unit {0}) call reply old.kernel.core new.kernel.core × IsStatus reply status
    × IfOk reply (λ ref. n ≡ ref.len))

-- bytes are those that are loaded from an offset of the reference on
abbrev pub AreLoaded : Reference → ℕ → List ℕ → KernelState → Type 0
AreLoaded ref at bytes s = (i : ℕ) → i < length bytes → Calls (Unit {0}) (load8 ref (at + i)) (Ok (slice_index bytes i)) s s

-- the kernel's reply is that of the call's row, and the number is that of the reply; bytes of the reference were copied out, and the kernel is
-- as before
abbrev pub IsCopied : Call Reference → ℕ → List ℕ → ℕ → System → System → Type 0
IsCopied call at bytes status old new =
    (new.kernel ≡ old.kernel)
    × ((reply : Result Reference Refusal) × Calls (Unit {0}) call reply old.kernel.core old.kernel.core × IsStatus reply status
    × IfOk reply (λ ref. AreLoaded ref at bytes old.kernel.core))

-- the same, and n is the length of the reference
abbrev pub IsMeasured : Call Reference → ℕ → ℕ → System → System → Type 0
IsMeasured call n status old new =
    (new.kernel ≡ old.kernel)
    × ((reply : Result Reference Refusal) × Calls (Unit {0}) call reply old.kernel.core old.kernel.core
    × IsStatus reply status × IfOk reply (λ ref. n ≡ ref.len))

-- the kernel's reply is that of the call's row, and the number is that of the reply; if it is a reference, the bytes were stored there; there
-- was no call of the device
abbrev pub IsWritten : Call Reference → ℕ → List ℕ → ℕ → System → System → Type 0
IsWritten call at bytes status old new =
    (reply : Result Reference Refusal) × Calls (Unit {0}) call reply old.kernel.core old.kernel.core × IsStatus reply status
    × OnErr reply (new.kernel ≡ old.kernel) × (new.kernel.device ≡ old.kernel.device)
    × IfOk reply (λ ref. Calls (Unit {0}) (store ref at bytes) (Ok tt) old.kernel.core new.kernel.core)

-- a call on the kernel of a handle copied out these n bytes from an offset on, of the reference that the row returns for the end of the range
abbrev pub ServesRead : Name → (ℕ → Call Reference) → ℕ → ℕ → List ℕ → ℕ → Handle → Handle → Type 0
ServesRead name row at n bytes = Served (MayNotRead name at n) (IsCopied (row (at + n)) at bytes)

-- the same for bytes that were stored
abbrev pub ServesWrite : Name → (ℕ → Call Reference) → ℕ → List ℕ → ℕ → Handle → Handle → Type 0
ServesWrite name row at bytes = Served (MayNotWrite name at (length bytes)) (ChangesIn name (IsWritten (row (at + length bytes)) at bytes))
