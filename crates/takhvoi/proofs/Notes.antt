-- What calls note for a host, and what the host is left with if it is stopped.
use Rattle.std.proofs.Common.{◌≡◌, ◌⊎◌, ◌<◌, ◌-◌, ℕ, List, [], ◌∷◌, length, reverse, Result, Ok, Err}
use Rattle.std.proofs.Common.{refl, ap, sym, subst, inl, inr, ⊎_elim, arith}
use Rattle.geos_calls.specs.VmFile.{Kept, Sure, Unsure, VmFile}
use Rattle.geos_calls.specs.VmFile as model_file
use Rattle.vm_file.specs.Contents.{Pair}
use Rattle.vm_file.specs.Outcomes.{ReadsOnly}
use Rattle.vm_file.specs.Reading.{◌>>=◌, File, file_at}
use Rattle.vm_file.proofs.StateLaws.{file_parts}
use Rattle.vm_blocks.specs.Found.{OpensAs, OpensAsKept}
use Rattle.geos_kernel.specs.Files.{Between, LeavesKept}
use Rattle.geos_kernel.specs.View.{IsFileOf, KernelOn}
use Rattle.geos_machine.specs.Runs.{OpensAsOneOf}
use Rattle.host_device.specs.Journal.{GoesOn, LeavesSince, MayHaveLeft, at_once, bytes_of, journal_of, medium, performed, steps_of}
use Rattle.host_device.specs.declared.device.HostDevice.{HostDevice}
use Rattle.host_device.proofs.Going.{goes-if, goes-past, goes-reading}
use Rattle.takhvoi.specs.declared.system.System.{System}
use Rattle.takhvoi.specs.Answers.{ReadsDevice}
use Rattle.takhvoi.specs.Journal.{HasCommitted}
use Rattle.vm_file.specs.declared.commit.How.{How}

-- what a file is found in has its header at least
found-long : (c : List ℕ) (p : Pair) → (file_at c >>= (λ (file : File). Ok file.pair)) ≡ Ok p → 512 < length c
found-long c p is = by (file_at c) refl is
  where
    by : (r : Result File ℕ) → file_at c ≡ r → (r >>= (λ (file : File). Ok file.pair)) ≡ Ok p → 512 < length c
    by (Ok file) read given = (file_parts c file read).long
    by (Err at) read given = absurd cc

opens-long : (pair : model_file.Pair) (c : List ℕ) → OpensAs pair c → 512 < length c
opens-long pair c opens = found-long c opens.0 opens.1

kept-long : (kept : Kept) (c : List ℕ) → OpensAsKept kept c → 512 < length c
kept-long (Sure p) c opens = opens-long p c opens
kept-long (Unsure p q) c opens = ⊎_elim (opens-long p c) (opens-long q c) opens

some-long : (keeps : List Kept) (c : List ℕ) → OpensAsOneOf keeps c → 512 < length c
some-long [] c opens = absurd opens
some-long (kept ∷ keeps) c opens = ⊎_elim (kept-long kept c) (some-long keeps c) opens

-- a device that was read at most
pub reads-device : (old new : System) → ReadsOnly medium old.kernel.device new.kernel.device → ReadsDevice old new
reads-device old new reads = record {
  bytes = reads.same;
  goes_on = goes-reading old.kernel.device new.kernel.device reads;
  stops = λ c left. ⊎_elim (at_once old.kernel.device c) (λ now. now) (reads.time tt old.kernel.device c left);
}

-- what a commit came to from a kernel that is the system's
pub commits-from : (how : How) (status : ℕ) (old new : System) (k : KernelOn HostDevice) → k ≡ old.kernel
    → HasCommitted how status (record old { kernel = k }) new → HasCommitted how status old new
commits-from how status old new k same came = subst (λ (k : KernelOn HostDevice). HasCommitted how status (record old { kernel = k }) new) same came

-- nothing was noted before
module _ (old new : HostDevice) (begins : journal_of old ≡ []) where
  pub leads-from : GoesOn old new → performed (bytes_of old) (steps_of new) ≡ bytes_of new
  leads-from goes = goes.follows (bytes_of old) (subst (λ es. performed (bytes_of old) (reverse es) ≡ bytes_of old) (sym begins) refl)

  pub since-then : (c : List ℕ) → LeavesSince (bytes_of new) (length (steps_of new)) (steps_of new) c → MayHaveLeft old new c
  since-then c left =
      let none : length (steps_of old) ≡ 0 = ap (λ es. length (reverse es)) begins in
      let all : length (steps_of new) ≡ length (steps_of new) - length (steps_of old) = omega (arith, none) in
      inl (subst (λ n. LeavesSince (bytes_of new) n (steps_of new) c) all left)

-- a stop between two kernels leaves the committed pair of one of them
module _ (old new : KernelOn HostDevice) (between : Between medium old new) where
  module _ (f g : VmFile) (was : IsFileOf (Unit {0}) old.core f) (now : IsFileOf (Unit {0}) new.core g) where
    either-long : (c : List ℕ) → OpensAsKept f.kept c ⊎ OpensAsKept g.kept c → 512 < length c
    either-long c opens = ⊎_elim (kept-long f.kept c) (kept-long g.kept c) opens

    pub goes-between : GoesOn old.device new.device
    goes-between = goes-past old.device new.device (λ c. OpensAsKept f.kept c ⊎ OpensAsKept g.kept c) (between.stops tt f g was now)
        (λ opens. (let long = either-long [] opens in omega (arith, long))) (λ opens. (let long = either-long (0 ∷ []) opens in omega (arith, long)))

    pub stops-between : LeavesKept medium old → journal_of old.device ≡ [] → (c : List ℕ)
        → LeavesSince (bytes_of new.device) (length (steps_of new.device)) (steps_of new.device) c → OpensAsKept f.kept c ⊎ OpensAsKept g.kept c
    stops-between kept begins c left = elim (between.stops tt f g was now old.device c (since-then old.device new.device begins c left)) [
      | inl before ↦ inl (kept f was tt c (at_once old.device c before))
      | inr opens ↦ opens
    ]

-- a stop in a run leaves the committed pair of one of its steps
pub goes-running : (old new : HostDevice) (keeps : List Kept) → ((c : List ℕ) → MayHaveLeft old new c → OpensAsOneOf keeps c) → GoesOn old new
goes-running old new keeps all = goes-if old new (λ lost. (let long = some-long keeps [] (all [] (inr lost)) in omega (arith, long)))
