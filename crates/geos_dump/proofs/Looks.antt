-- Calls that only read a file, one after the other.
use Rattle.std.proofs.Common.{◌≡◌, ◌∙◌, ℕ, Result, Ok, Err, refl, ap, sym, subst}
use Rattle.std.specs.Prelude.{IsErrAnd}
use Rattle.vm_file.specs.Device.{Medium, Rose}
use Rattle.vm_file.specs.State.{FileState}
use Rattle.vm_file.proofs.Moments.{reads_none, reads_then}
use Rattle.geos_dump.specs.declared.error.DumpError.{DumpError}
use Rattle.geos_dump.specs.declared.error.DumpError.TheVariants.{Disk, Memory}
use Rattle.geos_dump.specs.Sides.{Causes, IsOnlyRead}

module _ {D : Type 0} (medium : Medium D) where
  pub look_none : (f : FileState D) → IsOnlyRead medium f f
  look_none f = record { same = refl; pair = refl; reads = reads_none medium f.device }

  pub look_then : (a b c : FileState D) → IsOnlyRead medium a b → IsOnlyRead medium b c → IsOnlyRead medium a c
  look_then a b c r s = record {
    same = s.same ∙ ap (λ (f : FileState D). let g : FileState D = record f { device = c.device } in g) r.same;
    pair = s.pair ∙ r.pair;
    reads = reads_then medium a.device b.device c.device r.reads s.reads;
  }

-- a call after others for which no failure was counted
pub causes_then : {X : Type 0} (H K : Type 0) (before mid now : ℕ) (result : Result X DumpError) → mid ≡ before
    → (H → K) → Causes K mid now result → Causes H before now result
causes_then H K before mid now (Ok x) same so cause = cause ∙ same
causes_then H K before mid now (Err Disk) same so cause = (λ h. subst (λ n. Rose n now) same (cause (so h)))
causes_then H K before mid now (Err Memory) same so cause = cause ∙ same

-- the same where its error is handed on
pub causes_error : {X : Type 0} (H K : Type 0) (before mid now : ℕ) (e : DumpError) (result : Result X DumpError) → mid ≡ before → (H → K) →
    IsErrAnd result (λ f. f ≡ e) → Causes {X = Unit {0}} K mid now (Err e) → Causes H before now result
causes_error H K before mid now e (Ok x) same so is cause = absurd is
causes_error {X} H K before mid now e (Err f) same so is cause =
    (let failed : Result X DumpError = Err e in
    let there : Causes H before now failed = by e cause in
    subst (λ (g : DumpError). let r : Result X DumpError = Err g in Causes H before now r) (sym is) there)
  where
    by : (g : DumpError) → Causes {X = Unit {0}} K mid now (Err g) → Causes {X = Unit {0}} H before now (Err g)
    by Disk cause = (λ h. subst (λ n. Rose n now) same (cause (so h)))
    by Memory cause = cause ∙ same
