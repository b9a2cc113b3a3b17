-- Devices to which nothing is written.
use Rattle.std.proofs.Common.{◌≡◌, ◌∙◌, ℕ, List, Option, refl, subst, sym, inr}
use Rattle.std.specs.Prelude.{Result, Ok, Err, IsErrAnd, OnOk}
use Rattle.geos_terms.specs.declared.refusal.Refusal.{Refusal}
use Rattle.vm_file.specs.declared.commit.How.TheVariants.{Update}
use Rattle.geos_kernel.specs.Files.{Commits}
use Rattle.vm_file.specs.Device.{Medium}
use Rattle.vm_file.specs.Outcomes.{ReadsOnly}
use Rattle.geos_kernel.specs.Kernel.{LeavesVm}
use Rattle.geos_kernel.specs.View.{KernelOn}
use Rattle.geos_cli.specs.declared.bytes.Place.{Place}
use Rattle.geos_cli.specs.Bytes.{EndsWithUpdate, IsUnwritten, Puts}
use Rattle.geos_cli.specs.Script.{LeadsOn}

-- an unchanged device was not written
pub not_asked : {D : Type 0} (medium : Medium D) (old new : D) → new ≡ old → IsUnwritten medium old new
not_asked medium old new same = subst (λ d. IsUnwritten medium old d) (sym same) (record { same = refl; stays = λ h. h; stop = λ h c l. l })

-- nor where it was only read
pub only_read : {D : Type 0} (medium : Medium D) (old new : D) → ReadsOnly medium old new → IsUnwritten medium old new
only_read medium old new reads = record { same = reads.same; stays = reads.stays; stop = reads.stop }

-- nor over two stretches over which it was not
pub unwritten_on : {D : Type 0} (medium : Medium D) (old mid new : D) → IsUnwritten medium old mid → IsUnwritten medium mid new
    → IsUnwritten medium old new
unwritten_on medium old mid new first second =
    record {
      same = second.same ∙ first.same;
      stays = λ h. second.stays (first.stays h);
      stop =
          λ h c l. first.stop h c (second.stop (first.stays h) c l);
    }

-- nor was the device of a call that does not touch the file
pub left_alone : {D : Type 0} (medium : Medium D) (old new : KernelOn D) → LeavesVm old new → IsUnwritten medium old.device new.device
left_alone medium old new leaves = not_asked medium old.device new.device leaves.device

-- what holds of all holds where all is done
pub on-ok : {A E P : Type 0} (r : Result A E) → P → OnOk r P
on-ok (Ok done) p = p
on-ok (Err why) p = tt

-- what holds of a refusal holds where it is passed on
pub err-passed : {A E : Type 0} (P : Result A E → Type 0) (result : Result A E) (e : E) → IsErrAnd result (λ x. x ≡ e) → P (Err e) → P result
err-passed P (Ok x) e same h = absurd same
err-passed P (Err x) e same h = subst (λ y. P (Err y)) (sym same) h

-- an update after bytes were put
pub updated : {D : Type 0} (medium : Medium D) (place : Place) (at : Option ℕ) (bytes : List ℕ) (old between new : KernelOn D)
    (result : Result (Unit {0}) Refusal)
    → LeadsOn medium old between (λ allows. Puts allows place at bytes) → IsUnwritten medium old.device between.device
    → Commits medium Update between new result → EndsWithUpdate medium place at bytes old new result
updated medium place at bytes old between new (Ok done) puts unwritten commits = (between, puts, unwritten, commits)
updated medium place at bytes old between new (Err refusal) puts unwritten commits = inr (between, puts, unwritten, commits)
