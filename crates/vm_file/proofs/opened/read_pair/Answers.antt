use Rattle.std.proofs.Common.{◌≡◌, ◌≤◌, ◌∙◌, ℕ, ◌+◌, List, Result, Err, drop, ap, sym, subst}
use Rattle.std.specs.Prelude.{IsOkAnd}
use Rattle.vm_file.specs.declared.directory.Directory.{Directory}
use Rattle.vm_file.specs.declared.error.OpenError.{OpenError}
use Rattle.vm_file.specs.Contents.{Contents, listed}
use Rattle.vm_file.specs.Directories.{directory_length}
use Rattle.vm_file.specs.Outcomes.{Tells}
use Rattle.vm_file.specs.Reading.{contents_at}
use Rattle.vm_file.proofs.Lengths.{stretch, drop-stretch}
use Rattle.vm_file.proofs.Moments.{caused_on, reads_then}
use Rattle.vm_file.proofs.OpenSteps.{pair_stop_first, pair_stop_second, pair_read}
use Rattle.vm_file.proofs.opened.read_pair.Goals as goal

pub returns-in-Err-read_directory-clause-exact : goal.returns-in-Err-read_directory-clause-exact
returns-in-Err-read_directory-clause-exact g c = λ h.
    pair_stop_first c.args.base (stretch (g.D.Device.medium.image c.args.device.now) c.args.base c.args.end)
    c.in-Err-read_directory.error (c.in-Err-read_directory.ensures.exact h)

-- the second directory, read after the first
module _ (P : Result Contents ℕ → Type 0) (image then : List ℕ) (base end next : ℕ) (d : Directory) where
  pub second : next ≡ base + directory_length d → then ≡ image → base + directory_length d ≤ end
      → P (contents_at next (stretch then next end))
      → P (contents_at (base + directory_length d) (drop (directory_length d) (stretch image base end)))
  second place same fits read =
      let A : ℕ → Type 0 = λ k. P (contents_at k (stretch then k end)) in
      let B : List ℕ → Type 0 = λ x. P (contents_at (base + directory_length d) (stretch x (base + directory_length d) end)) in
      let C : List ℕ → Type 0 = λ x. P (contents_at (base + directory_length d) x) in
      subst C (sym (drop-stretch image base end (directory_length d) fits)) (subst B same (subst A place read))

pub returns-clause-exact : goal.returns-clause-exact
returns-clause-exact g c = λ h.
    let image = g.D.Device.medium.image c.args.device.now in
    let s = stretch image c.args.base c.args.end in
    let d = c.in-Ok-read_directory.current in
    let r = c.in-Ok-read_directory.ensures in
    let P : Result Contents ℕ → Type 0 = λ x. Tells listed (let e : Result Directory OpenError = Err c.in-Err-read_directory-2.error in e) x in
    let place = ap (λ k. c.args.base + k) (c.from.ensures ∙ c.directory_length.ensures.exact) in
    pair_stop_second c.args.base s d c.in-Err-read_directory-2.error (r.exact h)
    (second P image (g.D.Device.medium.image c.read_directory.new.device) c.args.base c.args.end (c.args.base + c.from.result)
    d place r.reads.same r.legal.1 (c.in-Err-read_directory-2.ensures.exact (r.reads.stays h)))

pub returns-clause-reads : goal.returns-clause-reads
returns-clause-reads g c =
    let d = g.D.Device in
    reads_then d.medium c.args.device.now c.read_directory.new.device c.read_directory-2.new.device
    c.in-Ok-read_directory.ensures.reads c.in-Err-read_directory-2.ensures.reads

pub returns-in-Ok-read_directory-2-clause-exact : goal.returns-in-Ok-read_directory-2-clause-exact
returns-in-Ok-read_directory-2-clause-exact g c = λ h.
    let image = g.D.Device.medium.image c.args.device.now in
    let s = stretch image c.args.base c.args.end in
    let d = c.in-Ok-read_directory.current in
    let r = c.in-Ok-read_directory.ensures in
    let P : Result Contents ℕ → Type 0 = λ x. IsOkAnd x (λ y. listed y ≡ c.in-Ok-read_directory-2.saved) in
    let place = ap (λ k. c.args.base + k) (c.from.ensures ∙ c.directory_length.ensures.exact) in
    pair_read c.args.base s d c.in-Ok-read_directory-2.saved (r.exact h)
    (second P image (g.D.Device.medium.image c.read_directory.new.device) c.args.base c.args.end (c.args.base + c.from.result)
    d place r.reads.same r.legal.1 (c.in-Ok-read_directory-2.ensures.exact (r.reads.stays h)))

pub returns-in-Ok-read_directory-2-clause-reads : goal.returns-in-Ok-read_directory-2-clause-reads
returns-in-Ok-read_directory-2-clause-reads g c =
    let d = g.D.Device in
    reads_then d.medium c.args.device.now c.read_directory.new.device c.read_directory-2.new.device
    c.in-Ok-read_directory.ensures.reads c.in-Ok-read_directory-2.ensures.reads

pub returns-clause-cause : goal.returns-clause-cause
returns-clause-cause g c = caused_on _ _ _ _ c.in-Ok-read_directory.ensures.cause c.in-Err-read_directory-2.ensures.cause

pub returns-in-Ok-read_directory-2-clause-cause : goal.returns-in-Ok-read_directory-2-clause-cause
returns-in-Ok-read_directory-2-clause-cause g c = c.in-Ok-read_directory-2.ensures.cause ∙ c.in-Ok-read_directory.ensures.cause
