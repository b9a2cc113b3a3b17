use Rattle.std.proofs.Common.{◌≡◌, ◌≤◌, ◌∙◌, ℕ, ◌+◌, List, Result, Err, length, min, take, ap, sym, subst, arith}
use Rattle.std.specs.Prelude.{IsOkAnd}
use Rattle.vm_file.specs.declared.directory.Directory.{Directory}
use Rattle.vm_file.specs.declared.error.OpenError.{OpenError}
use Rattle.vm_file.specs.declared.error.OpenError.TheVariants.{BadFile}
use Rattle.vm_file.specs.Contents.{Pair}
use Rattle.vm_file.specs.Opening.{listed_pair}
use Rattle.vm_file.specs.Outcomes.{Tells}
use Rattle.vm_file.specs.Reading.{header_at, selector_at, pair_at, base_of, area_of, is_second}
use Rattle.vm_file.proofs.Lengths.{stretch}
use Rattle.vm_file.proofs.EntrySteps.{ok_only}
use Rattle.vm_file.proofs.OpenSteps.{file_stop_header, file_stop_selector, file_stop_pair, file_read, area-stretch, area-past}
use Rattle.vm_file.proofs.Moments.{caused_on, reads_then}
use Rattle.vm_file.proofs.opened.read_parts.Goals as goal

pub returns-in-Err-clause-exact : goal.returns-in-Err-clause-exact
returns-in-Err-clause-exact g c = λ h. file_stop_header (g.D.Device.medium.image c.args.device.now) c.in-Err.error (c.in-Err.ensures.exact h)

pub returns-in-Err-read_selector-clause-exact : goal.returns-in-Err-read_selector-clause-exact
returns-in-Err-read_selector-clause-exact g c = λ h.
    let image = g.D.Device.medium.image c.args.device.now in
    let r = c.in-Ok.ensures in
    let S : List ℕ → Type 0 = λ x. Tells (λ n. n) (let e : Result ℕ OpenError = Err c.in-Err-read_selector.error in e) (selector_at x) in
    file_stop_selector image c.in-Ok.area c.in-Err-read_selector.error (ok_only (header_at (take 512 image)) c.in-Ok.area (r.exact h))
    (subst S r.reads.same (c.in-Err-read_selector.ensures.exact (r.reads.stays h)))

-- the pair that was read where the area begins
module _ (P : Result Pair ℕ → Type 0) (image then : List ℕ) (area selector base len end : ℕ) where
  pub read_area : base ≡ base_of area (is_second selector) → then ≡ image → len ≡ length then → base ≤ len
      → end ≡ min len (base + area) → P (pair_at base (stretch then base end)) →
      P (pair_at (base_of area (is_second selector)) (area_of image area (is_second selector)))
  read_area place same all low is read =
      let A : ℕ → Type 0 = λ k. P (pair_at k (stretch image k end)) in
      let B : List ℕ → Type 0 = λ x. P (pair_at base (stretch x base end)) in
      let C : List ℕ → Type 0 = λ x. P (pair_at (base_of area (is_second selector)) x) in
      let long = ap length same in
      subst C (sym (area-stretch image (base_of area (is_second selector)) area end (omega (arith, place, all, long))
      (is ∙ ap (λ k. min k (base + area)) (all ∙ long) ∙ ap (λ k. min (length image) (k + area)) place)))
      (subst A place (subst B same read))

pub returns-then-len-base-clause-exact : goal.returns-then-len-base-clause-exact
returns-then-len-base-clause-exact g c = λ h.
    let image = g.D.Device.medium.image c.args.device.now in
    let r = c.in-Ok.ensures in
    let s = c.in-Ok-read_selector.ensures in
    let selector = c.in-Ok-read_selector.selector in
    let base = base_of c.in-Ok.area (is_second selector) in
    let S : List ℕ → Type 0 = λ x. IsOkAnd (selector_at x) (λ y. y ≡ selector) in
    let place = c.base_of-base.ensures.exact in
    let long = ap length (s.reads.same ∙ r.reads.same) in
    let past = area-past image base c.in-Ok.area (omega (arith, c.if-len-base.true, c.len-len.ensures.length, place, long)) in
    file_stop_pair image c.in-Ok.area selector (BadFile c.base_of-base.result) (ok_only (header_at (take 512 image)) c.in-Ok.area (r.exact h))
    (ok_only (selector_at image) selector (subst S r.reads.same (s.exact (r.reads.stays h))))
    (past ∙ ap (λ k. let x : Result Pair ℕ = Err k in x) (sym place))

pub returns-in-Ok-read_pair-clause-exact : goal.returns-in-Ok-read_pair-clause-exact
returns-in-Ok-read_pair-clause-exact g c = λ h.
    let image = g.D.Device.medium.image c.args.device.now in
    let r = c.in-Ok.ensures in
    let s = c.in-Ok-read_selector.ensures in
    let selector = c.in-Ok-read_selector.selector in
    let S : List ℕ → Type 0 = λ x. IsOkAnd (selector_at x) (λ y. y ≡ selector) in
    let made : Directory × Directory = (c.in-Ok-read_pair.current, c.in-Ok-read_pair.saved) in
    let P : Result Pair ℕ → Type 0 = λ x. IsOkAnd x (λ p. listed_pair p ≡ made) in
    file_read image c.in-Ok.area selector c.in-Ok-read_pair.current c.in-Ok-read_pair.saved
    (ok_only (header_at (take 512 image)) c.in-Ok.area (r.exact h))
    (ok_only (selector_at image) selector (subst S r.reads.same (s.exact (r.reads.stays h))))
    (read_area P image (g.D.Device.medium.image c.read_selector.new.device) c.in-Ok.area selector c.base_of-base.result
    c.len-len.result c.min-end.result c.base_of-base.ensures.exact (s.reads.same ∙ r.reads.same) c.len-len.ensures.length c.if-len-base.false
    (c.min-end.ensures ∙ ap (λ k. min c.len-len.result (c.base_of-base.result + k)) c.from.ensures)
    (c.in-Ok-read_pair.ensures.exact (s.reads.stays (r.reads.stays h))))

pub returns-in-Err-read_pair-clause-exact : goal.returns-in-Err-read_pair-clause-exact
returns-in-Err-read_pair-clause-exact g c = λ h.
    let image = g.D.Device.medium.image c.args.device.now in
    let r = c.in-Ok.ensures in
    let s = c.in-Ok-read_selector.ensures in
    let selector = c.in-Ok-read_selector.selector in
    let S : List ℕ → Type 0 = λ x. IsOkAnd (selector_at x) (λ y. y ≡ selector) in
    let P : Result Pair ℕ → Type 0 = λ x. Tells listed_pair (let e : Result (Directory × Directory) OpenError =
    Err c.in-Err-read_pair.error in e) x in
    file_stop_pair image c.in-Ok.area selector c.in-Err-read_pair.error (ok_only (header_at (take 512 image)) c.in-Ok.area (r.exact h))
    (ok_only (selector_at image) selector (subst S r.reads.same (s.exact (r.reads.stays h))))
    (read_area P image (g.D.Device.medium.image c.read_selector.new.device) c.in-Ok.area selector c.base_of-base.result
    c.len-len.result c.min-end.result c.base_of-base.ensures.exact (s.reads.same ∙ r.reads.same) c.len-len.ensures.length c.if-len-base.false
    (c.min-end.ensures ∙ ap (λ k. min c.len-len.result (c.base_of-base.result + k)) c.from.ensures)
    (c.in-Err-read_pair.ensures.exact (s.reads.stays (r.reads.stays h))))

pub returns-in-Err-read_selector-clause-reads : goal.returns-in-Err-read_selector-clause-reads
returns-in-Err-read_selector-clause-reads g c = reads_then g.D.Device.medium _ _ _ c.in-Ok.ensures.reads c.in-Err-read_selector.ensures.reads

pub returns-in-Err-read_selector-clause-cause : goal.returns-in-Err-read_selector-clause-cause
returns-in-Err-read_selector-clause-cause g c = caused_on _ _ _ _ c.in-Ok.ensures.cause c.in-Err-read_selector.ensures.cause

pub returns-then-len-base-clause-reads : goal.returns-then-len-base-clause-reads
returns-then-len-base-clause-reads g c = reads_then g.D.Device.medium _ _ _ c.in-Ok.ensures.reads c.in-Ok-read_selector.ensures.reads

pub returns-in-Err-read_pair-clause-reads : goal.returns-in-Err-read_pair-clause-reads
returns-in-Err-read_pair-clause-reads g c = reads_then g.D.Device.medium _ _ _
    (reads_then g.D.Device.medium _ _ _ c.in-Ok.ensures.reads c.in-Ok-read_selector.ensures.reads) c.in-Err-read_pair.ensures.reads

pub returns-in-Err-read_pair-clause-cause : goal.returns-in-Err-read_pair-clause-cause
returns-in-Err-read_pair-clause-cause g c = caused_on _ _ _ _ (c.in-Ok-read_selector.ensures.cause ∙ c.in-Ok.ensures.cause)
    c.in-Err-read_pair.ensures.cause

pub returns-in-Ok-read_pair-clause-reads : goal.returns-in-Ok-read_pair-clause-reads
returns-in-Ok-read_pair-clause-reads g c = reads_then g.D.Device.medium _ _ _
    (reads_then g.D.Device.medium _ _ _ c.in-Ok.ensures.reads c.in-Ok-read_selector.ensures.reads) c.in-Ok-read_pair.ensures.reads

pub returns-in-Ok-read_pair-clause-cause : goal.returns-in-Ok-read_pair-clause-cause
returns-in-Ok-read_pair-clause-cause g c = c.in-Ok-read_pair.ensures.cause ∙ (c.in-Ok-read_selector.ensures.cause ∙ c.in-Ok.ensures.cause)
