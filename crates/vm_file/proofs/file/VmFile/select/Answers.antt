use Rattle.std.proofs.Common.{◌≡◌, ◌∙◌, ◌≤◌, ℕ, List, [], ◌∷◌, length, not, true, false, refl, ap, sym, subst, arith}
use Rattle.lmem_raw.specs.Bytes.{with_part}
use Rattle.vm_file.specs.declared.directory.Directory.{Directory}
use Rattle.vm_file.specs.Committing.{FindsEither, MayHaveWritten, Spells, current_after, image_after, saved_after, length_after}
use Rattle.vm_file.specs.Contents.{pair_in}
use Rattle.vm_file.specs.Device.{FailedOnce, Passes, Rose}
use Rattle.vm_file.specs.Outcomes.{WritesOnly}
use Rattle.vm_file.specs.Spelling.{selector_of}
use Rattle.vm_file.specs.State.{FileState, Finds, IsOther, IsSound, Steadily, pair_of}
use Rattle.vm_file.proofs.CommitLaws.{area_steadily, both_steadily, TornFile, UnsureFile, SelectedFile, torn_file, unsure_file, selected_file, current_legal, saved_legal}
use Rattle.vm_file.proofs.Kept.{written_area, written_both}
use Rattle.vm_file.proofs.file.VmFile.select.Given.{Over}
use Rattle.vm_file.proofs.file.VmFile.select.Goals as goal

-- the area was not written whole
torn : (g : Over) (c : goal.After-self-1 g) → let d = g.D.Device in let i = c.self.inside in
    TornFile d.medium (let f : FileState g.row.D.Denot = record {
      device = i.device;
      area = i.area;
      second =
          i.second;
      sure = i.sure;
      current = i.current;
      saved = i.saved;
    } in f) c.self.invariant
    (let S : FileState g.row.D.Denot → Type 0 = λ f. f.sure ≡ true in subst S (sym c.self.view_is) c.requires.sure) c.write_area.new.device
torn g c =
    let d = g.D.Device in
    let A : FileState g.row.D.Denot → Type 0 = λ f. length c.args.bytes.now ≤ f.area in
    let W : ℕ → Type 0 = λ k. WritesOnly d.medium k (length c.args.bytes.now) c.self.inside.device c.write_area.new.device in
    torn_file d.medium _ c.self.invariant _ c.write_area.new.device (length c.args.bytes.now) (subst A (sym c.self.view_is) c.requires.fits.1)
    (subst W c.base_of-base.ensures.exact c.in-Err.ensures.writes)

pub invariant_of-self : goal.invariant_of-self
invariant_of-self g c = (torn g c).legal

pub returns-in-Err-clause-pair : goal.returns-in-Err-clause-pair
returns-in-Err-clause-pair g c =
    let d = g.D.Device in
    let i = c.self.inside in
    let now : FileState g.row.D.Denot = record {
      device = c.write_area.new.device;
      area = i.area;
      second =
          i.second;
      sure = i.sure;
      current = i.current;
      saved = i.saved;
    } in
    let G : FileState g.row.D.Denot → Type 0 = λ f. d.medium.honest f.device → pair_of d.medium.image now ≡ pair_of d.medium.image f in
    subst G c.self.view_is (torn g c).pair

pub returns-in-Err-clause-either : goal.returns-in-Err-clause-either
returns-in-Err-clause-either g c =
    let d = g.D.Device in
    let i = c.self.inside in
    let now : FileState g.row.D.Denot = record {
      device = c.write_area.new.device;
      area = i.area;
      second =
          i.second;
      sure = i.sure;
      current = i.current;
      saved = i.saved;
    } in
    let G : FileState g.row.D.Denot → Type 0 = λ f. d.medium.honest f.device
    → Passes d.medium.may_have_left f.device c.write_area.new.device (FindsEither d.medium.image f now) in
    subst G c.self.view_is (torn g c).either

pub returns-in-Err-clause-stop : goal.returns-in-Err-clause-stop
returns-in-Err-clause-stop g c =
    let d = g.D.Device in
    let i = c.self.inside in
    let now : FileState g.row.D.Denot = record {
      device = c.write_area.new.device;
      area = i.area;
      second =
          i.second;
      sure = i.sure;
      current = i.current;
      saved = i.saved;
    } in
    let G : FileState g.row.D.Denot → Type 0 = λ f. d.medium.honest f.device → (x : List ℕ)
    → d.medium.may_leave c.write_area.new.device x → Finds d.medium.image now x in
    subst G c.self.view_is (torn g c).finds

-- the area was written, and the selector was not
unsure : (g : Over) (c : goal.After-self-in-Err-write_durably-2-1 g) → let d = g.D.Device in let i = c.self.inside in
    let x = current_after c.args.how c.args.cur.now i.saved in
    let y = saved_after c.args.how c.args.cur.now i.saved in
    UnsureFile d.medium (let f : FileState g.row.D.Denot = record {
      device = i.device;
      area = i.area;
      second =
          i.second;
      sure = i.sure;
      current = i.current;
      saved = i.saved;
    } in f) c.self.invariant
    (let S : FileState g.row.D.Denot → Type 0 = λ f. f.sure ≡ true in subst S (sym c.self.view_is) c.requires.sure)
    c.write_durably.new.device (pair_in x y c.args.bytes.now)
unsure g c =
    let d = g.D.Device in
    let i = c.self.inside in
    let n = length c.args.bytes.now in
    let x = current_after c.args.how c.args.cur.now i.saved in
    let y = saved_after c.args.how c.args.cur.now i.saved in
    let A : FileState g.row.D.Denot → Type 0 = λ f. n ≤ f.area in
    let S : FileState g.row.D.Denot → Type 0 = λ f. d.medium.honest f.device
    → Spells (current_after c.args.how c.args.cur.now f.saved) (saved_after c.args.how c.args.cur.now f.saved)
    (pair_in (current_after c.args.how c.args.cur.now f.saved) (saved_after c.args.how c.args.cur.now f.saved) c.args.bytes.now) c.args.bytes.now in
    let W : ℕ → Type 0 = λ k. WritesOnly d.medium k n i.device c.write_area.new.device in
    unsure_file d.medium _ c.self.invariant _ c.write_area.new.device n (subst A (sym c.self.view_is) c.requires.fits.1)
    (subst W c.base_of-base.ensures.exact c.in-Ok.ensures.writes) c.args.bytes.now x y (pair_in x y c.args.bytes.now)
    refl (omega (arith, c.in-Ok.ensures.within, c.base_of-base.ensures.exact))
    (subst S (sym c.self.view_is) c.requires.spelled) (λ h. c.in-Ok.ensures.written h
    ∙ ap (λ k. with_part (d.medium.image i.device) k c.args.bytes.now) c.base_of-base.ensures.exact) c.in-Ok.ensures.durable
    c.write_durably.new.device c.write_durably.ensures.writes

pub invariant_of-self-in-Err-write_durably : goal.invariant_of-self-in-Err-write_durably
invariant_of-self-in-Err-write_durably g c = (unsure g c).legal

pub returns-in-Err-write_durably-clause-pair : goal.returns-in-Err-write_durably-clause-pair
returns-in-Err-write_durably-clause-pair g c =
    let d = g.D.Device in
    let i = c.self.inside in
    let now : FileState g.row.D.Denot = record {
      device = c.write_durably.new.device;
      area = i.area;
      second =
          i.second;
      sure = false;
      current = i.current;
      saved = i.saved;
    } in
    let G : FileState g.row.D.Denot → Type 0 = λ f. d.medium.honest f.device → pair_of d.medium.image now ≡ pair_of d.medium.image f in
    subst G c.self.view_is (unsure g c).pair

pub returns-in-Err-write_durably-clause-other : goal.returns-in-Err-write_durably-clause-other
returns-in-Err-write_durably-clause-other g c =
    let d = g.D.Device in
    let i = c.self.inside in
    let now : FileState g.row.D.Denot = record {
      device = c.write_durably.new.device;
      area = i.area;
      second =
          i.second;
      sure = false;
      current = i.current;
      saved = i.saved;
    } in
    let G : FileState g.row.D.Denot → Type 0 = λ f. d.medium.honest f.device
    → IsOther d.medium.image now (pair_in (current_after c.args.how c.args.cur.now f.saved)
    (saved_after c.args.how c.args.cur.now f.saved) c.args.bytes.now) in
    λ h _. subst G c.self.view_is (unsure g c).other h

pub returns-in-Err-write_durably-clause-either : goal.returns-in-Err-write_durably-clause-either
returns-in-Err-write_durably-clause-either g c =
    let d = g.D.Device in
    let i = c.self.inside in
    let now : FileState g.row.D.Denot = record {
      device = c.write_durably.new.device;
      area = i.area;
      second =
          i.second;
      sure = false;
      current = i.current;
      saved = i.saved;
    } in
    let G : FileState g.row.D.Denot → Type 0 = λ f. d.medium.honest f.device
    → Passes d.medium.may_have_left f.device c.write_durably.new.device (FindsEither d.medium.image f now) in
    subst G c.self.view_is (unsure g c).either

pub returns-in-Err-write_durably-clause-stop : goal.returns-in-Err-write_durably-clause-stop
returns-in-Err-write_durably-clause-stop g c =
    let d = g.D.Device in
    let i = c.self.inside in
    let now : FileState g.row.D.Denot = record {
      device = c.write_durably.new.device;
      area = i.area;
      second =
          i.second;
      sure = false;
      current = i.current;
      saved = i.saved;
    } in
    let G : FileState g.row.D.Denot → Type 0 = λ f. d.medium.honest f.device → (x : List ℕ)
    → d.medium.may_leave c.write_durably.new.device x → Finds d.medium.image now x in
    subst G c.self.view_is (unsure g c).finds

-- both were written
selected : (g : Over) (c : goal.After-go_on g) → let d = g.D.Device in let i = c.self.inside in
    let x = current_after c.args.how c.args.cur.now i.saved in
    let y = saved_after c.args.how c.args.cur.now i.saved in
    SelectedFile d.medium (let f : FileState g.row.D.Denot = record {
      device = i.device;
      area = i.area;
      second =
          i.second;
      sure = i.sure;
      current = i.current;
      saved = i.saved;
    } in f) c.self.invariant
    (let S : FileState g.row.D.Denot → Type 0 = λ f. f.sure ≡ true in subst S (sym c.self.view_is) c.requires.sure)
    c.write_durably.new.device x y (pair_in x y c.args.bytes.now)
selected g c =
    let d = g.D.Device in
    let i = c.self.inside in
    let n = length c.args.bytes.now in
    let x = current_after c.args.how c.args.cur.now i.saved in
    let y = saved_after c.args.how c.args.cur.now i.saved in
    let A : FileState g.row.D.Denot → Type 0 = λ f. n ≤ f.area in
    let S : FileState g.row.D.Denot → Type 0 = λ f. d.medium.honest f.device
    → Spells (current_after c.args.how c.args.cur.now f.saved) (saved_after c.args.how c.args.cur.now f.saved)
    (pair_in (current_after c.args.how c.args.cur.now f.saved) (saved_after c.args.how c.args.cur.now f.saved) c.args.bytes.now) c.args.bytes.now in
    let W : ℕ → Type 0 = λ k. WritesOnly d.medium k n i.device c.write_area.new.device in
    let L : FileState g.row.D.Denot → Type 0 = λ f. n ≡ length_after c.args.how c.args.cur.now f.saved in
    let r = c.in-Ok-write_durably.ensures in
    let on = c.in-Ok.ensures.writes.stays in
    selected_file d.medium _ c.self.invariant _ c.write_area.new.device n (subst A (sym c.self.view_is) c.requires.fits.1)
    (subst W c.base_of-base.ensures.exact c.in-Ok.ensures.writes) c.args.bytes.now x y (pair_in x y c.args.bytes.now)
    refl (omega (arith, c.in-Ok.ensures.within, c.base_of-base.ensures.exact))
    (subst S (sym c.self.view_is) c.requires.spelled) (λ h. c.in-Ok.ensures.written h
    ∙ ap (λ k. with_part (d.medium.image i.device) k c.args.bytes.now) c.base_of-base.ensures.exact) c.in-Ok.ensures.durable
    c.write_durably.new.device c.write_durably.ensures.writes
    c.selector_of.result c.selector_of.ensures.names (λ h. r.written (on h)) (λ h. r.durable (on h))
    (current_legal c.args.how c.args.cur.now i.saved c.requires.legal c.self.invariant.saved)
    (saved_legal c.args.how c.args.cur.now i.saved c.requires.legal c.self.invariant.saved) (sym (subst L (sym c.self.view_is) c.requires.fits.0))

-- what is true of the directories to be committed is true of those that are committed
module _ (x y : Directory) (P : Directory → Directory → Type 0) where
  kept : (a b : Directory) → a ≡ x → b ≡ y → P x y → P a b
  kept a b a_is b_is h = (let Q : Directory → Type 0 = λ z. P z y in subst (P a) (sym b_is) (subst Q (sym a_is) h))

pub invariant_of-self-in-Ok-write_durably : goal.invariant_of-self-in-Ok-write_durably
invariant_of-self-in-Ok-write_durably g c =
    let d = g.D.Device in
    let i = c.self.inside in
    let now : Directory → Directory → FileState g.row.D.Denot =
    λ a b. record { device = c.write_durably.new.device; area = i.area; second = not i.second; sure = i.sure; current = a; saved = b } in
    kept _ _ (λ a b. IsSound d.medium (now a b)) c.go_on.new.current c.go_on.new.saved c.go_on.ensures.current
    c.go_on.ensures.saved (selected g c).legal

pub returns-in-Ok-write_durably-clause-pair : goal.returns-in-Ok-write_durably-clause-pair
returns-in-Ok-write_durably-clause-pair g c =
    let d = g.D.Device in
    let i = c.self.inside in
    let now : Directory → Directory → FileState g.row.D.Denot =
    λ a b. record { device = c.write_durably.new.device; area = i.area; second = not i.second; sure = i.sure; current = a; saved = b } in
    let G : FileState g.row.D.Denot → Type 0 = λ f. d.medium.honest f.device
    → pair_of d.medium.image (now c.go_on.new.current c.go_on.new.saved) ≡ (pair_in (current_after c.args.how c.args.cur.now f.saved)
    (saved_after c.args.how c.args.cur.now f.saved) c.args.bytes.now) in
    let q = pair_in (current_after c.args.how c.args.cur.now i.saved) (saved_after c.args.how c.args.cur.now i.saved) c.args.bytes.now in
    subst G c.self.view_is (λ h. kept _ _ (λ a b. pair_of d.medium.image (now a b) ≡ q) c.go_on.new.current
    c.go_on.new.saved c.go_on.ensures.current c.go_on.ensures.saved ((selected g c).pair h))

pub returns-in-Ok-write_durably-clause-either : goal.returns-in-Ok-write_durably-clause-either
returns-in-Ok-write_durably-clause-either g c =
    let d = g.D.Device in
    let i = c.self.inside in
    let now : Directory → Directory → FileState g.row.D.Denot =
    λ a b. record { device = c.write_durably.new.device; area = i.area; second = not i.second; sure = i.sure; current = a; saved = b } in
    let G : FileState g.row.D.Denot → Type 0 = λ f. d.medium.honest f.device
    → Passes d.medium.may_have_left f.device c.write_durably.new.device
    (FindsEither d.medium.image f (now c.go_on.new.current c.go_on.new.saved)) in
    subst G c.self.view_is
    (λ h. kept _ _ (λ a b. Passes d.medium.may_have_left i.device c.write_durably.new.device
    (FindsEither d.medium.image (let f : FileState g.row.D.Denot =
    record { device = i.device; area = i.area; second = i.second; sure = i.sure; current = i.current; saved = i.saved } in f) (now a b)))
    c.go_on.new.current c.go_on.new.saved c.go_on.ensures.current c.go_on.ensures.saved ((selected g c).either h))

pub returns-in-Ok-write_durably-clause-stop : goal.returns-in-Ok-write_durably-clause-stop
returns-in-Ok-write_durably-clause-stop g c =
    let d = g.D.Device in
    let i = c.self.inside in
    let now : Directory → Directory → FileState g.row.D.Denot =
    λ a b. record { device = c.write_durably.new.device; area = i.area; second = not i.second; sure = i.sure; current = a; saved = b } in
    let G : FileState g.row.D.Denot → Type 0 = λ f. d.medium.honest f.device → (z : List ℕ)
    → d.medium.may_leave c.write_durably.new.device z → Finds d.medium.image (now c.go_on.new.current c.go_on.new.saved) z in
    subst G c.self.view_is (λ h z l. kept _ _ (λ a b. Finds d.medium.image (now a b) z) c.go_on.new.current
    c.go_on.new.saved c.go_on.ensures.current c.go_on.ensures.saved ((selected g c).finds h z l))

pub returns-in-Ok-write_durably-clause-bytes : goal.returns-in-Ok-write_durably-clause-bytes
returns-in-Ok-write_durably-clause-bytes g c =
    let d = g.D.Device in
    let i = c.self.inside in
    let G : FileState g.row.D.Denot → Type 0 = λ f. d.medium.honest f.device
    → d.medium.image c.write_durably.new.device ≡ image_after d.medium.image c.args.bytes.now f in
    subst G c.self.view_is (λ h. c.in-Ok-write_durably.ensures.written (c.in-Ok.ensures.writes.stays h)
    ∙ ap (λ k. with_part (d.medium.image c.write_area.new.device) 512 (k ∷ [])) c.selector_of.ensures.value
    ∙ ap (λ l. with_part l 512 (selector_of (not i.second) ∷ [])) (c.in-Ok.ensures.written h
    ∙ ap (λ k. with_part (d.medium.image i.device) k c.args.bytes.now) c.base_of-base.ensures.exact))

-- the area was written, in part or whole
area_torn : (g : Over) (c : goal.After-self-1 g) → let d = g.D.Device in let i = c.self.inside in
    d.medium.honest i.device → MayHaveWritten d.medium.image (let f : FileState g.row.D.Denot =
    record { device = i.device; area = i.area; second = i.second; sure = i.sure; current = i.current; saved = i.saved } in f)
    i.sure (d.medium.image c.write_area.new.device)
area_torn g c = λ h.
    let d = g.D.Device in
    let i = c.self.inside in
    let n = length c.args.bytes.now in
    let f : FileState g.row.D.Denot = record {
      device = i.device;
      area = i.area;
      second = i.second;
      sure =
          i.sure;
      current = i.current;
      saved = i.saved;
    } in
    let A : FileState g.row.D.Denot → Type 0 = λ x. n ≤ x.area in
    let W : ℕ → Type 0 = λ k. WritesOnly d.medium k n i.device c.write_area.new.device in
    written_area d.medium.image f i.sure (d.medium.image c.write_area.new.device) n (subst A (sym c.self.view_is) c.requires.fits.1)
    ((subst W c.base_of-base.ensures.exact c.in-Err.ensures.writes).torn h)

pub returns-in-Err-clause-torn : goal.returns-in-Err-clause-torn
returns-in-Err-clause-torn g c =
    let d = g.D.Device in
    let i = c.self.inside in
    let G : FileState g.row.D.Denot → Type 0 = λ f. d.medium.honest f.device → MayHaveWritten d.medium.image f i.sure
    (d.medium.image c.write_area.new.device) in
    subst G c.self.view_is (area_torn g c)

pub returns-in-Err-write_durably-clause-torn : goal.returns-in-Err-write_durably-clause-torn
returns-in-Err-write_durably-clause-torn g c =
    let d = g.D.Device in
    let i = c.self.inside in
    let n = length c.args.bytes.now in
    let f : FileState g.row.D.Denot = record {
      device = i.device;
      area = i.area;
      second = i.second;
      sure =
          i.sure;
      current = i.current;
      saved = i.saved;
    } in
    let A : FileState g.row.D.Denot → Type 0 = λ x. n ≤ x.area in
    let W : ℕ → Type 0 = λ k. WritesOnly d.medium k n i.device c.write_area.new.device in
    let w = subst W c.base_of-base.ensures.exact c.in-Ok.ensures.writes in
    let G : FileState g.row.D.Denot → Type 0 = λ x. d.medium.honest x.device → MayHaveWritten d.medium.image x false
    (d.medium.image c.write_durably.new.device) in
    subst G c.self.view_is (λ h. written_both d.medium.image f (d.medium.image c.write_area.new.device) _ n
    (subst A (sym c.self.view_is) c.requires.fits.1) (w.torn h) (c.write_durably.ensures.writes.torn (w.stays h)))

-- what is true of the device is true of it as a field of the file
module _ (g : Over) (before seen : FileState g.row.D.Denot) (same : before ≡ seen) where
  stays : (new : g.row.D.Denot) → (g.D.Device.medium.honest before.device → g.D.Device.medium.honest new)
      → g.D.Device.medium.honest seen.device → g.D.Device.medium.honest new
  stays new is = (let G : FileState g.row.D.Denot → Type 0 = λ f. g.D.Device.medium.honest f.device → g.D.Device.medium.honest new in subst G same is)

  was : (new : g.row.D.Denot) → (g.D.Device.medium.honest new → g.D.Device.medium.honest before.device)
      → g.D.Device.medium.honest new → g.D.Device.medium.honest seen.device
  was new is = (let G : FileState g.row.D.Denot → Type 0 = λ f. g.D.Device.medium.honest new → g.D.Device.medium.honest f.device in subst G same is)

  counted : (P : ℕ → Type 0) → P (g.D.Device.medium.failed before.device) → P (g.D.Device.medium.failed seen.device)
  counted P is = (let G : FileState g.row.D.Denot → Type 0 = λ f. P (g.D.Device.medium.failed f.device) in subst G same is)

pub returns-in-Err-clause-honest : goal.returns-in-Err-clause-honest
returns-in-Err-clause-honest g c = stays g _ _ c.self.view_is _ c.in-Err.ensures.writes.stays

pub returns-in-Err-clause-was_honest : goal.returns-in-Err-clause-was_honest
returns-in-Err-clause-was_honest g c = was g _ _ c.self.view_is _ c.in-Err.ensures.writes.was

pub returns-in-Err-write_durably-clause-honest : goal.returns-in-Err-write_durably-clause-honest
returns-in-Err-write_durably-clause-honest g c = stays g _ _ c.self.view_is _
    (λ h. c.in-Err-write_durably.ensures.writes.stays (c.in-Ok.ensures.writes.stays h))

pub returns-in-Err-write_durably-clause-was_honest : goal.returns-in-Err-write_durably-clause-was_honest
returns-in-Err-write_durably-clause-was_honest g c = was g _ _ c.self.view_is _
    (λ h. c.in-Ok.ensures.writes.was (c.in-Err-write_durably.ensures.writes.was h))

pub returns-in-Err-write_durably-clause-cause : goal.returns-in-Err-write_durably-clause-cause
returns-in-Err-write_durably-clause-cause g c =
    let R : ℕ → Type 0 = λ k. Rose k (g.D.Device.medium.failed c.write_durably.new.device) in
    counted g _ _ c.self.view_is R (subst R c.in-Ok.ensures.cause c.in-Err-write_durably.ensures.cause)

pub returns-in-Err-write_durably-clause-once : goal.returns-in-Err-write_durably-clause-once
returns-in-Err-write_durably-clause-once g c =
    let F : ℕ → Type 0 = λ k. FailedOnce k (g.D.Device.medium.failed c.write_durably.new.device) in
    counted g _ _ c.self.view_is F (subst F c.in-Ok.ensures.cause c.in-Err-write_durably.ensures.once)

pub returns-in-Ok-write_durably-clause-honest : goal.returns-in-Ok-write_durably-clause-honest
returns-in-Ok-write_durably-clause-honest g c = stays g _ _ c.self.view_is _
    (λ h. c.in-Ok-write_durably.ensures.writes.stays (c.in-Ok.ensures.writes.stays h))

pub returns-in-Ok-write_durably-clause-was_honest : goal.returns-in-Ok-write_durably-clause-was_honest
returns-in-Ok-write_durably-clause-was_honest g c = was g _ _ c.self.view_is _
    (λ h. c.in-Ok.ensures.writes.was (c.in-Ok-write_durably.ensures.writes.was h))

pub returns-in-Ok-write_durably-clause-done : goal.returns-in-Ok-write_durably-clause-done
returns-in-Ok-write_durably-clause-done g c =
    let i = c.self.inside in
    let w = c.write_durably.new.device in
    let S : FileState g.row.D.Denot → Type 0 = λ f. f.sure ≡ true in
    let sure : i.sure ≡ true = subst S (sym c.self.view_is) c.requires.sure in
    let made : FileState g.row.D.Denot = record {
      device = w;
      area = i.area;
      second = not i.second;
      sure =
          i.sure;
      current = c.go_on.new.current;
      saved = c.go_on.new.saved;
    } in
    let G : FileState g.row.D.Denot → Type 0 = λ f. made ≡ record {
      device = w;
      area = f.area;
      second = not f.second;
      sure =
          true;
      current = current_after c.args.how c.args.cur.now f.saved;
      saved = saved_after c.args.how c.args.cur.now f.saved;
    } in
    subst G c.self.view_is (λ k. record {
      device = w;
      area = i.area;
      second = not i.second;
      sure = sure k;
      current =
          c.go_on.ensures.current k;
      saved = c.go_on.ensures.saved k;
    })

pub returns-in-Err-clause-steadily : goal.returns-in-Err-clause-steadily
returns-in-Err-clause-steadily g c =
    let d = g.D.Device in
    let i = c.self.inside in
    let f : FileState g.row.D.Denot = record {
      device = i.device;
      area = i.area;
      second = i.second;
      sure =
          i.sure;
      current = i.current;
      saved = i.saved;
    } in
    let now : FileState g.row.D.Denot = record {
      device = c.write_area.new.device;
      area = i.area;
      second =
          i.second;
      sure = i.sure;
      current = i.current;
      saved = i.saved;
    } in
    let A : FileState g.row.D.Denot → Type 0 = λ x. length c.args.bytes.now ≤ x.area in
    let G : FileState g.row.D.Denot → Type 0 = λ x. Steadily d.medium x now in
    subst G c.self.view_is
    (area_steadily d.medium f c.base_of-base.result (length c.args.bytes.now) c.base_of-base.ensures.exact
    (subst A (sym c.self.view_is) c.requires.fits.1) c.write_area.new.device
    c.in-Err.ensures.writes.long c.in-Err.ensures.steady)

pub returns-in-Err-write_durably-clause-steadily : goal.returns-in-Err-write_durably-clause-steadily
returns-in-Err-write_durably-clause-steadily g c =
    let d = g.D.Device in
    let i = c.self.inside in
    let f : FileState g.row.D.Denot = record {
      device = i.device;
      area = i.area;
      second = i.second;
      sure =
          i.sure;
      current = i.current;
      saved = i.saved;
    } in
    let now : FileState g.row.D.Denot = record {
      device = c.write_durably.new.device;
      area = i.area;
      second =
          i.second;
      sure = false;
      current = i.current;
      saved = i.saved;
    } in
    let A : FileState g.row.D.Denot → Type 0 = λ x. length c.args.bytes.now ≤ x.area in
    let G : FileState g.row.D.Denot → Type 0 = λ x. Steadily d.medium x now in
    subst G c.self.view_is
    (both_steadily d.medium f c.base_of-base.result (length c.args.bytes.now) c.base_of-base.ensures.exact
    (subst A (sym c.self.view_is) c.requires.fits.1) c.write_area.new.device
    c.in-Ok.ensures.writes.long c.in-Ok.ensures.steady c.write_durably.new.device c.in-Err-write_durably.ensures.writes.long
    c.in-Err-write_durably.ensures.steady)

pub returns-in-Ok-write_durably-clause-steadily : goal.returns-in-Ok-write_durably-clause-steadily
returns-in-Ok-write_durably-clause-steadily g c =
    let d = g.D.Device in
    let i = c.self.inside in
    let f : FileState g.row.D.Denot = record {
      device = i.device;
      area = i.area;
      second = i.second;
      sure =
          i.sure;
      current = i.current;
      saved = i.saved;
    } in
    let now : FileState g.row.D.Denot = record {
      device = c.write_durably.new.device;
      area = i.area;
      second =
          not i.second;
      sure = i.sure;
      current = c.go_on.new.current;
      saved = c.go_on.new.saved;
    } in
    let A : FileState g.row.D.Denot → Type 0 = λ x. length c.args.bytes.now ≤ x.area in
    let G : FileState g.row.D.Denot → Type 0 = λ x. Steadily d.medium x now in
    subst G c.self.view_is
    (both_steadily d.medium f c.base_of-base.result (length c.args.bytes.now) c.base_of-base.ensures.exact
    (subst A (sym c.self.view_is) c.requires.fits.1) c.write_area.new.device
    c.in-Ok.ensures.writes.long c.in-Ok.ensures.steady c.write_durably.new.device c.in-Ok-write_durably.ensures.writes.long
    c.in-Ok-write_durably.ensures.steady)
