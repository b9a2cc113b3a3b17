-- The pair that a commit keeps.
use Rattle.std.proofs.Common.{◌≡◌, ◌⊎◌, ◌≤◌, ℕ, Bool, true, false, cond, not, List, [], ◌∷◌, Ok, refl, ap, sym, ◌∙◌, subst, inl, inr, arith}
use Rattle.std.specs.Prelude.{MatchBool}
use Rattle.lmem_raw.specs.Bytes.{with_part}
use Rattle.vm_file.specs.declared.commit.How.{How}
use Rattle.vm_file.specs.declared.directory.Directory.{Directory}
use Rattle.vm_file.specs.declared.error.CommitError.TheVariants.{Disk}
use Rattle.vm_file.specs.Committing.{KeepsAfter, MayHaveWritten, Spells, current_after, image_after, saved_after}
use Rattle.vm_file.specs.Contents.{Pair, pair_in}
use Rattle.vm_file.specs.Device.{AfterWrite, Medium, Passes, Touched}
use Rattle.vm_file.specs.Kept.{SureOf, UnsureBetween, kept_of, or_empty, other_pair}
use Rattle.vm_file.specs.Outcomes.{ReadsOnly}
use Rattle.vm_file.specs.Reading.{area_of, base_of, found, pair_at}
use Rattle.vm_file.specs.Spelling.{selector_of}
use Rattle.vm_file.specs.State.{FileState, Finds, IsOther, IsSound, pair_of}
use Rattle.vm_file.proofs.CommitLaws.{pair_whole}
use Rattle.vm_file.proofs.Moments.{weaker, at_any_moment}
use Rattle.vm_file.proofs.StopLaws.{finds}
use Rattle.vm_file.proofs.Touches.{touched_more, touched_not}

module _ {D : Type 0} (medium : Medium D) (f old : FileState D) (same : f ≡ old) (sound : IsSound medium f) where
  -- what a stop before a call leaves
  pub finds_before : medium.honest old.device → (c : List ℕ) → medium.may_leave old.device c → Finds medium.image old c
  finds_before = (let G : FileState D → Type 0 = λ g. medium.honest g.device → (c : List ℕ) → medium.may_leave g.device c
      → Finds medium.image g c in subst G same (λ h c l. finds medium f (sound.holds h) c l))

  -- and one during and after calls that only read
  module _ (new : D) (reads : ReadsOnly medium f.device new) where
    pub finds_during : medium.honest old.device → Passes medium.may_have_left old.device new (Finds medium.image old)
    finds_during = subst (λ (g : FileState D). medium.honest g.device → Passes medium.may_have_left g.device new (Finds medium.image g)) same
        (λ h. weaker medium.may_have_left f.device new _ _ (finds medium f (sound.holds h)) (reads.time h))

    pub finds_after : medium.honest old.device → (c : List ℕ) → medium.may_leave new c → Finds medium.image old c
    finds_after = subst (λ (g : FileState D). medium.honest g.device → (c : List ℕ) → medium.may_leave new c
        → Finds medium.image g c) same (λ h c l. finds medium f (sound.holds h) c (reads.stop h c l))

    pub finds_at_stop : ((c : List ℕ) → medium.may_have_left old.device old.device c → medium.may_leave old.device c)
        → medium.honest old.device → (c : List ℕ) → medium.may_have_left old.device new c → Finds medium.image old c
    finds_at_stop at_once h = at_any_moment medium.may_have_left old.device new _ (finds_during h) (λ c l. finds_before h c (at_once c l))

-- cut from its bytes, where the saved directory is the same
pub cut_is : (how : How) (cur saved mid : Directory) (q : Pair) (bytes : List ℕ) → mid ≡ saved
    → Spells (current_after how cur saved) (saved_after how cur saved) q bytes →
    pair_in (current_after how cur mid) (saved_after how cur mid) bytes ≡ q
cut_is how cur saved mid q bytes same spells =
    ap (λ s. pair_in (current_after how cur s) (saved_after how cur s) bytes) same
    ∙ pair_whole (current_after how cur saved) (saved_after how cur saved) q bytes spells

pub cut_spells : (how : How) (cur saved mid : Directory) (q : Pair) (bytes : List ℕ) → mid ≡ saved
    → Spells (current_after how cur saved) (saved_after how cur saved) q bytes →
    Spells (current_after how cur mid) (saved_after how cur mid) (pair_in (current_after how cur mid) (saved_after how cur mid) bytes) bytes
cut_spells how cur saved mid q bytes same spells =
    let P : Directory → Type 0 = λ s. Spells (current_after how cur s) (saved_after how cur s) q bytes in
    let Q : Pair → Type 0 = λ p. Spells (current_after how cur mid) (saved_after how cur mid) p bytes in
    subst Q (sym (cut_is how cur saved mid q bytes same spells)) (subst P (sym same) spells)

module _ {D : Type 0} (image : D → List ℕ) where
  -- the same is found of a file whose device gives the same
  pub finds_same : (f m : FileState D) (c : List ℕ)
      → m ≡ (let g : FileState D = record {
        device = m.device;
        area = f.area;
        second = f.second;
        sure = f.sure;
        current =
            f.current;
        saved = f.saved;
      } in g) →
      image m.device ≡ image f.device → Finds image f c → Finds image m c
  finds_same f m c same alike found_it =
      let P : FileState D → Type 0 = λ g. Finds image g c in
      let Q : List ℕ → Type 0 = λ xs. MatchBool f.sure
      (found c ≡ Ok (pair_in f.current f.saved (area_of xs f.area f.second)))
      ((found c ≡ Ok (pair_in f.current f.saved (area_of xs f.area f.second)))
      ⊎ ((q : Pair) × (pair_at (base_of f.area (not f.second)) (area_of xs f.area (not f.second)) ≡ Ok q) × (found c ≡ Ok q))) in
      subst P (sym same) (subst Q (sym alike) found_it)

  -- the converse
  pub found_before : (f m : FileState D) (c : List ℕ)
      → m ≡ (let g : FileState D = record {
        device = m.device;
        area = f.area;
        second = f.second;
        sure = f.sure;
        current =
            f.current;
        saved = f.saved;
      } in g) →
      image m.device ≡ image f.device → Finds image m c → Finds image f c
  found_before f m c same alike found_it =
      let P : FileState D → Type 0 = λ g. Finds image g c in
      let Q : List ℕ → Type 0 = λ xs. MatchBool f.sure
      (found c ≡ Ok (pair_in f.current f.saved (area_of xs f.area f.second)))
      ((found c ≡ Ok (pair_in f.current f.saved (area_of xs f.area f.second)))
      ⊎ ((q : Pair) × (pair_at (base_of f.area (not f.second)) (area_of xs f.area (not f.second)) ≡ Ok q) × (found c ≡ Ok q))) in
      subst Q alike (subst P same found_it)

  -- it has the same saved directory
  pub same_saved : (f m : FileState D)
      → m ≡ (let g : FileState D = record {
        device = m.device;
        area = f.area;
        second = f.second;
        sure = f.sure;
        current =
            f.current;
        saved = f.saved;
      } in g) → m.saved ≡ f.saved
  same_saved f m same = ap (λ g. g.saved) same

  -- and a commit writes the same on it
  pub written_alike : (bytes : List ℕ) (f m : FileState D)
      → m ≡ (let g : FileState D = record {
        device = m.device;
        area = f.area;
        second = f.second;
        sure = f.sure;
        current =
            f.current;
        saved = f.saved;
      } in g) →
      image m.device ≡ image f.device → image_after image bytes m ≡ image_after image bytes f
  written_alike bytes f m same alike =
      ap (image_after image bytes) same
      ∙ ap (λ xs. with_part (with_part xs (base_of f.area (not f.second)) bytes) 512 (selector_of (not f.second) ∷ [])) alike

  -- what may differ after nothing, one or both of the writes of a commit
  pub written_both : (f : FileState D) (mid c : List ℕ) (n : ℕ) → n ≤ f.area → Touched (base_of f.area (not f.second)) n (image f.device) mid
      → Touched 512 1 mid c → MayHaveWritten image f false c
  written_both f mid c n small area selector = (mid, (image f.device, refl, touched_more _ n f.area (image f.device) mid small area), selector)

  pub written_area : (f : FileState D) (sure : Bool) (c : List ℕ) (n : ℕ) → n ≤ f.area
      → Touched (base_of f.area (not f.second)) n (image f.device) c → MayHaveWritten image f sure c
  written_area f true c n small area = touched_more _ n f.area (image f.device) c small area
  written_area f false c n small area = written_both f c c n small area (touched_not 512 1 c)

  pub written_nothing : (f : FileState D) (sure : Bool) (c : List ℕ) → c ≡ image f.device → MayHaveWritten image f sure c
  written_nothing f sure c same = written_area f sure c f.area (omega arith)
      (subst (Touched (base_of f.area (not f.second)) f.area (image f.device)) (sym same) (touched_not _ _ _))

  pub written_on : (f m : FileState D) (sure : Bool) (c : List ℕ)
      → m ≡ (let g : FileState D = record {
        device = m.device;
        area = f.area;
        second = f.second;
        sure = f.sure;
        current =
            f.current;
        saved = f.saved;
      } in g) →
      image m.device ≡ image f.device → MayHaveWritten image m sure c → MayHaveWritten image f sure c
  written_on f m sure c same alike written =
      let P : FileState D → Type 0 = λ g. MayHaveWritten image g sure c in
      let Q : List ℕ → Type 0 = λ xs. MatchBool sure
      (Touched (base_of f.area (not f.second)) f.area xs c)
      (AfterWrite 512 1 (AfterWrite (base_of f.area (not f.second)) f.area (λ d. d ≡ xs)) c) in
      subst Q alike (subst P same written)

  -- the same holds for what the file has committed
  pub kept_alike : (f m : FileState D)
      → m ≡ (let g : FileState D = record {
        device = m.device;
        area = f.area;
        second = f.second;
        sure = f.sure;
        current =
            f.current;
        saved = f.saved;
      } in g) →
      image m.device ≡ image f.device → kept_of image m ≡ kept_of image f
  kept_alike f m same alike =
      ap (kept_of image) same
      ∙ ap (λ xs. cond f.sure (SureOf (pair_in f.current f.saved (area_of xs f.area f.second)))
      (UnsureBetween (pair_in f.current f.saved (area_of xs f.area f.second))
      (or_empty (pair_at (base_of f.area (not f.second)) (area_of xs f.area (not f.second)))))) alike

  pub kept_sure : (f : FileState D) (p : Pair) → f.sure ≡ true → pair_of image f ≡ p → kept_of image f ≡ SureOf p
  kept_sure f p sure is = ap (λ b. cond b (SureOf (pair_of image f)) (UnsureBetween (pair_of image f) (other_pair image f))) sure ∙ ap SureOf is

  pub kept_unsure : (f : FileState D) (p q : Pair) → f.sure ≡ false → pair_of image f ≡ p → IsOther image f q → kept_of image f ≡ UnsureBetween p q
  kept_unsure f p q unsure is other =
      ap (λ b. cond b (SureOf (pair_of image f)) (UnsureBetween (pair_of image f) (other_pair image f))) unsure
      ∙ ap (λ x. UnsureBetween x (other_pair image f)) is ∙ ap (λ r. UnsureBetween p (or_empty r)) other

  -- a sure file after a commit of which the device failed
  pub kept_torn : (f m : FileState D) (q : Pair) → f.sure ≡ true → pair_of image m ≡ pair_of image f
      → (m.sure ≡ false → IsOther image m q) → KeepsAfter Disk q (kept_of image f) (kept_of image m)
  kept_torn f m q sure is other = by m.sure refl
    where
      by : (b : Bool) → m.sure ≡ b → KeepsAfter Disk q (kept_of image f) (kept_of image m)
      by true e = inl (kept_sure m (pair_of image f) e is ∙ sym (kept_sure f (pair_of image f) sure refl))
      by false e = inr (pair_of image f, kept_sure f (pair_of image f) sure refl, kept_unsure m (pair_of image f) q e is (other e))
