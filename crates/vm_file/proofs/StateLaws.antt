-- Open files: what `open` finds, and where blocks lie.
use Rattle.std.proofs.Common.{◌≡◌, ℕ, ◌<◌, Bool, true, false, not, cond, List, length, take, get_or, Result, Ok, Err, refl, ap, sym, ◌∙◌, subst, arith}
use Rattle.std.specs.Prelude.{IsOkAnd, MatchBool}
use Rattle.std.proofs.Math.Dec.{ltb}
use borrow.Author.Tests.{ltb-true}
use Rattle.vm_file.specs.declared.opened.Opened.{Opened}
use Rattle.vm_file.specs.Contents.{Pair, pair_in}
use Rattle.vm_file.specs.Device.{Medium, Only, Touched}
use Rattle.vm_file.specs.Noting.{Rests}
use Rattle.vm_file.specs.Outcomes.{ReadsOnly, ReadsToFailure}
use Rattle.vm_file.specs.Opening.{IsOpened, listed_file}
use Rattle.vm_file.specs.Reading.{◌>>=◌, header_at, selector_at, pair_at, file_at, File, is_second, base_of, area_of}
use Rattle.vm_file.specs.State.{FileState, IsOther, IsSound, Leaves, ReadsFile, Steadily, file_of}
use Rattle.geos_terms.proofs.HeapTests.{lt-ltb}
use Rattle.vm_file.proofs.Moments.{reads_on}
use Rattle.vm_file.proofs.ReadLaws.{after, cond_ok, ok_is, pair_ok}
use Rattle.vm_file.proofs.SpellLaws.{goes}
use Rattle.vm_file.proofs.Touches.{touched_not}

-- the parts of a file that was read
pub record FileParts (image : List ℕ) (f : File) : Type 0 where
  pub header : header_at (take 512 image) ≡ Ok f.area
  pub long : 512 < length image
  pub selector : is_second (get_or image 512 0) ≡ f.second
  pub pair : pair_at (base_of f.area f.second) (area_of image f.area f.second) ≡ Ok f.pair

pub file_parts : (image : List ℕ) (f : File) → file_at image ≡ Ok f → FileParts image f
unfolding file_at
file_parts image f is =
    after (header_at (take 512 image)) _ f is (λ area a_is rest.
    after (selector_at image) _ f rest (λ s s_is rest2.
    after (pair_at (base_of area (is_second s)) (area_of image area (is_second s))) _ f rest2 (λ p p_is rest3.
    let made : File = record { area = area; second = is_second s; pair = p } in
    let same : made ≡ f = ok_is made f rest3 in
    let sel = cond_ok (ltb 512 (length image)) 512 (get_or image 512 0) s s_is in
    let P : File → Type 0 = λ x. FileParts image x in
    subst P same (record { header = a_is; long = ltb-true _ _ sel.0; selector = ap is_second sel.1; pair = p_is }))))

-- and from its parts it is read
pub file_from : (image : List ℕ) (f : File) → FileParts image f → file_at image ≡ Ok f
unfolding file_at
file_from image f parts =
    let sel : selector_at image ≡ Ok (get_or image 512 0) = ap (λ t. cond t (Ok (get_or image 512 0)) (Err 512)) (lt-ltb _ _ parts.long) in
    goes _ f.area _ _ parts.header (goes _ (get_or image 512 0) _ _ sel
    (ap (λ b. pair_at (base_of f.area b) (area_of image f.area b) >>= λ p. Ok (let x : File = record { area = f.area; second = b; pair = p } in x))
    parts.selector
    ∙ goes _ f.pair _ _ parts.pair refl))

-- what was read is the pair that is cut from the area
pub opened_is : (image : List ℕ) (o : Opened) → IsOkAnd (file_at image) (λ y. listed_file y ≡ o) →
    file_at image ≡ Ok (let f : File = record {
      area = o.area;
      second = o.second;
      pair = pair_in o.current o.saved
          (area_of image o.area o.second);
    } in f)
opened_is image o read = by (file_at image) refl read
  where
    by : (r : Result File ℕ) → file_at image ≡ r → IsOkAnd r (λ y. listed_file y ≡ o)
        → file_at image ≡ Ok (let f : File = record {
          area = o.area;
          second = o.second;
          pair = pair_in o.current o.saved
              (area_of image o.area o.second);
        } in f)
    by (Err f) is h = absurd h
    by (Ok f) is h =
        let parts = file_parts image f is in
        let legal = pair_ok (base_of f.area f.second) (area_of image f.area f.second) f.pair parts.pair in
        is ∙ ap (λ p. let x : File = record { area = f.area; second = f.second; pair = p } in let r : Result File ℕ = Ok x in r) (sym legal.there)
        ∙ ap (λ (y : Opened). let x : File =
        record { area = y.area; second = y.second; pair = pair_in y.current y.saved (area_of image y.area y.second) } in
        let r : Result File ℕ = Ok x in r) h

module _ {D : Type 0} (medium : Medium D) where
  -- a file that was opened
  abbrev pub opened : D → Opened → FileState D
  opened d o = record { device = d; area = o.area; second = o.second; sure = true; current = o.current; saved = o.saved }

  pub opens : (old new : D) (o : Opened) → medium.image new ≡ medium.image old → IsOkAnd (file_at (medium.image old)) (λ y. listed_file y ≡ o)
      → file_at (medium.image old) ≡ Ok (file_of medium.image (opened new o))
  opens old new o same read =
      opened_is (medium.image old) o read
      ∙ ap (λ xs. let x : File = record { area = o.area; second = o.second; pair = pair_in o.current o.saved (area_of xs o.area o.second) } in
      let r : Result File ℕ = Ok x in r) (sym same)

  pub opens_sound : (old new : D) (o : Opened) → ReadsOnly medium old new
      → (medium.honest old → IsOkAnd (file_at (medium.image old)) (λ y. listed_file y ≡ o)) → IsOpened o (length (medium.image old)) →
      (medium.honest old → Only (medium.image new) (medium.may_leave new)) → IsSound medium (opened new o)
  opens_sound old new o reads read legal durable = record {
    area = legal.area;
    current = legal.current;
    saved = legal.saved;
    fits = legal.fits;
    within = (let n = ap length reads.same in omega (arith, legal.within, n));
    holds = (λ h.
        let was = reads.was h in
        let is = ap file_at reads.same ∙ opens old new o reads.same (read was) in
        let parts = file_parts (medium.image new) (file_of medium.image (opened new o)) is in
        record {
          long = parts.long;
          header = parts.header;
          pair = parts.pair;
          leaves = (
            parts.selector,
            (λ c l. subst (Touched (base_of o.area (not o.second)) o.area (medium.image new))
                (sym (durable was c l)) (touched_not _ _ (medium.image new))),
          );
        });
  }

  -- a file on whose device nothing was written is sound
  module _ (f : FileState D) (new : D) (sound : IsSound medium f) (reads : Rests medium f.device new) where
    abbrev read_on : FileState D
    read_on = record { device = new; area = f.area; second = f.second; sure = f.sure; current = f.current; saved = f.saved }

    read_leaves : medium.honest f.device → Leaves medium f → Leaves medium read_on
    read_leaves h = by f.sure
      where
        by : (b : Bool) → MatchBool b ((is_second (get_or (medium.image f.device) 512 0) ≡ f.second)
            × ((c : List ℕ) → medium.may_leave f.device c → Touched (base_of f.area (not f.second)) f.area (medium.image f.device) c))
            (((q : Pair) × IsOther medium.image f q) × ((c : List ℕ) → medium.may_leave f.device c → Touched 512 1 (medium.image f.device) c)) →
            MatchBool b ((is_second (get_or (medium.image new) 512 0) ≡ f.second)
            × ((c : List ℕ) → medium.may_leave new c → Touched (base_of f.area (not f.second)) f.area (medium.image new) c))
            (((q : Pair) × IsOther medium.image read_on q) × ((c : List ℕ) → medium.may_leave new c → Touched 512 1 (medium.image new) c))
        by true s = (
          ap (λ xs. is_second (get_or xs 512 0)) reads.same
              ∙ s.0,
          (λ c l. subst (λ xs. Touched (base_of f.area (not f.second)) f.area xs c) (sym reads.same) (s.1 c (reads.stop h c l))),
        )
        by false s = (
          (s.0.0, ap (λ xs. pair_at (base_of f.area (not f.second)) (area_of xs f.area (not f.second))) reads.same ∙ s.0.1),
          (λ c l. subst (λ xs. Touched 512 1 xs c) (sym reads.same) (s.1 c (reads.stop h c l))),
        )

    pub rests_sound : IsSound medium read_on
    rests_sound = record {
      area = sound.area;
      current = sound.current;
      saved = sound.saved;
      fits = sound.fits;
      within = (let n = ap length reads.same in let within = sound.within in omega (arith, within, n));
      holds = (λ h.
          let was = sound.holds (reads.was h) in
          let cut = λ (xs : List ℕ). pair_in f.current f.saved (area_of xs f.area f.second) in
          record {
            long = (let n = ap length reads.same in let long = was.long in omega (arith, long, n));
            header = ap (λ xs. header_at (take 512 xs)) reads.same ∙ was.header;
            pair = ap (λ xs. pair_at (base_of f.area f.second) (area_of xs f.area f.second)) reads.same ∙ was.pair
                ∙ ap (λ xs. let r : Result Pair ℕ = Ok (cut xs) in r) (sym reads.same);
            leaves = read_leaves (reads.was h) was.leaves;
          });
    }

  -- and so is one whose device was only read
  pub read_sound : (f : FileState D) (new : D) → IsSound medium f → ReadsOnly medium f.device new
      → IsSound medium (let g : FileState D = record { device = new; area = f.area; second = f.second; sure = f.sure; current = f.current; saved = f.saved } in g)
  read_sound f new sound reads = rests_sound f new sound (record { same = reads.same; stays = reads.stays; was = reads.was; stop = reads.stop })

  -- a file after a call that read the device, and after one more such call
  module _ {T E : Type 0} (result : Result T E) where
    pub read_file : (f old : FileState D) (new : D) → f ≡ old → ReadsToFailure medium f.device new result →
        ReadsFile medium old (let g : FileState D = record {
          device = new;
          area = f.area;
          second = f.second;
          sure =
              f.sure;
          current = f.current;
          saved = f.saved;
        } in g) result
    read_file f old new same read =
        subst (λ (g : FileState D). ReadsFile medium g
        (let x : FileState D = record { device = new; area = f.area; second = f.second; sure = f.sure; current = f.current; saved = f.saved } in x)
        result) same (record {
          same = refl;
          pair = ap (λ xs. pair_in f.current f.saved (area_of xs f.area f.second)) read.only.same;
          read = read;
        })

    pub file_on : (a b c : FileState D) {X : Type 0} (x : X) → ReadsFile {E = E} medium a b (Ok x) → ReadsFile medium b c result
        → ReadsFile medium a c result
    file_on a b c x one two = record {
      same = two.same ∙ ap (λ (g : FileState D). let f : FileState D =
          record { device = c.device; area = g.area; second = g.second; sure = g.sure; current = g.current; saved = g.saved } in f) one.same;
      pair = two.pair ∙ one.pair;
      read = reads_on medium a.device b.device c.device result one.read.only one.read.ok two.read;
    }

    -- where it read within the device's length, and so failed at none
    pub steadily_read : (a b : FileState D) → ReadsFile medium a b result → Steadily medium a b
    steadily_read a b r steady room = (
      (let area = ap (λ (g : FileState D). g.area) r.same in let long = ap length r.read.only.same in omega (arith, room, area, long)),
      r.read.steady steady,
    )

  -- no call failed over two of its states, nor over the next two
  pub steadily_then : (a b c : FileState D) → Steadily medium a b → Steadily medium b c → Steadily medium a c
  steadily_then a b c one two steady room = (let first = one steady room in let then = two steady first.0 in (then.0, then.1 ∙ first.1))
