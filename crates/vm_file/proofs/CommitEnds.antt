-- How a commit ends: refused before it begins, when what it needs is read, and by its two writes.
use Rattle.std.proofs.Common.{◌≡◌, ◌⊎◌, ◌∙◌, ℕ, ◌≤◌, ◌<◌, true, false, not, List, Option, Result, Ok, Err, refl, ap, sym, subst, inl, inr, ⊎_elim, arith}
use Rattle.std.specs.Prelude.{◌↔◌}
use Rattle.vm_file.specs.declared.commit.How.{How}
use Rattle.vm_file.specs.declared.directory.Directory.{Directory}
use Rattle.vm_file.specs.declared.error.CommitError.{CommitError}
use Rattle.vm_file.specs.declared.error.CommitError.TheVariants.{Unsure, TooBig, Memory, Disk}
use Rattle.vm_file.specs.Committing.{CommitsFile, FindsEither, IsAfter, IsKept, KeepsAfter, MayHaveWritten, NeedsNoRead, Spells, current_after, image_after, kept_after, length_after, saved_after}
use Rattle.vm_file.specs.Contents.{Pair, pair_in, pair_spelling}
use Rattle.vm_file.specs.Device.{FailedOnce, Medium, Passes, Rose}
use Rattle.vm_file.specs.Kept.{Kept}
use Rattle.vm_file.specs.Outcomes.{FindsNoBlock, ReadsOnly}
use Rattle.vm_file.specs.State.{FileState, Finds, IsOther, ReadsFile, Steadily, pair_of}
use Rattle.vm_file.proofs.Kept.{cut_is, finds_same, found_before, kept_alike, kept_sure, kept_torn, same_saved, written_alike, written_nothing, written_on}
use Rattle.vm_file.proofs.Moments.{weaker, goes_on, at_any_moment}
use Rattle.vm_file.proofs.StateLaws.{steadily_read, steadily_then}

-- if nothing happened, the file is unchanged, and so is what it has committed
after_nothing : {D : Type 0} (e : CommitError) (f : FileState D) → IsAfter e f f
after_nothing Unsure f = refl
after_nothing TooBig f = refl
after_nothing Memory f = refl
after_nothing Disk f = refl

keeps_nothing : (e : CommitError) (p : Pair) (k : Kept) → KeepsAfter e p k k
keeps_nothing Unsure p k = refl
keeps_nothing TooBig p k = refl
keeps_nothing Memory p k = refl
keeps_nothing Disk p k = inl refl

module _ {D : Type 0} (medium : Medium D) (how : How) (resident : ℕ → Option (List ℕ)) (cur : Directory) (old : FileState D)
    (finds : medium.honest old.device → (c : List ℕ) → medium.may_leave old.device c → Finds medium.image old c)
    (at_once : (c : List ℕ) → medium.may_have_left old.device old.device c → medium.may_leave old.device c) where
  -- what a stop at any moment leaves, by what it leaves from the start on
  at_any : (new : FileState D) → Passes medium.may_have_left old.device new.device (FindsEither medium.image old new) → medium.honest old.device
      → (c : List ℕ) → medium.may_have_left old.device new.device c → FindsEither medium.image old new c
  at_any new passes h = at_any_moment medium.may_have_left old.device new.device _ passes (λ c here. inl (finds h c (at_once c here)))

  not_begun : (e : CommitError) → (e ≡ Disk → ⊥) → ((let r : Result (Unit {0}) CommitError = Err e in r ≡ Err Unsure) ↔ (old.sure ≡ false))
      → ((let r : Result (Unit {0}) CommitError = Err e in r ≡ Err TooBig) ↔ (old.sure ≡ true) × (old.area < length_after how cur old.saved))
      → CommitsFile medium how resident cur old old (Err e)
  not_begun e other unsure too_big = record {
    unsure = unsure;
    too_big = too_big;
    done = tt;
    refused = after_nothing e old;
    pair = λ h. refl;
    kept = λ h. keeps_nothing e _ _;
    bytes = λ h. tt;
    torn = λ h is. absurd (other (err e is));
    other = λ h sure unsure. absurd cc;
    stopped = λ h c l. inl (finds h c (at_once c l));
    either = λ h s c l. inl l;
    stop = finds;
    stays = λ h. h;
    was = λ h. h;
    ok = tt;
    once = inl refl;
    cause = λ h is. absurd (other (err e is));
    no_block = λ is. absurd (other (err e is));
    no_read = λ h is. absurd (other (err e is));
    steadily = λ steady room. (room, refl);
  }
    where
      err : (e : CommitError) → (let r : Result (Unit {0}) CommitError = Err e in r ≡ Err Disk) → e ≡ Disk
      err e is = cc

  pub unsure_first : old.sure ≡ false → CommitsFile medium how resident cur old old (Err Unsure)
  unsure_first unsure = not_begun Unsure (λ is. absurd cc) ((λ is. unsure), (λ is. refl))
      ((λ is. absurd cc), (λ both. let sure = both.0 in absurd cc))

  module _ (sure : old.sure ≡ true) where
    pub too_big_first : old.area < length_after how cur old.saved → CommitsFile medium how resident cur old old (Err TooBig)
    too_big_first big = not_begun TooBig (λ is. absurd cc) ((λ is. absurd cc), (λ is. absurd cc)) ((λ is. (sure, big)), (λ both. refl))

    module _ (fits : length_after how cur old.saved ≤ old.area) where
      pub memory_first : CommitsFile medium how resident cur old old (Err Memory)
      memory_first = not_begun Memory (λ is. absurd cc) ((λ is. absurd cc), (λ is. absurd cc))
          ((λ is. absurd cc), (λ both. let big = both.1 in absurd (omega arith)))

      -- what the commit needs was read: only the file's device has changed
      module _ (mid : FileState D) {T E : Type 0} (outcome : Result T E) (r : ReadsFile medium old mid outcome) where
        abbrev reads : ReadsOnly medium old.device mid.device
        reads = r.read.only

        abbrev pub after : Pair
        after = kept_after medium.image resident how cur old

        -- `open` then finds what the file had committed
        reads_find : (new : FileState D) → medium.honest old.device → Passes medium.may_have_left old.device mid.device
            (FindsEither medium.image old new)
        reads_find new h = weaker medium.may_have_left old.device mid.device _ _ (λ x l. inl (finds h x l)) (reads.time h)

        pub read_failed : (medium.honest old.device → Rose (medium.failed old.device) (medium.failed mid.device))
            → Rose (medium.failed old.device) (medium.failed mid.device) ⊎ FindsNoBlock medium (IsKept how cur old.saved) old.device mid.device
            → (NeedsNoRead resident how cur old.saved → ⊥) → CommitsFile medium how resident cur old mid (Err Disk)
        read_failed cause no_block no_read = record {
          unsure = ((λ is. absurd cc), (λ is. absurd cc));
          too_big = ((λ is. absurd cc), (λ both. let big = both.1 in absurd (omega arith)));
          done = tt;
          refused = subst (λ (f : FileState D). f ≡ record old { device = f.device; sure = f.sure }) (sym r.same) refl;
          pair = λ h. r.pair;
          kept = λ h. inl (kept_alike medium.image old mid r.same reads.same);
          bytes = λ h. tt;
          torn = λ h is. written_nothing medium.image old mid.sure _ reads.same;
          other = λ h was unsure. (let is = ap (λ (f : FileState D). f.sure) r.same in absurd cc);
          stopped = λ h. at_any mid (reads_find mid h) h;
          either = reads_find mid;
          stop = λ h c l. finds_same medium.image old mid c r.same reads.same (finds h c (reads.stop h c l));
          stays = reads.stays;
          was = reads.was;
          ok = tt;
          once = r.read.once;
          cause = λ h is. cause h;
          no_block = λ is. no_block;
          no_read = λ needs is. absurd (no_read needs);
          steadily = steadily_read medium outcome old mid r;
        }

        -- the two writes: of the area that is not selected, and of the selector
        module _ (new : FileState D) (bytes : List ℕ) (count : medium.failed mid.device ≡ medium.failed old.device)
            (spelled : medium.honest old.device → Spells (current_after how cur old.saved) (saved_after how cur old.saved) after bytes)
            (either : medium.honest mid.device → Passes medium.may_have_left mid.device new.device (FindsEither medium.image mid new))
            (stop : medium.honest mid.device → (c : List ℕ) → medium.may_leave new.device c → Finds medium.image new c)
            (stays : medium.honest mid.device → medium.honest new.device) (was : medium.honest new.device → medium.honest mid.device)
            (once : FailedOnce (medium.failed mid.device) (medium.failed new.device)) (steadily : Steadily medium mid new) where
          cut : medium.honest old.device → pair_in (current_after how cur mid.saved) (saved_after how cur mid.saved) bytes ≡ after
          cut h = cut_is how cur old.saved mid.saved after bytes (same_saved medium.image old mid r.same) (spelled h)

          either_then : medium.honest old.device → Passes medium.may_have_left old.device new.device (FindsEither medium.image old new)
          either_then h = goes_on medium.may_have_left old.device mid.device new.device _ (reads_find new h)
              (weaker medium.may_have_left mid.device new.device _ _
              (λ x l. ⊎_elim (λ was. inl (found_before medium.image old mid x r.same reads.same was)) (λ now. inr now) l) (either (reads.stays h)))

          counted : FailedOnce (medium.failed old.device) (medium.failed new.device)
          counted = subst (λ n. FailedOnce n (medium.failed new.device)) count once

          steadily_on : Steadily medium old new
          steadily_on = steadily_then medium old mid new (steadily_read medium outcome old mid r) steadily

          pub selected : new ≡ (let f : FileState D = record {
            device = new.device;
            area = mid.area;
            second =
                not mid.second;
            sure = true;
            current = current_after how cur mid.saved;
            saved = saved_after how cur mid.saved;
          } in f)
              → (medium.honest mid.device → pair_of medium.image new ≡ pair_in (current_after how cur mid.saved)
              (saved_after how cur mid.saved) bytes)
              → (medium.honest mid.device → medium.image new.device ≡ image_after medium.image bytes mid)
              → medium.failed new.device ≡ medium.failed mid.device → CommitsFile medium how resident cur old new (Ok tt)
          selected done now written ok = record {
            unsure = ((λ is. absurd cc), (λ is. absurd cc));
            too_big = ((λ is. absurd cc), (λ both. let big = both.1 in absurd (omega arith)));
            done = subst (λ (f : FileState D). new ≡ record {
              device = new.device;
              area = f.area;
              second =
                  not f.second;
              sure = true;
              current = current_after how cur f.saved;
              saved = saved_after how cur f.saved;
            }) r.same done;
            refused = tt;
            pair = λ h. now (reads.stays h) ∙ cut h;
            kept = λ h. kept_sure medium.image new _ (ap (λ (f : FileState D). f.sure) done) (now (reads.stays h) ∙ cut h);
            bytes = λ h. subst (λ ws. medium.image new.device ≡ image_after medium.image ws mid) (spelled h).spelled (written (reads.stays h))
                ∙ written_alike medium.image (pair_spelling after) old mid r.same reads.same;
            torn = λ h is. absurd cc;
            other = λ h was unsure. (let is = ap (λ (f : FileState D). f.sure) done in absurd cc);
            stopped = λ h. at_any new (either_then h) h;
            either = either_then;
            stop = λ h. stop (reads.stays h);
            stays = λ h. stays (reads.stays h);
            was = λ h. reads.was (was h);
            ok = ok ∙ count;
            once = counted;
            cause = λ h is. absurd cc;
            no_block = λ is. absurd cc;
            no_read = λ needs is. absurd cc;
            steadily = steadily_on;
          }

          pub not_selected : new ≡ (let f : FileState D = record mid { device = new.device; sure = new.sure } in f)
              → (medium.honest mid.device → pair_of medium.image new ≡ pair_of medium.image mid)
              → (medium.honest mid.device → MayHaveWritten medium.image mid new.sure (medium.image new.device))
              → (medium.honest mid.device → new.sure ≡ false
              → IsOther medium.image new (pair_in (current_after how cur mid.saved) (saved_after how cur mid.saved) bytes))
              → Rose (medium.failed mid.device) (medium.failed new.device) → CommitsFile medium how resident cur old new (Err Disk)
          not_selected left now torn other rose = record {
            unsure = ((λ is. absurd cc), (λ is. absurd cc));
            too_big = ((λ is. absurd cc), (λ both. let big = both.1 in absurd (omega arith)));
            done = tt;
            refused = subst (λ (f : FileState D). new ≡ record f { device = new.device; sure = new.sure }) r.same left;
            pair = λ h. now (reads.stays h) ∙ r.pair;
            kept = λ h. kept_torn medium.image old new after sure (now (reads.stays h) ∙ r.pair) (holds h);
            bytes = λ h. tt;
            torn = λ h is. written_on medium.image old mid new.sure _ r.same reads.same (torn (reads.stays h));
            other = λ h was. holds h;
            stopped = λ h. at_any new (either_then h) h;
            either = either_then;
            stop = λ h. stop (reads.stays h);
            stays = λ h. stays (reads.stays h);
            was = λ h. reads.was (was h);
            ok = tt;
            once = counted;
            cause = λ h is. risen;
            no_block = λ is. inl risen;
            no_read = λ needs is. risen;
            steadily = steadily_on;
          }
            where
              holds : medium.honest old.device → new.sure ≡ false → IsOther medium.image new after
              holds h unsure = other (reads.stays h) unsure ∙ ap (λ p. let r : Result Pair ℕ = Ok p in r) (cut h)

              risen : Rose (medium.failed old.device) (medium.failed new.device)
              risen = subst (λ n. Rose n (medium.failed new.device)) count rose
