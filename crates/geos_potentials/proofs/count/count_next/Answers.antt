use Rattle.std.proofs.Common.{◌≡◌, ◌+◌, Bool, false, Option, None, refl, sym, ap, ◌∙◌, subst}
use Rattle.std.specs.Prelude.{is_none, IfSome}
use Rattle.std.proofs.lemmas.Bool.{false≢true}
use Rattle.std.proofs.lemmas.Option.{none-some}
use Rattle.geos_image.specs.Parts.{Parts}
use Rattle.geos_potentials.specs.Count.{CountsOn}
use Rattle.geos_potentials.specs.Numbers.{numbers_of}
use Rattle.geos_potentials.specs.Reasons.{IsReason}
use Rattle.geos_counters.specs.Touching.{NotesTouched}
use Rattle.geos_potentials.specs.declared.count.Tables.{Tables}
use Rattle.geos_potentials.specs.declared.reason.Reason.{Reason}
use Rattle.geos_potentials.proofs.Counts.{counts-in, are_counted-more}
use Rattle.geos_potentials.proofs.Staying.{least-more, stays-in, least-in, reason-in, not-some}
use Rattle.geos_potentials.proofs.count.count_next.Goals as goal

pub count_in-requires : goal.count_in-requires
count_in-requires c = subst (λ (image : Parts). IfSome c.args.tables.now (λ (tables : Tables). NotesTouched image tables.touched))
    (sym c.body_of.ensures.image) c.requires.touched

pub returns-in-Some : goal.returns-in-Some
returns-in-Some c = λ count lt before.
    let image = c.args.image.now in
    let r = c.args.r in
    let body = c.body_of.result in
    let found = c.in_ok-found.found in
    let counts = c.in_ok-found.ensures in
    let numbers = numbers_of c.args.potentials.now in
    let next = numbers_of c.count_in.new.potentials in
    let on = counts-in image body.image.now body.r r numbers next (is_none found)
    c.body_of.ensures.image c.body_of.ensures.r counts.counts in
    let undone : is_none found ≡ false = ap is_none c.in-Some.is in record {
      counted = λ want all q from less. (let this = all r lt in absurd (false≢true (sym undone ∙ (on want this.0 this.1).0)));
      within = rw c.replace.ensures.after lt;
      none = rw c.replace.ensures.after (λ want forward holds. false≢true (sym undone ∙ (on want forward holds).0));
      reason = rw c.replace.ensures.after (reason-in image body.image.now body.r r c.args.known.now c.in-Some.reason
          c.body_of.ensures.image c.body_of.ensures.r
          (subst (λ (o : Option Reason). IfSome o (IsReason body.image.now body.r c.args.known.now)) c.in-Some.is counts.reason));
      least = λ empty. absurd (none-some _ (sym empty ∙ c.replace.ensures.after));
      touched = subst (λ (x : Parts). IfSome c.count_in.new.made (λ (it : Tables). NotesTouched x it.touched)) c.body_of.ensures.image
          counts.touched;
    }

pub returns-in_default : goal.returns-in_default
returns-in_default c = λ count lt before.
    let image = c.args.image.now in
    let r = c.args.r in
    let body = c.body_of.result in
    let numbers = numbers_of c.args.potentials.now in
    let next = numbers_of c.count_in.new.potentials in
    let found = c.in_ok-found.found in
    let counts = c.in_ok-found.ensures in
    let on = counts-in image body.image.now body.r r numbers next (is_none found) c.body_of.ensures.image c.body_of.ensures.r
    counts.counts in
    let empty : found ≡ None = not-some found c.in_default.not-Some in record {
      counted = are_counted-more image r (r + 1) count numbers next refl lt before.counted
          (subst (λ (b : Bool). CountsOn image r numbers next b) (ap is_none empty) on);
      within = before.within;
      none = before.none;
      reason = before.reason;
      least = λ left.
          least-more image r (r + 1) count c.args.known.now numbers next refl
          (stays-in image body.image.now body.r r numbers next c.body_of.ensures.image c.body_of.ensures.r counts.stays)
          (before.least left)
          (least-in image body.image.now body.r r c.args.known.now next c.body_of.ensures.image c.body_of.ensures.r
          (counts.least empty));
      touched = subst (λ (x : Parts). IfSome c.count_in.new.made (λ (it : Tables). NotesTouched x it.touched)) c.body_of.ensures.image
          counts.touched;
    }
