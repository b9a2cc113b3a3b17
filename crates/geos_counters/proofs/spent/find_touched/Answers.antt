use Rattle.std.proofs.Common.{◌≡◌, ◌<◌, ℕ, length, refl, subst, arith, add-one, ◌∙◌}
use Rattle.std.proofs.lemmas.List.{length-set}
use Rattle.geos_image.proofs.Instrs.{image_parts}
use Rattle.geos_counters.proofs.Noting.{NotesWithin, NotesOwnBelow, notes-blank, notes-step, own-step}
use Rattle.geos_counters.proofs.spent.find_touched.Goals as goal

pub loop-r-init : goal.loop-r-init
loop-r-init c = (notes-blank c.args.image.now 32, refl, λ k r few lt. absurd (omega (arith, lt)))

pub loop-r-preserved : goal.loop-r-preserved
loop-r-preserved c =
    let image = c.args.image.now in
    let few = (image_parts image c.count-r-end.ensures.legal).few in
    let within : c.loop-r.r < length c.loop-r.table = omega (arith, c.loop-r-test.true, c.count-r-end.ensures.count, few, c.loop-r.invariant.1) in
    let step = notes-step image c.loop-r.table c.loop-r.r c.touched_in.result within c.touched_in.ensures c.loop-r.invariant.0 in
    let own = own-step image c.loop-r.table c.loop-r.r c.touched_in.result within c.touched_in.ensures c.loop-r.invariant.2 in (
      rw (c.from.ensures, add-one) step,
      length-set c.loop-r.table c.from.result c.touched_in.result ∙ c.loop-r.invariant.1,
      rw (c.from.ensures, add-one) own,
    )

pub returns : goal.returns
returns c =
    let at : c.loop-r.r ≡ length c.args.image.now.routines = omega (arith, c.loop-r-test.false, c.count-r-end.ensures.count) in
    record {
      only = subst (λ (n : ℕ). NotesWithin c.args.image.now c.loop-r.table n) at c.loop-r.invariant.0;
      own = subst (λ (n : ℕ). NotesOwnBelow c.args.image.now c.loop-r.table n) at c.loop-r.invariant.2;
    }
