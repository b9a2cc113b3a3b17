use Rattle.std.proofs.Common.{◌≡◌, ℕ, ◌+◌, false, suc, length-set, refl, sym, ap, ◌∙◌, arith}
use Rattle.std.specs.Prelude.{◌&&◌, slice_index_or}
use Rattle.std.proofs.lemmas.List.{length-replicate}
use Rattle.geos_image.specs.Repeats.{is_repeat, flag_before}
use Rattle.geos_image.proofs.KeyLaws.{bit-small}
use Rattle.geos_image.proofs.RepeatLaws.{before-more, noted-more}
use Rattle.geos_image.proofs.keys.repeats_of.Goals as goal
use Rattle.geos_image.proofs.keys.repeats_of.Goals.{then-before, else-before, then-flags-pc, else-flags-pc}

pub loop-pc-preserved : goal.loop-pc-preserved
loop-pc-preserved c =
    let flags = c.args.flags.now in
    let alike = c.args.alike.now in
    let pc = c.loop-pc.pc in
    let flag = slice_index_or flags pc false in
    let bit = c.flag_bit.ensures in
    let small = bit-small flag in
    let more : pc + 1 ≡ suc pc = omega arith in
    let count = before-more flags pc in
    let value : c.if-before.value ≡ (flag_before flags pc && flag) = elim c.if-before.branch [
      | then-before w ↦ rw (sym c.loop-pc.invariant.2 ∙ w.if-before.true) w.value-is
      | else-before w ↦ rw (sym c.loop-pc.invariant.2 ∙ w.if-before.false) (w.value-is ∙ w.if-before.false)
    ] in
    let known : c.if-flags-pc.repeats ≡ is_repeat flags alike pc = elim c.if-flags-pc.branch [
      | then-flags-pc w ↦ rw (sym value ∙ w.if-flags-pc.true) (w.repeats-is ∙ ap (λ (k : ℕ). slice_index_or alike k false) c.loop-pc.invariant.1)
      | else-flags-pc w ↦ rw (sym value ∙ w.if-flags-pc.false) (w.repeats-is ∙ w.if-flags-pc.false)
    ] in (
      omega (arith, bit, small, c.loop-pc.invariant.0),
      rw more (omega (arith, bit, count, c.loop-pc.invariant.1)),
      rw more refl,
      length-set c.loop-pc.repeats pc c.if-flags-pc.repeats ∙ c.loop-pc.invariant.3,
      noted-more flags alike c.loop-pc.repeats pc c.if-flags-pc.repeats
          (omega (arith, c.loop-pc.invariant.3, c.loop-pc-test.true, c.requires)) known c.loop-pc.invariant.4,
    )

pub loop-pc-init : goal.loop-pc-init
loop-pc-init c = (omega arith, refl, refl, rw c.no_flags-repeats.ensures (length-replicate 4096 false), λ pc lt. absurd (omega (arith, lt)))
