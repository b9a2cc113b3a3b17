use Rattle.std.proofs.Common.{false, true, ◌<◌, sym, ◌∙◌, arith, length, ◌≡◌, length-set, Some}
use Rattle.std.proofs.lemmas.List.{get_or-replicate, length-replicate}
use Rattle.geos_image.proofs.Instrs.{image_parts}
use Rattle.geos_listing.specs.Instrs.{target_of}
use Rattle.geos_listing.proofs.MarkLaws.{is_target-none, is_target-some, target_of-below}
use Rattle.geos_listing.proofs.targets.targets_of.Goals.{in-Some, in_default}
use Rattle.geos_listing.proofs.targets.targets_of.Goals as goal

pub loop-pc-init : goal.loop-pc-init
loop-pc-init c = (length-replicate 4096 false, λ pc lt. get_or-replicate 4096 pc false false lt)

pub loop-pc-preserved : goal.loop-pc-preserved
loop-pc-preserved c =
    let points = c.args.image.now.points in
    let i = c.instr.result.now in
    let within : c.loop-pc.pc < length points = omega (arith, c.loop-pc-test.true, c.len-pc-end.ensures.len) in
    elim c.match-target_of.branch [
      | in-Some w ↦
          let leads : Some w.in-Some.target ≡ target_of i = sym w.in-Some.is ∙ c.target_of.ensures in
          let below : w.in-Some.target < length points = target_of-below (length points) i w.in-Some.target leads c.instr.ensures.target in
          let room : w.in-Some.target < length c.loop-pc.targets =
          omega (arith, below, (image_parts c.args.image.now c.len-pc-end.ensures.legal).short, c.loop-pc.invariant.0) in
          rw (w.targets-is, w.from.ensures) (
            length-set c.loop-pc.targets w.in-Some.target true ∙ c.loop-pc.invariant.0,
            λ pc lt. is_target-some points c.loop-pc.pc pc i w.in-Some.target c.loop-pc.targets within c.instr.ensures.there
                leads room (c.loop-pc.invariant.1 pc lt),
          )
      | in_default w ↦
          rw w.targets-is (
            c.loop-pc.invariant.0,
            λ pc lt. is_target-none points c.loop-pc.pc pc i _ within c.instr.ensures.there (sym w.in_default.is
                ∙ c.target_of.ensures) (c.loop-pc.invariant.1 pc lt),
          )
    ]
