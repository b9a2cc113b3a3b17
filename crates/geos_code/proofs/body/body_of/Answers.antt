use Rattle.std.proofs.Common.{◌+◌, ap, add-one, arith, rules}
use Rattle.geos_image.proofs.Starts.{start_of-next}
use Rattle.geos_code.proofs.Bodies.{lies}
use Rattle.geos_code.proofs.body.body_of.Goals as goal

pub invariant_of-result : goal.invariant_of-result
invariant_of-result c =
    let image = c.args.image.now in
    let routine = c.routine.result.now in
    let next = start_of-next image.routines c.args.r routine c.routine.ensures in
    record {
      there = c.requires;
      begins = c.start-start.ensures.start;
      ends = rw add-one (rw next (ap (λ n. n + routine.count) c.start-start.ensures.start));
      some = omega (arith, (lies image c.len-legal.ensures.legal c.args.r routine c.routine.ensures).1);
      room = search rules;
      short = c.start-start.ensures.short;
    }
