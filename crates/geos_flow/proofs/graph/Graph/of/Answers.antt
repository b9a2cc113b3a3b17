use Rattle.std.proofs.Common.{◌≡◌, ◌*◌, replicate, None, length, subst, arith}
use Rattle.geos_image.proofs.Instrs.{image_parts}
use Rattle.geos_flow.specs.Graphs.{AreInto}
use Rattle.geos_flow.proofs.Into.{into-none, replicate-at}
use Rattle.geos_flow.proofs.graph.Graph.of.Goals as goal

pub loop-from-init : goal.loop-from-init
loop-from-init c = into-none c.before.args.image.now (replicate 4096 None) (replicate 8192 None) (λ k. replicate-at None 4096 k)

pub invariant_of-result : goal.invariant_of-result
invariant_of-result c =
    let image = c.args.image.now in
    let parts = image_parts image c.len-from-end.ensures.legal in
    let all : c.loop-from.from ≡ length image.points = omega (arith, c.loop-from-test.false, c.len-from-end.ensures.len) in
    record {
      short = parts.short;
      into = subst (λ n. AreInto image (2 * n) c.loop-from.first c.loop-from.behind) all c.loop-from.invariant;
    }
