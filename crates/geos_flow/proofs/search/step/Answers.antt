use Rattle.std.proofs.Common.{arith}
use Rattle.geos_flow.proofs.Steps.{step-low}
use Rattle.geos_flow.proofs.search.step.Goals as goal

pub note-requires-clause-there : goal.note-requires-clause-there
note-requires-clause-there g c =
    let low = step-low c.args.graph.now.image.now c.args.heading c.args.edge c.args.end c.args.graph.now.short c.requires.ends in
    omega (arith, low, c.step_end-to.ensures)
