use Rattle.std.proofs.Common.{length}
use Rattle.geos_flow.proofs.Into.{number-low}
use Rattle.geos_flow.proofs.Steps.{end-inside}
use Rattle.geos_flow.proofs.graph.Graph.next.Goals as goal

pub returns : goal.returns
returns c = λ to ends.
    (let graph = c.args.self.now in
    let image = graph.image.now in
    let into = graph.into in
    rw (c.number_of.ensures) (into.behind c.args.edge to (number-low c.args.edge (length image.points) (end-inside image c.args.edge to ends).0) ends))
