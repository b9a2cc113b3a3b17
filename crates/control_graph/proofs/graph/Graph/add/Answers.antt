use Rattle.std.proofs.Common.{◌≡◌, Bool, true, false, List, [], ◌∷◌, Option, ap, ◌∙◌, arith}
use Rattle.std.specs.Prelude.{if◌then◌else◌}
use Rattle.control_graph.specs.declared.arcs.Arc.{Arc}
use Rattle.control_graph.specs.Arcs.{arc_at}
use Rattle.control_graph.proofs.Edges.{arc-same, arc-other}
use Rattle.control_graph.proofs.graph.Graph.add.Goals as goal

pub returns-clause-here : goal.returns-clause-here
returns-clause-here c = here
  where
    at : (b : Bool) → arc_at c.set.new.self c.args.pc b ≡ arc_at ((c.args.along ∷ c.args.branching ∷ []) ∷ []) 0 b
    at b = ap (λ (arcs : List (List (Option Arc))). arc_at arcs c.args.pc b) c.set.ensures
        ∙ arc-same c.args.self.now.arcs c.args.pc (c.args.along ∷ c.args.branching ∷ []) b (omega (arith, c.lengths.ensures, c.requires))

    here : (branch : Bool) → arc_at c.set.new.self c.args.pc branch ≡ (if branch then c.args.branching else c.args.along)
    here true = at true
    here false = at false

pub returns-clause-others : goal.returns-clause-others
returns-clause-others c = λ at branch ne. ap (λ (arcs : List (List (Option Arc))). arc_at arcs at branch) c.set.ensures
    ∙ arc-other c.args.self.now.arcs c.args.pc at (c.args.along ∷ c.args.branching ∷ []) branch ne
