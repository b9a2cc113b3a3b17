use Rattle.geos_potentials.proofs.Spreading.{from-come, filled-none}
use Rattle.geos_potentials.proofs.classes.note_unset.Goals as goal

pub returns : goal.returns
returns c =
    let start = c.args.body.now.start in
    from-come c.args.graph.now.arcs start start c.fill_from.new.self c.raise.new.spread c.go_on.new.spread _
    (filled-none start c.fill_from.new.self c.lengths.ensures c.fill_from.ensures.same) c.raise.ensures.raised c.go_on.ensures
