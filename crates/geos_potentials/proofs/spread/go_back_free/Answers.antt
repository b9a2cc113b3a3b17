use Rattle.geos_potentials.proofs.Growing.{grown-on, stay-on}
use Rattle.geos_potentials.proofs.spread.go_back_free.Goals as goal

pub loop-pc-preserved : goal.loop-pc-preserved
loop-pc-preserved c =
    let arcs = c.args.graph.now.arcs in
    let jumps = c.args.jumps.now in record {
      wanted = λ before. c.go_back_free_from.ensures.wanted (c.loop-pc.invariant.wanted before);
      more = grown-on c.args.spread.now c.loop-pc.spread c.go_back_free_from.new.spread c.loop-pc.invariant.more c.go_back_free_from.ensures.more;
      stay = stay-on arcs jumps c.args.spread.now c.loop-pc.spread c.go_back_free_from.new.spread c.loop-pc.invariant.stay
          c.go_back_free_from.ensures.stay;
    }
