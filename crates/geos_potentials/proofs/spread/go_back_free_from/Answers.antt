use Rattle.std.proofs.Common.{arith}
use Rattle.geos_potentials.proofs.Growing.{grown-on, stay-on}
use Rattle.geos_potentials.proofs.spread.go_back_free_from.Goals as goal

pub loop-preserved : goal.loop-preserved
loop-preserved c =
    let arcs = c.args.graph.now.arcs in
    let jumps = c.args.jumps.now in record {
      wanted = λ before. c.go_back_free_over.ensures.wanted (c.loop.invariant.wanted before);
      more = grown-on c.args.spread.now c.loop.spread c.go_back_free_over.new.spread c.loop.invariant.more c.go_back_free_over.ensures.more;
      stay = stay-on arcs jumps c.args.spread.now c.loop.spread c.go_back_free_over.new.spread c.loop.invariant.stay
          c.go_back_free_over.ensures.stay;
      work = omega (arith, c.go_back_free_over.ensures.work, c.loop.invariant.work);
    }

pub returns-in_default : goal.returns-in_default
returns-in_default c =
    let inv = c.loop.invariant in record {
      wanted = inv.wanted;
      more = inv.more;
      stay = inv.stay;
      work = inv.work;
    }

pub returns : goal.returns
returns c =
    let inv = c.loop.invariant in record {
      wanted = inv.wanted;
      more = inv.more;
      stay = inv.stay;
      work = inv.work;
    }
