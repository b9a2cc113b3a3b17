use Rattle.std.proofs.Common.{◌∙◌}
use Rattle.geos_potentials.proofs.Growing.{grown-on, stay-on}
use Rattle.geos_potentials.proofs.constants.free_loops.Goals as goal

pub loop-pc-preserved : goal.loop-pc-preserved
loop-pc-preserved c =
    let first = c.args.units.now.pay in
    let now = c.loop-pc.units.pay in
    let next = c.free_at.new.units.pay in record {
      lengths = c.free_at.ensures.lengths ∙ c.loop-pc.invariant.lengths;
      wanted = λ before. c.free_at.ensures.wanted (c.loop-pc.invariant.wanted before);
      more = grown-on first now next c.loop-pc.invariant.more c.free_at.ensures.more;
      stay = stay-on c.args.graph.now.arcs c.args.splitting.now.jumps first now next c.loop-pc.invariant.stay c.free_at.ensures.stay;
    }

pub returns-in_err-free_at-clause-wanted : goal.returns-in_err-free_at-clause-wanted
returns-in_err-free_at-clause-wanted c = λ before. c.free_at.ensures.wanted (c.loop-pc.invariant.wanted before)
