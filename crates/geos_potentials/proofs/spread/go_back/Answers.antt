use Rattle.geos_potentials.proofs.Growing.{grown-on}
use Rattle.geos_potentials.proofs.spread.go_back.Goals as goal

pub loop-pc-preserved : goal.loop-pc-preserved
loop-pc-preserved c = record {
  wanted = λ before. c.go_back_from.ensures.wanted (c.loop-pc.invariant.wanted before);
  more = grown-on c.args.spread.now c.loop-pc.spread c.go_back_from.new.spread c.loop-pc.invariant.more c.go_back_from.ensures.more;
}
