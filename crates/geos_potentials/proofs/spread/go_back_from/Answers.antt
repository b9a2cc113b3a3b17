use Rattle.std.proofs.Common.{arith}
use Rattle.geos_potentials.proofs.Growing.{grown-on}
use Rattle.geos_potentials.proofs.spread.go_back_from.Goals as goal

pub loop-preserved : goal.loop-preserved
loop-preserved c = record {
  wanted = λ before. c.go_back_over.ensures.wanted (c.loop.invariant.wanted before);
  more = grown-on c.args.spread.now c.loop.spread c.go_back_over.new.spread c.loop.invariant.more c.go_back_over.ensures.more;
  work = omega (arith, c.go_back_over.ensures.work, c.loop.invariant.work);
}

pub returns-in_default : goal.returns-in_default
returns-in_default c =
    let inv = c.loop.invariant in record {
      wanted = inv.wanted;
      more = inv.more;
      work = inv.work;
    }

pub returns : goal.returns
returns c =
    let inv = c.loop.invariant in record {
      wanted = inv.wanted;
      more = inv.more;
      work = inv.work;
    }
