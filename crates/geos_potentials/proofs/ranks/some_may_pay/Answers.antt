use Rattle.geos_potentials.proofs.Rising.{never-back}
use Rattle.geos_potentials.proofs.ranks.some_may_pay.Goals as goal

pub returns : goal.returns
returns c = λ is. never-back c.args.body.now.image.now c.args.body.now.r c.rank_all.new.ranks (c.all_rise.ensures is)
