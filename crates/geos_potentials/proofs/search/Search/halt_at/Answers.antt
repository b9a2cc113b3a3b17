use Rattle.geos_potentials.proofs.Unpayable.{none-accepted-round}
use Rattle.geos_potentials.proofs.search.Search.halt_at.Goals as goal

pub returns-then-goes_round_idle : goal.returns-then-goes_round_idle
returns-then-goes_round_idle c = λ idle.
    let body = c.args.body.now in
    let never = c.goes_round_idle.ensures c.if-goes_round_idle.true idle in
    (never, none-accepted-round body.image.now body.r body.there never)
