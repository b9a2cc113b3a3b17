use Rattle.round_trip.proofs.ListedAgain.{listed-again}
use Rattle.round_trip.proofs.list.Goals as goal

pub returns-clause-again : goal.returns-clause-again
returns-clause-again c = listed-again c.args.image.now c.list.result c.list.ensures.legal c.list.ensures.value c.list.ensures.fits
