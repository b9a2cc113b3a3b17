use Rattle.geos_explain.proofs.Fits.{lacks_nothing}
use Rattle.geos_explain.proofs.lacks.rows_that_fit_lack_nothing.Goals as goal

pub returns : goal.returns
returns c = lacks_nothing
