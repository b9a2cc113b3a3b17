use Rattle.geos_explain.proofs.Serving.{said_of_words}
use Rattle.geos_explain.proofs.budgets.what_is_said_of_words_holds.Goals as goal

pub returns : goal.returns
returns c = said_of_words
