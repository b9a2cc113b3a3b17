use Rattle.geos_code.proofs.Cleaning.{clean-least, clean-legal}
use Rattle.geos_code.proofs.known.clean.Goals as goal

pub returns-clause-least : goal.returns-clause-least
returns-clause-least c = rw c.pointers_without_empty.ensures (clean-least c.args.row.now)

pub returns-clause-legal : goal.returns-clause-legal
returns-clause-legal c = rw c.pointers_without_empty.ensures (clean-legal c.args.row.now c.shape.ensures)
