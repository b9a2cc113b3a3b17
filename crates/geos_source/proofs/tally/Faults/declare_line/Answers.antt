use Rattle.geos_source.proofs.Noted.{declared_line}
use Rattle.geos_source.proofs.tally.Faults.declare_line.Goals as goal

pub returns-clause-noted : goal.returns-clause-noted
returns-clause-noted c = declared_line _ _ _ c.args.number c.args.line.now _ _ c.in_ok-add_line.ensures c.in_ok-add_line-2.ensures c.note.ensures
