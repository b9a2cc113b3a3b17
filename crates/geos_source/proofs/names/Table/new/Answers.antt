use Rattle.geos_source.proofs.Keys.{table_of-none}
use Rattle.geos_source.proofs.names.Table.new.Goals as goal

pub returns : goal.returns
returns c = table_of-none _ c.loop.invariant.empty
