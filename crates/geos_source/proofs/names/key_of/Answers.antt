use Rattle.std.proofs.Common.{rules}
use Rattle.geos_source.specs.Keys.{key_of}
use Rattle.geos_source.proofs.Keys.{is_keyed-from}
use Rattle.geos_source.proofs.names.key_of.Goals as goal

pub returns-clause-key : goal.returns-clause-key
unfolding key_of
returns-clause-key c = c.from_le_bytes.ensures

pub returns-clause-name : goal.returns-clause-name
returns-clause-name c = is_keyed-from c.args.name (search rules) (search rules)
