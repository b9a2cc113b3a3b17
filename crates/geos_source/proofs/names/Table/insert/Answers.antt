use Rattle.std.proofs.Common.{refl, ◌∙◌}
use Rattle.geos_source.proofs.Keys.{table_of-there, table_of-set}
use Rattle.geos_source.proofs.names.Table.insert.Goals as goal

pub returns-in-Ok-clause-old : goal.returns-in-Ok-clause-old
returns-in-Ok-clause-old c =
    c.in-Ok.ensures.old
    ∙ table_of-there c.args.self.now c.args.name c.key_of-key.result c.index_mut.result.now c.key_of-key.ensures.name
    c.key_of-key.ensures.key c.index_mut.ensures.value

pub returns-in-Ok-clause-new : goal.returns-in-Ok-clause-new
returns-in-Ok-clause-new c =
    table_of-set c.args.self.now _ c.args.name c.key_of-key.result c.args.value c.index_mut.result.now c.insert.new.self
    c.key_of-key.ensures.name c.key_of-key.ensures.key
    c.index_mut.ensures.value refl c.in-Ok.ensures.updates.0
