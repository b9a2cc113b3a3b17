use Rattle.std.proofs.Common.{◌∙◌}
use Rattle.geos_source.proofs.Keys.{table_of-there}
use Rattle.geos_source.proofs.names.Table.get.Goals as goal

pub returns : goal.returns
returns c =
    c.copied.ensures
    ∙ c.get.ensures.value
    ∙ table_of-there c.args.self.now c.args.name.now c.key_of-key.result c.index.result.now c.key_of-key.ensures.name
    c.key_of-key.ensures.key c.index.ensures
