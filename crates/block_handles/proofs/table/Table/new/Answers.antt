use Rattle.std.proofs.Common.{◌∙◌}
use Rattle.std.proofs.lemmas.List.{length-map}
use Rattle.block_handles.specs.Rows.{entry_in}
use Rattle.block_handles.proofs.Rows.{none-at}
use Rattle.block_handles.proofs.table.Table.new.Goals as goal

pub returns : goal.returns
returns c =
    let rows = c.in_ok-rows.rows.items in
    (length-map rows entry_in ∙ c.in_ok-rows.ensures.0, none-at rows c.in_ok-rows.ensures.1)
