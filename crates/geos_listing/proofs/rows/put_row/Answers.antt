use Rattle.std.proofs.Common.{◌≡◌, arith, false, length}
use Rattle.std.specs.Prelude.{◌==◌}
use Rattle.std.proofs.lemmas.Grind.{common_steps}
use Rattle.geos_text.proofs.Texts.{some-written}
use Rattle.geos_listing.specs.Rows.{row_items}
use Rattle.geos_listing.proofs.rows.put_row.Goals as goal

pub returns : goal.returns
returns c =
    let filled : (length (row_items c.args.row.now) == 0) ≡ false = some-written c.extend_from_slice.new.self.items
    c.put_items.new.out.items (row_items c.args.row.now) c.in_ok-put_items.ensures.value (λ same. omega (arith, same)) in
    rw filled (grind (arith, common_steps))
