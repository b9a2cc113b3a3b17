use Rattle.std.proofs.Common.{sym, arith}
use Rattle.geos_image.specs.Reading.{slot_at}
use Rattle.geos_image.proofs.Items.{four_items}
use Rattle.geos_image.proofs.reader.rows.slots_at.Goals as goal

pub returns-clause-exact : goal.returns-clause-exact
returns-clause-exact c =
    sym (four_items (slot_at c.args.borrows c.args.bytes.now) 1 c.args.at _ _ _ _ _ _ _ (omega arith) (omega arith) (omega arith)
    (sym c.in_ok-slot_at.ensures.exact) (sym c.in_ok-slot_at-2.ensures.exact) (sym c.in_ok-slot_at-3.ensures.exact)
    (sym c.in_ok-slot_at-4.ensures.exact))
