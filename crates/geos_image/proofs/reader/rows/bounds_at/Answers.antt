use Rattle.std.proofs.Common.{sym, arith}
use Rattle.geos_image.specs.Reading.{word_at}
use Rattle.geos_image.proofs.Items.{eight_items}
use Rattle.geos_image.proofs.reader.rows.bounds_at.Goals as goal

pub returns : goal.returns
returns c =
    sym (eight_items (word_at c.args.bytes.now) 2 c.args.at _ _ _ _ _ _ _ _ _ _ _ _ _ _ _ (omega arith) (omega arith)
    (omega arith) (omega arith) (omega arith) (omega arith) (omega arith)
    (sym c.in_ok-word_at.ensures) (sym c.in_ok-word_at-2.ensures) (sym c.in_ok-word_at-3.ensures) (sym c.in_ok-word_at-4.ensures)
    (sym c.in_ok-word_at-5.ensures) (sym c.in_ok-word_at-6.ensures) (sym c.in_ok-word_at-7.ensures) (sym c.in_ok-word_at-8.ensures))
