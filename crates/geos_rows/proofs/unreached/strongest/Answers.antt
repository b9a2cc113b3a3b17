use Rattle.std.proofs.Common.{◌≡◌, true, [], ◌∷◌, length, arith}
use Rattle.geos_image.specs.declared.row.Row.{Row}
use Rattle.geos_verify.specs.Rows.{slot_fits}
use Rattle.geos_verify.proofs.Pairwise.{all2-refl}
use Rattle.geos_verify.proofs.RowsFit.{fits-from, slot-refl}
use Rattle.geos_rows.proofs.Guessing.{zeros-fit, pairs-fit}
use Rattle.geos_rows.proofs.unreached.strongest.Goals as goal

pub returns-clause-fits : goal.returns-clause-fits
returns-clause-fits c =
    let row = c.args.row.now in
    let shape = c.shape.ensures in
    let bounds : length row.bounds ≡ 8 = grind (arith, shape) in
    let pairs : length row.pairs ≡ 6 = grind (arith, shape) in
    let found : Row = record {
      bounds = 0 ∷ 0 ∷ 0 ∷ 0 ∷ 0 ∷ 0 ∷ 0 ∷ 0 ∷ [];
      slots = row.slots;
      pointers = c.strongest_pointers.result;
      pairs = true ∷ true ∷ true ∷ true ∷ true ∷ true ∷ [];
    } in
    fits-from found row (record {
      bounds = zeros-fit 8 row.bounds bounds;
      slots = all2-refl slot_fits slot-refl row.slots;
      pointers = c.strongest_pointers.ensures;
      pairs = pairs-fit 6 row.pairs pairs;
    })
