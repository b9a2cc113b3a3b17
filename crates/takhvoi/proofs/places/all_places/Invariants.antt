use Rattle.std.proofs.Common.{◌≡◌}
use Rattle.takhvoi.specs.Records.{records_below}
use Rattle.takhvoi.specs.Shown.{place_in}
use Rattle.takhvoi.proofs.places.all_places.Given as goal

abbrev pub invariant-loop-block : goal.invariant-loop-block
invariant-loop-block l = l.places.items ≡ records_below (place_in l.blocks) l.block
