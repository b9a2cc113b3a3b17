use Rattle.std.proofs.Common.{◌≡◌}
use Rattle.takhvoi.specs.Records.{records_below}
use Rattle.takhvoi.specs.Shown.{chunk_in}
use Rattle.takhvoi.proofs.places.chunks_of.Given as goal

abbrev pub invariant-loop-handle : goal.invariant-loop-handle
invariant-loop-handle l = l.chunks.items ≡ records_below (chunk_in l.block l.place) l.handle
