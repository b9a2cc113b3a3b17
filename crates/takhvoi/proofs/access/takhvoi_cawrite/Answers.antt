-- The range ends at the given end.
use Rattle.std.proofs.Common.{length, subst}
use Rattle.geos_calls.specs.ArrayCalls as table
use Rattle.takhvoi.specs.Answers.{ChangesIn, Served}
use Rattle.takhvoi.specs.Bytes.{IsWritten}
use Rattle.takhvoi.specs.Names.{name_of}
use Rattle.takhvoi.specs.Own.{MayNotWrite}
use Rattle.takhvoi.proofs.access.takhvoi_cawrite.Goals as goal

pub returns-in-Some : goal.returns-in-Some
returns-in-Some c =
    let name = name_of c.args.block in
    let from = c.args.from.now in
    subst (λ n. Served (MayNotWrite name c.args.at (length from)) (ChangesIn name (IsWritten (table.caelt name c.args.chunk c.args.index n) c.args.at from))
    c.write.result c.args.handle.now c.write.new.handle) c.in-Some.ensures.some c.write.ensures
