-- The range has the end that the row has.
use Rattle.std.proofs.Common.{length, subst}
use Rattle.geos_calls.specs.ArrayCalls as table
use Rattle.takhvoi.specs.Answers.{Served}
use Rattle.takhvoi.specs.Bytes.{IsCopied}
use Rattle.takhvoi.specs.Names.{name_of}
use Rattle.takhvoi.specs.Own.{MayNotRead}
use Rattle.takhvoi.proofs.access.takhvoi_caread.Goals as goal

pub returns-in-Some-clause-served : goal.returns-in-Some-clause-served
returns-in-Some-clause-served c =
    let name = name_of c.args.block in
    subst (λ n. Served (MayNotRead name c.args.at (length c.args.into.now)) (IsCopied (table.caelt name c.args.chunk c.args.index n) c.args.at c.read.new.into)
    c.read.result c.args.handle.now c.read.new.handle) c.in-Some.ensures.some c.read.ensures.served
