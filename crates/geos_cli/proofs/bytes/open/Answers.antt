use Rattle.std.proofs.Common.{sym, subst}
use Rattle.std.specs.Prelude.{IfErr}
use Rattle.geos_cli.specs.declared.bytes.Place.{Place}
use Rattle.geos_cli.specs.Bytes.{NotOpened}
use Rattle.geos_cli.specs.Script.{LeadsOn}
use Rattle.geos_cli.proofs.bytes.open.Goals as goal

pub returns-in-Chunk-clause-refused : goal.returns-in-Chunk-clause-refused
returns-in-Chunk-clause-refused g c =
    subst (λ (p : Place). IfErr c.open_chunk.result (λ why. LeadsOn g.D.Device.medium c.args.kernel.now c.open_chunk.new.kernel
    (λ allows. NotOpened allows p c.args.n why))) (sym c.in-Chunk.is) c.open_chunk.ensures.refused

pub returns-in-Item-clause-refused : goal.returns-in-Item-clause-refused
returns-in-Item-clause-refused g c =
    subst (λ (p : Place). IfErr c.open_item.result (λ why. LeadsOn g.D.Device.medium c.args.kernel.now c.open_item.new.kernel
    (λ allows. NotOpened allows p c.args.n why))) (sym c.in-Item.is) c.open_item.ensures.refused
