use Rattle.std.proofs.Common.{sym, subst}
use Rattle.std.specs.Prelude.{IfErr, OnOk}
use Rattle.geos_cli.specs.declared.bytes.Place.{Place}
use Rattle.geos_cli.specs.Bytes.{NotResized, Resizes}
use Rattle.geos_cli.specs.Script.{LeadsOn}
use Rattle.geos_cli.proofs.BytesMarks.{mark-behind}
use Rattle.geos_cli.proofs.bytes.resize.Goals as goal

pub returns-in-Chunk : goal.returns-in-Chunk
returns-in-Chunk g c =
    let medium = g.D.Device.medium in
    let old = c.args.kernel.now in
    let new = c.resize_chunk.new.kernel in
    let known = c.memory_is_legal.ensures.file in
    let leads = subst (λ (p : Place). OnOk c.resize_chunk.result (LeadsOn medium old new (λ allows. Resizes allows p c.args.n))) (sym c.in-Chunk.is)
    c.resize_chunk.ensures.leads in
    record {
      leads = leads;
      refused = subst (λ (p : Place). IfErr c.resize_chunk.result (λ why. LeadsOn medium old new (λ allows. NotResized allows p c.args.n why)))
          (sym c.in-Chunk.is) c.resize_chunk.ensures.refused;
      marked = mark-behind medium old new c.args.place c.args.n c.resize_chunk.result known.0 known.1 c.resize_chunk.ensures.honest leads;
      honest = c.resize_chunk.ensures.honest;
      unwritten = c.resize_chunk.ensures.unwritten;
    }

pub returns-in-Item : goal.returns-in-Item
returns-in-Item g c =
    let medium = g.D.Device.medium in
    let old = c.args.kernel.now in
    let new = c.resize_item.new.kernel in
    let known = c.memory_is_legal.ensures.file in
    let leads = subst (λ (p : Place). OnOk c.resize_item.result (LeadsOn medium old new (λ allows. Resizes allows p c.args.n))) (sym c.in-Item.is)
    c.resize_item.ensures.leads in
    record {
      leads = leads;
      refused = subst (λ (p : Place). IfErr c.resize_item.result (λ why. LeadsOn medium old new (λ allows. NotResized allows p c.args.n why)))
          (sym c.in-Item.is) c.resize_item.ensures.refused;
      marked = mark-behind medium old new c.args.place c.args.n c.resize_item.result known.0 known.1 c.resize_item.ensures.honest leads;
      honest = c.resize_item.ensures.honest;
      unwritten = c.resize_item.ensures.unwritten;
    }
