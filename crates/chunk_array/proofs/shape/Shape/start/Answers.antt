use Rattle.std.proofs.Common.{◌∙◌, arith}
use Rattle.chunk_array.proofs.Shaped.{shaped, starts, start-fixed, start-varying, start-end, table-fits}
use Rattle.chunk_array.proofs.shape.Shape.start.Goals as goal

pub returns-then-self-ne0 : goal.returns-then-self-ne0
returns-then-self-ne0 c =
    let r = starts c.args.bytes.now c.args.self c.args.index _ (λ k. let t = c.type_inv.bytes k in omega arith)
    c.requires.shape (λ a s. start-fixed c.args.bytes.now c.args.self a c.args.index s c.if-self-ne0.true c.requires.known) in
    record { start = r.start; within = r.within }

pub get16-requires : goal.get16-requires
get16-requires c =
    let h = c.requires.shape in
    let s = shaped c.args.bytes.now c.args.self h.array (λ k. let t = c.type_inv.bytes k in omega arith) h h.is in
    omega (arith, table-fits c.args.bytes.now c.args.self h.array s c.if-self-ne0.false, c.if-index-self.true)

pub returns-then-index-self : goal.returns-then-index-self
returns-then-index-self c =
    let r = starts c.args.bytes.now c.args.self c.args.index _ (λ k. let t = c.type_inv.bytes k in omega arith)
    c.requires.shape (λ a s. c.get16.ensures ∙ start-varying c.args.bytes.now c.args.self a c.args.index s
    c.if-self-ne0.false c.if-index-self.true) in
    record { start = r.start; within = r.within }

pub returns-else-index-self : goal.returns-else-index-self
returns-else-index-self c =
    let r = starts c.args.bytes.now c.args.self c.args.index _ (λ k. let t = c.type_inv.bytes k in omega arith)
    c.requires.shape (λ a s. start-end c.args.bytes.now c.args.self a c.args.index s (omega (arith, c.requires.known, c.if-index-self.false))) in
    record { start = r.start; within = r.within }
