use Rattle.std.proofs.Common.{◌∙◌, ℕ, refl, subst, sym}
use Rattle.std.proofs.lemmas.Bool.{false≢true}
use Rattle.lmem_heap.specs.Holes.{IsOpen}
use Rattle.lmem_heap.proofs.FreeLists.{open-heap}
use Rattle.lmem_heap.proofs.holes.Hole.give_back.Goals as goal

pub returns-then-self : goal.returns-then-self
returns-then-self c =
    let h = c.args.self in
    record {
      heap = open-heap c.args.block.now h.link h.at (subst (λ (x : ℕ). IsOpen c.args.block.now h.link h.at x)
          (sym c.if-self.true) c.requires.hole.is);
      chunks = refl;
      handle = refl;
    }

pub link_in-requires-clause-alone : goal.link_in-requires-clause-alone
link_in-requires-clause-alone c = λ touch. false≢true (sym c.if-touches_before.false ∙ c.touches_before.ensures.1 touch)

pub returns-then-touches_before : goal.returns-then-touches_before
returns-then-touches_before c = (let m = c.merge_behind-hole.ensures in let g = c.merge_before.ensures in
    record { heap = g.heap; chunks = g.chunks ∙ m.chunks; handle = g.handle ∙ m.handle })

pub returns-else-touches_before : goal.returns-else-touches_before
returns-else-touches_before c = (let m = c.merge_behind-hole.ensures in let g = c.link_in.ensures in
    record { heap = g.heap; chunks = g.chunks ∙ m.chunks; handle = g.handle ∙ m.handle })
