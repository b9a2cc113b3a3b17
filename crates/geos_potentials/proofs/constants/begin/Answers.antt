use Rattle.std.proofs.Common.{◌≡◌, ◌+◌, refl, ap, ◌∙◌, arith}
use Rattle.std.specs.Prelude.{slice_get}
use Rattle.geos_verify.proofs.Places.{item_at, if_some}
use Rattle.geos_potentials.specs.Count.{return_steps}
use Rattle.geos_code.proofs.Bodies.{in-body}
use Rattle.geos_potentials.proofs.Costs.{ends-more}
use Rattle.geos_potentials.proofs.Priced.{outside-more, looked-more}
use Rattle.geos_potentials.proofs.constants.begin.Goals as goal

pub loop-pc-init : goal.loop-pc-init
loop-pc-init c = record {
  outside = λ pc branch out. c.clear_links.ensures.links pc branch;
  ends = λ want ends pc low.
      let body = c.args.body.now in
      rw c.clear_links.ensures.ways (ends.others pc (λ within. (let less = low within in omega (arith, within.above, body.begins))));
  looked = λ pc branch within lt. (let body = c.args.body.now in let above = within.above in absurd (omega (arith, above, lt, body.begins)));
  pay = refl;
}

pub loop-pc-preserved : goal.loop-pc-preserved
loop-pc-preserved c =
    let body = c.args.body.now in
    let p = c.loop-pc.pc in
    let image = body.image.now in
    let here = in-body body p c.loop-pc.auto.pc c.loop-pc-test.true in
    let links = c.set_steps.ensures.links ∙ c.set_links.ensures.links in record {
      outside = outside-more image body.r c.loop-pc.units.lengths.links c.set_steps.new.self.links p _ here links c.loop-pc.invariant.outside;
      looked = looked-more image body.r c.args.graph.now.arcs c.args.splitting.now.jumps c.loop-pc.units.pay
          c.loop-pc.units.lengths.links c.set_steps.new.self.links p (p + 1) _ _ refl links c.set_links.ensures.room
          c.link_at-along.ensures c.link_at-branching.ensures c.loop-pc.invariant.looked;
      pay = c.loop-pc.invariant.pay;
      ends = λ want ends pc low.
          let found = item_at image.points p (omega (arith, body.room, c.loop-pc-test.true)) in
          let same : c.instr.result.now ≡ found.0.instr = if_some (λ point. c.instr.result.now ≡ point.instr)
          (slice_get image.points p) found.0 found.1 c.instr.ensures.there in
          let is : c.return_steps-steps.result ≡ return_steps found.0.instr = c.return_steps-steps.ensures ∙ ap return_steps same in
          let paid = ends.returns p found.0 here found.1 in
          rw (c.set_steps.ensures.ways, c.set_links.ensures.ways)
          (ends-more c.loop-pc.units.lengths.ways p _ want pc (omega arith)
          (λ ne. c.loop-pc.invariant.ends want ends pc (λ within. (let less = low within in omega (arith, ne)))));
    }

pub returns-clause-ends : goal.returns-clause-ends
returns-clause-ends c = λ want ends pc.
    let body = c.args.body.now in
    c.loop-pc.invariant.ends want ends pc (λ within. omega (arith, within.below, body.ends, c.loop-pc-test.false))

pub returns-clause-outside : goal.returns-clause-outside
returns-clause-outside c = c.loop-pc.invariant.outside

pub returns-clause-looked : goal.returns-clause-looked
returns-clause-looked c = λ pc branch within. (let body = c.args.body.now in
    c.loop-pc.invariant.looked pc branch within (omega (arith, within.below, body.ends, c.loop-pc-test.false)))
