use Rattle.std.proofs.Common.{◌≡◌, ◌+◌, true, ap, subst, sym, arith, inl, inr}
use Rattle.std.proofs.lemmas.Bool.{cases_eq, cases_lt}
use Rattle.geos_flow.specs.Edges.{number_of}
use Rattle.geos_flow.specs.Graphs.{above}
use Rattle.geos_flow.specs.Marks.{is_marked}
use Rattle.geos_flow.proofs.Into.{same-edge}
use Rattle.geos_flow.proofs.Steps.{end-inside}
use Rattle.geos_flow.proofs.graph.Graph.put_begins.Goals as goal

pub loop-at-smaller : goal.loop-at-smaller
loop-at-smaller c =
    let last = c.next-at.ensures c.args.to (c.loop-at.invariant.leads c.in-Some.edge c.in-Some.is) in
    let number : above c.loop-at.at ≡ number_of c.in-Some.edge + 1 = ap above c.in-Some.is in
    omega (arith, last.below, number)

pub put-requires : goal.put-requires
put-requires c =
    let inside = end-inside c.args.self.now.image.now c.in-Some.edge c.args.to (c.loop-at.invariant.leads c.in-Some.edge c.in-Some.is) in
    omega (arith, inside.0, c.args.self.now.short)

pub loop-at-preserved : goal.loop-at-preserved
loop-at-preserved c =
    let last = c.next-at.ensures c.args.to (c.loop-at.invariant.leads c.in-Some.edge c.in-Some.is) in
    let edge = c.in-Some.edge in
    let so_far = c.loop-at.invariant in
    let number : above c.loop-at.at ≡ number_of edge + 1 = ap above c.in-Some.is in
    let puts = c.put.ensures in
    record {
      leads = last.leads;
      begins = λ other past ends. elim (cases_lt (number_of other) (number_of edge)) [
        | inl before ↦ (let less = last.all other before ends in absurd (omega (arith, less, past)))
        | inr from ↦ elim (cases_eq (number_of other) (number_of edge)) [
          | inl same ↦ subst (λ e. is_marked c.put.new.self e.from ≡ true) (sym (same-edge other edge same)) puts.there
          | inr ne ↦ puts.keeps other.from (so_far.begins other (omega (arith, number, from, ne)) ends)
        ]
      ];
      keeps = λ pc was. puts.keeps pc (so_far.keeps pc was);
      was = λ pc is. elim (puts.was pc is) [
        | inl same ↦ inr (record { edge = edge; begins = sym same; ends = so_far.leads edge c.in-Some.is })
        | inr before ↦ so_far.was pc before
      ];
    }
