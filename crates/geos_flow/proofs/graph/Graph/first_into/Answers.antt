use Rattle.std.proofs.Common.{◌≡◌, ◌≤◌, ◌+◌, true, Some, ap, ◌∙◌, subst, sym, arith, inl, inr}
use Rattle.std.proofs.lemmas.Bool.{cases_eq, cases_lt}
use Rattle.geos_flow.specs.declared.edge.Edge.{Edge}
use Rattle.geos_flow.specs.Edges.{number_of}
use Rattle.geos_flow.specs.Graphs.{above, IsInto}
use Rattle.geos_flow.proofs.Into.{same-edge}
use Rattle.geos_flow.proofs.graph.Graph.first_into.Goals as goal
use Rattle.geos_flow.proofs.graph.Graph.first_into.Goals.{then-counts, else-counts}

pub loop-at-preserved : goal.loop-at-preserved
loop-at-preserved g c =
    let image = c.args.self.now.image.now in
    let counts = g.C.Counting.counted c.args.counting.now in
    let to = c.args.to in
    let edge = c.in-Some.edge in
    let so_far = c.loop-at.invariant in
    let ends = so_far.leads edge c.in-Some.is in
    let last = c.next-at.ensures to ends in
    let number : above c.loop-at.at ≡ number_of edge + 1 = ap above c.in-Some.is in
    let behind : (other : Edge) → above c.next-at.result ≤ number_of other → IsInto image counts to other → number_of edge ≤ number_of other =
    λ other past is. elim (cases_lt (number_of other) (number_of edge)) [
      | inl before ↦ (let less = last.all other before is.ends in absurd (omega (arith, less, past)))
      | inr from ↦ from
    ] in
    elim c.if-counts.branch [
      | then-counts w ↦ record {
        leads = last.leads;
        into = λ other same. (
            let found : Some edge ≡ Some other = sym w.found-is ∙ same in
            let is : edge ≡ other = cc in
            subst (λ (e : Edge). IsInto image counts to e) is (record { ends = ends; is_counted = sym c.counts.ensures ∙ w.if-counts.true }));
        first = λ other past is. (edge, w.found-is, behind other past is);
      }
      | else-counts w ↦ record {
        leads = last.leads;
        into = λ other same. so_far.into other (sym w.found-is ∙ same);
        first = λ other past is. elim (cases_eq (number_of other) (number_of edge)) [
          | inl same ↦
              let here = same-edge other edge same in
              let counted = subst (λ (e : Edge). counts e to ≡ true) here is.is_counted in
              let not_so = sym c.counts.ensures ∙ w.if-counts.false in
              absurd cc
          | inr ne ↦
              let from = behind other past is in
              let found = so_far.first other (omega (arith, number, from, ne)) is in
              (found.0, w.found-is ∙ found.1, found.2)
        ];
      }
    ]

pub returns : goal.returns
returns g c = record {
  into = c.loop-at.invariant.into;
  first = λ edge is. c.loop-at.invariant.first edge (let none = ap above c.in_default.is in omega (arith, none)) is;
}
