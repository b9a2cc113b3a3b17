use Rattle.std.proofs.Common.{None, sym, subst, inl, inr}
use Rattle.loop_causes.specs.Turns.{AreReached}
use Rattle.loop_causes.proofs.Onward.{reached-set}
use Rattle.loop_causes.proofs.turns.go.Goals as goal

pub returns-in-Some-go_along : goal.returns-in-Some-go_along
returns-in-Some-go_along c = λ low above below begin all.
    let image = c.args.loops.now.body.image.now in
    let r = c.args.loops.now.body.r in
    let to = c.in-Some-edge_in.lead.to in
    let next = c.in-Some-go_along.next in
    let comes = c.in-Some-go_along.ensures to c.in-Some-edge_in.ensures.leads begin
    (all c.args.pc c.in-Some.reach above below (sym (c.in-Some.ensures None))) in
    elim c.note.ensures [
      | inl same ↦ subst (AreReached c.args.loops.now.rows.now image r begin low c.args.high) (sym same) all
      | inr is ↦ subst (AreReached c.args.loops.now.rows.now image r begin low c.args.high) (sym is)
          (reached-set c.args.loops.now.rows.now image r begin low c.args.high c.args.reached.now to next all comes)
    ]
