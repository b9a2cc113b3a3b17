use Rattle.std.proofs.Common.{◌≡◌, Bool, true, false, Some, sym, ◌∙◌, inr}
use Rattle.std.specs.Prelude.{◌&&◌, slice_index_or}
use Rattle.std.proofs.lemmas.Bool.{and_parts, false≢true}
use Rattle.control_graph.specs.Arcs.{arc_at}
use Rattle.geos_potentials.specs.Least.{is_free}
use Rattle.control_graph.specs.declared.jumps.Jump.TheVariants.{Plain}
use Rattle.geos_potentials.proofs.constants.link_at.Goals as goal

other-false : (a b : Bool) → (a && b) ≡ false → a ≡ true → b ≡ false
other-false true b both is = both
other-false false b both is = absurd (false≢true is)

pub returns-then-is_left_out : goal.returns-then-is_left_out
returns-then-is_left_out c = inr (and_parts c.args.branch (is_free (slice_index_or c.args.splitting.now.jumps c.args.pc Plain))
    (sym c.is_left_out.ensures ∙ c.if-is_left_out.true))

pub returns : goal.returns
returns c =
    let read : arc_at c.args.graph.now.arcs c.args.pc c.args.branch ≡ Some c.in_ok-arc.arc = sym c.arc.ensures ∙ c.in_ok-arc.was in
    let busy = other-false c.args.branch (is_free (slice_index_or c.args.splitting.now.jumps c.args.pc Plain))
    (sym c.is_left_out.ensures ∙ c.if-is_left_out.false) in
    (c.in_ok-arc.arc, read, c.link.ensures, busy)
