use Rattle.std.proofs.Common.{ℕ, ◌<◌, length, refl, sym, subst, get_or, arith}
use Rattle.std.proofs.lemmas.List.{length-set}
use Rattle.std.proofs.lemmas.Option.{slice_get-get_or}
use Rattle.tkv_checks.specs.Places.{Grows}
use Rattle.tkv_checks.specs.Walks.{IsRead}
use Rattle.tkv_checks.proofs.Leads.{grows_same}
use Rattle.tkv_checks.proofs.Reading.{read_none, single_step, bracket_step}
use Rattle.tkv_checks.proofs.walk.Walk.+statements.Goals as goal

pub loop-at-init : goal.loop-at-init
loop-at-init t c = (
  grows_same c.args.depth c.args.around.now,
  read_none c.args.self.now.image.now c.args.self.now.items.now c.args.around.now c.args.depth c.args.from c.args.place,
)

pub loop-at-preserved-then-not-begins : goal.loop-at-preserved-then-not-begins
loop-at-preserved-then-not-begins t c = single_step c.args.self.now.image.now c.args.self.now.items.now c.args.around.now c.loop-at.around c.single.new.around
    c.args.depth c.args.from c.loop-at.at c.args.place c.loop-at.here c.in_ok-here.here (get_or c.args.self.now.items.now c.loop-at.at _) c.loop-at.invariant
    (slice_get-get_or c.args.self.now.items.now c.loop-at.at _ c.loop-at-test.true) c.in_ok-here.ensures.grown c.in_ok-here.ensures.single

pub loop-at-preserved : goal.loop-at-preserved
loop-at-preserved t c = subst (λ (n : ℕ). Grows c.args.depth c.args.around.now c.statements.new.around
    × IsRead c.args.self.now.image.now c.args.self.now.items.now c.statements.new.around c.args.depth c.args.from c.args.place n c.in_ok-here-2.here)
    (sym c.in_ok-at.ensures.1)
    (bracket_step c.args.self.now.image.now c.args.self.now.items.now c.args.around.now c.loop-at.around c.statements.new.around c.args.depth c.args.from
    c.loop-at.at c.args.place c.loop-at.here c.in_ok-body.body c.in_ok-bracket.bracket (get_or c.args.self.now.items.now c.loop-at.at _) _
    (get_or c.statements.new.around c.args.depth _) c.in_ok-here-2.here c.loop-at.invariant
    (slice_get-get_or c.args.self.now.items.now c.loop-at.at _ c.loop-at-test.true) c.in_ok-bracket.ensures c.in_ok-body.ensures
    (c.if-not-ends_bracket.ensures refl) (slice_get-get_or c.statements.new.around c.args.depth _ inside) c.in_ok-here-2.ensures)
  where
    inside : c.args.depth < length c.statements.new.around
    inside = let a = c.if-depth-around.false in let d = c.statements.auto.around in
        omega (arith, a, d, length-set c.loop-at.around c.args.depth c.opened.result)
