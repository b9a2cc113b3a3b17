use Rattle.std.proofs.Common.{◌≡◌, ◌∙◌, List, false, refl, sym, subst}
use Rattle.std.specs.Prelude.{◌||◌}
use Rattle.std.specs.List.{list_any}
use Rattle.geos_image.specs.declared.point.Point.{Point}
use Rattle.geos_verify.specs.Touched.{counts, calls, noted, points_of}
use Rattle.geos_verify.proofs.Untouched.{none-touches}
use Rattle.geos_verify.proofs.touched.touched_in.Goals as goal

pub returns-then-not-may_touch : goal.returns-then-not-may_touch
returns-then-not-may_touch c =
    let table = c.args.table.now in
    let points = points_of c.args.image.now c.args.routine in
    let test = λ (point : Point). counts point.instr.opcode || calls point.instr.opcode in
    let none : list_any test points ≡ false =
    subst (λ (ps : List Point). list_any test ps ≡ false) c.points_of-points.ensures (sym c.may_touch.ensures ∙ c.if-not-may_touch.true) in
    rw (
      none-touches (noted table 0) 0 points none,
      none-touches (noted table 1) 1 points none,
      none-touches (noted table 2) 2 points none,
      none-touches (noted table 3) 3 points none,
    ) refl

pub returns : goal.returns
returns c = rw (c.touches.ensures, c.touches-2.ensures, c.touches-3.ensures, c.touches-4.ensures, c.points_of-points.ensures) refl
