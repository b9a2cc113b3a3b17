use Rattle.std.proofs.Common.{◌≡◌, List, subst, rules}
use Rattle.std.specs.List.{All}
use Rattle.geos_image.specs.declared.routine.Routine.{Routine}
use Rattle.geos_image.specs.declared.point.Point.{Point}
use Rattle.geos_image.specs.Parts.{Parts}
use Rattle.geos_image.specs.Ranges.{RoutineFits, PointFits, ImageFits}
use Rattle.geos_image.specs.Spelling.{spelling}
use Rattle.geos_image.proofs.ImageLaws.{image_again}
use Rattle.geos_image.proofs.writer.write.Goals as goal

pub returns-clause-only : goal.returns-clause-only
returns-clause-only c =
    let written : c.put_rest.new.out.items ≡ spelling c.args.image.now = search rules in
    let parts : Parts = record { keyed = c.image.inside.keyed; routines = c.image.inside.routines.items; points = c.image.inside.points.items } in
    let routines : All RoutineFits parts.routines = subst (λ (rs : List Routine). All RoutineFits rs) c.deref.ensures.value
    c.in_ok-put_routines.ensures.fits in
    let points : All PointFits parts.points = subst (λ (ps : List Point). All PointFits ps) c.deref-3.ensures.value c.in_ok-put_rest.ensures.fits in
    let fits : ImageFits c.args.image.now = subst ImageFits c.image.view_is (record { routines = routines; points = points }) in
    image_again c.put_rest.new.out.items c.args.image.now c.count.ensures.legal fits written
