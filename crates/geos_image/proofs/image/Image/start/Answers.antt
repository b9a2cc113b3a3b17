use Rattle.std.proofs.Common.{◌≡◌, ◌+◌, ◌≤◌, ℕ, true, length, slice_get, subst, sym, rules, [], arith}
use Rattle.std.specs.Prelude.{IfSome}
use Rattle.geos_image.specs.Legal.{is_image}
use Rattle.geos_image.specs.Parts.{Parts, start_of}
use Rattle.geos_image.specs.Keys.{gives}
use Rattle.geos_image.proofs.Instrs.{image_parts}
use Rattle.geos_image.proofs.Given.{gives-start, item_at, routine_counts}
use Rattle.geos_image.proofs.Starts.{start_of-room, start_of-end}
use Rattle.geos_image.proofs.image.Image.start.Goals as goal

pub returns-clause-room : goal.returns-clause-room
returns-clause-room c =
    let image = c.args.self.now in
    let legal : is_image image ≡ true = subst (λ (p : Parts). is_image p ≡ true) c.self.view_is c.self.invariant.0 in
    let start_is : c.total_count.result ≡ start_of image.routines c.args.index = search rules in
    subst (λ (n : ℕ). IfSome (slice_get image.routines c.args.index) (λ routine. n + routine.count ≤ length image.points))
    (sym start_is) (start_of-room image c.args.index legal)

pub returns-clause-given : goal.returns-clause-given
returns-clause-given c =
    let image = c.args.self.now in
    let legal : is_image image ≡ true = subst (λ (p : Parts). is_image p ≡ true) c.self.view_is c.self.invariant.0 in
    let start_is : c.total_count.result ≡ start_of image.routines c.args.index = search rules in
    let routine = item_at image.routines c.args.index c.requires in
    let end = start_of-end image.routines c.args.index routine.0 routine.1 in
    let parts = image_parts image legal in
    let some = routine_counts image.keyed [] image.routines c.args.index routine.0 parts.routines routine.1 in
    subst (λ (n : ℕ). gives image n ≡ true) (sym start_is) (gives-start image legal c.args.index routine.0 routine.1
    (omega (arith, end, parts.counts, some)))
