use Rattle.std.proofs.Common.{◌≡◌, ◌<◌, ℕ, Bool, true, false, length, refl, sym, ap, subst, ◌∙◌, arith}
use Rattle.std.specs.Prelude.{if◌then◌else◌}
use Rattle.geos_explain.proofs.Below.{Instr, branches, falls_through, Parts, at_place, at_point, has_edge, HasEdge, at_place-is}
use Rattle.geos_verify.proofs.Places.{item_at, places-length, place-at}
use Rattle.geos_explain.proofs.filled.Filled.behind.Goals as goal

edge-is : (i : Instr) (branch : Bool) → (if branch then branches i.opcode else falls_through i.opcode) ≡ has_edge i branch
edge-is i true = refl
edge-is i false = refl

-- an edge that a place has is one that the image has
edge-of : (image : Parts) (pc : ℕ) (branch : Bool) → pc < length image.points → at_place image pc (λ place. has_edge place.instr branch) ≡ true
    → HasEdge image pc branch
edge-of image pc branch lt has =
    let found = item_at image.points pc lt in
    let there = place-at image pc found.0 found.1 in
    let here : has_edge there.0.instr branch ≡ true = sym (at_place-is image pc there.0 (λ place. has_edge place.instr branch) there.1) ∙ has in
    rw (found.1, at_point) (edge-is found.0.instr branch ∙ ap (λ (i : Instr). has_edge i branch) (sym there.2.instr) ∙ here)

pub after-requires-clause-there : goal.after-requires-clause-there
after-requires-clause-there c =
    let image = c.args.self.now in
    let same : length c.self.inside.graph.image.now.points ≡ length image.points = ap (λ (p : Parts). length p.points) c.self.view_is in
    omega (arith, same, c.requires.there, places-length image)

pub after-requires-clause-edge : goal.after-requires-clause-edge
after-requires-clause-edge c =
    let image = c.args.self.now in
    subst (λ (p : Parts). HasEdge p c.args.pc c.args.branch) (sym c.self.view_is)
    (edge-of image c.args.pc c.args.branch (omega (arith, c.requires.there, places-length image)) c.requires.edge)
