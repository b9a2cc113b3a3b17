-- Edges of an image, by what is known at its places.
use Rattle.std.proofs.Common.{◌≡◌, ◌<◌, ℕ, true, length, Some, slice_get, sym, ap, ◌∙◌}
use Rattle.geos_explain.proofs.Below.{Instr, Parts, KnownPlace, places, has_edge, point-of, Edge, end_of, end_in, end-is, end-there}

-- where an edge leads, and that the instruction has it
pub known-end : (image : Parts) (edge : Edge) (known : KnownPlace) (end : ℕ) → slice_get (places image) edge.from ≡ Some known
    → end_in image edge ≡ Some end → (has_edge known.instr edge.branch ≡ true) × (end_of edge known.instr ≡ end)
known-end image edge known end there ends =
    let found = end-is image edge end ends in
    let point = point-of image edge.from known there in
    let both : Some point.0 ≡ Some found.point = sym point.1 ∙ found.there in
    let same : point.0 ≡ found.point = cc in
    let instr : known.instr ≡ found.point.instr = point.2.instr ∙ ap (λ p. p.instr) same in
    (ap (λ (i : Instr). has_edge i edge.branch) instr ∙ found.has, ap (λ (i : Instr). end_of edge i) instr ∙ found.is)

pub end-known : (image : Parts) (edge : Edge) (known : KnownPlace) (end : ℕ) → slice_get (places image) edge.from ≡ Some known
    → has_edge known.instr edge.branch ≡ true → end_of edge known.instr ≡ end → end < length image.points → end_in image edge ≡ Some end
end-known image edge known end there has is low =
    let point = point-of image edge.from known there in
    let instr : point.0.instr ≡ known.instr = sym point.2.instr in
    end-there image edge point.0 end point.1 (ap (λ (i : Instr). has_edge i edge.branch) instr ∙ has)
    (ap (λ (i : Instr). end_of edge i) instr ∙ is) low
