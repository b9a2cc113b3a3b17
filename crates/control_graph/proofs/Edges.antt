-- Edges that are noted.
use Rattle.std.proofs.Common.{◌≡◌, ◌<◌, ℕ, Bool, List, [], Option, None, ap, length, get_or, set}
use Rattle.std.specs.Prelude.{if◌then◌else◌}
use Rattle.control_graph.specs.declared.arcs.Arc.{Arc}
use Rattle.control_graph.specs.Arcs.{arc_at}
use Rattle.std.proofs.lemmas.List.{get_or-set_same, get_or-set_other}

pub arc-other : (arcs : List (List (Option Arc))) (p pc : ℕ) (both : List (Option Arc)) (branch : Bool) → (pc ≡ p → ⊥)
    → arc_at (set arcs p both) pc branch ≡ arc_at arcs pc branch
arc-other arcs p pc both branch ne = ap (λ (x : List (Option Arc)). get_or x (if branch then 1 else 0) None) (get_or-set_other arcs p pc both [] ne)

pub arc-same : (arcs : List (List (Option Arc))) (p : ℕ) (both : List (Option Arc)) (branch : Bool) → p < length arcs
    → arc_at (set arcs p both) p branch ≡ get_or both (if branch then 1 else 0) None
arc-same arcs p both branch within = ap (λ (x : List (Option Arc)). get_or x (if branch then 1 else 0) None) (get_or-set_same arcs p both [] within)
