use Rattle.std.proofs.Common.{◌≡◌, Bool, true, false, List, [], ◌∷◌, Option, None, get_or, inl, inr, refl, ap, ◌∙◌, arith}
use Rattle.std.specs.Prelude.{if◌then◌else◌}
use Rattle.std.proofs.lemmas.Bool.{cases_lt}
use Rattle.std.proofs.lemmas.List.{get_or_past}
use Rattle.control_graph.specs.declared.arcs.Arc.{Arc}
use Rattle.control_graph.proofs.graph.Graph.clear_from.Goals as goal

abbrev no_arcs : List (Option Arc)
no_arcs = None ∷ None ∷ []

neither : (branch : Bool) → get_or no_arcs (if branch then 1 else 0) None ≡ None
neither true = refl
neither false = refl

pub returns : goal.returns
returns c = λ at branch. elim (cases_lt at 4096) [
  | inl lt ↦ ap (λ (x : List (Option Arc)). get_or x (if branch then 1 else 0) None) (c.fill_from.ensures.same at [] (omega arith) lt)
      ∙ neither branch
  | inr past ↦ ap (λ (x : List (Option Arc)). get_or x (if branch then 1 else 0) None)
      (get_or_past c.fill_from.new.self at [] (omega (arith, past, c.lengths.ensures)))
]
