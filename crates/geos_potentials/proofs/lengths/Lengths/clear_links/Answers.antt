use Rattle.std.proofs.Common.{◌≡◌, Bool, true, false, List, [], ◌∷◌, Option, None, get_or, ap, ◌∙◌, refl, arith, inl, inr}
use Rattle.std.specs.Prelude.{if◌then◌else◌}
use Rattle.std.proofs.lemmas.Bool.{cases_lt}
use Rattle.std.proofs.lemmas.List.{get_or_past}
use Rattle.geos_potentials.specs.declared.lengths.Link.{Link}
use Rattle.geos_potentials.proofs.lengths.Lengths.clear_links.Goals as goal

abbrev no_links : List (Option Link)
no_links = None ∷ None ∷ []

neither : (branch : Bool) → get_or no_links (if branch then 1 else 0) None ≡ None
neither true = refl
neither false = refl

pub returns-clause-links : goal.returns-clause-links
returns-clause-links c = λ pc branch. elim (cases_lt pc 4096) [
  | inl lt ↦ ap (λ (x : List (Option Link)). get_or x (if branch then 1 else 0) None) (c.fill_from.ensures.same pc [] (omega arith) lt)
      ∙ neither branch
  | inr past ↦ ap (λ (x : List (Option Link)). get_or x (if branch then 1 else 0) None)
      (get_or_past c.fill_from.new.self pc [] (omega (arith, past, c.lengths.ensures)))
]
