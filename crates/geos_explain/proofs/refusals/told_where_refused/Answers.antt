use Rattle.std.proofs.Common.{◌≡◌, ◌∙◌, ◌<◌, Bool, true, false, cond, Option, Some, None, length, refl, sym, ap, inl, inr, ◌⊎◌, arith}
use Rattle.std.specs.Prelude.{◌↔◌, slice_index_or}
use Rattle.geos_explain.proofs.Below.{slice_get_within, Rule, places, places-length}
use Rattle.geos_explain.specs.Told.{is_of_budget, told_rule}
use Rattle.geos_explain.proofs.refusals.told_where_refused.Goals as goal

told-exactly : (found : Option Rule) (rule : Rule) → (told_rule found ≡ Some rule) ↔ ((found ≡ Some rule) × (is_of_budget rule ≡ false))
told-exactly None rule = ((λ is. absurd cc), (λ is. (let none : None ≡ Some rule = is.0 in absurd cc)))
told-exactly (Some lowest) rule = by_rule (is_of_budget lowest) refl
  where
    by_rule : (budget : Bool) → is_of_budget lowest ≡ budget → (cond budget None (Some lowest) ≡ Some rule)
        ↔ ((Some lowest ≡ Some rule) × (is_of_budget rule ≡ false))
    by_rule true is = ((λ none. absurd cc), (λ both. (let same : Some lowest ≡ Some rule = both.0 in let not_so = both.1 in absurd cc)))
    by_rule false is = ((λ same. (same, cc)), (λ both. both.0))

-- the same for the reported rule, which omits repeated refusals
once-exactly : {Repeated : Type 0} (told found lowest : Option Rule) (rule : Rule) → found ≡ lowest
    → (Repeated × (told ≡ None)) ⊎ ((Repeated → ⊥) × (told ≡ found))
    → (told_rule told ≡ Some rule) ↔ ((lowest ≡ Some rule) × (is_of_budget rule ≡ false) × (Repeated → ⊥))
once-exactly told found lowest rule same (inl both) = (
  λ is. (let none : None ≡ Some rule = sym (ap told_rule both.1) ∙ is in absurd cc),
  λ all. absurd (all.2 both.0),
)
once-exactly told found lowest rule same (inr both) = (
  λ is. (let exactly = (told-exactly lowest rule).0 (sym (ap told_rule (both.1 ∙ same)) ∙ is) in (exactly.0, exactly.1, both.0)),
  λ all. ap told_rule (both.1 ∙ same) ∙ (told-exactly lowest rule).1 (all.0, all.1),
)

pub returns : goal.returns
returns c image refused told are once r pc routine place rule has =
    let within : pc < length image.points = omega (arith, slice_get_within (places image) pc place has.read, places-length image) in
    once-exactly (slice_index_or told pc None) (slice_index_or refused pc None) _ rule (are r pc routine place has) (once.each pc within)
