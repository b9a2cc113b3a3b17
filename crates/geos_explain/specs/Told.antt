-- At which instructions the explanation reports the rule that refuses.
use Rattle.std.specs.Prelude.{◌≡◌, ◌<◌, ◌≤◌, ℕ, ◌+◌, ◌/◌, Bool, true, false, if◌then◌else◌, List, take, count_by, Option, Some, None, is_some, length, slice_index_or}
use Rattle.geos_explain.specs.Below.{Rule, OverBudget}

-- a rule is the one on the budget
abbrev pub is_of_budget : Rule → Bool
is_of_budget OverBudget = true
is_of_budget _ = false

-- the rule reported at the instruction that it refuses: not the rule on the budget, which is reported for the routine
abbrev pub told_rule : Option Rule → Option Rule
told_rule None = None
told_rule (Some rule) = if is_of_budget rule then None else Some rule

-- there is such a rule
abbrev pub is_told : Option Rule → Bool
is_told rule = is_some (told_rule rule)

-- the rule reported at a pc
abbrev pub rule_at : List (Option Rule) → ℕ → Option Rule
rule_at refused pc = told_rule (slice_index_or refused pc None)

-- how many refusals the explanation reports for an image of so many instructions
abbrev pub most_told : ℕ → ℕ
most_told len = 32768 / (len + 1)

-- at most so many pcs before this one have a reported rule; if this pc is in the image, it has the first rule beyond
-- that number
pub record IsFirstUntold (refused : List (Option Rule)) (most pc : ℕ) : Type 0 where
  pub before : count_by is_told (take pc refused) ≤ most
  pub here : pc < length refused → (count_by is_told (take pc refused) ≡ most) × (is_told (slice_index_or refused pc None) ≡ true)
