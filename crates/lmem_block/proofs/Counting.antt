-- How many marks of `check` are left to go over.
use Rattle.std.proofs.Common.{◌≡◌, ℕ, zero, suc, ◌+◌, ◌-◌, ◌<◌, ◌≤◌, cond, Bool, true, false, List, length, get_or, set, ap, sym, ◌∙◌, inl, inr, arith}
use Rattle.std.proofs.lemmas.Bool.{cases_Bool, cases_lt, false≢true}
use Rattle.std.proofs.lemmas.List.{at_drop_all, get_or_past}
use Rattle.std.proofs.lemmas.List.Sums.{sum_by-drop_more, sum_by-set}
use Rattle.std.specs.List.{count_by}
use Rattle.lmem_block.specs.Check.{marks_from}

past : (starts : List Bool) (k : ℕ) → length starts ≤ k → marks_from starts k ≡ 0
unfolding marks_from
past starts k l = at_drop_all (λ xs. count_by (λ x. x) xs) starts k l

step : (starts : List Bool) (k : ℕ) → k < length starts → marks_from starts k ≡ cond (get_or starts k false) 1 0 + marks_from starts (k + 1)
unfolding marks_from
step starts k l = sum_by-drop_more (λ x. cond x 1 0) starts k false l

pub marks-yes : (starts : List Bool) (k : ℕ) → get_or starts k false ≡ true → marks_from starts k ≡ 1 + marks_from starts (k + 1)
marks-yes starts k e = elim (cases_lt k (length starts)) [
  | inl l ↦ step starts k l ∙ ap (λ b. cond b 1 0 + marks_from starts (k + 1)) e
  | inr l ↦ absurd (false≢true (sym (get_or_past starts k false l) ∙ e))
]

pub marks-no : (starts : List Bool) (k : ℕ) → get_or starts k false ≡ false → marks_from starts k ≡ marks_from starts (k + 1)
marks-no starts k e = elim (cases_lt k (length starts)) [
  | inl l ↦ step starts k l ∙ ap (λ b. cond b 1 0 + marks_from starts (k + 1)) e ∙ omega arith
  | inr l ↦ past starts k l ∙ sym (past starts (k + 1) (omega arith))
]

pub marks-le : (starts : List Bool) (from end : ℕ) → from ≤ end → marks_from starts end ≤ marks_from starts from
marks-le starts from end le = by (end - from) from (omega arith)
  where
    by : (d k : ℕ) → k + d ≡ end → marks_from starts end ≤ marks_from starts k
    by zero k e = let q : k ≡ end = omega arith in omega (arith, ap (λ j. marks_from starts j) q)
    by (suc d) k e = elim (cases_Bool (get_or starts k false)) [
      | inl is_set ↦ (let s = marks-yes starts k is_set in let r = by d (k + 1) (omega arith) in omega arith)
      | inr unset ↦ (let s = marks-no starts k unset in let r = by d (k + 1) (omega arith) in omega arith)
    ]

-- no mark among places
pub marks-same : (starts : List Bool) (from end : ℕ) → from ≤ end → ((k : ℕ) → from ≤ k → k < end → get_or starts k false ≡ true → ⊥)
    → marks_from starts from ≡ marks_from starts end
marks-same starts from end le clear = by (end - from) from (omega arith) (omega arith)
  where
    by : (d k : ℕ) → k + d ≡ end → from ≤ k → marks_from starts k ≡ marks_from starts end
    by zero k e low = ap (λ j. marks_from starts j) (let q : k ≡ end = omega arith in q)
    by (suc d) k e low = elim (cases_Bool (get_or starts k false)) [
      | inl is_set ↦ absurd (clear k low (omega arith) is_set)
      | inr unset ↦ marks-no starts k unset ∙ by d (k + 1) (omega arith) (omega arith)
    ]

pub marks-clear : (starts : List Bool) (from end k : ℕ) → marks_from starts from ≡ marks_from starts end → from ≤ k
    → k < end → get_or starts k false ≡ true → ⊥
marks-clear starts from end k same low high is_set =
    let a = marks-le starts from k low in
    let b = marks-yes starts k is_set in
    let c = marks-le starts (k + 1) end (omega arith) in
    omega arith

-- no mark from a place on
pub marks-none_from : (starts : List Bool) (n : ℕ) → ((k : ℕ) → n ≤ k → get_or starts k false ≡ true → ⊥) → marks_from starts n ≡ 0
marks-none_from starts n clear = marks-same starts n (n + length starts) (omega arith) (λ k low high is_set. clear k low is_set)
    ∙ past starts (n + length starts) (omega arith)

pub marks-set : (starts : List Bool) (k : ℕ) → k < length starts → get_or starts k false ≡ false
    → marks_from (set starts k true) 0 ≡ marks_from starts 0 + 1
unfolding marks_from
marks-set starts k l e =
    let s = sum_by-set (λ x. cond x 1 0) starts k true false l in
    let F : Bool → ℕ = λ b. cond b 1 0 in
    let z : F (get_or starts k false) ≡ 0 = ap F e in
    omega (arith, s, z)
