-- Marks, and how many there are.
use Rattle.std.proofs.Common.{◌≡◌, ◌<◌, ◌≤◌, ℕ, zero, suc, Bool, true, false, cond, List, [], ◌∷◌, length, replicate, get_or, set, refl, sym, ap, ◌∙◌, arith, ◌⊎◌, inl, inr}
use Rattle.std.specs.Prelude.{nat_lt}
use Rattle.std.proofs.lemmas.Bool.{and_parts, lt-ltb, ltb-true, cases_eq, cases_lt}
use Rattle.std.proofs.lemmas.List.{get_or-set_same, get_or-set_other, length-replicate, length-set, set_past}
use Rattle.geos_flow.specs.Marks.{no_marks, marked, is_marked}
use Rattle.geos_flow.specs.Waiting.{Has, count}

-- what is marked stays so
pub record Grows (marks next : List Bool) : Type 0 where
  pub len : length next ≡ length marks
  pub keeps : (k : ℕ) → Has marks k → Has next k

pub set-grows : (marks : List Bool) (pc : ℕ) → Grows marks (set marks pc true)
set-grows marks pc = record {
  len = length-set marks pc true;
  keeps = λ k h. elim (cases_lt pc (length marks)) [
    | inl within ↦ elim (cases_eq k pc) [
      | inl same ↦ ap (λ n. get_or (set marks pc true) n false) same ∙ get_or-set_same marks pc true false within
      | inr ne ↦ get_or-set_other marks pc k true false ne ∙ h
    ]
    | inr past ↦ ap (λ (x : List Bool). get_or x k false) (set_past marks pc true past) ∙ h
  ];
}

pub mark-grows : (marks : List Bool) (pc : ℕ) → Grows marks (marked marks pc)
mark-grows marks pc = by_test (nat_lt pc 4096)
  where
    by_test : (b : Bool) → Grows marks (cond b (set marks pc true) marks)
    by_test true = set-grows marks pc
    by_test false = record { len = refl; keeps = λ k h. h }

pub mark-was : (marks : List Bool) (pc k : ℕ) → Has (marked marks pc) k → (k ≡ pc) ⊎ Has marks k
mark-was marks pc k h = by_test (nat_lt pc 4096) h
  where
    by_test : (b : Bool) → Has (cond b (set marks pc true) marks) k → (k ≡ pc) ⊎ Has marks k
    by_test true e = elim (cases_eq k pc) [ inl same ↦ inl same | inr ne ↦ inr (sym (get_or-set_other marks pc k true false ne) ∙ e) ]
    by_test false e = inr e

pub mark-there : (marks : List Bool) (pc : ℕ) → length marks ≡ 4096 → pc < 4096 → Has (marked marks pc) pc
mark-there marks pc full lt = rw (lt-ltb pc 4096 lt) (get_or-set_same marks pc true false (omega arith))

pub is-marked : (marks : List Bool) (pc : ℕ) → pc < 4096 → Has marks pc → is_marked marks pc ≡ true
is-marked marks pc lt h = rw (lt-ltb pc 4096 lt) h

no-mark : (n k : ℕ) → get_or (replicate n false) k false ≡ true → ⊥
no-mark zero k h = absurd cc
no-mark (suc n) zero h = absurd cc
no-mark (suc n) (suc k) h = no-mark n k h

pub none-marked : (k : ℕ) → Has no_marks k → ⊥
unfolding no_marks
none-marked k h = no-mark 4096 k h

pub count-bound : (marks : List Bool) (m : ℕ) → ((k : ℕ) → Has marks k → k < m) → count marks ≤ m
unfolding count
count-bound [] m below = omega arith
count-bound (true ∷ marks) zero below = let past = below 0 refl in absurd (omega arith)
count-bound (true ∷ marks) (suc m) below = let rest = count-bound marks m (λ k h. (let lt = below (suc k) h in omega arith)) in omega arith
count-bound (false ∷ marks) zero below = count-bound marks zero (λ k h. (let lt = below (suc k) h in omega arith))
count-bound (false ∷ marks) (suc m) below = let rest = count-bound marks m (λ k h. (let lt = below (suc k) h in omega arith)) in omega arith

pub has-marked : (marks : List Bool) (pc : ℕ) → is_marked marks pc ≡ true → Has marks pc
has-marked marks pc is = (and_parts (nat_lt pc 4096) (get_or marks pc false) is).1

pub marked-low : (marks : List Bool) (pc : ℕ) → is_marked marks pc ≡ true → pc < 4096
marked-low marks pc is = ltb-true pc 4096 (and_parts (nat_lt pc 4096) (get_or marks pc false) is).0

-- one more pc is marked, and what was stays so
pub marked-here : (marks : List Bool) (pc : ℕ) → length marks ≡ 4096 → pc < 4096 → is_marked (marked marks pc) pc ≡ true
marked-here marks pc full low = is-marked (marked marks pc) pc low (mark-there marks pc full low)

pub marked-keeps : (marks : List Bool) (pc k : ℕ) → is_marked marks k ≡ true → is_marked (marked marks pc) k ≡ true
marked-keeps marks pc k is =
    let grows = mark-grows marks pc in
    is-marked (marked marks pc) k (marked-low marks k is) (grows.keeps k (has-marked marks k is))

-- what is marked is one of the list
pub has-within : (marks : List Bool) (k : ℕ) → Has marks k → k < length marks
has-within [] k h = absurd cc
has-within (b ∷ marks) zero h = omega arith
has-within (b ∷ marks) (suc k) h = let rest = has-within marks k h in omega (arith, rest)

pub count-set : (marks : List Bool) (pc : ℕ) → pc < length marks → get_or marks pc false ≡ false → count (set marks pc true) ≡ suc (count marks)
unfolding count
count-set [] pc lt not_yet = absurd (omega arith)
count-set (true ∷ marks) zero lt not_yet = absurd cc
count-set (false ∷ marks) zero lt not_yet = refl
count-set (true ∷ marks) (suc pc) lt not_yet = ap suc (count-set marks pc (omega arith) not_yet)
count-set (false ∷ marks) (suc pc) lt not_yet = count-set marks pc (omega arith) not_yet

pub count-none : (n : ℕ) → count (replicate n false) ≡ 0
unfolding count
count-none zero = refl
count-none (suc n) = count-none n

pub none-full : length no_marks ≡ 4096
unfolding no_marks
none-full = length-replicate 4096 false
