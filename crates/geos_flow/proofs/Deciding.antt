-- It is decided whether steps lead from one pc to another.
use Rattle.std.proofs.Common.{◌≡◌, ◌<◌, ℕ, zero, suc, Bool, true, false, List, [], ◌∷◌, length, Option, Some, None, refl, sym, ap, ◌∙◌, subst, arith, ◌⊎◌, inl, inr}
use Rattle.std.proofs.lemmas.Bool.{cases_eq, cases_lt}
use Rattle.geos_image.specs.Parts.{Parts}
use Rattle.geos_flow.specs.declared.edge.Edge.{Edge}
use Rattle.geos_flow.specs.declared.search.Heading.{Heading}
use Rattle.geos_flow.specs.Flow.{Step, step_by, Lead, Leads}
use Rattle.geos_flow.proofs.Steps.{AreWithin, inside}

-- a statement is true, or its negation is
abbrev pub IsDecided : Type 0 → Type 0
IsDecided P = P ⊎ (P → ⊥)

pub either-or-not : {P Q : Type 0} → IsDecided P → IsDecided Q → IsDecided (P ⊎ Q)
either-or-not (inl p) q = inl (inl p)
either-or-not (inr none) (inl q) = inl (inr q)
either-or-not (inr none) (inr neither) = inr (λ is. elim is [ inl p ↦ none p | inr q ↦ neither q ])

pub both-or-not : {P Q : Type 0} → IsDecided P → IsDecided Q → IsDecided (P × Q)
both-or-not (inl p) (inl q) = inl (p, q)
both-or-not (inl p) (inr none) = inr (λ is. none is.1)
both-or-not (inr none) q = inr (λ is. none is.0)

pub like-or-not : {P Q : Type 0} → (P → Q) → (Q → P) → IsDecided P → IsDecided Q
like-or-not f g (inl p) = inl (f p)
like-or-not f g (inr none) = inr (λ q. none (g q))

-- something is so of one of the first n numbers
abbrev pub IsBelow : (ℕ → Type 0) → ℕ → Type 0
IsBelow P n = (k : ℕ) × (k < n) × P k

pub below-or-not : (P : ℕ → Type 0) → ((k : ℕ) → IsDecided (P k)) → (n : ℕ) → IsDecided (IsBelow P n)
below-or-not P each zero = inr (λ found. (let low = found.1 in omega arith))
below-or-not P each (suc n) = like-or-not one_of split (either-or-not (below-or-not P each n) (each n))
  where
    one_of : IsBelow P n ⊎ P n → IsBelow P (suc n)
    one_of (inl found) = (found.0, (let low = found.1 in omega arith), found.2)
    one_of (inr here) = (n, omega arith, here)

    split : IsBelow P (suc n) → IsBelow P n ⊎ P n
    split found = elim (cases_lt found.0 n) [
      | inl low ↦ inl (found.0, low, found.2)
      | inr past ↦ (let low = found.1 in let same : found.0 ≡ n = omega arith in inr (subst P same found.2))
    ]

-- ---- One step

step-or-not : (o : Option Step) (from to : ℕ) → IsDecided (o ≡ Some (record { from = from; to = to }))
step-or-not None from to = inr (λ same. absurd cc)
step-or-not (Some step) from to = like-or-not made parts (both-or-not (cases_eq step.from from) (cases_eq step.to to))
  where
    made : (step.from ≡ from) × (step.to ≡ to) → Some step ≡ Some (record { from = from; to = to })
    made both =
        ap (λ n. Some (record { from = n; to = step.to })) both.0 ∙ ap (λ n. Some (record { from = from; to = n })) both.1

    parts : Some step ≡ Some (record { from = from; to = to }) → (step.from ≡ from) × (step.to ≡ to)
    parts is = let same : step ≡ record { from = from; to = to } = cc in (ap (λ s. s.from) same, ap (λ s. s.to) same)

-- ---- Ways

-- ways join
lead-on : (steps : Edge → Option Step) (start middle pc : ℕ) → Leads steps start middle → (edges : List Edge) → Lead steps middle edges pc
    → Leads steps start pc
lead-on steps start middle pc way [] same = (way.0, subst (λ k. Lead steps start way.0 k) (sym same) way.1)
lead-on steps start middle pc way (edge ∷ edges) lead =
    let before = lead-on steps start middle lead.0 way edges lead.1 in
    (edge ∷ before.0, (lead.0, before.1, lead.2))

module _ (steps : Edge → Option Step) (count : ℕ) (inside : AreWithin count steps) where
  abbrev edge_at : ℕ → Bool → Edge
  edge_at n branch = record { from = n; branch = branch }

  -- a step leads from one pc to another
  abbrev Goes : ℕ → ℕ → Type 0
  Goes from to = (edge : Edge) × (steps edge ≡ Some (record { from = from; to = to }))

  -- one of the edges of the instruction at a pc is such
  abbrev GoesAt : ℕ → ℕ → ℕ → Type 0
  GoesAt from to n =
      (steps (edge_at n false) ≡ Some (record { from = from; to = to })) ⊎ (steps (edge_at n true) ≡ Some (record { from = from; to = to }))

  goes-at : (from to n : ℕ) (branch : Bool) → steps (edge_at n branch) ≡ Some (record { from = from; to = to }) → GoesAt from to n
  goes-at from to n false is = inl is
  goes-at from to n true is = inr is

  at-goes : (from to n : ℕ) → GoesAt from to n → Goes from to
  at-goes from to n (inl is) = (edge_at n false, is)
  at-goes from to n (inr is) = (edge_at n true, is)

  goes-or-not : (from to : ℕ) → IsDecided (Goes from to)
  goes-or-not from to = like-or-not (λ found. at-goes from to found.0 found.2)
      (λ goes. (goes.0.from, (inside goes.0 (record { from = from; to = to }) goes.1).0, goes-at from to goes.0.from goes.0.branch goes.1))
      (below-or-not (GoesAt from to)
      (λ n. either-or-not (step-or-not (steps (edge_at n false)) from to) (step-or-not (steps (edge_at n true)) from to)) count)

  -- a path leads from one pc to another, and all pcs between them are among the first n
  abbrev By : ℕ → ℕ → ℕ → Type 0
  By zero from to = (to ≡ from) ⊎ Goes from to
  By (suc n) from to = By n from to ⊎ (By n from n × By n n to)

  by-or-not : (n from to : ℕ) → IsDecided (By n from to)
  by-or-not zero from to = either-or-not (cases_eq to from) (goes-or-not from to)
  by-or-not (suc n) from to = either-or-not (by-or-not n from to) (both-or-not (by-or-not n from n) (by-or-not n n to))

  by-leads : (n from to : ℕ) → By n from to → Leads steps from to
  by-leads zero from to (inl same) = ([], same)
  by-leads zero from to (inr goes) = (goes.0 ∷ [], (from, refl, goes.1))
  by-leads (suc n) from to (inl by) = by-leads n from to by
  by-leads (suc n) from to (inr by) =
      let way = by-leads n n to by.1 in
      lead-on steps from n to (by-leads n from n by.0) way.0 way.1

  by-more : (n from to : ℕ) → By zero from to → By n from to
  by-more zero from to by = by
  by-more (suc n) from to by = inl (by-more n from to by)

  -- a way to the last of the pcs, and one from there, need not go by way of it
  by-last : (n from : ℕ) → By (suc n) from n → By n from n
  by-last n from (inl by) = by
  by-last n from (inr by) = by.0

  by-first : (n to : ℕ) → By (suc n) n to → By n n to
  by-first n to (inl by) = by
  by-first n to (inr by) = by.1

  -- ways join, if such that go by way of one pc less do
  joined : (n middle : ℕ) → ((from to : ℕ) → By n from middle → By n middle to → By n from to)
      → (from to : ℕ) → By (suc n) from middle → By (suc n) middle to → By (suc n) from to
  joined n middle join from to (inl one) (inl two) = inl (join from to one two)
  joined n middle join from to (inl one) (inr two) = inr (join from n one two.0, two.1)
  joined n middle join from to (inr one) (inl two) = inr (one.0, join n to one.1 two)
  joined n middle join from to (inr one) (inr two) = inr (one.0, two.1)

  by-on : (n from middle to : ℕ) → middle < n → By n from middle → By n middle to → By n from to
  by-on zero from middle to low first second = absurd (omega arith)
  by-on (suc n) from middle to low first second = elim (cases_lt middle n) [
    | inl less ↦ joined n middle (λ start end. by-on n start middle end less) from to first second
    | inr past ↦
        let same : middle ≡ n = omega arith in
        inr (
          by-last n from (subst (λ m. By (suc n) from m) same first),
          by-first n to (subst (λ m. By (suc n) m to) same second),
        )
  ]

  leads-by : (start : ℕ) (edges : List Edge) (pc : ℕ) → Lead steps start edges pc → By count start pc
  leads-by start [] pc same = by-more count start pc (inl same)
  leads-by start (edge ∷ edges) pc lead =
      by-on count start lead.0 pc (inside edge (record { from = lead.0; to = pc }) lead.2).1 (leads-by start edges lead.0 lead.1)
      (by-more count lead.0 pc (inr (edge, lead.2)))

  within-or-not : (start pc : ℕ) → IsDecided (Leads steps start pc)
  within-or-not start pc =
      like-or-not (by-leads count start pc) (λ way. leads-by start way.0 pc way.1) (by-or-not count start pc)

-- along edges of an image that count
pub leads-or-not : (image : Parts) (heading : Heading) (counts : Edge → ℕ → Bool) (start pc : ℕ)
    → IsDecided (Leads (step_by image heading counts) start pc)
leads-or-not image heading counts start pc = within-or-not (step_by image heading counts) (length image.points) (inside image heading counts) start pc
