-- One more edge among those to where it leads.
use Rattle.std.proofs.Common.{◌≡◌, ◌≢◌, ◌<◌, ◌+◌, ◌*◌, ℕ, zero, suc, Bool, true, false, cond, List, length, replicate, Option, Some, None, get_or, set, refl, sym, ap, ◌∙◌, subst, inl, inr, arith}
use Rattle.std.proofs.lemmas.Bool.{cases_eq, cases_lt}
use Rattle.std.proofs.lemmas.List.{get_or-set_same, get_or-set_other}
use Rattle.geos_image.specs.Parts.{Parts}
use Rattle.geos_flow.specs.declared.edge.Edge.{Edge}
use Rattle.geos_flow.specs.Edges.{end_in, number_of}
use Rattle.geos_flow.specs.Graphs.{above, IsLast, AreInto}

-- the number of an edge, by whether it is that to the target
pub number-is : (edge : Edge) (b : Bool) → edge.branch ≡ b → number_of edge ≡ 2 * edge.from + cond b 1 0
number-is edge b is = ap (λ c. 2 * edge.from + cond c 1 0) is

pub number-low : (edge : Edge) (n : ℕ) → edge.from < n → number_of edge < 2 * n
number-low edge n low = by_branch edge.branch refl
  where
    by_branch : (b : Bool) → edge.branch ≡ b → number_of edge < 2 * n
    by_branch true is = let number = number-is edge true is in omega arith
    by_branch false is = let number = number-is edge false is in omega arith

-- edges with the same number are the same
pub same-edge : (a b : Edge) → number_of a ≡ number_of b → a ≡ b
same-edge a b same = by_branch a.branch refl b.branch refl
  where
    made : (x : Bool) → a.from ≡ b.from → a.branch ≡ x → b.branch ≡ x → a ≡ b
    made x from here there =
        ap (λ n. record { from = n; branch = a.branch }) from ∙ ap (λ c. record { from = b.from; branch = c }) (here ∙ sym there)

    by_branch : (x : Bool) → a.branch ≡ x → (y : Bool) → b.branch ≡ y → a ≡ b
    by_branch true here true there = let m = number-is a true here in let n = number-is b true there in made true (omega arith) here there
    by_branch false here false there = let m = number-is a false here in let n = number-is b false there in made false (omega arith) here there
    by_branch true here false there = let m = number-is a true here in let n = number-is b false there in absurd (omega arith)
    by_branch false here true there = let m = number-is a false here in let n = number-is b true there in absurd (omega arith)

pub replicate-at : {X : Type 0} (x : X) (n k : ℕ) → get_or (replicate n x) k x ≡ x
replicate-at x zero k = refl
replicate-at x (suc n) zero = refl
replicate-at x (suc n) (suc k) = replicate-at x n k

module _ (image : Parts) where
  last-none : (to : ℕ) (at : Option Edge) → at ≡ None → IsLast image 0 to at
  last-none to at none = record {
    below = let is = ap above none in omega arith;
    leads = λ edge is. absurd cc;
    all = λ edge less ends. absurd (omega arith);
  }

  -- of no edges
  pub into-none : (first behind : List (Option Edge)) → ((k : ℕ) → get_or first k None ≡ None) → AreInto image 0 first behind
  into-none first behind none = record {
    first = λ to low. last-none to (get_or first to None) (none to);
    behind = λ edge to less. absurd (omega arith);
  }

  -- an edge that does not lead there changes nothing
  last-other : (edge : Edge) (to : ℕ) (at : Option Edge) → (end_in image edge ≡ Some to → ⊥) → IsLast image (number_of edge) to at
      → IsLast image (number_of edge + 1) to at
  last-other edge to at not_there last = record {
    below = let low = last.below in omega arith;
    leads = last.leads;
    all = λ other less ends. elim (cases_lt (number_of other) (number_of edge)) [
      | inl before ↦ last.all other before ends
      | inr past ↦
          let same = same-edge other edge (omega arith) in
          absurd (not_there (subst (λ e. end_in image e ≡ Some to) same ends))
    ];
  }

  last-this : (edge : Edge) (to : ℕ) → end_in image edge ≡ Some to → IsLast image (number_of edge + 1) to (Some edge)
  last-this edge to ends = record {
    below = omega arith;
    leads = λ other is. (let same : edge ≡ other = cc in subst (λ e. end_in image e ≡ Some to) same ends);
    all = λ other less ends. less;
  }

  -- one that leads nowhere
  pub into-nowhere : (edge : Edge) (first behind : List (Option Edge)) → end_in image edge ≡ None → AreInto image (number_of edge) first behind
      → AreInto image (number_of edge + 1) first behind
  into-nowhere edge first behind none into = record {
    first = λ to low. last-other edge to (get_or first to None) (λ there. absurd cc) (into.first to low);
    behind = λ other to less ends. elim (cases_lt (number_of other) (number_of edge)) [
      | inl before ↦ into.behind other to before ends
      | inr past ↦ (let same = same-edge other edge (omega arith) in absurd cc)
    ];
  }

  -- one that leads to a pc
  pub into-more : (edge : Edge) (end : ℕ) (first behind : List (Option Edge)) → end_in image edge ≡ Some end → end < length first
      → number_of edge < length behind → end < 4096
      → AreInto image (number_of edge) first behind
      → AreInto image (number_of edge + 1) (set first end (Some edge)) (set behind (number_of edge) (get_or first end None))
  into-more edge end first behind ends within long low into = record {
    first = λ to less. elim (cases_eq to end) [
      | inl same ↦
          let here : get_or (set first end (Some edge)) to None ≡ Some edge =
          ap (λ k. get_or (set first end (Some edge)) k None) same ∙ get_or-set_same first end (Some edge) None within in
          subst (λ o. IsLast image (number_of edge + 1) to o) (sym here) (last-this edge to (ends ∙ ap Some (sym same)))
      | inr ne ↦
          let there = get_or-set_other first end to (Some edge) None ne in
          subst (λ o. IsLast image (number_of edge + 1) to o) (sym there)
          (last-other edge to (get_or first to None) (λ is. (let both : Some end ≡ Some to = sym ends ∙ is in
          let same : end ≡ to = cc in ne (sym same))) (into.first to less))
    ];
    behind = λ other to less is. elim (cases_lt (number_of other) (number_of edge)) [
      | inl before ↦
          let ne : number_of other ≢ number_of edge = λ same. omega arith in
          let there = get_or-set_other behind (number_of edge) (number_of other) (get_or first end None) None ne in
          subst (λ o. IsLast image (number_of other) to o) (sym there) (into.behind other to before is)
      | inr past ↦
          let same : number_of other ≡ number_of edge = omega arith in
          let same_edge = same-edge other edge same in
          let here : get_or (set behind (number_of edge) (get_or first end None)) (number_of other) None ≡ get_or first end None =
          ap (λ k. get_or (set behind (number_of edge) (get_or first end None)) k None) same
          ∙ get_or-set_same behind (number_of edge) (get_or first end None) None long in
          let both : Some end ≡ Some to = sym ends ∙ ap (end_in image) (sym same_edge) ∙ is in
          let there : end ≡ to = cc in
          subst (λ o. IsLast image (number_of other) to o) (sym here)
          (subst (λ k. IsLast image (number_of other) k (get_or first end None)) there
          (subst (λ k. IsLast image k end (get_or first end None)) (sym same) (into.first end low)))
    ];
  }
