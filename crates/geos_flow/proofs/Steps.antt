-- Steps along the edges of an image that count.
use Rattle.std.proofs.Common.{◌≡◌, ◌<◌, ◌≤◌, ℕ, Bool, true, cond, length, Option, Some, None, slice_get, ap, ◌∙◌, arith}
use Rattle.std.specs.Prelude.{◌&&◌, nat_lt}
use Rattle.std.proofs.lemmas.Bool.{and_parts, cond_both, lt-ltb, ltb-true}
use Rattle.std.proofs.lemmas.Option.{slice_get_within}
use Rattle.geos_image.specs.declared.point.Point.{Point}
use Rattle.geos_image.specs.Parts.{Parts}
use Rattle.geos_verify.specs.Rows.{has_edge}
use Rattle.geos_flow.specs.declared.edge.Edge.{Edge}
use Rattle.geos_flow.specs.declared.search.Heading.{Heading}
use Rattle.geos_flow.specs.declared.search.Heading.TheVariants.{Ahead, Back}
use Rattle.geos_flow.specs.Edges.{end_of, end_below, end_in}
use Rattle.geos_flow.specs.Flow.{Step, step_along, step_by}
use Rattle.geos_flow.proofs.Choices.{elim_both}

-- an edge that an instruction has leads to its end, if that is inside
pub end-there : (image : Parts) (edge : Edge) (point : Point) (to : ℕ) → slice_get image.points edge.from ≡ Some point
    → has_edge point.instr edge.branch ≡ true → end_of edge point.instr ≡ to → to < length image.points → end_in image edge ≡ Some to
end-there image edge point to there has is low =
    ap (λ o. elim o [ None ↦ None | Some found ↦ end_below (length image.points) edge found.instr ]) there
    ∙ ap (λ b. cond (b && nat_lt (end_of edge point.instr) (length image.points)) (Some (end_of edge point.instr)) None) has
    ∙ ap (λ b. cond b (Some (end_of edge point.instr)) None) (lt-ltb (end_of edge point.instr) (length image.points) (omega (arith, is, low)))
    ∙ ap Some is

-- an edge that leads to a pc
pub record HasEnd (image : Parts) (edge : Edge) (to : ℕ) : Type 0 where
  pub point : Point
  pub there : slice_get image.points edge.from ≡ Some point
  pub has : has_edge point.instr edge.branch ≡ true
  pub is : end_of edge point.instr ≡ to
  pub low : to < length image.points

pub end-is : (image : Parts) (edge : Edge) (to : ℕ) → end_in image edge ≡ Some to → HasEnd image edge to
end-is image edge to =
    elim_both (slice_get image.points edge.from) None (λ (point : Point). end_below (length image.points) edge point.instr)
    (λ o. o ≡ Some to → HasEnd image edge to) (λ none is. absurd cc) (λ point there. (
    let end = end_of edge point.instr in
    let has = has_edge point.instr edge.branch in
    cond_both (has && nat_lt end (length image.points)) (Some end) None (λ o. o ≡ Some to → HasEnd image edge to)
    (λ so same. (
    let tests = and_parts has (nat_lt end (length image.points)) so in
    let is : end ≡ to = cc in
    let low = ltb-true end (length image.points) tests.1 in
    record { point = point; there = there; has = tests.0; is = is; low = omega arith }))
    (λ not_so none. absurd cc)))

-- it begins and ends in the image
pub end-inside : (image : Parts) (edge : Edge) (end : ℕ) → end_in image edge ≡ Some end
    → (edge.from < length image.points) × (end < length image.points)
end-inside image edge end ends =
    let found = end-is image edge end ends in
    (slice_get_within image.points edge.from found.point found.there, found.low)

-- where a step leads is a pc
pub step-low : (image : Parts) (heading : Heading) (edge : Edge) (end : ℕ) → length image.points ≤ 4096 → end_in image edge ≡ Some end
    → (step_along heading edge.from end).to < 4096
step-low image Ahead edge end short ends = let low = end-inside image edge end ends in omega (arith, short, low.1)
step-low image Back edge end short ends = let low = end-inside image edge end ends in omega (arith, short, low.0)

-- each step follows an edge from a pc below `count`, and leads from one pc below `count` to another
abbrev pub AreWithin : ℕ → (Edge → Option Step) → Type 0
AreWithin count steps = (edge : Edge) (step : Step) → steps edge ≡ Some step → (edge.from < count) × (step.from < count) × (step.to < count)

module _ (image : Parts) (heading : Heading) (counts : Edge → ℕ → Bool) where
  abbrev steps : Edge → Option Step
  steps edge = step_by image heading counts edge

  -- a step is that along an edge which counts
  pub record IsStep (edge : Edge) (step : Step) : Type 0 where
    pub end : ℕ
    pub ends : end_in image edge ≡ Some end
    pub is_counted : counts edge end ≡ true
    pub is : step_along heading edge.from end ≡ step

  pub step-is : (edge : Edge) (step : Step) → steps edge ≡ Some step → IsStep edge step
  step-is edge step = elim_both (end_in image edge) None (λ (end : ℕ). cond (counts edge end) (Some (step_along heading edge.from end)) None)
      (λ o. o ≡ Some step → IsStep edge step) (λ none same. absurd cc) (λ end ends.
      cond_both (counts edge end) (Some (step_along heading edge.from end)) None (λ o. o ≡ Some step → IsStep edge step)
      (λ is same. record { end = end; ends = ends; is_counted = is; is = cc }) (λ not_so none. absurd cc))

  pub is-step : (edge : Edge) (end : ℕ) → end_in image edge ≡ Some end → counts edge end ≡ true
      → steps edge ≡ Some (step_along heading edge.from end)
  is-step edge end ends is =
      ap (λ o. elim o [ None ↦ None | Some to ↦ cond (counts edge to) (Some (step_along heading edge.from to)) None ]) ends
      ∙ ap (λ b. cond b (Some (step_along heading edge.from end)) None) is

  pub inside : AreWithin (length image.points) steps
  inside edge step is =
      let found = step-is edge step is in
      let low = end-inside image edge found.end found.ends in
      by_heading heading found.is low.0 low.1
    where
      by_heading : (h : Heading) → step_along h edge.from (step-is edge step is).end ≡ step → edge.from < length image.points
          → (step-is edge step is).end < length image.points
          → (edge.from < length image.points) × (step.from < length image.points) × (step.to < length image.points)
      by_heading Ahead same low end =
          let from : edge.from ≡ step.from = ap (λ s. s.from) same in
          let to : (step-is edge step is).end ≡ step.to = ap (λ s. s.to) same in
          (omega arith, omega arith, omega arith)
      by_heading Back same low end =
          let from : (step-is edge step is).end ≡ step.from = ap (λ s. s.from) same in
          let to : edge.from ≡ step.to = ap (λ s. s.to) same in
          (omega arith, omega arith, omega arith)
