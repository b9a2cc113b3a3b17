-- Steps along the edges of a pc, ahead or back.
use Rattle.std.proofs.Common.{◌≡◌, ◌≤◌, ◌+◌, ◌*◌, ℕ, Bool, true, false, List, length, Option, Some, None, sym, ap, ◌∙◌, subst, arith, ◌⊎◌, inl, inr}
use Rattle.std.proofs.lemmas.Bool.{cases_lt, cases_eq}
use Rattle.geos_image.specs.Parts.{Parts}
use Rattle.geos_flow.specs.declared.edge.Edge.{Edge}
use Rattle.geos_flow.specs.declared.search.Heading.{Heading}
use Rattle.geos_flow.specs.declared.search.Heading.TheVariants.{Ahead, Back}
use Rattle.geos_flow.specs.declared.waiting.Waiting.{Waiting}
use Rattle.geos_flow.specs.Edges.{end_in, number_of}
use Rattle.geos_flow.specs.Flow.{Step, step_along, step_by, MarksWhatIsLed}
use Rattle.geos_flow.specs.Graphs.{above, IsLast}
use Rattle.geos_flow.specs.Waiting.{Has, IsKept, Waits, Extends, Notes, TakesEdge, GoesOn, TakesNext}
use Rattle.geos_flow.proofs.Kept.{extends-same, extends-on}
use Rattle.geos_flow.proofs.Into.{same-edge, number-low}
use Rattle.geos_flow.proofs.Leading.{led-on, led-first, AllLed, marks-led}
use Rattle.geos_flow.proofs.Marked.{has-within, count-bound, is-marked}
use Rattle.geos_flow.proofs.Steps.{end-inside, step-is, is-step}

-- ---- One edge

module _ (image : Parts) (heading : Heading) (counts : Edge → ℕ → Bool) where
  abbrev steps : Edge → Option Step
  steps edge = step_by image heading counts edge

  -- one that does not count, or leads nowhere
  pub takes-not : (edge : Edge) (from : ℕ) (w : Waiting) → ((step : Step) → steps edge ≡ Some step → ⊥) → TakesEdge steps edge from w w
  takes-not edge from w none = record {
    extends = extends-same w;
    there = λ to is. absurd (none (record { from = from; to = to }) is);
    was = λ k h. inl h;
  }

  pub takes-nowhere : (edge : Edge) (from : ℕ) (w : Waiting) → end_in image edge ≡ None → TakesEdge steps edge from w w
  takes-nowhere edge from w none = takes-not edge from w (λ step is. (let found = step-is image heading counts edge step is in let ends = found.ends in absurd cc))

  pub takes-uncounted : (edge : Edge) (end from : ℕ) (w : Waiting) → end_in image edge ≡ Some end → counts edge end ≡ false
      → TakesEdge steps edge from w w
  takes-uncounted edge end from w ends not_so = takes-not edge from w (λ step is. (
      let found = step-is image heading counts edge step is in
      let both : Some end ≡ Some found.end = sym ends ∙ found.ends in
      let same : end ≡ found.end = cc in
      let counted = subst (λ e. counts edge e ≡ true) (sym same) found.is_counted in
      absurd cc))

  to-is : (edge : Edge) (end to : ℕ) → end_in image edge ≡ Some end
      → steps edge ≡ Some (record { from = (step_along heading edge.from end).from; to = to }) → to ≡ (step_along heading edge.from end).to
  to-is edge end to ends is =
      let found = step-is image heading counts edge (record { from = (step_along heading edge.from end).from; to = to }) is in
      let both : Some end ≡ Some found.end = sym ends ∙ found.ends in
      let same : end ≡ found.end = cc in
      ap (λ s. s.to) (sym found.is) ∙ ap (λ e. (step_along heading edge.from e).to) (sym same)

  -- one to what is marked
  pub takes-marked : (edge : Edge) (end : ℕ) (w : Waiting) → end_in image edge ≡ Some end → Has w.marks (step_along heading edge.from end).to
      → TakesEdge steps edge (step_along heading edge.from end).from w w
  takes-marked edge end w ends has = record {
    extends = extends-same w;
    there = λ to is. subst (λ k. Has w.marks k) (sym (to-is edge end to ends is)) has;
    was = λ k h. inl h;
  }

  -- one that counts
  pub takes-noted : (edge : Edge) (end : ℕ) (old new : Waiting) → end_in image edge ≡ Some end → counts edge end ≡ true
      → Notes (step_along heading edge.from end).to old new → TakesEdge steps edge (step_along heading edge.from end).from old new
  takes-noted edge end old new ends is notes = record {
    extends = notes.extends;
    there = λ to there. subst (λ k. Has new.marks k) (sym (to-is edge end to ends there)) notes.there;
    was = λ k h. elim (notes.was k h) [
      | inl was ↦ inl was
      | inr same ↦ inr (is-step image heading counts edge end ends is
          ∙ ap (λ t. Some (record { from = (step_along heading edge.from end).from; to = t })) (sym same))
    ];
  }

-- ---- All edges of a pc

module _ (image : Parts) (counts : Edge → ℕ → Bool) where
  abbrev ahead : Edge → Option Step
  ahead edge = step_by image Ahead counts edge

  abbrev back : Edge → Option Step
  back edge = step_by image Back counts edge

  abbrev edge_at : ℕ → Bool → Edge
  edge_at from branch = record { from = from; branch = branch }

  pub goes-ahead : (from : ℕ) (old one new : Waiting) → TakesEdge ahead (edge_at from false) from old one
      → TakesEdge ahead (edge_at from true) from one new → GoesOn ahead from old new
  goes-ahead from old one new along aside = record {
    extends = extends-on old one new along.extends aside.extends;
    there = λ edge to is. (
        let found = step-is image Ahead counts edge (record { from = from; to = to }) is in
        let begins : edge.from ≡ from = ap (λ s. s.from) found.is in
        by_branch edge.branch to (subst (λ n. ahead (edge_at n edge.branch) ≡ Some (record { from = from; to = to })) begins is));
    was = λ k h. elim (aside.was k h) [
      | inr is ↦ inr (edge_at from true, is)
      | inl was ↦ elim (along.was k was) [ inl before ↦ inl before | inr is ↦ inr (edge_at from false, is) ]
    ];
  }
    where
      by_branch : (b : Bool) (to : ℕ) → ahead (edge_at from b) ≡ Some (record { from = from; to = to }) → Has new.marks to
      by_branch true to is = aside.there to is
      by_branch false to is = let keeps = aside.extends in keeps.keeps to (along.there to is)

  -- of the edges back from a pc, all but this one and those before it have been followed
  pub record HasGoneBack (to : ℕ) (at : Option Edge) (old new : Waiting) : Type 0 where
    pub kept : IsKept new
    pub extends : Extends old new
    pub leads : (edge : Edge) → at ≡ Some edge → end_in image edge ≡ Some to
    pub there : (edge : Edge) (k : ℕ) → above at ≤ number_of edge → back edge ≡ Some (record { from = to; to = k }) → Has new.marks k
    pub was : (k : ℕ) → Has new.marks k → Has old.marks k ⊎ ((edge : Edge) × (back edge ≡ Some (record { from = to; to = k })))

  ends-there : (edge : Edge) (to k : ℕ) → back edge ≡ Some (record { from = to; to = k }) → end_in image edge ≡ Some to
  ends-there edge to k is =
      let found = step-is image Back counts edge (record { from = to; to = k }) is in
      let same : found.end ≡ to = ap (λ s. s.from) found.is in
      found.ends ∙ ap Some same

  pub back-begun : (to : ℕ) (at : Option Edge) (old : Waiting) → IsKept old → IsLast image (2 * length image.points) to at → HasGoneBack to at old old
  back-begun to at old kept last = record {
    kept = kept;
    extends = extends-same old;
    leads = last.leads;
    there = λ edge k past is. (
        let ends = ends-there edge to k is in
        let low = number-low edge (length image.points) (end-inside image edge to ends).0 in
        let before = last.all edge low ends in
        absurd (omega arith));
    was = λ k h. inl h;
  }

  pub back-next : (to : ℕ) (edge : Edge) (at next : Option Edge) (old w new : Waiting) → at ≡ Some edge → HasGoneBack to at old w → IsKept new
      → IsLast image (number_of edge) to next → TakesEdge back edge to w new → HasGoneBack to next old new
  back-next to edge at next old w new is gone kept last takes = record {
    kept = kept;
    extends = extends-on old w new gone.extends takes.extends;
    leads = last.leads;
    there = λ other k past there. elim (cases_lt (number_of other) (number_of edge)) [
      | inl before ↦ (let lower = last.all other before (ends-there other to k there) in absurd (omega arith))
      | inr from ↦ elim (cases_eq (number_of other) (number_of edge)) [
        | inl same ↦
            let same_edge = same-edge other edge same in
            takes.there k (subst (λ e. back e ≡ Some (record { from = to; to = k })) same_edge there)
        | inr ne ↦
            let number : above at ≡ number_of edge + 1 = ap above is in
            let keeps = takes.extends in
            keeps.keeps k (gone.there other k (omega (arith, number, from, ne)) there)
      ]
    ];
    was = λ k h. elim (takes.was k h) [
      | inr here ↦ inr (edge, here)
      | inl was ↦ gone.was k was
    ];
  }

  pub back-ended : (to : ℕ) (at : Option Edge) (old new : Waiting) → at ≡ None → HasGoneBack to at old new → GoesOn back to old new
  back-ended to at old new none gone = record {
    extends = gone.extends;
    there = λ edge k is. gone.there edge k (let number : above at ≡ 0 = ap above none in omega arith) is;
    was = gone.was;
  }

-- ---- All pcs

-- what was gone on from leads to what is marked
pub record HasSearched (steps : Edge → Option Step) (marks : List Bool) (w : Waiting) : Type 0 where
  pub kept : IsKept w
  pub begun : (k : ℕ) → Has marks k → Has w.marks k
  pub led : AllLed steps marks w.marks
  pub on : (k : ℕ) → Has w.marks k → Waits w k ⊎ ((edge : Edge) (to : ℕ) → steps edge ≡ Some (record { from = k; to = to }) → Has w.marks to)

module _ (steps : Edge → Option Step) (marks : List Bool) (full : length marks ≡ 4096) where
  pub searched-begun : (w : Waiting) → IsKept w → ((k : ℕ) → Has w.marks k → Has marks k) → ((k : ℕ) → Has marks k → Has w.marks k)
      → ((k : ℕ) → Has w.marks k → Waits w k) → HasSearched steps marks w
  searched-begun w kept was begun waits = record {
    kept = kept;
    begun = begun;
    led = λ k h. (let has = was k h in led-first steps marks k (is-marked marks k (let low = has-within marks k has in omega arith) has));
    on = λ k h. inl (waits k h);
  }

  pub searched-next : (w taken new : Waiting) (pc : ℕ) → HasSearched steps marks w → TakesNext w taken pc → GoesOn steps pc taken new → IsKept new
      → length w.marks ≡ 4096 → HasSearched steps marks new
  searched-next w taken new pc so_far takes goes kept long = record {
    kept = kept;
    begun = λ k h. keeps k (so_far.begun k h);
    led = λ k h. elim (goes.was k h) [
      | inl was ↦ so_far.led k (subst (λ m. Has m k) takes.marks was)
      | inr step ↦ led-on steps marks pc k step.0 (so_far.led pc taken_has) step.1
    ];
    on = λ k h. elim (extends.fresh k h) [
      | inr waits ↦ inl waits
      | inl has ↦ elim (so_far.on k (subst (λ m. Has m k) takes.marks has)) [
        | inl waited ↦ elim (takes.waits k waited) [
          | inl same ↦ inr (λ edge to is. goes.there edge to (subst (λ n. steps edge ≡ Some (record { from = n; to = to })) same is))
          | inr waits ↦ inl (extends.waits k waits)
        ]
        | inr on ↦ inr (λ edge to is. keeps to (on edge to is))
      ]
    ];
  }
    where
      extends : Extends taken new
      extends = goes.extends

      keeps : (k : ℕ) → Has w.marks k → Has new.marks k
      keeps k h = extends.keeps k (subst (λ m. Has m k) (sym takes.marks) h)

      taken_has : Has w.marks pc
      taken_has = takes.has

  pub searched-ended : (w : Waiting) → HasSearched steps marks w → ((k : ℕ) → Waits w k → ⊥) → MarksWhatIsLed steps marks w.marks
  searched-ended w all none = marks-led steps marks w.marks (let kept = all.kept in kept.long) all.begun all.led
      (λ edge from to is has. elim (all.on from has) [ inl waits ↦ absurd (none from waits) | inr on ↦ on edge to is ])

-- no more are marked than there are pcs
pub few-marked : (w : Waiting) → IsKept w → w.end ≤ 4096
few-marked w kept =
    let full = kept.long in
    let most = count-bound w.marks 4096 (λ k h. (let low = has-within w.marks k h in omega arith)) in
    let is = kept.end in
    omega arith
