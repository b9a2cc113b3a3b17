-- The marks say what control reaches.
use Rattle.std.proofs.Common.{◌≡◌, ◌<◌, ◌+◌, ℕ, true, Bool, List, [], length, refl, sym, ap, ◌∙◌, subst, arith, inl, inr}
use Rattle.geos_explain.proofs.Below.{cases_lt, is_image, Parts, start_of, image_parts, start_of-end, Ahead, step_by, Lead, MarksWhatIsLed, no_marks, marked, is_marked, Marking, below-or-not, leads-or-not, has-marked, marked-here, marked-keeps, mark-was, is-marked, marked-low, none-marked}
use Rattle.geos_image.proofs.Given.{item_at, routine_counts}
use Rattle.geos_explain.proofs.Leads.{is-decided}
use Rattle.geos_explain.specs.Led.{stays, LeadsFrom, MarksStarts, is_reached}

-- each routine has a first instruction
start-low : (image : Parts) (r : ℕ) → is_image image ≡ true → r < length image.routines → start_of image.routines r < 4096
start-low image r legal within =
    let parts = image_parts image legal in
    let routine = item_at image.routines r within in
    let some = routine_counts image.keyed [] image.routines r routine.0 parts.routines routine.1 in
    let end = start_of-end image.routines r routine.0 routine.1 in
    omega (arith, some, end, parts.counts, parts.short)

pub starts-none : (image : Parts) → MarksStarts image 0 no_marks
starts-none image pc = (
  λ is. absurd (none-marked pc (has-marked no_marks pc is)),
  λ start. (let before = start.1 in absurd (omega arith)),
)

-- of one more routine
pub starts-more : (image : Parts) (n : ℕ) (marks : List Bool) → length marks ≡ 4096 → is_image image ≡ true → n < length image.routines
    → MarksStarts image n marks → MarksStarts image (n + 1) (marked marks (start_of image.routines n))
starts-more image n marks full legal within starts pc = (
  λ is. elim (mark-was marks here pc (has-marked (marked marks here) pc is)) [
    | inl same ↦ (n, omega arith, sym same)
    | inr was ↦
        let before = (starts pc).0 (is-marked marks pc (marked-low (marked marks here) pc is) was) in
        (before.0, (let less = before.1 in omega arith), before.2)
  ],
  λ start. elim (cases_lt start.0 n) [
    | inl less ↦ marked-keeps marks here pc ((starts pc).1 (start.0, less, start.2))
    | inr past ↦
        let low = start.1 in
        let same : n ≡ start.0 = omega arith in
        subst (λ k. is_marked (marked marks here) k ≡ true) (ap (start_of image.routines) same ∙ start.2)
        (marked-here marks here full (start-low image n legal within))
  ],
)
  where
    here : ℕ
    here = start_of image.routines n

-- what steps lead to from the first instructions is what control reaches
pub marks-reached : (image : Parts) (starts new : List Bool) → MarksStarts image (length image.routines) starts
    → MarksWhatIsLed (step_by image Ahead (stays image)) starts new → Marking new (is_reached image)
unfolding is_reached
marks-reached image starts new begins all pc = is-decided (is_marked new pc)
    (below-or-not (LeadsFrom image pc) (λ r. leads-or-not image Ahead (stays image) (start_of image.routines r) pc) (length image.routines)) (
      λ is. (let led = (all pc).0 is in
          let start = (begins led.start).0 led.begins in
          (start.0, start.1, (led.edges, subst (λ s. Lead (step_by image Ahead (stays image)) s led.edges pc) (sym start.2) led.lead))),
      λ found. (all pc).1 (record {
        start = start_of image.routines found.0;
        begins = (begins (start_of image.routines found.0)).1 (found.0, found.1, refl);
        edges = found.2.0;
        lead = found.2.1;
      }),
    )
