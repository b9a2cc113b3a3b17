-- The decision about paths is right, and the marks of a search from one pc are the pcs that paths lead to.
use Rattle.std.proofs.Common.{◌≡◌, ◌<◌, ℕ, Bool, true, false, List, refl, subst, inl, inr}
use Rattle.std.specs.Prelude.{◌↔◌}
use Rattle.geos_explain.proofs.Below.{Parts, Edge, Heading, step_by, Lead, Leads, MarksWhatIsLed, no_marks, marked, is_marked, Marking, IsDecided, leads-or-not, has-marked, is-marked, mark-there, mark-was, none-full, none-marked}
use Rattle.geos_explain.specs.Led.{decided, leads}

-- a test that is equivalent to a proposition returns the truth value of its decision
pub is-decided : {P : Type 0} (is : Bool) (so : IsDecided P) → (is ≡ true) ↔ P → is ≡ decided so
is-decided true (inl so) both = refl
is-decided true (inr not_so) both = absurd (not_so (both.0 refl))
is-decided false (inl so) both = both.1 so
is-decided false (inr not_so) both = refl

-- and the other direction
pub decided-is : {P : Type 0} (so : IsDecided P) → (decided so ≡ true) ↔ P
decided-is (inl so) = (λ is. so, λ p. refl)
decided-is (inr not_so) = (λ is. absurd cc, λ p. absurd (not_so p))

pub leads-is : (image : Parts) (heading : Heading) (counts : Edge → ℕ → Bool) (start pc : ℕ)
    → (leads image heading counts start pc ≡ true) ↔ Leads (step_by image heading counts) start pc
unfolding leads
leads-is image heading counts start pc = decided-is (leads-or-not image heading counts start pc)

-- if one pc was marked at the start, the marks are the pcs to which paths lead from there
pub marks-leads : (image : Parts) (heading : Heading) (counts : Edge → ℕ → Bool) (start : ℕ) (new : List Bool) → start < 4096
    → MarksWhatIsLed (step_by image heading counts) (marked no_marks start) new → Marking new (leads image heading counts start)
unfolding leads
marks-leads image heading counts start new low all pc = is-decided (is_marked new pc) (leads-or-not image heading counts start pc) (
  λ is. (let led = (all pc).0 is in
      let same : led.start ≡ start = elim (mark-was no_marks start led.start (has-marked (marked no_marks start) led.start led.begins)) [
        | inl here ↦ here
        | inr was ↦ absurd (none-marked led.start was)
      ] in
      (led.edges, subst (λ s. Lead (step_by image heading counts) s led.edges pc) same led.lead)),
  λ way. (all pc).1 (record {
    start = start;
    begins = is-marked (marked no_marks start) start low (mark-there no_marks start none-full low);
    edges = way.0;
    lead = way.1;
  }),
)
