-- While further routines are counted, the numbers of a routine with loops stay the least, still pay, and are still
-- required by LOOPs.
use Rattle.std.proofs.Common.{◌≡◌, ◌<◌, ℕ, ◌+◌, true, List, Option, Some, None, refl, sym, ap, subst, arith, inl, inr}
use Rattle.std.specs.Prelude.{slice_index}
use Rattle.std.proofs.lemmas.Bool.{cases_eq}
use Rattle.geos_image.specs.declared.row.Row.{Row}
use Rattle.geos_image.specs.declared.potential.Potential.{Potential}
use Rattle.geos_image.specs.Parts.{Parts, start_of}
use Rattle.geos_verify.specs.Potentials.{is_paid}
use Rattle.geos_image.proofs.Starts.{start_of-le}
use Rattle.geos_code.specs.Code.{IsPcOf}
use Rattle.geos_potentials.specs.Count.{StaysFrom}
use Rattle.geos_potentials.specs.Constants.{asked_over, PaysSteps, ConstantsPay, row_known, coefficients_at, HasLoops, AreLeastIn, AreLeastFrom, AreForLoops, potential_in, ArePaidIn, PayLeastIn}
use Rattle.geos_potentials.specs.Numbers.{Numbers}
use Rattle.geos_potentials.specs.Reasons.{IsReason}
use Rattle.geos_potentials.specs.declared.reason.Reason.{Reason}
use Rattle.geos_potentials.proofs.Priced.{potential-at}

-- if the numbers of a routine stay, they stay the least
least-same : (image : Parts) (r : ℕ) (known : List (Option Row)) (numbers next : Numbers)
    → ((pc : ℕ) → IsPcOf image r pc → (slice_index next.steps pc ≡ slice_index numbers.steps pc)
    × (coefficients_at next.coefficients pc ≡ coefficients_at numbers.coefficients pc)) → AreLeastIn image r known numbers
    → AreLeastIn image r known next
least-same image r known numbers next same least steps P pc within =
    let Q : ConstantsPay image r (row_known known) (coefficients_at numbers.coefficients) steps = record {
      edges = λ k to branch k_in leads to_in.
          subst (λ (x : List ℕ). PaysSteps (asked_over image leads.point.instr (row_known known k) branch
          (record { constant = steps to; coefficients = x }))
          (record { constant = steps k; coefficients = coefficients_at numbers.coefficients k })) ((same to to_in).1)
          (subst (λ (x : List ℕ). PaysSteps (asked_over image leads.point.instr (row_known known k) branch
          (record { constant = steps to; coefficients = coefficients_at next.coefficients to })) (record { constant = steps k; coefficients = x }))
          ((same k k_in).1)
          (P.edges k to branch k_in leads to_in));
      returns = P.returns;
    } in
    let less = least steps Q pc within in
    let is = (same pc within).0 in
    omega (arith, less, is)

-- if the numbers of a routine stay, they still pay
paid-same : (image : Parts) (r : ℕ) (known : List (Option Row)) (numbers next : Numbers)
    → ((pc : ℕ) → IsPcOf image r pc → (slice_index next.steps pc ≡ slice_index numbers.steps pc)
    × (coefficients_at next.coefficients pc ≡ coefficients_at numbers.coefficients pc)) → ArePaidIn image r known numbers
    → ArePaidIn image r known next
paid-same image r known numbers next same P = record {
  edges = λ pc to branch within leads inside.
      subst (λ (q : Potential). is_paid (asked_over image leads.point.instr (row_known known pc) branch q) (potential_in next pc) ≡ true)
      (sym (same-potential to inside))
      (subst (λ (p : Potential). is_paid (asked_over image leads.point.instr (row_known known pc) branch (potential_in numbers to)) p ≡ true)
      (sym (same-potential pc within)) (P.edges pc to branch within leads inside));
  returns = λ pc point within there. (let paid = P.returns pc point within there in let is = (same pc within).0 in omega (arith, paid, is));
}
  where
    same-potential : (pc : ℕ) → IsPcOf image r pc → potential_in next pc ≡ potential_in numbers pc
    same-potential pc within = potential-at numbers pc (potential_in next pc) ((same pc within).0) ((same pc within).1)

-- if the coefficients of a routine stay, LOOPs still require them
for-same : (image : Parts) (r : ℕ) (old next : ℕ → List ℕ) → ((pc : ℕ) → IsPcOf image r pc → next pc ≡ old pc)
    → AreForLoops image r old → AreForLoops image r next
for-same image r old next same wanted pc k within some =
    let here : slice_index (next pc) k ≡ slice_index (old pc) k = ap (λ (xs : List ℕ). slice_index xs k) (same pc within) in
    let W = wanted pc k within (subst (λ (n : ℕ). 0 < n) here some) in
    let there : slice_index (next W.at) k ≡ slice_index (old W.at) k = ap (λ (xs : List ℕ). slice_index xs k) (same W.at W.within) in
    record {
      at = W.at;
      within = W.within;
      branches = W.branches;
      way = W.way;
      point = W.point;
      there = W.there;
      loops =
          W.loops;
      counter = W.counter;
      much = (let much = W.much in omega (arith, much, here, there));
    }

-- so they are in one more routine
pub least-more : (image : Parts) (r more count : ℕ) (known : List (Option Row)) (numbers next : Numbers) → more ≡ r + 1
    → StaysFrom (start_of image.routines (r + 1)) numbers next
    → AreLeastFrom image more count known numbers → (HasLoops image r → PayLeastIn image r known next) → AreLeastFrom image r count known next
least-more image r more count known numbers next one stay before here q from lt loops = elim (cases_eq q r) [
  | inl same ↦ subst (λ (n : ℕ). PayLeastIn image n known next) (sym same) (here (subst (HasLoops image) same loops))
  | inr ne ↦
      let later = start_of-le image.routines (r + 1) q (omega (arith, ne, from)) in
      let same : (pc : ℕ) → IsPcOf image q pc → (slice_index next.steps pc ≡ slice_index numbers.steps pc)
      × (coefficients_at next.coefficients pc ≡ coefficients_at numbers.coefficients pc) =
      (λ pc within. (let above = within.above in
      (stay.steps pc (omega (arith, above, later)), stay.coefficients pc (omega (arith, above, later))))) in
      let old = before q (omega (arith, one, ne, from)) lt loops in (
        paid-same image q known numbers next same old.0,
        least-same image q known numbers next same old.1,
        for-same image q (coefficients_at numbers.coefficients) (coefficients_at next.coefficients) (λ pc within. (same pc within).1) old.2,
      )
]

-- what is found in a routine, where its body is of it
pub stays-in : (image here : Parts) (number r : ℕ) (old new : Numbers) → here ≡ image → number ≡ r
    → StaysFrom (start_of here.routines (number + 1)) old new → StaysFrom (start_of image.routines (r + 1)) old new
stays-in image here number r old new same_image same_number stay = subst (λ (x : Parts). StaysFrom (start_of x.routines (r + 1)) old new)
    same_image (subst (λ (n : ℕ). StaysFrom (start_of here.routines (n + 1)) old new) same_number stay)

pub least-in : (image here : Parts) (number r : ℕ) (known : List (Option Row)) (new : Numbers) → here ≡ image
    → number ≡ r → (HasLoops here number → PayLeastIn here number known new) → HasLoops image r → PayLeastIn image r known new
least-in image here number r known new same_image same_number least =
    subst (λ (x : Parts). HasLoops x r → PayLeastIn x r known new) same_image
    (subst (λ (n : ℕ). HasLoops here n → PayLeastIn here n known new) same_number least)

pub reason-in : (image here : Parts) (number r : ℕ) (known : List (Option Row)) (reason : Reason) → here ≡ image → number ≡ r
    → IsReason here number known reason → IsReason image r known reason
reason-in image here number r known reason same_image same_number is = subst (λ (x : Parts). IsReason x r known reason) same_image
    (subst (λ (n : ℕ). IsReason here n known reason) same_number is)

-- what is no Some is None
pub not-some : {X : Type 0} (o : Option X) → ((x : X) → o ≡ Some x → ⊥) → o ≡ None
not-some None none = refl
not-some (Some x) none = absurd (none x refl)
