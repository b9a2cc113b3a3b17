-- Ways in routines in which none leads back.
use Rattle.std.proofs.Common.{◌≡◌, ◌≤◌, ◌<◌, ◌+◌, ℕ, Bool, true, false, List, [], ◌∷◌, length, Option, Some, None, get_or, set, refl, sym, ◌∙◌, subst, arith, inl, inr, ◌⊎◌}
use Rattle.std.specs.Prelude.{max}
use Rattle.std.proofs.lemmas.Bool.{cases_eq, cases_lt, false≢true}
use Rattle.std.proofs.lemmas.List.{get_or-set_same, get_or-set_other}
use Rattle.geos_image.specs.declared.row.Row.{Row}
use Rattle.geos_image.specs.Parts.{Parts, start_of}
use Rattle.loop_causes.specs.Ahead.{OnlyAhead, TakesAlong, NonePasses, GoesOn, IsLongestOver, IsLongestFrom}
use Rattle.loop_causes.specs.Causes.{LoopsTo, ComesRound, NoOtherHolds}
use Rattle.geos_counters.specs.Idle.{IsKept}
use Rattle.geos_code.specs.Code.{IsPcOf}
use Rattle.geos_counters.specs.Counters.{zeros}
use Rattle.geos_counters.specs.Steps.{most_steps, taken_at}
use Rattle.loop_causes.specs.Taken.{Place, Takes}
use Rattle.geos_counters.specs.Trails.{IsTrail}
use Rattle.geos_code.specs.Edges.{LeadsTo}
use Rattle.geos_flow.specs.declared.back_way.BackWay.{BackWay}
use Rattle.geos_flow.specs.declared.cause.Cause.TheVariants.{SlotsDiffer, NoLoop, SetWithin, SetAgain, TouchedWithin, TouchedBefore, NotSet, InTurn, InRing, StepsPass, WordUnbounded, NumberHigh, WordDear, NumberDear, GivenUp, StepsMayPass, NoSteps, Unfound, Unknown}
use Rattle.loop_causes.proofs.Kept.{comes-any, kept-any}
use Rattle.geos_rows.proofs.Came.{comes-to}
use Rattle.geos_code.proofs.Ends.{code-at, leads-one}

-- a way begins in its routine
begins-in : (image : Parts) (r pc : ℕ) (branches : List Bool) (steps : ℕ) → TakesAlong image r pc branches steps → IsPcOf image r pc
begins-in image r pc [] steps takes = takes.0
begins-in image r pc (branch ∷ branches) steps takes = takes.2

-- a way with counters is one without
along : (rows : List (Option Row)) (image : Parts) (r : ℕ) (from : Place) (places : List Place) (to : Place) (steps : ℕ) (branches : List Bool)
    (rest : ℕ)
    → Takes rows image r from places to steps → TakesAlong image r to.pc branches rest
    → (more : List Bool) × TakesAlong image r from.pc more (steps + rest)
along rows image r from [] to steps branches rest way further =
    let none : steps ≡ 0 = way.1 in
    let same : rest ≡ steps + rest = omega arith in (
      branches,
      subst (λ (n : ℕ). TakesAlong image r from.pc branches n) same
          (subst (λ (p : Place). TakesAlong image r p.pc branches rest) way.0 further),
    )
along rows image r from (place ∷ places) to steps branches rest way further =
    let goes = way.2 in
    let here : TakesAlong image r place.pc (goes.branch ∷ branches) (taken_at image place.pc + rest) =
    (to.pc, rest, goes.within, goes.leads, further, refl) in
    let so_far = along rows image r from places place way.0 (goes.branch ∷ branches) (taken_at image place.pc + rest) way.1 here in
    let sum : steps ≡ way.0 + taken_at image place.pc = way.3 in
    let same : way.0 + (taken_at image place.pc + rest) ≡ steps + rest = omega arith in
    (so_far.0, subst (λ (n : ℕ). TakesAlong image r from.pc so_far.0 n) same so_far.1)

module _ (image : Parts) (r : ℕ) (ahead : OnlyAhead image r) where
  -- an edge within the routine leads ahead
  pub leads-ahead : (pc to : ℕ) (branch : Bool) → IsPcOf image r pc → IsPcOf image r to → LeadsTo image pc branch to → pc < to
  leads-ahead pc to false here there leads = let next : pc + 1 ≡ to = leads.leads in omega arith
  leads-ahead pc to true here there leads = ahead pc here to leads.point.instr there
      (record { read = code-at image pc leads.point leads.there; has = leads.has; leads = leads.leads })

  trail-ahead : (counter : Option ℕ) (from : ℕ) (branches : List Bool) (to : ℕ) → IsPcOf image r from
      → IsTrail image r counter from branches to → from ≤ to
  trail-ahead counter from [] to here trail = let same : from ≡ to = trail in omega arith
  trail-ahead counter from (branch ∷ branches) to here trail =
      let less = leads-ahead from trail.0 branch here trail.1.stays trail.1.leads in
      let rest = trail-ahead counter trail.0 branches to trail.1.stays trail.2 in
      omega arith

  round-ahead : (counter : Option ℕ) (from to : ℕ) → IsPcOf image r from → ComesRound image r counter from to → from ≤ to
  round-ahead counter from to here round = trail-ahead counter from round.0 to here round.1

  kept-ahead : (counter at to : ℕ) → IsKept image r counter at to → at < to
  kept-ahead counter at to kept = let further = trail-ahead (Some counter) (at + 1) kept.branches to kept.behind kept.trail in omega arith

  loop-ahead : (back : BackWay) (counter : ℕ) → LoopsTo image r back counter → back.from < back.to
  loop-ahead back counter loops = leads-ahead back.from back.to true loops.from loops.to loops.leads

  -- no LOOP closes a cycle
  none-round : (back : BackWay) (counter : ℕ) → LoopsTo image r back counter → ComesRound image r None back.to back.from → ⊥
  none-round back counter loops round =
      let less = loop-ahead back counter loops in
      let again = round-ahead None back.to back.from loops.to round in
      omega arith

-- Causes

pub none-other : NoOtherHolds
none-other image r (SlotsDiffer apart) none other holds =
    let alike = none.slots apart.to apart.first.row apart.second.row (comes-to image r apart.to apart.first holds.first)
    (comes-to image r apart.to apart.second holds.second) in
    false≢true (sym holds.differ ∙ alike)
none-other image r (NoLoop back) none other holds =
    let less = leads-ahead image r none.steps.ahead back.from back.to true holds.begins holds.leads.stays holds.leads.leads in
    let order = holds.order in
    omega arith
none-other image r (SetWithin within) none other holds =
    let less = loop-ahead image r none.steps.ahead within.back within.counter holds.loops in
    let round = round-ahead image r none.steps.ahead (Some within.counter) within.back.to within.at holds.loops.to holds.round in
    let kept = kept-ahead image r none.steps.ahead within.counter within.at within.back.from
    (kept-any image r within.counter within.at (Some within.back.to) within.back.from holds.kept) in
    omega arith
none-other image r (SetAgain within) none other holds =
    let less = loop-ahead image r none.steps.ahead within.back within.counter holds.loops in
    let turn = round-ahead image r none.steps.ahead None within.back.to within.at holds.loops.to
    (comes-any image r None (Some within.back.from) within.back.to within.at holds.turn) in
    let kept = kept-ahead image r none.steps.ahead within.counter within.at within.back.from
    (kept-any image r within.counter within.at (Some within.back.to) within.back.from holds.kept) in
    omega arith
none-other image r (TouchedWithin within) none other holds =
    let less = loop-ahead image r none.steps.ahead within.back within.counter holds.0.left.loops in
    let round = round-ahead image r none.steps.ahead None within.back.to within.at holds.0.left.loops.to holds.0.round in
    let kept = kept-ahead image r none.steps.ahead within.counter within.at within.back.from holds.0.left.kept in
    omega arith
none-other image r (TouchedBefore within) none other holds = none-round image r none.steps.ahead within.back
    within.counter holds.0.left.loops holds.0.round
none-other image r (NotSet own) none other holds = none-round image r none.steps.ahead own.back own.counter holds.0.loops holds.0.round
none-other image r (InTurn both) none other holds =
    let less = loop-ahead image r none.steps.ahead both.back both.counter holds.loops in
    let round = round-ahead image r none.steps.ahead (Some both.counter) both.back.to both.at holds.loops.to holds.sets.round in
    let again = round-ahead image r none.steps.ahead (Some both.counter) both.at both.back.from holds.sets.here holds.sets.again in
    omega arith
none-other image r (InRing ring) none other holds =
    let less = loop-ahead image r none.steps.ahead ring.back ring.counter holds.loops in
    let round = round-ahead image r none.steps.ahead (Some ring.counter) ring.back.to ring.at holds.loops.to holds.sets.round in
    let again = round-ahead image r none.steps.ahead (Some ring.counter) ring.at ring.back.from holds.sets.here holds.sets.again in
    omega arith
none-other image r StepsPass none other holds =
    let past_way = holds.2 in
    let way = along holds.0 image r (record { pc = past_way.from; counters = zeros }) past_way.places past_way.end past_way.before []
    (taken_at image past_way.end.pc) past_way.way (past_way.ends, refl) in
    let few = none.steps.few past_way.from way.0 (past_way.before + taken_at image past_way.end.pc) way.1 in
    let past = past_way.past in
    omega arith
none-other image r (WordUnbounded by_word) none other holds = none-round image r none.steps.ahead holds.0.for_loop.back
    by_word.counter holds.0.for_loop.loops holds.0.for_loop.round
none-other image r (NumberHigh by_number) none other holds = none-round image r none.steps.ahead holds.0.for_loop.back
    by_number.counter holds.0.for_loop.loops holds.0.for_loop.round
none-other image r (WordDear by_word) none other holds = none-round image r none.steps.ahead holds.for_loop.back
    by_word.counter holds.for_loop.loops holds.for_loop.round
none-other image r (NumberDear by_number) none other holds = none-round image r none.steps.ahead holds.for_loop.back
    by_number.counter holds.for_loop.loops holds.for_loop.round
none-other image r (GivenUp back) none other holds =
    let less = leads-ahead image r none.steps.ahead back.from back.to true holds.from holds.to holds.leads in
    let order = holds.order in
    omega arith
none-other image r StepsMayPass none other holds =
    let few = none.steps.few holds.from holds.branches holds.steps holds.takes in
    let past = holds.past in
    omega arith
none-other image r (NoSteps back) none other holds =
    let less = leads-ahead image r none.steps.ahead back.from back.to true holds.0.from holds.0.to holds.0.leads in
    let order = holds.0.order in
    omega arith
none-other image r (Unfound back) none other holds =
    let less = leads-ahead image r none.steps.ahead back.from back.to true holds.from holds.to holds.leads in
    let order = holds.order in
    omega arith
none-other image r Unknown none other holds = other refl

-- The edges of one instruction

pub over-some : (image : Parts) (r pc to rest : ℕ) (branch : Bool) (longest : List ℕ) → LeadsTo image pc branch to
    → IsPcOf image r to → rest ≡ get_or longest to 0 → IsLongestOver image r pc branch longest rest
over-some image r pc to rest branch longest leads stays is = record {
  most = λ other leads_too stays_too. (let same = leads-one image pc branch other to leads_too leads in rw (same, is) (omega arith));
  some = inr (record { to = to; leads = leads; stays = stays; is = is });
}

pub both-over : (image : Parts) (r pc : ℕ) (longest : List ℕ) (a b steps : ℕ) → steps ≡ taken_at image pc + max a b
    → IsLongestOver image r pc false longest a → IsLongestOver image r pc true longest b
    → IsLongestFrom image r pc longest steps
both-over image r pc longest a b steps is A B = record {
  rest = max a b;
  is = is;
  most = λ to branch leads stays. by_branch branch to leads stays;
  some = elim (cases_lt a b) [ inl less ↦ some-of true b (omega arith) B.some | inr more ↦ some-of false a (omega arith) A.some ];
}
  where
    by_branch : (branch : Bool) (to : ℕ) → LeadsTo image pc branch to → IsPcOf image r to → get_or longest to 0 ≤ max a b
    by_branch false to leads stays = let most = A.most to leads stays in omega arith
    by_branch true to leads stays = let most = B.most to leads stays in omega arith

    some-of : (branch : Bool) (n : ℕ) → max a b ≡ n → (n ≡ 0) ⊎ GoesOn image r pc branch longest n
        → (max a b ≡ 0) ⊎ ((aside : Bool) × GoesOn image r pc aside longest (max a b))
    some-of branch n e (inl none) = inl (e ∙ none)
    some-of branch n e (inr goes) = inr (branch, subst (GoesOn image r pc branch longest) (sym e) goes)

-- How many steps are taken

-- from a pc on up to the end of routine r, a table says how many steps are taken at most, and on some way so many are
pub record Measured (image : Parts) (r end pc : ℕ) (longest : List ℕ) : Type 0 where
  pub few : (k : ℕ) → get_or longest k 0 ≤ most_steps
  pub most : (k : ℕ) → pc ≤ k → k < end → (branches : List Bool) (steps : ℕ) → TakesAlong image r k branches steps → steps ≤ get_or longest k 0
  pub some : (k : ℕ) → pc ≤ k → k < end → (branches : List Bool) × TakesAlong image r k branches (get_or longest k 0)

pub measured-none : (image : Parts) (r end : ℕ) (longest : List ℕ) → ((k : ℕ) → get_or longest k 0 ≡ 0) → Measured image r end end longest
measured-none image r end longest none = record {
  few = λ k. (let zero = none k in omega arith);
  most = λ k low high branches steps takes. absurd (omega arith);
  some = λ k low high. absurd (omega arith);
}

module _ (image : Parts) (r end p next steps : ℕ) (longest : List ℕ) (ahead : OnlyAhead image r)
    (ends : end ≡ start_of image.routines (r + 1)) (one : next ≡ p + 1) (here : IsPcOf image r p)
    (M : Measured image r end next longest) (L : IsLongestFrom image r p longest steps) where
  -- on some way from the pc so many steps are taken
  pub some-from : (branches : List Bool) × TakesAlong image r p branches steps
  some-from = elim L.some [
    | inl none ↦ ([], (here, (let is = L.is in omega arith)))
    | inr goes ↦
        let on = goes.1 in
        let less = leads-ahead image r ahead p on.to goes.0 here on.stays on.leads in
        let below = on.stays.below in
        let further = M.some on.to (omega arith) (omega arith) in
        let same : steps ≡ taken_at image p + get_or longest on.to 0 = (let is = L.is in let rest = on.is in omega arith) in
        (goes.0 ∷ further.0, (on.to, get_or longest on.to 0, here, on.leads, further.1, same))
  ]

  -- on none more are
  most-from : (branches : List Bool) (taken : ℕ) → TakesAlong image r p branches taken → taken ≤ steps
  most-from [] taken takes = let own : taken ≡ taken_at image p = takes.1 in let is = L.is in omega arith
  most-from (branch ∷ branches) taken takes =
      let there = begins-in image r takes.0 branches takes.1 takes.4 in
      let less = leads-ahead image r ahead p takes.0 branch here there takes.3 in
      let below = there.below in
      let further = M.most takes.0 (omega arith) (omega arith) branches takes.1 takes.4 in
      let known = L.most takes.0 branch takes.3 there in
      let sum : taken ≡ taken_at image p + takes.1 = takes.5 in
      let is = L.is in
      omega arith

  pub measured-more : p < length longest → steps ≤ most_steps → Measured image r end p (set longest p steps)
  measured-more within small = record {
    few = λ k. elim (cases_eq k p) [
      | inl same ↦ subst (λ (n : ℕ). get_or (set longest p steps) n 0 ≤ most_steps) (sym same) (omega (arith, at-same))
      | inr ne ↦ (let other = at-other k ne in let few = M.few k in omega arith)
    ];
    most = λ k low high branches taken takes. elim (cases_eq k p) [
      | inl same ↦
          let all = most-from branches taken (subst (λ (n : ℕ). TakesAlong image r n branches taken) same takes) in
          subst (λ (n : ℕ). taken ≤ get_or (set longest p steps) n 0) (sym same) (omega (arith, at-same))
      | inr ne ↦ (let other = at-other k ne in let all = M.most k (above k low ne) high branches taken takes in omega arith)
    ];
    some = λ k low high. elim (cases_eq k p) [
      | inl same ↦
          subst (λ (n : ℕ). (branches : List Bool) × TakesAlong image r n branches (get_or (set longest p steps) n 0)) (sym same)
          (some-from.0, subst (TakesAlong image r p some-from.0) (sym at-same) some-from.1)
      | inr ne ↦
          let way = M.some k (above k low ne) high in
          (way.0, subst (TakesAlong image r k way.0) (sym (at-other k ne)) way.1)
    ];
  }
    where
      at-same : get_or (set longest p steps) p 0 ≡ steps
      at-same = get_or-set_same longest p steps 0 within

      at-other : (k : ℕ) → (k ≡ p → ⊥) → get_or (set longest p steps) k 0 ≡ get_or longest k 0
      at-other k ne = get_or-set_other longest p k steps 0 ne

      above : (k : ℕ) → p ≤ k → (k ≡ p → ⊥) → next ≤ k
      above k low ne = omega (arith, ne)

-- from where the routine begins
pub none-passes : (image : Parts) (r end : ℕ) (longest : List ℕ) → OnlyAhead image r → end ≡ start_of image.routines (r + 1)
    → Measured image r end (start_of image.routines r) longest → NonePasses image r
none-passes image r end longest ahead ends M = record {
  ahead = ahead;
  few = λ from branches steps takes.
      let here = begins-in image r from branches steps takes in
      let below = here.below in
      let most = M.most from here.above (omega arith) branches steps takes in
      let few = M.few from in
      omega arith;
}
