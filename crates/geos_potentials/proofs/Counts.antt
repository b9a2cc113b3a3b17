-- The steps that are counted from the end of a routine hold, and are the least.
use Rattle.std.proofs.Common.{◌≡◌, ◌≢◌, ℕ, ◌+◌, ◌<◌, ◌≤◌, Bool, true, false, List, [], length, Option, Some, None, slice_get, get_or, set, refl, sym, ap, ◌∙◌, subst, arith, inl, inr}
use Rattle.std.specs.Prelude.{◌&&◌, nat_lt, max, IfSome}
use Rattle.std.proofs.lemmas.Bool.{and_parts, ltb-true, lt-ltb, cases_eq, cases_lt}
use Rattle.std.proofs.lemmas.List.{get_or-set_same, get_or-set_other, length-set}
use Rattle.geos_image.specs.declared.instr.Instr.{Instr}
use Rattle.geos_image.specs.declared.potential.Potential.{Potential}
use Rattle.geos_image.specs.declared.point.Point.{Point}
use Rattle.geos_image.specs.Parts.{Parts, start_of}
use Rattle.geos_image.proofs.Starts.{start_of-le}
use Rattle.geos_verify.specs.Rules.{returns}
use Rattle.geos_verify.proofs.Places.{item_at, if_some}
use Rattle.geos_verify.specs.Rows.{has_edge}
use Rattle.geos_code.specs.Code.{Edge, IsPcOf, ForwardIn, instrs_of, edge_end}
use Rattle.geos_counters.specs.Steps.{StepsHoldIn, call_steps, most_steps}
use Rattle.geos_code.specs.Edges.{leads_ahead}
use Rattle.geos_potentials.specs.Numbers.{Numbers}
use Rattle.geos_counters.specs.Counters.{zeros}
use Rattle.geos_potentials.specs.Count.{edge_steps, return_steps, steps_at, Counting, ZerosFrom, HasSteps, Counted, CountedIn, StaysFrom, CountsOn, AreCounted}
use Rattle.geos_verify.proofs.Pairwise.{both}
use Rattle.geos_code.proofs.Ends.{code-at, code-length}

some-is : (x y : Instr) → Some x ≡ Some y → x ≡ y
some-is x y e = cc

-- an edge that there is, and that leads ahead and before a limit
pub ahead-true : (code : List Instr) (limit pc to : ℕ) (branch : Bool) (i j : Instr) → slice_get code pc ≡ Some i
    → Edge code pc branch to j → pc < to → to < limit
    → (leads_ahead limit pc i branch ≡ true) × (edge_end pc i branch ≡ to) × (i ≡ j)
ahead-true code limit pc to branch i j read edge lt within =
    let same : i ≡ j = some-is i j (sym read ∙ edge.read) in
    let has : has_edge i branch ≡ true = ap (λ x. has_edge x branch) same ∙ edge.has in
    let leads : edge_end pc i branch ≡ to = ap (λ x. edge_end pc x branch) same ∙ edge.leads in (
      both (has_edge i branch && nat_lt pc (edge_end pc i branch)) (nat_lt (edge_end pc i branch) limit)
          (both (has_edge i branch) (nat_lt pc (edge_end pc i branch)) has (lt-ltb pc (edge_end pc i branch) (omega arith)))
          (lt-ltb (edge_end pc i branch) limit (omega arith)),
      leads,
      same,
    )

module _ (image : Parts) (r : ℕ) (forward : ForwardIn image r) (want steps : List ℕ) (holds : StepsHoldIn image r want)
    (pc : ℕ) (i : Instr) (read : slice_get (instrs_of image) pc ≡ Some i) (within : IsPcOf image r pc)
    (limit : ℕ) (small : limit ≤ length (instrs_of image)) (ends : limit ≡ start_of image.routines (r + 1))
    (C : Counting image limit want steps (pc + 1)) where
  -- what an edge requires is at most the number that holds
  asks-below : (branch b : Bool) → leads_ahead limit pc i branch ≡ b → edge_steps image limit pc i branch steps ≤ get_or want pc 0
  asks-below branch true e =
      let a = and_parts (has_edge i branch && nat_lt pc (edge_end pc i branch)) (nat_lt (edge_end pc i branch) limit) e in
      let b = and_parts (has_edge i branch) (nat_lt pc (edge_end pc i branch)) a.0 in
      let lt = ltb-true pc (edge_end pc i branch) b.1 in
      let before = ltb-true (edge_end pc i branch) limit a.1 in
      let below = C.below (edge_end pc i branch) (omega arith) before in
      let asked = holds.edges pc (edge_end pc i branch) branch i within (record { read = read; has = b.0; leads = refl }) in
      rw e (omega arith)
  asks-below branch false e = rw e (omega arith)

  return-below : (b : Bool) → returns i.opcode ≡ b → return_steps i ≤ get_or want pc 0
  return-below true e = let one = holds.returns pc i within read e in rw e (omega arith)
  return-below false e = rw e (omega arith)

  pub at-below : steps_at image limit pc i steps ≤ get_or want pc 0
  at-below =
      let r = return-below (returns i.opcode) refl in
      let a = asks-below false (leads_ahead limit pc i false) refl in
      let b = asks-below true (leads_ahead limit pc i true) refl in
      max-below (return_steps i) (edge_steps image limit pc i false steps) (edge_steps image limit pc i true steps) (get_or want pc 0) r a b
    where
      max-below : (x y z w : ℕ) → x ≤ w → y ≤ w → z ≤ w → max x (max y z) ≤ w
      max-below x y z w h j k = omega arith

  edge-within : (branch : Bool) → edge_steps image limit pc i branch steps ≤ steps_at image limit pc i steps
  edge-within true = max-third (return_steps i) (edge_steps image limit pc i false steps) (edge_steps image limit pc i true steps)
    where
      max-third : (x y z : ℕ) → z ≤ max x (max y z)
      max-third x y z = omega arith
  edge-within false = max-second (return_steps i) (edge_steps image limit pc i false steps) (edge_steps image limit pc i true steps)
    where
      max-second : (x y z : ℕ) → y ≤ max x (max y z)
      max-second x y z = omega arith

  -- each edge is paid for
  paid : (to : ℕ) (branch : Bool) (j : Instr) → Edge (instrs_of image) pc branch to j
      → get_or steps to 0 + 1 + call_steps image j ≤ steps_at image limit pc i steps
  paid t branch j edge =
      let lt = forward.ahead pc t branch j within edge in
      let inside = holds.closed pc t branch j within edge in
      let there = ahead-true (instrs_of image) limit pc t branch i j read edge lt (omega arith) in
      let is : edge_steps image limit pc i branch steps ≡ get_or steps t 0 + 1 + call_steps image i = rw (there.0, there.1) refl in
      let called : call_steps image i ≡ call_steps image j = ap (call_steps image) there.2 in
      let in_it = edge-within branch in
      omega arith

  return-within : returns i.opcode ≡ true → 1 ≤ steps_at image limit pc i steps
  return-within e =
      let is : return_steps i ≡ 1 = rw e refl in
      max-first (return_steps i) (max (edge_steps image limit pc i false steps) (edge_steps image limit pc i true steps)) is
    where
      max-first : (x y : ℕ) → x ≡ 1 → 1 ≤ max x y
      max-first x y e = omega arith

  pub counts-more : Counting image limit want (set steps pc (steps_at image limit pc i steps)) pc
  counts-more =
      let here : get_or (set steps pc (steps_at image limit pc i steps)) pc 0 ≡ steps_at image limit pc i steps =
      get_or-set_same steps pc (steps_at image limit pc i steps) 0 (let len = C.len in let below = within.below in omega arith) in
      let others : (k : ℕ) → k ≢ pc → get_or (set steps pc (steps_at image limit pc i steps)) k 0 ≡ get_or steps k 0 =
      (λ k ne. get_or-set_other steps pc k (steps_at image limit pc i steps) 0 ne) in
      record {
        len = (let same = length-set steps pc (steps_at image limit pc i steps) in let len = C.len in omega arith);
        below = λ k from end. elim (cases_eq k pc) [
          | inl same ↦ let P : ℕ → Type 0 = λ n. get_or (set steps pc (steps_at image limit pc i steps)) n 0 ≤ get_or want n 0 in
              subst P (sym same) (rw here at-below)
          | inr ne ↦ rw (others k ne) (C.below k (omega arith) end)
        ];
        edges = λ k t branch j from end edge. (
            let k_in : IsPcOf image r k = record { above = (let low = within.above in omega arith); below = omega arith } in
            let lt = forward.ahead k t branch j k_in edge in
            let ne : t ≢ pc = (λ e. absurd (omega arith)) in
            rw (others t ne) (elim (cases_eq k pc) [
              | inl same ↦
                  let P : ℕ → Type 0 = λ n. get_or steps t 0 + 1 + call_steps image j ≤ get_or (set steps pc (steps_at image limit pc i steps)) n 0 in
                  subst P (sym same) (rw here (paid t branch j (subst (λ n. Edge (instrs_of image) n branch t j) same edge)))
              | inr other ↦ rw (others k other) (C.edges k t branch j (omega arith) end edge)
            ])
            );
        returns = λ k j from end there is. elim (cases_eq k pc) [
          | inl same ↦
              let P : ℕ → Type 0 = λ n. 1 ≤ get_or (set steps pc (steps_at image limit pc i steps)) n 0 in
              let same_instr : j ≡ i = some-is j i (sym there ∙ ap (slice_get (instrs_of image)) same ∙ read) in
              subst P (sym same) (rw here (return-within (ap (λ (x : Instr). returns x.opcode) (sym same_instr) ∙ is)))
          | inr other ↦ rw (others k other) (C.returns k j (omega arith) end there is)
        ];
      }

-- the same, where the instruction is given by its point; and the number is one that a potential can say
pub counted : (image : Parts) (r : ℕ) → ForwardIn image r → (want steps : List ℕ) → StepsHoldIn image r want
    → (limit pc more value : ℕ) → limit ≡ start_of image.routines (r + 1) → limit ≤ length image.points → IsPcOf image r pc
    → more ≡ pc + 1 → IfSome (slice_get image.points pc) (λ point. value ≡ steps_at image limit pc point.instr steps)
    → Counting image limit want steps more
    → Counting image limit want (set steps pc value) pc × (value ≤ most_steps)
counted image r forward want steps holds limit pc more value ends small within more_is there C =
    let len = code-length image in
    let found = item_at image.points pc (let below = within.below in omega arith) in
    let value_is = if_some (λ point. value ≡ steps_at image limit pc point.instr steps) (slice_get image.points pc) found.0 found.1 there in
    let read : slice_get (instrs_of image) pc ≡ Some found.0.instr = code-at image pc found.0 found.1 in
    let before = subst (λ k. Counting image limit want steps k) more_is C in
    let room : limit ≤ length (instrs_of image) = omega arith in
    let next = counts-more image r forward want steps holds pc found.0.instr read within limit room ends before in
    let below = at-below image r forward want steps holds pc found.0.instr read within limit room ends before in
    let long = holds.long pc within in
    let P : ℕ → Type 0 = λ v. v ≤ get_or want pc 0 in
    let value_below : value ≤ get_or want pc 0 = subst P (sym value_is) below in
    (subst (λ v. Counting image limit want (set steps pc v) pc) (sym value_is) next, omega arith)

-- coefficients are 0 from one more place on
pub zeros-more : (image : Parts) (limit pc more : ℕ) (coefficients : List (List ℕ)) → more ≡ pc + 1 → pc < length image.points
    → ZerosFrom image limit more coefficients → ZerosFrom image limit pc (set coefficients pc zeros)
zeros-more image limit pc more coefficients more_is lt none = record {
  len = (let same = length-set coefficients pc zeros in let len = none.len in omega arith);
  each = λ k from within. elim (cases_eq k pc) [
    | inl same ↦ ap (λ j. get_or (set coefficients pc zeros) j []) same ∙ get_or-set_same coefficients pc zeros [] (let len = none.len in omega arith)
    | inr other ↦ get_or-set_other coefficients pc k zeros [] other ∙ none.each k (omega arith) within
  ];
}

-- nothing is counted from the limit on
pub counts-begin : (image : Parts) (limit : ℕ) (want : List ℕ) (numbers : Numbers) → length image.points ≤ 4096
    → length numbers.steps ≡ 4096 → length numbers.coefficients ≡ 4096 → Counted image limit want numbers limit
counts-begin image limit want numbers short steps_len coefficients_len =
    let code = code-length image in
    record {
      steps = record {
        len = omega arith;
        below = λ k from lt. absurd (omega arith);
        edges = λ k t branch i from lt edge. absurd (omega arith);
        returns = λ k i from lt there. absurd (omega arith);
      };
      zero = record { len = omega arith; each = λ k from within. absurd (omega arith) };
    }

-- one more instruction is counted
pub counted-more : (image : Parts) (r : ℕ) → ForwardIn image r → (want : List ℕ) → StepsHoldIn image r want
    → (numbers : Numbers) (limit pc more : ℕ) (found : Potential) → limit ≡ start_of image.routines (r + 1)
    → limit ≤ length image.points → IsPcOf image r pc
    → more ≡ pc + 1 → IfSome (slice_get image.points pc) (λ point. HasSteps (steps_at image limit pc point.instr numbers.steps) (Some found))
    → Counted image limit want numbers more
    → Counted image limit want (record { steps = set numbers.steps pc found.constant; coefficients = set numbers.coefficients pc found.coefficients })
    pc
counted-more image r forward want holds numbers limit pc more found ends small within more_is there C =
    let lt : pc < length image.points = (let below = within.below in omega arith) in
    let point = item_at image.points pc lt in
    let here = if_some (λ point. HasSteps (steps_at image limit pc point.instr numbers.steps) (Some found))
    (slice_get image.points pc) point.0 point.1 there in
    let P : Option Point → Type 0 = λ o. IfSome o (λ point. found.constant ≡ steps_at image limit pc point.instr numbers.steps) in
    let next = counted image r forward want numbers.steps holds limit pc more found.constant ends small within more_is
    (subst P (sym point.1) here.0) C.steps in
    let zero = zeros-more image limit pc more numbers.coefficients more_is lt C.zero in
    record { steps = next.0; zero = subst (λ (v : List ℕ). ZerosFrom image limit pc (set numbers.coefficients pc v)) (sym here.1) zero }

-- there are not too many steps
pub counted-few : (image : Parts) (r : ℕ) → ForwardIn image r → (want : List ℕ) → StepsHoldIn image r want
    → (numbers : Numbers) (limit pc more : ℕ) → limit ≡ start_of image.routines (r + 1) → limit ≤ length image.points → IsPcOf image r pc
    → more ≡ pc + 1 → IfSome (slice_get image.points pc) (λ point. HasSteps (steps_at image limit pc point.instr numbers.steps) None)
    → Counted image limit want numbers more → ⊥
counted-few image r forward want holds numbers limit pc more ends small within more_is there C =
    let point = item_at image.points pc (let below = within.below in omega arith) in
    let past = if_some (λ point. HasSteps (steps_at image limit pc point.instr numbers.steps) None)
    (slice_get image.points pc) point.0 point.1 there in
    let P : Option Point → Type 0 = λ o. IfSome o (λ x. steps_at image limit pc point.0.instr numbers.steps ≡ steps_at
    image limit pc x.instr numbers.steps) in
    let next = counted image r forward want numbers.steps holds limit pc more (steps_at image limit pc point.0.instr numbers.steps)
    ends small within more_is (subst P (sym point.1) refl) C.steps in
    let most = next.1 in
    absurd (omega arith)

-- What stays

pub stays-refl : (pc : ℕ) (numbers : Numbers) → StaysFrom pc numbers numbers
stays-refl pc numbers = record { steps = λ k from. refl; coefficients = λ k from. refl }

-- what is set before a pc changes nothing from it on
pub stays-set : (pc at constant : ℕ) (coefficients : List ℕ) (initial numbers : Numbers) → at < pc → StaysFrom pc initial numbers
    → StaysFrom pc initial (record { steps = set numbers.steps at constant; coefficients = set numbers.coefficients at coefficients })
stays-set pc at constant coefficients initial numbers lt S = record {
  steps = λ k from. (let ne : k ≢ at = (λ same. absurd (omega arith)) in get_or-set_other numbers.steps at k constant 0 ne ∙ S.steps k from);
  coefficients = λ k from. (let ne : k ≢ at = (λ same. absurd (omega arith)) in get_or-set_other numbers.coefficients at k coefficients [] ne
      ∙ S.coefficients k from);
}

-- Routine after routine

counted-stays : (image : Parts) (q : ℕ) (want : List ℕ) (numbers next : Numbers) (pc : ℕ) → ForwardIn image q
    → pc ≤ start_of image.routines q → length (instrs_of image) ≤ length next.steps → length image.points ≤ length next.coefficients
    → StaysFrom pc numbers next → CountedIn image q want numbers → CountedIn image q want next
counted-stays image q want numbers next pc forward le steps_len coefficients_len stay C = record {
  steps = record {
    len = steps_len;
    below = λ k from end. rw (stay.steps k (omega arith)) (C.steps.below k from end);
    edges = λ k t branch i from end edge.
        let later = forward.ahead k t branch i (record { above = from; below = end }) edge in
        rw (stay.steps k (omega arith), stay.steps t (omega arith)) (C.steps.edges k t branch i from end edge);
    returns = λ k i from end there is. rw (stay.steps k (omega arith)) (C.steps.returns k i from end there is);
  };
  zero = record { len = coefficients_len; each = λ k from end. stay.coefficients k (omega arith) ∙ C.zero.each k from end };
}

-- one more routine
pub are_counted-more : (image : Parts) (r next count : ℕ) (numbers more : Numbers) → next ≡ r + 1 → r < count
    → AreCounted image next count numbers → CountsOn image r numbers more true → AreCounted image r count more
are_counted-more image r next count numbers more next_is lt before on = λ want all q from q_lt.
    let this = all r lt in
    let here = on want this.0 this.1 in
    elim (cases_lt r q) [
      | inl later ↦
          let le = start_of-le image.routines (r + 1) q (omega arith) in
          counted-stays image q want numbers more (start_of image.routines (r + 1)) (all q q_lt).0 le here.1.steps.len
          here.1.zero.len here.2 (before want all q (omega arith) q_lt)
      | inr le ↦
          let same : r ≡ q = omega arith in
          subst (λ (n : ℕ). CountedIn image n want more) same here.1
    ]

-- what a sweep over routine r says of the image, where its body is of that routine
pub counts-in : (image here : Parts) (number r : ℕ) (old new : Numbers) (done : Bool) → here ≡ image → number ≡ r
    → CountsOn here number old new done → CountsOn image r old new done
counts-in image here number r old new done same_image same_number counts =
    subst (λ (x : Parts). CountsOn x r old new done) same_image (subst (λ (n : ℕ). CountsOn here n old new done) same_number counts)
