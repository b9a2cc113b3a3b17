-- What is known stays below rows that hold, and comes to fit, while rows flow.
use Rattle.std.proofs.Common.{◌≡◌, ◌≢◌, ℕ, zero, suc, ◌+◌, ◌*◌, ◌<◌, ◌≤◌, Bool, true, false, List, length, Option, Some, None, slice_get, get_or, set, refl, sym, ap, ◌∙◌, subst, arith, add-one, inl, inr, ◌⊎◌}
use Rattle.std.specs.Prelude.{MatchBool}
use Rattle.std.proofs.lemmas.Bool.{cases_eq, cases_lt, false≢true}
use Rattle.std.proofs.lemmas.List.{get_or-set_same, get_or-set_other, length-set}
use Rattle.std.proofs.lemmas.Option.{none-some}
use Rattle.geos_image.specs.declared.instr.Instr.{Instr}
use Rattle.geos_image.specs.declared.row.Row.{Row}
use Rattle.geos_image.specs.declared.routine.Routine.{Routine}
use Rattle.geos_image.specs.Parts.{Parts, start_of}
use Rattle.geos_verify.specs.Rows.{fits, after}
use Rattle.geos_image.specs.Legal.{is_image}
use Rattle.geos_image.proofs.Starts.{start_of-next, start_of-le}
use Rattle.geos_verify.proofs.Places.{item_at}
use Rattle.geos_code.specs.Known.{clean, known_at}
use Rattle.geos_code.specs.Code.{Edge, IsPcOf, ForwardIn, instrs_of, edge_end, edge_row}
use Rattle.geos_rows.specs.Solutions.{RowsHoldIn}
use Rattle.geos_rows.specs.declared.flow.Arrival.{Arrival}
use Rattle.geos_rows.specs.declared.flow.Arrival.TheVariants.{Same, Weaker, Apart}
use Rattle.geos_code.specs.declared.edges.Lead.{Lead}
use Rattle.geos_rows.specs.Flow.{KnownAt, edge_number, FitAhead, AllBelow, Flowing, AllKnown, IsJoin, HaveNoJoin, Joins, Arrives, has_joined, GoesAhead, Spreads, StaysBefore, FlowsAnew, HaveFlowed}
use Rattle.geos_code.specs.Edges.{LeadsTo}
use Rattle.geos_code.proofs.Bodies.{lies}
use Rattle.geos_verify.proofs.RowsFit.{fits-refl, fits-trans}
use Rattle.geos_code.proofs.Cleaning.{clean-least}
use Rattle.geos_rows.proofs.Joining.{apart-fit}
use Rattle.geos_code.proofs.Ends.{edge-mono, after-edge, code-at}

-- The order of edges

number-split : (k pc : ℕ) (b branch : Bool) → edge_number k b < suc (edge_number pc branch)
    → (edge_number k b < edge_number pc branch) ⊎ ((k ≡ pc) × (b ≡ branch))
number-split k pc true true h = elim (cases_lt k pc) [ inl lt ↦ inl (omega arith) | inr le ↦ inr (omega arith, refl) ]
number-split k pc true false h = inl (omega arith)
number-split k pc false true h = elim (cases_lt k (suc pc)) [ inl lt ↦ inl (omega arith) | inr le ↦ absurd (omega arith) ]
number-split k pc false false h = elim (cases_lt k pc) [ inl lt ↦ inl (omega arith) | inr le ↦ inr (omega arith, refl) ]

number-last : (k pc : ℕ) (b : Bool) → k < pc → edge_number k b < 2 * pc
number-last k pc true h = omega arith
number-last k pc false h = omega arith

number-not-behind : (k pc to : ℕ) (b branch : Bool) → pc < to → edge_number k b < edge_number pc branch → k ≢ to
number-not-behind k pc to true true ahead less = λ same. absurd (omega arith)
number-not-behind k pc to true false ahead less = λ same. absurd (omega arith)
number-not-behind k pc to false true ahead less = λ same. absurd (omega arith)
number-not-behind k pc to false false ahead less = λ same. absurd (omega arith)

pub some-is : {X : Type 0} (x y : X) → Some x ≡ Some y → x ≡ y
some-is x y e = cc

-- What is known at a place stays known, where what comes there is joined with it
stays : (known : List (Option Row)) (to : ℕ) (joined : Row) → to < length known
    → ((old : Row) → known_at known to ≡ Some old → fits old joined ≡ true)
    → (pc : ℕ) (row : Row) → KnownAt known pc row → KnownAt (set known to (Some joined)) pc row
stays known to joined lt above pc row K = elim (cases_eq pc to) [
  | inl e ↦ record {
    known_row = joined;
    read = ap (λ k. get_or (set known to (Some joined)) k None) e ∙ get_or-set_same known to (Some joined) None lt;
    fits = fits-trans row K.known_row joined K.fits (above K.known_row (ap (known_at known) (sym e) ∙ K.read));
  }
  | inr ne ↦ record {
    known_row = K.known_row;
    read = get_or-set_other known to pc (Some joined) None ne ∙ K.read;
    fits = K.fits;
  }
]

-- Joins

join-above : (o : Option Row) (row joined : Row) → IsJoin o row joined → (old : Row) → o ≡ Some old → fits old joined ≡ true
join-above None row joined is old e = absurd (none-some old e)
join-above (Some x) row joined is old e = subst (λ (y : Row). fits y joined ≡ true) (some-is x old e) is.left

pub join-upper : (o : Option Row) (row joined : Row) → IsJoin o row joined → fits row joined ≡ true
join-upper None row joined is = subst (λ (y : Row). fits row y ≡ true) (sym is) (fits-refl row)
join-upper (Some x) row joined is = is.right

pub join-least : (o : Option Row) (row joined u : Row) → IsJoin o row joined → ((old : Row) → o ≡ Some old → fits old u ≡ true)
    → fits row u ≡ true → fits joined u ≡ true
join-least None row joined u is below h = subst (λ (y : Row). fits y u ≡ true) (sym is) h
join-least (Some x) row joined u is below h = is.least u (below x refl) h

pub no-join : (o : Option Row) (row u : Row) → HaveNoJoin o row → ((old : Row) → o ≡ Some old → fits old u ≡ true) → fits row u ≡ true → ⊥
no-join None row u none below h = none
no-join (Some x) row u none below h = apart-fit x row none u (below x refl) h

-- One edge

module _ (image : Parts) (r : ℕ) (small : start_of image.routines (r + 1) ≤ length (instrs_of image))
    (known next : List (Option Row)) (pc : ℕ) (branch : Bool) (within : IsPcOf image r pc) where
  -- where the row comes there is room
  there : length (instrs_of image) ≤ length known → (goes : GoesAhead image r pc branch known) → goes.to < length known
  there room goes = (let below = goes.stays.below in omega (arith, room, small, below))

  module _ (F : FitAhead image r known (edge_number pc branch)) where
    -- nothing goes along the edge
    fit-same : (GoesAhead image r pc branch known → ⊥) → FitAhead image r known (suc (edge_number pc branch))
    fit-same none = record {
      len = F.len;
      entry = F.entry;
      edges = λ k t b j from k_in t_in ahead less other e. elim (number-split k pc b branch less) [
        | inl before ↦ F.edges k t b j from k_in t_in ahead before other e
        | inr this ↦ absurd (none (record {
          row = from;
          here = ap (known_at known) (sym this.0) ∙ e;
          to = t;
          i = j;
          edge = subst (λ x. Edge (instrs_of image) pc x t j) this.1 (subst (λ x. Edge (instrs_of image) x b t j) this.0 other);
          stays = t_in;
          ahead = (let same = this.0 in omega (arith, same, ahead));
        }))
      ];
    }

    -- what goes along it is joined with what is known where it leads
    fit-joined : (goes : GoesAhead image r pc branch known) (J : Joins known goes.to (edge_row image goes.i branch (clean goes.row)) next)
        → FitAhead image r (set known goes.to (Some J.joined)) (suc (edge_number pc branch))
    fit-joined goes J =
        let table = set known goes.to (Some J.joined) in
        let lt = there F.len goes in
        let keeps = stays known goes.to J.joined lt
        (join-above (known_at known goes.to) (edge_row image goes.i branch (clean goes.row)) J.joined J.join) in
        record {
          len = (let same = length-set known goes.to (Some J.joined) in let len = F.len in omega (arith, same, len));
          entry = λ routine at. keeps (start_of image.routines r) routine.entry (F.entry routine at);
          edges = λ k t b j from k_in t_in ahead less other e. elim (number-split k pc b branch less) [
            | inl before ↦
                let same_row : known_at table k ≡ known_at known k = get_or-set_other known goes.to k (Some J.joined) None
                (number-not-behind k pc goes.to b branch goes.ahead before) in
                keeps t (edge_row image j b (clean from)) (F.edges k t b j from k_in t_in ahead before other (sym same_row ∙ e))
            | inr this ↦ this-edge lt k t b j from this.0 this.1 other e
          ];
        }
      where
        this-edge : goes.to < length known → (k t : ℕ) (b : Bool) (j : Instr) (from : Row) → k ≡ pc → b ≡ branch
            → Edge (instrs_of image) k b t j → known_at (set known goes.to (Some J.joined)) k ≡ Some from
            → KnownAt (set known goes.to (Some J.joined)) t (edge_row image j b (clean from))
        this-edge lt k t b j from same same_branch other e =
            let table = set known goes.to (Some J.joined) in
            let is_i : goes.i ≡ j = some-is goes.i j (sym goes.edge.read ∙ ap (slice_get (instrs_of image)) (sym same) ∙ other.read) in
            let is_to : goes.to ≡ t = sym goes.edge.leads ∙ ap (λ x. edge_end pc x branch) is_i
            ∙ ap (λ x. edge_end pc j x) (sym same_branch) ∙ ap (λ x. edge_end x j b) (sym same) ∙ other.leads in
            let ahead = goes.ahead in
            let ne : pc ≢ goes.to = (λ at. absurd (omega (arith, at, ahead))) in
            let same_row : known_at table k ≡ known_at known pc = ap (known_at table) same
            ∙ get_or-set_other known goes.to pc (Some J.joined) None ne in
            let is_row : goes.row ≡ from = some-is goes.row from (sym goes.here ∙ sym same_row ∙ e) in
            let rows : edge_row image goes.i branch (clean goes.row) ≡ edge_row image j b (clean from) =
            ap (λ x. edge_row image x branch (clean goes.row)) is_i ∙ ap (λ x. edge_row image j x (clean goes.row)) (sym same_branch)
            ∙ ap (λ (x : Row). edge_row image j b (clean x)) is_row in
            record {
              known_row = J.joined;
              read = ap (known_at table) (sym is_to) ∙ get_or-set_same known goes.to (Some J.joined) None lt;
              fits = subst (λ (x : Row). fits x J.joined ≡ true) rows
                  (join-upper (known_at known goes.to) (edge_row image goes.i branch (clean goes.row)) J.joined J.join);
            }

    -- where rows have a join, all fits along one more edge
    pub spreads-fit : (ok : Bool) → ok ≡ true → Spreads image r pc branch known next ok → FitAhead image r next (suc (edge_number pc branch))
    spreads-fit false e S = absurd (false≢true e)
    spreads-fit true e (inl same) = subst (λ (x : List (Option Row)). FitAhead image r x (suc (edge_number pc branch))) (sym same.2) (fit-same same.0)
    spreads-fit true e (inr came) = subst (λ (x : List (Option Row)). FitAhead image r x (suc (edge_number pc branch)))
        (sym came.1.is) (fit-joined came.0 came.1)

  module _ (room : length (instrs_of image) ≤ length known) (want : List Row) (holds : RowsHoldIn image r want)
      (B : AllBelow image r want known) where
    want-at : (k : ℕ) → IsPcOf image r k → (w : Row) × (slice_get want k ≡ Some w)
    want-at k k_in = item_at want k (let len = holds.len in let below = k_in.below in omega (arith, len, below, small))

    -- the row on the edge implies the row that holds at its end
    comes : (goes : GoesAhead image r pc branch known) (w : Row) → slice_get want goes.to ≡ Some w
        → fits (edge_row image goes.i branch (clean goes.row)) w ≡ true
    comes goes w at =
        let before = want-at pc within in
        let least = (clean-least goes.row).least before.0 (B pc goes.row before.0 within goes.here before.1)
        (holds.clean pc before.0 within before.1) in
        fits-trans (edge_row image goes.i branch (clean goes.row)) (edge_row image goes.i branch before.0) w
        (edge-mono image goes.i branch (clean goes.row) before.0 least)
        (holds.edges pc goes.to branch goes.i before.0 w within goes.edge before.1 at)

    below-joined : (goes : GoesAhead image r pc branch known) (J : Joins known goes.to (edge_row image goes.i branch (clean goes.row)) next)
        → AllBelow image r want (set known goes.to (Some J.joined))
    below-joined goes J t row v t_in e f = elim (cases_eq t goes.to) [
      | inl same ↦
          let at_to : known_at (set known goes.to (Some J.joined)) goes.to ≡ Some row = ap (known_at (set known goes.to (Some J.joined))) (sym same)
          ∙ e in
          let is_joined : J.joined ≡ row = some-is J.joined row (sym (get_or-set_same known goes.to (Some J.joined) None (there room goes))
          ∙ at_to) in
          let at : slice_get want goes.to ≡ Some v = ap (slice_get want) (sym same) ∙ f in
          subst (λ (x : Row). fits x v ≡ true) is_joined
          (join-least (known_at known goes.to) (edge_row image goes.i branch (clean goes.row)) J.joined v J.join
          (λ old is. B goes.to old v goes.stays is at) (comes goes v at))
      | inr ne ↦ B t row v t_in (sym (get_or-set_other known goes.to t (Some J.joined) None ne) ∙ e) f
    ]

    -- rows below those that hold have a join, and all stays below them
    pub spreads-below : (ok : Bool) → Spreads image r pc branch known next ok → (ok ≡ true) × AllBelow image r want next
    spreads-below ok (inl same) = (same.1, subst (AllBelow image r want) (sym same.2) B)
    spreads-below true (inr came) = (refl, subst (AllBelow image r want) (sym came.1.is) (below-joined came.0 came.1))
    spreads-below false (inr came) =
        let goes = came.0 in
        let w = want-at goes.to goes.stays in
        absurd (no-join (known_at known goes.to) (edge_row image goes.i branch (clean goes.row)) w.0 came.1
        (λ old is. B goes.to old w.0 goes.stays is w.1) (comes goes w.0 w.1))

-- the arrival of a row at the end of its edge makes what spreading along the edge makes
pub spreads-on : (image : Parts) (r pc : ℕ) (branch : Bool) (lead : Lead) (row : Row) (known next : List (Option Row)) (arrival : Arrival)
    → known_at known pc ≡ Some row → lead.edge.from ≡ pc → lead.edge.branch ≡ branch
    → LeadsTo image pc branch lead.to → IsPcOf image r lead.to → pc < lead.to
    → Arrives arrival known lead.to (after image lead.edge.from (clean row) lead.edge.branch) next
    → Spreads image r pc branch known next (has_joined arrival)
spreads-on image r pc branch lead row known next arrival here pc_is branch_is leads inside ahead came =
    let is : Edge (instrs_of image) pc branch lead.to leads.point.instr =
    record { read = code-at image pc leads.point leads.there; has = leads.has; leads = leads.leads } in
    let over : after image lead.edge.from (clean row) lead.edge.branch ≡ edge_row image leads.point.instr branch (clean row) =
    ap (λ k. after image k (clean row) lead.edge.branch) pc_is ∙ ap (λ b. after image pc (clean row) b) branch_is
    ∙ after-edge image pc branch leads.point (clean row) leads.there in
    let goes : GoesAhead image r pc branch known = record {
      row = row;
      here = here;
      to = lead.to;
      i = leads.point.instr;
      edge =
          is;
      stays = inside;
      ahead = ahead;
    } in
    inr (
      goes,
      by_arrival arrival (edge_row image leads.point.instr branch (clean row))
          (subst (λ (x : Row). Arrives arrival known lead.to x next) over came),
    )
  where
    by_arrival : (a : Arrival) (row : Row) → Arrives a known lead.to row next
        → MatchBool (has_joined a) (Joins known lead.to row next) (HaveNoJoin (known_at known lead.to) row)
    by_arrival Same row came = came
    by_arrival Weaker row came = came
    by_arrival Apart row came = came

-- The edges of an instruction

module _ (image : Parts) (r : ℕ) (small : start_of image.routines (r + 1) ≤ length (instrs_of image))
    (known middle next : List (Option Row)) (pc more : ℕ) (within : IsPcOf image r pc) (one : more ≡ pc + 1) (along aside : Bool)
    (S : Spreads image r pc false known middle along) (A : Spreads image r pc true middle next aside) (F : FitAhead image r known (2 * pc)) where
  pub fit-more : along ≡ true → aside ≡ true → FitAhead image r next (2 * more)
  fit-more e f =
      let first = spreads-fit image r small known middle pc false within F along e S in
      let odd : suc (2 * pc) ≡ 2 * pc + 1 = omega arith in
      let second = spreads-fit image r small middle next pc true within (subst (λ (n : ℕ). FitAhead image r middle n) odd first) aside f A in
      let even : suc (2 * pc + 1) ≡ 2 * more = omega (arith, one) in
      subst (λ (n : ℕ). FitAhead image r next n) even second

  pub below-more : (want : List Row) → RowsHoldIn image r want → AllBelow image r want known → (along ≡ true)
      × (aside ≡ true) × AllBelow image r want next
  below-more want holds B =
      let first = spreads-below image r small known middle pc false within F.len want holds B along S in
      let fit = spreads-fit image r small known middle pc false within F along first.0 S in
      let second = spreads-below image r small middle next pc true within fit.len want holds first.1 aside A in
      (first.0, second.0, second.1)

-- where rows have flowed along all edges of a routine, something is known at each instruction
pub all-reached : (image : Parts) (r : ℕ) → ForwardIn image r → (routine : Routine) → slice_get image.routines r ≡ Some routine
    → (want : List Row) (known : List (Option Row)) → Flowing image r want known (2 * start_of image.routines (r + 1))
    → start_of image.routines (r + 1) ≤ length (instrs_of image) → AllKnown image r known
all-reached image r forward routine there want known F small pc within = reached-before (suc pc) pc (omega arith) within
  where
    reached-before : (n pc : ℕ) → pc < n → IsPcOf image r pc → (row : Row) × (known_at known pc ≡ Some row)
    reached-before zero pc less within = absurd (omega arith)
    reached-before (suc n) pc less within =
        let i = item_at (instrs_of image) pc (let below = within.below in omega arith) in
        elim (forward.entered pc i.0 within i.1) [
          | inl is ↦ let K = F.fit.entry routine there in (K.known_row, ap (known_at known) is ∙ K.read)
          | inr e ↦
              let earlier = forward.ahead e.pc pc e.branch e.i e.within e.edge in
              let from = reached-before n e.pc (omega arith) e.within in
              let number = number-last e.pc pc e.branch earlier in
              let below = within.below in
              let K = F.fit.edges e.pc pc e.branch e.i from.0 e.within within earlier (omega arith) e.edge from.1 in
              (K.known_row, K.read)
        ]

-- Routine after routine

known-stays : (known next : List (Option Row)) (start pc : ℕ) (row : Row) → StaysBefore start known next → pc < start
    → KnownAt known pc row → KnownAt next pc row
known-stays known next start pc row stay lt K = record { known_row = K.known_row; read = stay pc lt ∙ K.read; fits = K.fits }

flowing-stays : (image : Parts) (q : ℕ) (want : List Row) (known next : List (Option Row)) (start done : ℕ)
    → StaysBefore start known next → start_of image.routines q < start → start_of image.routines (q + 1) ≤ start
    → length (instrs_of image) ≤ length next → Flowing image q want known done → Flowing image q want next done
flowing-stays image q want known next start done stay begins ends len F = record {
  below = λ pc row w within e f. (let below = within.below in F.below pc row w within (sym (stay pc (omega arith)) ∙ e) f);
  fit = record {
    len = len;
    entry = λ routine there. known-stays known next start (start_of image.routines q) routine.entry stay begins (F.fit.entry routine there);
    edges = λ pc to branch i row within inside ahead less edge e.
        let below = within.below in
        let limit = inside.below in
        known-stays known next start to (edge_row image i branch (clean row)) stay (omega arith)
        (F.fit.edges pc to branch i row within inside ahead less edge (sym (stay pc (omega arith)) ∙ e));
  };
}

-- one more routine
pub have_flowed-more : (image : Parts) → is_image image ≡ true → (known next : List (Option Row)) (r : ℕ)
    → r < length image.routines → HaveFlowed image known r → StaysBefore (start_of image.routines r) known next → FlowsAnew image r next true
    → HaveFlowed image next (r + 1)
have_flowed-more image legal known next r lt before stay anew = λ want all q q_lt.
    let this = all r (omega arith) in
    let here = (anew want this.0 this.1).1 in
    elim (cases_lt q r) [
      | inl less ↦
          let routine = item_at image.routines q (omega arith) in
          let some = lies image legal q routine.0 routine.1 in
          let end = start_of-next image.routines q routine.0 routine.1 in
          let later = start_of-le image.routines (q + 1) r (omega arith) in
          let one : start_of image.routines (q + 1) ≡ start_of image.routines (suc q) = ap (start_of image.routines) (add-one q) in
          flowing-stays image q want known next (start_of image.routines r) (2 * start_of image.routines (q + 1)) stay
          (let count = some.1 in omega arith) (omega arith) here.fit.len
          (before want (λ k k_lt. all k (omega arith)) q less)
      | inr le ↦
          let same : r ≡ q = omega arith in
          subst (λ (n : ℕ). Flowing image n want next (2 * start_of image.routines (n + 1))) same here
    ]

-- what is found in a routine, where its body is of it
pub flows-anew : (image here : Parts) (number r : ℕ) (known : List (Option Row)) (done : Bool) → here ≡ image
    → number ≡ r → FlowsAnew here number known done → FlowsAnew image r known done
flows-anew image here number r known done same_image same_number flows = subst (λ (x : Parts). FlowsAnew x r known done)
    same_image (subst (λ (n : ℕ). FlowsAnew here n known done) same_number flows)
