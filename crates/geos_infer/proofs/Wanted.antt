-- The rows and numbers of steps of an accepted image hold.
use Rattle.std.proofs.Common.{◌≡◌, ◌≢◌, ℕ, suc, ◌+◌, ◌^◌, ◌<◌, ◌≤◌, Bool, true, false, List, [], ◌∷◌, length, map, take, ◌-◌, Some, None, slice_get, get_or, refl, sym, ap, ◌∙◌, subst, arith, inl, inr}
use Rattle.std.specs.Prelude.{if◌then◌else◌, option_map}
use Rattle.std.proofs.lemmas.Bool.{cases_lt}
use Rattle.std.proofs.lemmas.List.{length-map}
use Rattle.std.proofs.lemmas.List.Sums.{sum_by-cons}
use Rattle.std.proofs.lemmas.Option.{slice_get-map, slice_get_within, get_or_from_slice_get, same_Some}
use Rattle.geos_opcodes.specs.declared.opcode.Opcode.{Opcode}
use Rattle.geos_opcodes.specs.declared.opcode.Opcode.TheVariants.{Loop, Call}
use Rattle.geos_image.specs.declared.instr.Instr.{Instr}
use Rattle.geos_image.specs.declared.row.Row.{Row}
use Rattle.geos_image.specs.declared.potential.Potential.{Potential}
use Rattle.geos_image.specs.declared.routine.Routine.{Routine}
use Rattle.geos_image.specs.Parts.{Parts, start_of, total_count}
use Rattle.geos_image.specs.Legal.{is_image}
use Rattle.geos_image.specs.Ranges.{ImageFits, PointFits}
use Rattle.geos_image.proofs.Instrs.{image_parts}
use Rattle.geos_image.proofs.Starts.{start_of-le}
use Rattle.geos_verify.specs.declared.place.Place.{Place}
use Rattle.geos_verify.specs.Places.{places}
use Rattle.geos_image.specs.Keys.{branches}
use Rattle.geos_verify.specs.Rows.{fits, row_along, row_branching}
use Rattle.geos_verify.specs.Potentials.{pays_branching}
use Rattle.geos_verify.specs.Touched.{calls}
use Rattle.geos_verify.specs.Rules.{has_place, returns, names_empty_slot, tests, HasPoint, IsChecked}
use Rattle.geos_verify.proofs.Passed.{passed}
use Rattle.geos_verify.proofs.Places.{place_bounds, place_true, item_at, places-length, point-of}
use Rattle.geos_verify.proofs.Leads.{leads-along, leads-branching, may_return, may_begin, begins-within}
use Rattle.geos_code.specs.Code.{Edge, IsPcOf, ClosedIn, Entered, EnteredIn, SameCode, Forward, ForwardIn, instrs_of, edge_row}
use Rattle.geos_rows.specs.Solutions.{RowsHoldIn}
use Rattle.geos_counters.specs.Steps.{StepsHoldIn, call_steps}
use Rattle.geos_code.proofs.Bodies.{lies}
use Rattle.geos_code.proofs.Ends.{code-length, code-place, place-code-at, same-edge, map-get, ends-at}
use Rattle.geos_potentials.proofs.Asks.{called}
use Rattle.geos_potentials.proofs.Accepted.{along-steps, pays-steps}

abbrev pub row_at : Place → Row
row_at place = place.row

abbrev pub constant_at : Place → ℕ
constant_at place = place.potential.constant

-- each pc is in a routine
pub routine-at : (routines : List Routine) (pc : ℕ) → pc < total_count routines → (r : ℕ) × (routine : Routine)
    × (slice_get routines r ≡ Some routine) × (start_of routines r ≤ pc) × (pc < start_of routines r + routine.count)
routine-at [] pc lt = absurd (omega arith)
routine-at (x ∷ routines) pc lt = elim (cases_lt pc x.count) [
  | inl here ↦ (0, x, refl, omega arith, omega arith)
  | inr past ↦
      let all = sum_by-cons (λ (y : Routine). y.count) x routines in
      let ih = routine-at routines (pc - x.count) (omega arith) in
      let start = sum_by-cons (λ (y : Routine). y.count) x (take ih.0 routines) in
      (suc ih.0, ih.1, ih.2, (let low = ih.3 in omega arith), (let high = ih.4 in omega arith))
]

-- a place is one of a routine's
pub has-point : (o : Parts) → is_image o ≡ true → (pc : ℕ) (point : Place) → slice_get (places o) pc ≡ Some point
    → (r : ℕ) × (routine : Routine) × HasPoint o r routine pc point
has-point o legal pc point read =
    let counts = (image_parts o legal).counts in
    let lt = slice_get_within (places o) pc point read in
    let at = routine-at o.routines pc (omega (arith, places-length o)) in
    (at.0, at.1, record { there = at.2; within = place_true (start_of o.routines at.0) at.1.count pc at.3 at.4; read = read })

branching-steps : (image : Parts) (i : Instr) (opcode : Opcode) (p q : Potential) → opcode ≢ Loop → branches opcode ≡ true
    → pays_branching i opcode p q ≡ true → q.constant + 1 + called image i opcode ≤ p.constant
branching-steps image i Loop p q ne b h = absurd (ne refl)
branching-steps image i Call p q ne b h = absurd cc
branching-steps image i _ p q ne b h = pays-steps p q h

module _ (o : Parts) (checked : IsChecked o) where
  -- where an edge leads, by the rules
  row-fits : (pc : ℕ) (branch : Bool) (point next : Place) → slice_get (places o) pc ≡ Some point → (to : ℕ)
      → Edge (instrs_of o) pc branch to point.instr → slice_get (places o) to ≡ Some next
      → fits (edge_row o point.instr branch point.row) next.row ≡ true
  row-fits pc true point next read to edge at =
      let has = has-point o checked.0 pc point read in
      let L = leads-branching o.keyed o checked.0 checked.1 has.0 pc has.1 point has.2 point.instr.opcode refl edge.has in
      let same : L.point ≡ next = same_Some L.point next (sym L.has.read ∙ ap (slice_get (places o)) edge.leads ∙ at) in
      subst (λ (x : Place). fits (row_branching point.instr point.instr.opcode point.row) x.row ≡ true) same L.fits
  row-fits pc false point next read to edge at =
      let has = has-point o checked.0 pc point read in
      let L = leads-along o.keyed o checked.0 checked.1 has.0 pc has.1 point has.2 point.instr.opcode refl edge.has in
      let same : L.point ≡ next = same_Some L.point next (sym L.has.read ∙ ap (slice_get (places o)) edge.leads ∙ at) in
      subst (λ (x : Place). fits (row_along o point.instr point.instr.opcode point.row) x.row ≡ true) same L.fits

  step-paid : (pc : ℕ) (branch : Bool) (point next : Place) → slice_get (places o) pc ≡ Some point → (to : ℕ)
      → Edge (instrs_of o) pc branch to point.instr → slice_get (places o) to ≡ Some next
      → point.instr.opcode ≢ Loop → next.potential.constant + 1 + call_steps o point.instr ≤ point.potential.constant
  step-paid pc true point next read to edge at ne =
      let has = has-point o checked.0 pc point read in
      let L = leads-branching o.keyed o checked.0 checked.1 has.0 pc has.1 point has.2 point.instr.opcode refl edge.has in
      let same : L.point ≡ next = same_Some L.point next (sym L.has.read ∙ ap (slice_get (places o)) edge.leads ∙ at) in
      subst (λ (x : Place). x.potential.constant + 1 + call_steps o point.instr ≤ point.potential.constant) same
      (branching-steps o point.instr point.instr.opcode point.potential L.point.potential ne edge.has L.pays)
  step-paid pc false point next read to edge at ne =
      let has = has-point o checked.0 pc point read in
      let L = leads-along o.keyed o checked.0 checked.1 has.0 pc has.1 point has.2 point.instr.opcode refl edge.has in
      let same : L.point ≡ next = same_Some L.point next (sym L.has.read ∙ ap (slice_get (places o)) edge.leads ∙ at) in
      subst (λ (x : Place). x.potential.constant + 1 + call_steps o point.instr ≤ point.potential.constant) same
      (along-steps o point.instr point.instr.opcode point.row point.potential L.point.potential L.pays)

  -- the edge of the instruction of a point
  edge-of : (pc to : ℕ) (branch : Bool) (i : Instr) (point : Place) → slice_get (places o) pc ≡ Some point
      → Edge (instrs_of o) pc branch to i → (i ≡ point.instr) × Edge (instrs_of o) pc branch to point.instr
  edge-of pc to branch i point read edge =
      let here : slice_get (instrs_of o) pc ≡ Some point.instr = place-code-at o pc point read in
      let same : i ≡ point.instr = same_Some i point.instr (sym edge.read ∙ here) in
      (same, subst (λ x. Edge (instrs_of o) pc branch to x) same edge)

  module _ (r : ℕ) (routine : Routine) (there : slice_get o.routines r ≡ Some routine) where
    has-place : (pc : ℕ) (point : Place) → IsPcOf o r pc → slice_get (places o) pc ≡ Some point → HasPoint o r routine pc point
    has-place pc point within read =
        let end = ends-at o.routines r routine there in
        record {
          there = there;
          within = place_true (start_of o.routines r) routine.count pc within.above
              (let below = within.below in omega arith);
          read = read;
        }

    -- no edge leaves the routine
    stays-inside : ClosedIn o r
    stays-inside pc to branch i within edge =
        let point = code-place o pc i edge.read in
        let e = edge-of pc to branch i point.0 point.1 edge in
        let end = ends-at o.routines r routine there in
        let place = place_bounds (start_of o.routines r) routine.count to (leads branch point.0 (has-place pc point.0 within point.1) e.1) in
        omega (arith, place.1)
      where
        leads : (branch : Bool) (point : Place) → HasPoint o r routine pc point → Edge (instrs_of o) pc branch to point.instr
            → has_place (start_of o.routines r) routine.count to ≡ true
        leads true point has e =
            let L = leads-branching o.keyed o checked.0 checked.1 r pc routine point has point.instr.opcode refl e.has in
            let P : ℕ → Type 0 = λ n. has_place (start_of o.routines r) routine.count n ≡ true in
            subst P e.leads L.has.within
        leads false point has e =
            let L = leads-along o.keyed o checked.0 checked.1 r pc routine point has point.instr.opcode refl e.has in
            let P : ℕ → Type 0 = λ n. has_place (start_of o.routines r) routine.count n ≡ true in
            subst P e.leads L.has.within

    rows-hold : RowsHoldIn o r (map row_at (places o))
    rows-hold = record {
      len = length-map (places o) row_at ∙ places-length o ∙ sym (code-length o);
      closed = stays-inside;
      entry = λ other row at_r at. entry_ other row at_r (map-get row_at (places o) (start_of o.routines r) row at);
      edges = λ pc to branch i row next within edge at there. edges_ pc to branch i row next edge
          (map-get row_at (places o) pc row at) (map-get row_at (places o) to next there);
      clean = λ pc row within at. clean_ pc row (map-get row_at (places o) pc row at);
    }
      where
        entry_ : (other : Routine) (row : Row) → slice_get o.routines r ≡ Some other → (point : Place)
            × (slice_get (places o) (start_of o.routines r) ≡ Some point) × (row_at point ≡ row) → fits other.entry row ≡ true
        entry_ other row at_r (point, read, is) =
            let has : HasPoint o r other (start_of o.routines r) point =
            record { there = at_r; within = begins-within o.keyed o checked.0 r other at_r; read = read } in
            subst (λ (x : Row). fits other.entry x ≡ true) is
            ((may_begin o.keyed o checked.0 checked.1 r (start_of o.routines r) other point has refl).0)

        edges_ : (pc to : ℕ) (branch : Bool) (i : Instr) (row next : Row) → Edge (instrs_of o) pc branch to i
            → (point : Place) × (slice_get (places o) pc ≡ Some point) × (row_at point ≡ row)
            → (point : Place) × (slice_get (places o) to ≡ Some point) × (row_at point ≡ next) → fits (edge_row o i branch row) next ≡ true
        edges_ pc to branch i row next edge (point, read, is) (other, at, next_is) =
            let e = edge-of pc to branch i point read edge in
            let k = row-fits pc branch point other read to e.1 at in
            subst (λ (x : Instr). fits (edge_row o x branch row) next ≡ true) (sym e.0)
            (subst (λ (x : Row). fits (edge_row o point.instr branch x) next ≡ true) is
            (subst (λ (x : Row). fits (edge_row o point.instr branch point.row) x ≡ true) next_is k))

        clean_ : (pc : ℕ) (row : Row) → (point : Place) × (slice_get (places o) pc ≡ Some point) × (row_at point ≡ row) → names_empty_slot row ≡ false
        clean_ pc row (point, read, is) =
            let has = has-point o checked.0 pc point read in
            let all = passed (tests o has.0 has.1 (start_of o.routines has.0) pc point) (checked.1 has.0 pc has.1 point has.2) in
            subst (λ (x : Row). names_empty_slot x ≡ false) is all.1.0

    constant-at : (pc : ℕ) (point : Place) → slice_get (places o) pc ≡ Some point
        → get_or (map constant_at (places o)) pc 0 ≡ point.potential.constant
    constant-at pc point read = get_or_from_slice_get (map constant_at (places o)) pc point.potential.constant 0
        (slice_get-map constant_at (places o) pc ∙ ap (option_map constant_at) read)

    steps-hold : ((pc : ℕ) (i : Instr) → IsPcOf o r pc → slice_get (instrs_of o) pc ≡ Some i → i.opcode ≢ Loop)
        → ImageFits o → StepsHoldIn o r (map constant_at (places o))
    steps-hold no_loop fit = record {
      closed = stays-inside;
      edges = λ pc to branch i within edge. (
          let from = code-place o pc i edge.read in
          let next = item_at (places o) to (let inside = stays-inside pc to branch i within edge in
          let room = lies o checked.0 r routine there in let end = ends-at o.routines r routine there in omega (arith, room.0, places-length o)) in
          let e = edge-of pc to branch i from.0 from.1 edge in
          let ne : from.0.instr.opcode ≢ Loop = no_loop pc from.0.instr within e.1.read in
          let paid = step-paid pc branch from.0 next.0 from.1 to e.1 next.1 ne in
          let paid_here : next.0.potential.constant + 1 + call_steps o i ≤ from.0.potential.constant =
          subst (λ (x : Instr). next.0.potential.constant + 1 + call_steps o x ≤ from.0.potential.constant) (sym e.0) paid in
          rw (constant-at pc from.0 from.1, constant-at to next.0 next.1) paid_here
          );
      returns = λ pc i within there is. (
          let from = code-place o pc i there in
          let has = has-point o checked.0 pc from.0 from.1 in
          rw (constant-at pc from.0 from.1)
          ((may_return o.keyed o checked.0 checked.1 has.0 pc has.1 from.0 has.2 (ap (λ (x : Instr). returns x.opcode) from.2 ∙ is)).1)
          );
      long = λ pc within.
          let room = lies o checked.0 r routine there in
          let end = ends-at o.routines r routine there in
          let below = within.below in
          let lt : pc < length o.points = omega (arith, room.0) in
          let place = item_at (places o) pc (omega (arith, lt, places-length o)) in
          let point = point-of o pc place.0 place.1 in
          let fitting : PointFits point.0 = subst PointFits (get_or_from_slice_get o.points pc point.0 point.0 point.1) (fit.points pc point.0 lt) in
          let long : place.0.potential.constant < 2 ^ 32 = subst (λ (q : Potential). q.constant < 2 ^ 32)
          (sym point.2.potential) fitting.potential.constant in
          rw (constant-at pc place.0 place.1) (omega arith);
    }

-- Another image with the same code

module _ (image o : Parts) (same : SameCode image o) where
  edge-there : (pc to : ℕ) (branch : Bool) (i : Instr) → Edge (instrs_of image) pc branch to i → Edge (instrs_of o) pc branch to i
  edge-there pc to branch i edge = subst (λ (code : List Instr). Edge code pc branch to i) (sym same.instrs) edge

  pc-there : (r pc : ℕ) → IsPcOf image r pc → IsPcOf o r pc
  pc-there r pc within = record {
    above = subst (λ (rs : List Routine). start_of rs r ≤ pc) (sym same.routines) within.above;
    below = subst (λ (rs : List Routine). pc < start_of rs (r + 1)) (sym same.routines) within.below;
  }

  closed-here : (r : ℕ) → ClosedIn o r → ClosedIn image r
  closed-here r c = λ pc to branch i within edge. subst (λ (rs : List Routine). to < start_of rs (r + 1)) same.routines
      (c pc to branch i (pc-there r pc within) (edge-there pc to branch i edge))

  rows-here : (r : ℕ) (rows : List Row) → RowsHoldIn o r rows → RowsHoldIn image r rows
  rows-here r rows H = record {
    len = H.len ∙ ap length same.instrs;
    closed = closed-here r H.closed;
    entry = λ routine row there at.
        H.entry routine row (subst (λ (rs : List Routine). slice_get rs r ≡ Some routine) (sym same.routines) there)
        (subst (λ (rs : List Routine). slice_get rows (start_of rs r) ≡ Some row) (sym same.routines) at);
    edges = λ pc to branch i row next within edge at there.
        subst (λ (x : Row). fits x next ≡ true) (same-edge image o same.routines i branch row)
        (H.edges pc to branch i row next (pc-there r pc within) (edge-there pc to branch i edge) at there);
    clean = λ pc row within at. H.clean pc row (pc-there r pc within) at;
  }

  call-same : (i : Instr) → call_steps o i ≡ call_steps image i
  call-same i = ap (λ (rs : List Routine). if calls i.opcode then elim (slice_get rs i.imm) [ None ↦ 0 | Some routine ↦ routine.budget ] else 0)
      same.routines

  steps-here : (r : ℕ) (steps : List ℕ) → StepsHoldIn o r steps → StepsHoldIn image r steps
  steps-here r steps H = record {
    closed = closed-here r H.closed;
    edges = λ pc to branch i within edge. (
        let paid = H.edges pc to branch i (pc-there r pc within) (edge-there pc to branch i edge) in
        let called = call-same i in
        omega arith
        );
    returns = λ pc i within there is. H.returns pc i (pc-there r pc within)
        (subst (λ (code : List Instr). slice_get code pc ≡ Some i) (sym same.instrs) there) is;
    long = λ pc within. H.long pc (pc-there r pc within);
  }

  module _ (checked : IsChecked o) (r : ℕ) (routine : Routine) (there : slice_get image.routines r ≡ Some routine) where
    at-other : slice_get o.routines r ≡ Some routine
    at-other = subst (λ (rs : List Routine). slice_get rs r ≡ Some routine) (sym same.routines) there

    pub closed-wanted : ClosedIn image r
    closed-wanted = closed-here r (stays-inside o checked r routine at-other)

    pub rows-wanted : RowsHoldIn image r (map row_at (places o))
    rows-wanted = rows-here r (map row_at (places o)) (rows-hold o checked r routine at-other)

    pub steps-wanted : Forward image → ImageFits o → StepsHoldIn image r (map constant_at (places o))
    steps-wanted forward fit =
        let no_loop : (pc : ℕ) (i : Instr) → IsPcOf o r pc → slice_get (instrs_of o) pc ≡ Some i → i.opcode ≢ Loop =
        λ pc i within read. forward.no_loop pc i (ap (λ (code : List Instr). slice_get code pc) (sym same.instrs) ∙ read) in
        steps-here r (map constant_at (places o)) (steps-hold o checked r routine at-other no_loop fit)

-- Code without loops has none in any routine

-- routines of which a pc is
same-routine : (image : Parts) → is_image image ≡ true → (q r pc : ℕ) (routine : Routine) → slice_get image.routines q ≡ Some routine
    → IsPcOf image r pc → start_of image.routines q ≤ pc → pc < start_of image.routines (q + 1) → q ≡ r
same-routine image legal q r pc routine there within low high = elim (cases_lt q r) [
  | inl less ↦ (let later = start_of-le image.routines (q + 1) r (omega arith) in let above = within.above in absurd (omega arith))
  | inr le ↦ elim (cases_lt r q) [
    | inl more ↦ (let later = start_of-le image.routines (r + 1) q (omega arith) in let below = within.below in absurd (omega arith))
    | inr ge ↦ omega arith
  ]
]

pub forward-in : (image : Parts) → is_image image ≡ true → Forward image
    → ((q : ℕ) (routine : Routine) → slice_get image.routines q ≡ Some routine → ClosedIn image q) → (r : ℕ) → ForwardIn image r
forward-in image legal forward closed r = record {
  no_loop = λ pc i within read. forward.no_loop pc i read;
  ahead = λ pc to branch i within edge. forward.ahead pc to branch i edge;
  entered = λ pc i within read. elim (forward.entered pc i read) [
    | inl b ↦
        let some = lies image legal b.r b.routine b.there in
        let end = ends-at image.routines b.r b.routine b.there in
        let start = b.start in
        let same = same-routine image legal b.r r pc b.routine b.there within (omega arith) (omega (arith, some.1)) in
        inl (b.start ∙ ap (start_of image.routines) same)
    | inr e ↦ inr (from-here pc within e)
  ];
}
  where
    from-here : (pc : ℕ) → IsPcOf image r pc → Entered (instrs_of image) pc → EnteredIn image r pc
    from-here pc within e =
        let len = code-length image in
        let counts = (image_parts image legal).counts in
        let lt = slice_get_within (instrs_of image) e.pc e.i e.edge.read in
        let at = routine-at image.routines e.pc (omega arith) in
        let end = ends-at image.routines at.0 at.1 at.2 in
        let from : IsPcOf image at.0 e.pc = record { above = at.3; below = omega (arith, at.4) } in
        let earlier = forward.ahead e.pc pc e.branch e.i e.edge in
        let inside = closed at.0 at.1 at.2 e.pc pc e.branch e.i from e.edge in
        let same = same-routine image legal at.0 r pc at.1 at.2 within (omega (arith, at.3)) inside in
        record { pc = e.pc; within = subst (λ (n : ℕ). IsPcOf image n e.pc) same from; branch = e.branch; i = e.i; edge = e.edge }
