-- What edges ask of constants is what they are noted to cost.
use Rattle.std.proofs.Common.{◌≡◌, ◌≤◌, ◌<◌, ◌⊎◌, ℕ, ◌+◌, Bool, true, false, List, [], ◌∷◌, length, get_or, Option, Some, None, slice_get, set, refl, sym, ap, ◌∙◌, subst, arith, inl, inr}
use Rattle.std.specs.Prelude.{IfSome, map, slice_index, slice_index_or, nat_le, nat_lt, ◌&&◌, if◌then◌else◌}
use Rattle.std.proofs.lemmas.Bool.{cases_eq, cases_lt, and_parts, leb-true, le-leb, ltb-true, lt-ltb, false≢true}
use Rattle.std.proofs.lemmas.List.{get_or-set_same, get_or-set_other, length-map}
use Rattle.geos_opcodes.specs.declared.opcode.Opcode.{Opcode}
use Rattle.geos_opcodes.specs.declared.opcode.Opcode.TheVariants.{Setk, Setkw, Loop, Call}
use Rattle.geos_image.specs.declared.instr.Instr.{Instr}
use Rattle.geos_image.specs.declared.row.Row.{Row}
use Rattle.geos_image.specs.declared.potential.Potential.{Potential}
use Rattle.geos_image.specs.Keys.{branches}
use Rattle.geos_verify.specs.Rows.{has_edge}
use Rattle.geos_image.specs.Parts.{Parts, start_of}
use Rattle.geos_verify.specs.declared.asked.Asked.{Asked}
use Rattle.geos_verify.specs.Potentials.{asked_along, asked_branching}
use Rattle.geos_verify.proofs.Places.{item_at, if_some}
use Rattle.std.proofs.lemmas.Option.{same_Some}
use Rattle.geos_potentials.specs.Arcs.{counting_of, IsArc, IsArcIf, AreArcs, price_of, paid_by}
use Rattle.geos_code.specs.Code.{is_loop, IsPcOf, TargetAhead}
use Rattle.geos_code.proofs.Ends.{code-at, leads-one}
use Rattle.geos_code.specs.Edges.{LeadsTo}
use Rattle.geos_potentials.specs.Constants.{AreLeastWith, asked_over, PaysSteps, ConstantsPay, row_known, coefficients_at, AreLeastIn, GoesBack, IsLoopAt, potential_in, IsAsked}
use Rattle.geos_potentials.specs.Least.{steps_at, link_at, PaysLink, PayAll, PayEnds, AreLeast, IsLookedAt, AskNoMore, NoneOutside, ArePut}
use Rattle.geos_potentials.specs.Numbers.{Numbers, numbers_of, steps_of, coefficients_of}
use Rattle.geos_potentials.proofs.Numbered.{numbers-set}
use Rattle.geos_counters.specs.Steps.{call_steps, taken_at}
use Rattle.control_graph.specs.declared.arcs.Arc.{Arc}
use Rattle.control_graph.specs.declared.jumps.Jump.{Jump}
use Rattle.geos_potentials.specs.declared.lengths.Link.{Link}
use Rattle.geos_potentials.specs.declared.lengths.Way.{Way}
use Rattle.geos_potentials.proofs.Asks.{called}

-- so many steps with the units at a pc
abbrev pub with_units : List (List ℕ) → ℕ → ℕ → Potential
with_units pay pc n = record { constant = n; coefficients = coefficients_at pay pc }

along-costs : (image : Parts) (table : List (List Bool)) (i : Instr) (opcode : Opcode) (row : Row) (pay : List (List ℕ)) (pc to n m : ℕ)
    → PaysSteps (asked_along image i opcode row (with_units pay to n)) (with_units pay pc m)
    → n + (1 + called image i opcode + price_of pay to (counting_of row table i opcode false)) ≤ m + paid_by pay pc
    (counting_of row table i opcode false)
along-costs image table i Setk row pay pc to n m h = omega (arith, h)
along-costs image table i Setkw row pay pc to n m h = omega (arith, h)
along-costs image table i Loop row pay pc to n m h = omega (arith, h)
along-costs image table i Call row pay pc to n m h = omega (arith, h)
along-costs image table i _ row pay pc to n m h = omega (arith, h)

branching-costs : (image : Parts) (table : List (List Bool)) (i : Instr) (opcode : Opcode) (row : Row) (pay : List (List ℕ)) (pc to n m : ℕ)
    → branches opcode ≡ true → PaysSteps (asked_branching i opcode (with_units pay to n)) (with_units pay pc m)
    → n + (1 + called image i opcode + price_of pay to (counting_of row table i opcode true)) ≤ m + paid_by pay pc
    (counting_of row table i opcode true)
branching-costs image table i Setk row pay pc to n m b h = absurd cc
branching-costs image table i Setkw row pay pc to n m b h = absurd cc
branching-costs image table i Loop row pay pc to n m b h = omega (arith, h)
branching-costs image table i Call row pay pc to n m b h = absurd cc
branching-costs image table i _ row pay pc to n m b h = omega (arith, h)

over-costs : (image : Parts) (table : List (List Bool)) (i : Instr) (row : Row) (branch : Bool) (pay : List (List ℕ)) (pc to n m : ℕ)
    → has_edge i branch ≡ true → PaysSteps (asked_over image i row branch (with_units pay to n)) (with_units pay pc m)
    → n + (1 + call_steps image i + price_of pay to (counting_of row table i i.opcode branch)) ≤ m + paid_by pay pc
    (counting_of row table i i.opcode branch)
over-costs image table i row true pay pc to n m has h = branching-costs image table i i.opcode row pay pc to n m has h
over-costs image table i row false pay pc to n m has h = along-costs image table i i.opcode row pay pc to n m h

module _ (image : Parts) (r : ℕ) (known : List (Option Row)) (table : List (List Bool)) (pay : List (List ℕ))
    (steps : ℕ → ℕ) (P : ConstantsPay image r (row_known known) (coefficients_at pay) steps) where
  -- steps that pay for an edge pay for what is noted of it
  pub arc-paid : (pc : ℕ) (branch : Bool) (arc : Arc) → IsPcOf image r pc → IsArc image r known table pc branch arc
      → steps arc.to + (1 + arc.called + price_of pay arc.to arc.counting) ≤ steps pc + paid_by pay pc arc.counting
  arc-paid pc branch arc within A =
      let i = A.leads.point.instr in
      let counting = counting_of (row_known known pc) table i i.opcode branch in
      let taken : taken_at image pc ≡ 1 + call_steps image i = rw (A.leads.there, taken_at) refl in
      let called : 1 + arc.called ≡ 1 + call_steps image i = A.steps ∙ taken in
      let paid = over-costs image table i (row_known known pc) branch pay pc arc.to (steps arc.to) (steps pc) A.leads.has
      (P.edges pc arc.to branch within A.leads A.stays) in
      rw A.counting (omega (arith, called, paid))

  module _ (arcs : List (List (Option Arc))) (noted : AreArcs image r known table arcs) (links : List (List (Option Link)))
      (no_more : AskNoMore image r arcs pay links) (outside : (pc : ℕ) (branch : Bool) → (IsPcOf image r pc → ⊥) → link_at links pc branch ≡ None)
      (old next : List Way) (least : AreLeast image r links old next) where
    abbrev within-it : ℕ → Bool
    within-it pc = nat_le (start_of image.routines r) pc && nat_lt pc (start_of image.routines (r + 1))

    -- the steps within the routine, and elsewhere what ways take
    abbrev also : ℕ → ℕ
    also pc = if within-it pc then steps pc else steps_at old pc

    inside : (pc : ℕ) → IsPcOf image r pc → also pc ≡ steps pc
    inside pc within = rw (le-leb (start_of image.routines r) pc within.above, lt-ltb pc (start_of image.routines (r + 1)) within.below) refl

    elsewhere : (pc : ℕ) → (IsPcOf image r pc → ⊥) → also pc ≡ steps_at old pc
    elsewhere pc out = by_test (within-it pc) refl
      where
        by_test : (b : Bool) → within-it pc ≡ b → also pc ≡ steps_at old pc
        by_test true e =
            let parts = and_parts (nat_le (start_of image.routines r) pc) (nat_lt pc (start_of image.routines (r + 1))) e in
            absurd (out (record {
              above = leb-true (start_of image.routines r) pc parts.0;
              below =
                  ltb-true pc (start_of image.routines (r + 1)) parts.1;
            }))
        by_test false e = rw e refl

    links-paid : (pc : ℕ) (branch : Bool) → IsPcOf image r pc → (o : Option Link) → link_at links pc branch ≡ o → PaysLink also pc o
    links-paid pc branch within None e = tt
    links-paid pc branch within (Some link) e =
        let N = no_more pc branch link within e in
        let is : IsArcIf image r known table pc branch (Some N.arc) = subst (IsArcIf image r known table pc branch) N.read (noted pc branch within) in
        let paid = arc-paid pc branch N.arc within is in
        let here : also pc ≡ steps pc = inside pc within in
        let there : also link.to ≡ steps N.arc.to = ap also N.to ∙ inside N.arc.to is.stays in
        let costs = N.costs in
        let pays = N.paid in
        omega (arith, paid, here, there, costs, pays)

    all-paid : PayAll links also
    all-paid pc branch = by_within (cases_lt pc (start_of image.routines r)) (cases_lt pc (start_of image.routines (r + 1)))
      where
        none : (IsPcOf image r pc → ⊥) → PaysLink also pc (link_at links pc branch)
        none out = rw (outside pc branch out) tt

        by_within : (pc < start_of image.routines r) ⊎ (start_of image.routines r ≤ pc)
            → (pc < start_of image.routines (r + 1)) ⊎ (start_of image.routines (r + 1) ≤ pc) → PaysLink also pc (link_at links pc branch)
        by_within (inl low) q = none (λ within. (let above = within.above in absurd (omega (arith, above, low))))
        by_within (inr above) (inl below) = links-paid pc branch (record { above = above; below = below }) (link_at links pc branch) refl
        by_within (inr above) (inr high) = none (λ within. (let below = within.below in absurd (omega (arith, below, high))))

    ends-paid : PayEnds image r old also
    ends-paid = record {
      returns = λ pc point within there. rw (inside pc within) (P.returns pc point within there);
      others = λ pc out. (let is = elsewhere pc out in omega (arith, is));
    }

    -- no way that is found takes more steps
    ways-least : (pc : ℕ) → IsPcOf image r pc → steps_at next pc ≤ steps pc
    ways-least pc within = (let most = least also all-paid ends-paid pc in let here = inside pc within in omega (arith, most, here))

-- so the ways that are found are
pub found-ways : (image : Parts) (r : ℕ) (known : List (Option Row)) (table : List (List Bool)) (arcs : List (List (Option Arc)))
    → AreArcs image r known table arcs → (pay : List (List ℕ)) (links : List (List (Option Link))) → AskNoMore image r arcs pay links
    → ((pc : ℕ) (branch : Bool) → (IsPcOf image r pc → ⊥) → link_at links pc branch ≡ None) → (old next : List Way)
    → AreLeast image r links old next → AreLeastWith image r known pay (steps_at next)
found-ways image r known table arcs noted pay links no_more outside old next least steps P pc within =
    ways-least image r known table pay steps P arcs noted links no_more outside old next least pc within

-- and numbers that are these are the least that pay
pub found-least : (image : Parts) (r : ℕ) (known : List (Option Row)) (pay : List (List ℕ)) (next : List Way)
    → AreLeastWith image r known pay (steps_at next) → (numbers : Numbers) → ArePut image r pay next numbers → AreLeastIn image r known numbers
found-least image r known pay next least numbers put steps P pc within =
    let same : (k : ℕ) → IsPcOf image r k → coefficients_at numbers.coefficients k ≡ coefficients_at pay k = λ k k_in. (put k k_in).1 in
    let Q : ConstantsPay image r (row_known known) (coefficients_at pay) steps = record {
      edges = λ k to branch k_in leads to_in.
          subst (λ (x : List ℕ). PaysSteps (asked_over image leads.point.instr (row_known known k) branch
          (record { constant = steps to; coefficients = x })) (record { constant = steps k; coefficients = coefficients_at pay k })) (same to to_in)
          (subst (λ (x : List ℕ). PaysSteps (asked_over image leads.point.instr (row_known known k) branch
          (record { constant = steps to; coefficients = coefficients_at numbers.coefficients to }))
          (record { constant = steps k; coefficients = x })) (same k k_in)
          (P.edges k to branch k_in leads to_in));
      returns = P.returns;
    } in
    let less = least steps Q pc within in
    let is = (put pc within).0 in
    omega (arith, less, is)

-- a potential that has such a constant and such coefficients
pub potential-at : (numbers : Numbers) (pc : ℕ) (p : Potential) → p.constant ≡ slice_index numbers.steps pc
    → p.coefficients ≡ slice_index_or numbers.coefficients pc [] → p ≡ potential_in numbers pc
potential-at numbers pc p constant coefficients =
    ap (λ (n : ℕ). both n p.coefficients) constant ∙ ap (both (slice_index numbers.steps pc)) coefficients
  where
    both : ℕ → List ℕ → Potential
    both n units = record { constant = n; coefficients = units }

-- What edges ask

-- where the edge of an instruction leads to a place, this is what it asks
pub asked-one : (image : Parts) (r : ℕ) (known : List (Option Row)) (numbers : Numbers) (pc : ℕ) (branch : Bool)
    (i : Instr) (end : ℕ) (next : Potential) (asked : Asked) → IfSome (slice_get image.points pc) (λ point. i ≡ point.instr)
    → LeadsTo image pc branch end
    → next.constant ≡ slice_index numbers.steps end → next.coefficients ≡ slice_index_or numbers.coefficients end []
    → asked ≡ asked_over image i (row_known known pc) branch next → IsAsked image r known numbers pc branch (Some asked)
asked-one image r known numbers pc branch i end next asked there leads_on constant coefficients is to leads inside =
    let same : i ≡ leads.point.instr = if_some (λ point. i ≡ point.instr) (slice_get image.points pc) leads.point leads.there there in
    let ends : end ≡ to = leads-one image pc branch end to leads_on leads in
    is ∙ ap (λ (x : Instr). asked_over image x (row_known known pc) branch next) same
    ∙ ap (asked_over image leads.point.instr (row_known known pc) branch) (potential-at numbers end next constant coefficients
    ∙ ap (potential_in numbers) ends)

-- Numbers that are put

-- the numbers of the instructions of routine r before a pc are the steps of these ways, and these units
abbrev pub PutBelow : Parts → ℕ → List (List ℕ) → List Way → ℕ → Numbers → Type 0
PutBelow image r pay ways limit numbers = (pc : ℕ) → IsPcOf image r pc → pc < limit → (slice_index numbers.steps pc ≡ steps_at ways pc)
    × (slice_index_or numbers.coefficients pc [] ≡ slice_index_or pay pc [])

pub put-more : (image : Parts) (r : ℕ) (pay : List (List ℕ)) (ways : List Way) (potentials : List Potential) (p more : ℕ) (next : Potential)
    → more ≡ p + 1 → p < length potentials → next.constant ≡ steps_at ways p
    → next.coefficients ≡ slice_index_or pay p [] → PutBelow image r pay ways p (numbers_of potentials)
    → PutBelow image r pay ways more (numbers_of (set potentials p next))
put-more image r pay ways potentials p more next one room constant coefficients before =
    subst (PutBelow image r pay ways more) (sym (numbers-set potentials p next)) put
  where
    put : PutBelow image r pay ways more
        (record { steps = set (map steps_of potentials) p next.constant; coefficients = set (map coefficients_of potentials) p next.coefficients })
    put pc within lt = elim (cases_eq pc p) [
      | inl same ↦ (
        ap (λ (n : ℕ). slice_index (set (map steps_of potentials) p next.constant) n) same
            ∙ get_or-set_same (map steps_of potentials) p next.constant 0 (omega (arith, room, length-map potentials steps_of))
            ∙ constant ∙ ap (steps_at ways) (sym same),
        ap (λ (n : ℕ). slice_index_or (set (map coefficients_of potentials) p next.coefficients) n []) same
            ∙ get_or-set_same (map coefficients_of potentials) p next.coefficients [] (omega (arith, room, length-map potentials coefficients_of))
            ∙ coefficients
            ∙ ap (λ (n : ℕ). slice_index_or pay n []) (sym same),
      )
      | inr ne ↦
          let old = before pc within (omega (arith, lt, one, ne)) in (
            get_or-set_other (map steps_of potentials) p pc next.constant 0 ne
                ∙ old.0,
            get_or-set_other (map coefficients_of potentials) p pc next.coefficients [] ne ∙ old.1,
          )
    ]

-- Edges that the search examines

-- those of one more place of the routine
pub outside-more : (image : Parts) (r : ℕ) (links next : List (List (Option Link))) (p : ℕ) (both : List (Option Link))
    → IsPcOf image r p → next ≡ set links p both → NoneOutside image r links → NoneOutside image r next
outside-more image r links next p both here is before pc branch out =
    rw is (ap (λ (x : List (Option Link)). slice_index_or x (if branch then 1 else 0) None)
    (get_or-set_other links p pc both [] (λ same. out (subst (IsPcOf image r) (sym same) here))) ∙ before pc branch out)

-- Routines without loops

pub never-loops : (image : Parts) (pc : ℕ) (i : Instr) → pc < length image.points → IfSome (slice_get image.points pc) (λ point. i ≡ point.instr)
    → is_loop i.opcode ≡ false → IsLoopAt image pc → ⊥
never-loops image pc i lt there not L =
    let found = item_at image.points pc lt in
    let same : i ≡ found.0.instr = if_some (λ point. i ≡ point.instr) (slice_get image.points pc) found.0 found.1 there in
    let is : L.0 ≡ found.0.instr = same_Some L.0 found.0.instr (sym L.1 ∙ code-at image pc found.0 found.1) in
    let loops : is_loop L.0.opcode ≡ true = ap is_loop L.2 in
    false≢true (sym not ∙ ap (λ (x : Instr). is_loop x.opcode) (same ∙ sym is) ∙ loops)

pub never-back : (image : Parts) (r pc : ℕ) → TargetAhead image r pc → GoesBack image r pc → ⊥
never-back image r pc ahead G = (let less = ahead G.to G.i G.stays G.edge in let back = G.back in omega (arith, less, back))

-- Edges that the search examines, with their costs

-- they are also where those of one more place are
pub looked-more : (image : Parts) (r : ℕ) (arcs : List (List (Option Arc))) (jumps : List Jump) (pay : List (List ℕ))
    (links next : List (List (Option Link))) (p more : ℕ) (along branching : Option Link) → more ≡ p + 1
    → next ≡ set links p (along ∷ branching ∷ []) → p < length links → IsLookedAt arcs jumps pay p false along
    → IsLookedAt arcs jumps pay p true branching
    → ((pc : ℕ) (branch : Bool) → IsPcOf image r pc → pc < p → IsLookedAt arcs jumps pay pc branch (link_at links pc branch))
    → (pc : ℕ) (branch : Bool) → IsPcOf image r pc → pc < more → IsLookedAt arcs jumps pay pc branch (link_at next pc branch)
looked-more image r arcs jumps pay links next p more along branching one is room first second before pc branch within lt =
    rw is (elim (cases_eq pc p) [
      | inl same ↦ subst (λ (n : ℕ). IsLookedAt arcs jumps pay n branch (link_at (set links p (along ∷ branching ∷ [])) n branch))
          (sym same) (here branch)
      | inr ne ↦
          let other : get_or (set links p (along ∷ branching ∷ [])) pc [] ≡ get_or links pc [] =
          get_or-set_other links p pc (along ∷ branching ∷ []) [] ne in
          subst (λ (both : List (Option Link)). IsLookedAt arcs jumps pay pc branch (slice_index_or both (if branch then 1 else 0) None))
          (sym other) (before pc branch within (omega (arith, lt, one, ne)))
    ])
  where
    here : (b : Bool) → IsLookedAt arcs jumps pay p b (link_at (set links p (along ∷ branching ∷ [])) p b)
    here false = subst (λ (both : List (Option Link)). IsLookedAt arcs jumps pay p false (slice_index_or both 0 None))
        (sym (get_or-set_same links p (along ∷ branching ∷ []) [] room)) first
    here true = subst (λ (both : List (Option Link)). IsLookedAt arcs jumps pay p true (slice_index_or both 1 None))
        (sym (get_or-set_same links p (along ∷ branching ∷ []) [] room)) second
