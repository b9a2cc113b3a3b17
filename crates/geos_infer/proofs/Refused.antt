-- What ways take is paid for in an image that is accepted.
use Rattle.std.proofs.Common.{◌≡◌, ◌≤◌, ℕ, suc, ◌+◌, ◌*◌, Bool, true, false, List, [], ◌∷◌, length, Option, Some, None, slice_get, get_or, set, refl, sym, ap, ◌∙◌, subst, arith, inl, inr, ◌⊎◌}
use Rattle.std.specs.Prelude.{if◌then◌else◌}
use Rattle.std.proofs.lemmas.Bool.{cases_lt, false≢true}
use Rattle.std.proofs.lemmas.List.{set-get_or, get_or_past}
use Rattle.geos_opcodes.specs.declared.opcode.Opcode.{Opcode}
use Rattle.geos_opcodes.specs.declared.opcode.Opcode.TheVariants.{Setk, Setkw, Loop, Call, Ret, Jmp}
use Rattle.geos_image.specs.declared.instr.Instr.{Instr}
use Rattle.geos_image.specs.declared.row.Row.{Row}
use Rattle.geos_image.specs.declared.potential.Potential.{Potential}
use Rattle.geos_image.specs.declared.routine.Routine.{Routine}
use Rattle.geos_image.specs.declared.point.Point.{Point}
use Rattle.geos_image.specs.Parts.{Parts}
use Rattle.geos_image.specs.Keys.{branches, falls_through}
use Rattle.geos_verify.specs.Rows.{bound}
use Rattle.geos_verify.specs.Potentials.{budget_of, pays_along, pays_branching, dot, value}
use Rattle.geos_verify.specs.Rules.{returns, HasPoint}
use Rattle.geos_verify.specs.Touched.{calls, counts, touches, touched_by}
use Rattle.geos_verify.specs.declared.place.Place.{Place as Known}
use Rattle.geos_verify.specs.Places.{places}
use Rattle.geos_verify.proofs.Leads.{leads-along, leads-branching, may_return}
use Rattle.geos_verify.proofs.Paid.{pays-value, pays_setting-value, pays_taking-value, pays_calling-value, spent-at}
use Rattle.geos_code.specs.Code.{IsPcOf, instr_of}
use Rattle.geos_counters.specs.Steps.{call_steps, taken_at}
use Rattle.loop_causes.specs.Taken.{Place, Counts, Takes, word_at}
use Rattle.geos_potentials.specs.Accepted.{HasAccepted}
use Rattle.geos_code.specs.Edges.{LeadsTo}
use Rattle.geos_potentials.proofs.Asks.{called}
use Rattle.geos_code.proofs.Ends.{place-code-at, map-get}
use Rattle.geos_potentials.proofs.Accepted.{along-steps, pays-steps, touches-same, same-instr, four-at}

-- Potentials and counters

-- counters that no coefficient is left on do not matter
dot-kept : (cs before after : List ℕ) → length after ≡ length before → ((k : ℕ) → (get_or cs k 0 ≡ 0) ⊎ (get_or after k 0 ≡ get_or before k 0))
    → dot cs after ≡ dot cs before
dot-kept [] before after len each = refl
dot-kept (c ∷ cs) [] [] len each = refl
dot-kept (c ∷ cs) [] (a ∷ after) len each = absurd (omega arith)
dot-kept (c ∷ cs) (b ∷ before) [] len each = absurd (omega arith)
dot-kept (c ∷ cs) (b ∷ before) (a ∷ after) len each =
    let rest = dot-kept cs before after (omega arith) (λ k. each (suc k)) in
    let first : c * a ≡ c * b = elim (each 0) [ inl none ↦ rw none (omega arith) | inr same ↦ rw same refl ] in
    omega (arith, rest, first)

pub dot-zeros : (cs ks : List ℕ) → ((k : ℕ) → get_or ks k 0 ≡ 0) → dot cs ks ≡ 0
dot-zeros [] ks none = refl
dot-zeros (c ∷ cs) [] none = refl
dot-zeros (c ∷ cs) (k ∷ ks) none = let first : c * k ≡ 0 = rw (none 0) (omega arith) in omega (arith, first, dot-zeros cs ks (λ n. none (suc n)))

-- Edges

-- what the edge to the next instruction takes is paid for
along-value : (word : ℕ) (image other : Parts) (i : Instr) (opcode : Opcode) (row : Row) (p q : Potential) (before after : List ℕ)
    → word ≤ bound row i.b → ((k r : ℕ) → touches other k r ≡ touches image k r) → length q.coefficients ≡ 4
    → pays_along other i opcode row p q ≡ true → Counts word image i opcode false before after
    → value q after + 1 + called other i opcode ≤ value p before
along-value word image other i Setk row p q before after most touched four h is =
    rw is (let paid = pays_setting-value p q before i.a i.imm i.imm h (omega arith) in omega arith)
along-value word image other i Setkw row p q before after most touched four h is =
    rw is (let paid = pays_setting-value p q before i.a (bound row i.b) word h most in omega arith)
along-value word image other i Loop row p q before after most touched four h is =
    let paid = pays_setting-value p q before i.a 0 0 h (omega arith) in
    let unset : set before i.a 0 ≡ before = ap (set before i.a) (sym is.0) ∙ set-get_or before i.a 0 in
    let paid_here : value q before + 1 ≤ value p before = subst (λ (ks : List ℕ). value q ks + 1 ≤ value p before) unset paid in
    rw is.1 (omega arith)
along-value word image other i Call row p q before after most touched four h is =
    let paid = pays_calling-value p q before (budget_of other i.imm) (touched_by other i.imm) h in
    let kept : dot q.coefficients after ≡ dot q.coefficients before = dot-kept q.coefficients before after is.len each in
    omega (arith, kept, paid)
  where
    by_touch : (k : ℕ) (b : Bool) → touches other k i.imm ≡ b → (get_or q.coefficients k 0 ≡ 0) ⊎ (get_or after k 0 ≡ get_or before k 0)
    by_touch k false e = inr (is.each k (sym (touched k i.imm) ∙ e))
    by_touch k true e = elim (cases_lt k 4) [
      | inl few ↦ inl (spent-at other i.imm p q (budget_of other i.imm) h k few e)
      | inr past ↦ inl (get_or_past q.coefficients k 0 (omega arith))
    ]

    each : (k : ℕ) → (get_or q.coefficients k 0 ≡ 0) ⊎ (get_or after k 0 ≡ get_or before k 0)
    each k = by_touch k (touches other k i.imm) refl
along-value word image other i _ row p q before after most touched four h is =
    rw is (let paid = pays-value p q before h in omega arith)

-- what the edge to the target takes is
branching-value : (word : ℕ) (image other : Parts) (i : Instr) (opcode : Opcode) (p q : Potential) (before after : List ℕ)
    → branches opcode ≡ true → pays_branching i opcode p q ≡ true → Counts word image i opcode true before after
    → value q after + 1 + called other i opcode ≤ value p before
branching-value word image other i Setk p q before after b h is = absurd cc
branching-value word image other i Setkw p q before after b h is = absurd cc
branching-value word image other i Loop p q before after b h is = rw is.1 (let paid = pays_taking-value p q before i.a h is.0 in omega arith)
branching-value word image other i Call p q before after b h is = absurd cc
branching-value word image other i _ p q before after b h is = rw is (let paid = pays-value p q before h in omega arith)

-- an instruction returns, falls through, or jumps
ends : (opcode : Opcode) → (returns opcode ≡ true) ⊎ ((falls_through opcode ≡ true) ⊎ (opcode ≡ Jmp))
ends Ret = inl refl
ends Jmp = inr (inr refl)
ends _ = inr (inl refl)

-- Ways

module _ (image : Parts) (has : HasAccepted image) (r : ℕ) (routine : Routine) (there : slice_get has.other.routines r ≡ Some routine) where
  takes-here : (pc : ℕ) (old : Point) → slice_get image.points pc ≡ Some old → taken_at image pc ≡ 1 + call_steps image old.instr
  takes-here pc old read = rw (read, taken_at) refl

  calls-same : (i j : Instr) → i ≡ j → call_steps has.other i ≡ call_steps image j
  calls-same i j same = ap (call_steps has.other) same
      ∙ ap (λ (routines : List Routine). if calls j.opcode then (elim (slice_get routines j.imm) [ None ↦ 0 | Some routine ↦ routine.budget ]) else 0)
      has.same.routines

  -- what an instruction takes is paid for, also that of a return
  pub instr-paid : (pc : ℕ) (point : Known) → HasPoint has.other r routine pc point → taken_at image pc ≤ point.potential.constant
  instr-paid pc point at =
      let old = map-get instr_of image.points pc point.instr (ap (λ (code : List Instr). slice_get code pc) (sym has.same.instrs)
      ∙ place-code-at has.other pc point at.read) in
      let taken = takes-here pc old.0 old.1 in
      let calls_it = calls-same point.instr old.0.instr (sym old.2) in
      by_end (call_steps image old.0.instr) taken calls_it (ends point.instr.opcode)
    where
      no-call : (opcode : Opcode) → returns opcode ≡ true → called has.other point.instr opcode ≡ 0
      no-call Ret is = refl
      no-call _ is = absurd (false≢true is)

      by_end : (n : ℕ) → taken_at image pc ≡ 1 + n → call_steps has.other point.instr ≡ n
          → (returns point.instr.opcode ≡ true) ⊎ ((falls_through point.instr.opcode ≡ true) ⊎ (point.instr.opcode ≡ Jmp))
          → taken_at image pc ≤ point.potential.constant
      by_end n taken calls_it (inl is) =
          let paid = (may_return has.other.keyed has.other has.checked.0 has.checked.1 r pc routine point at is).1 in
          omega (arith, taken, calls_it, no-call point.instr.opcode is, paid)
      by_end n taken calls_it (inr (inl falls)) =
          let L = leads-along has.other.keyed has.other has.checked.0 has.checked.1 r pc routine point at point.instr.opcode refl falls in
          let paid = along-steps has.other point.instr point.instr.opcode point.row point.potential L.point.potential L.pays in
          omega (arith, taken, calls_it, paid)
      by_end n taken calls_it (inr (inr jumps)) =
          let L = leads-branching has.other.keyed has.other has.checked.0 has.checked.1 r pc routine point at Jmp jumps refl in
          let paid = pays-steps point.potential L.point.potential L.pays in
          let none : call_steps has.other point.instr ≡ 0 = ap (called has.other point.instr) jumps in
          omega (arith, taken, calls_it, none, paid)

  -- a way begins in the routine where it ends there
  pub begins-in : (rows : List (Option Row)) (from to : Place) (places : List Place) (steps : ℕ) → Takes rows image r from places to steps
      → IsPcOf image r to.pc → IsPcOf image r from.pc
  begins-in rows from to [] steps way within = subst (λ (p : Place). IsPcOf image r p.pc) way.0 within
  begins-in rows from to (place ∷ places) steps way within = begins-in rows from place places way.0 way.1 way.2.within

  module _ (rows : List (Option Row)) (most : (pc : ℕ) (point : Known) → IsPcOf image r pc → slice_get (places has.other) pc ≡ Some point
      → (word : ℕ) → word_at rows pc word ≤ bound point.row word) where
    -- what an edge takes is paid for
    edge-value : (pc to : ℕ) (before after : List ℕ) (point : Known) (branch : Bool) → IsPcOf image r pc
        → HasPoint has.other r routine pc point → (leads : LeadsTo image pc branch to)
        → Counts (word_at rows pc leads.point.instr.b) image leads.point.instr leads.point.instr.opcode branch before after
        → (next : Known) × HasPoint has.other r routine to next × (value next.potential after + taken_at image pc ≤ value point.potential before)
    edge-value pc to before after point false within at leads counts =
        let same = same-instr image has r routine there pc leads.point point leads.there at.read in
        let falls : falls_through point.instr.opcode ≡ true = ap (λ (x : Instr). falls_through x.opcode) same ∙ leads.has in
        let L = leads-along has.other.keyed has.other has.checked.0 has.checked.1 r pc routine point at point.instr.opcode refl falls in
        let here = subst (λ (x : Instr). Counts (word_at rows pc x.b) image x x.opcode false before after) (sym same) counts in
        let paid = along-value
        (word_at rows pc point.instr.b) image has.other point.instr point.instr.opcode point.row point.potential L.point.potential
        before after (most pc point within at.read point.instr.b) (touches-same image has.other has.same) (four-at
        image has r routine there (pc + 1) L.point L.has.read).four L.pays here in
        let taken = takes-here pc leads.point leads.there in
        let calls_it = calls-same point.instr leads.point.instr same in
        (L.point, subst (λ (n : ℕ). HasPoint has.other r routine n L.point) leads.leads L.has, omega (arith, paid, taken, calls_it))
    edge-value pc to before after point true within at leads counts =
        let same = same-instr image has r routine there pc leads.point point leads.there at.read in
        let goes : branches point.instr.opcode ≡ true = ap (λ (x : Instr). branches x.opcode) same ∙ leads.has in
        let L = leads-branching has.other.keyed has.other has.checked.0 has.checked.1 r pc routine point at point.instr.opcode refl goes in
        let here = subst (λ (x : Instr). Counts (word_at rows pc x.b) image x x.opcode true before after) (sym same) counts in
        let paid = branching-value
        (word_at rows pc point.instr.b) image has.other point.instr point.instr.opcode point.potential L.point.potential
        before after goes L.pays here in
        let taken = takes-here pc leads.point leads.there in
        let calls_it = calls-same point.instr leads.point.instr same in (
          L.point,
          subst (λ (n : ℕ). HasPoint has.other r routine n L.point) (ap (λ (x : Instr). x.target) same ∙ leads.leads) L.has,
          omega (arith, paid, taken, calls_it),
        )

    -- what a way takes is
    pub way-value : (from to : Place) (places : List Place) (steps : ℕ) (point : Known) → HasPoint has.other r routine from.pc point
        → Takes rows image r from places to steps
        → (next : Known) × HasPoint has.other r routine to.pc next × (value next.potential to.counters + steps ≤ value point.potential from.counters)
    way-value from to [] steps point at way = (
      point,
      subst (λ (p : Place). HasPoint has.other r routine p.pc point) (sym way.0) at,
      subst (λ (p : Place). value point.potential p.counters + steps ≤ value point.potential from.counters)
          (sym way.0) (let none = way.1 in omega arith),
    )
    way-value from to (place ∷ places) steps point at way =
        let so_far = way-value from place places way.0 point at way.1 in
        let goes = way.2 in
        let last = edge-value place.pc to.pc place.counters to.counters so_far.0 goes.branch goes.within so_far.1 goes.leads goes.counts in
        let all = way.3 in
        let before = so_far.2 in
        let here = last.2 in
        (last.0, last.1, omega arith)
