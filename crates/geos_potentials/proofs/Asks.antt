-- What edges require in code without back edges.
use Rattle.std.proofs.Common.{◌≡◌, ℕ, zero, suc, ◌+◌, ◌*◌, ◌<◌, Bool, true, false, List, [], length, Option, Some, None, slice_get, get_or, set, refl, sym, ap, ◌∙◌, subst, arith}
use Rattle.std.specs.Prelude.{max, IfSome, if◌then◌else◌}
use Rattle.geos_opcodes.specs.declared.opcode.Opcode.{Opcode}
use Rattle.geos_opcodes.specs.declared.opcode.Opcode.TheVariants.{Setk, Setkw, Loop, Call}
use Rattle.geos_image.specs.declared.instr.Instr.{Instr}
use Rattle.geos_image.specs.declared.row.Row.{Row}
use Rattle.geos_image.specs.declared.potential.Potential.{Potential}
use Rattle.geos_image.specs.declared.point.Point.{Point}
use Rattle.geos_image.specs.Parts.{Parts}
use Rattle.geos_verify.specs.declared.asked.Asked.{Asked}
use Rattle.geos_verify.specs.Lists.{zip2}
use Rattle.geos_image.specs.Keys.{branches}
use Rattle.geos_verify.specs.Rows.{bound, has_edge}
use Rattle.geos_verify.specs.Touched.{calls}
use Rattle.geos_verify.specs.Potentials.{asks, asks_setting, asked_along, asked_branching, budget_of}
use Rattle.geos_verify.proofs.Places.{item_at, if_some}
use Rattle.geos_code.specs.declared.edges.Lead.{Lead}
use Rattle.geos_code.specs.Edges.{leads_ahead, edge_ahead}
use Rattle.geos_potentials.specs.Numbers.{Numbers}
use Rattle.geos_counters.specs.Counters.{zeros}
use Rattle.geos_potentials.specs.Count.{edge_steps, return_steps, steps_at, ZerosFrom, asked_steps, asked_coefficients, AsksFor, HasSteps}
use Rattle.geos_counters.specs.Steps.{call_steps, most_steps}
use Rattle.geos_code.proofs.Back.{none-ahead, read-ahead}

-- If all coefficients after an edge are 0, the edge requires only steps

pub zero-at : (k : ℕ) → get_or zeros k 0 ≡ 0
zero-at zero = refl
zero-at (suc zero) = refl
zero-at (suc (suc zero)) = refl
zero-at (suc (suc (suc zero))) = refl
zero-at (suc (suc (suc (suc k)))) = refl

pub set-zero : (k : ℕ) → set zeros k 0 ≡ zeros
set-zero zero = refl
set-zero (suc zero) = refl
set-zero (suc (suc zero)) = refl
set-zero (suc (suc (suc zero))) = refl
set-zero (suc (suc (suc (suc k)))) = refl

asks-plain : (q : Potential) → q.coefficients ≡ zeros → AsksFor (q.constant + 1 + 0) (Some (asks q))
asks-plain q e = record { steps = omega arith; zero = e }

asks-set : (k n : ℕ) (q : Potential) → q.coefficients ≡ zeros → AsksFor (q.constant + 1 + 0) (Some (asks_setting k n q))
asks-set k n q e =
    let at_k : get_or q.coefficients k 0 ≡ 0 = ap (λ (c : List ℕ). get_or c k 0) e ∙ zero-at k in
    let price : get_or q.coefficients k 0 * n ≡ 0 = rw at_k (omega arith) in
    record { steps = omega (arith, price); zero = ap (λ (c : List ℕ). set c k 0) e ∙ set-zero k }

-- what a call takes, by the opcode
abbrev pub called : Parts → Instr → Opcode → ℕ
called image i opcode = if calls opcode then budget_of image i.imm else 0

asks-along : (image : Parts) (i : Instr) (opcode : Opcode) (row : Row) (q : Potential) → q.coefficients ≡ zeros
    → AsksFor (q.constant + 1 + called image i opcode) (Some (asked_along image i opcode row q))
asks-along image i Setk row q e = asks-set i.a i.imm q e
asks-along image i Setkw row q e = asks-set i.a (bound row i.b) q e
asks-along image i Loop row q e = asks-set i.a 0 q e
asks-along image i Call row q e = record { steps = refl; zero = e }
asks-along image i _ row q e = asks-plain q e

asks-branching : (image : Parts) (i : Instr) (opcode : Opcode) (q : Potential) → branches opcode ≡ true
    → q.coefficients ≡ zeros → AsksFor (q.constant + 1 + called image i opcode) (Some (asked_branching i opcode q))
asks-branching image i Loop q b e = record { steps = omega arith; zero = e }
asks-branching image i Call q b e = absurd cc
asks-branching image i _ q b e = asks-plain q e

-- Edges

module _ (image : Parts) (limit pc : ℕ) (branch : Bool) (lt : pc < length image.points) where
  pub asks-none : (steps : List ℕ) → IfSome (slice_get image.points pc) (λ point. None ≡ edge_ahead limit pc point.instr branch)
      → IfSome (slice_get image.points pc) (λ point. AsksFor (edge_steps image limit pc point.instr branch steps) None)
  asks-none steps h =
      let found = item_at image.points pc lt in
      let here = if_some (λ point. None ≡ edge_ahead limit pc point.instr branch) (slice_get image.points pc) found.0 found.1 h in
      let none = none-ahead limit pc found.0.instr branch (leads_ahead limit pc found.0.instr branch) refl here in
      let nothing : 0 ≡ edge_steps image limit pc found.0.instr branch steps = rw none refl in
      let P : Option Point → Type 0 = λ o. IfSome o (λ point. AsksFor (edge_steps image limit pc point.instr branch steps) None) in
      subst P (sym found.1) (record { steps = nothing; zero = refl })

  pub asks-some : (lead : Lead) (asked : Asked) (i : Instr) (row : Row) (q : Potential) (numbers : Numbers)
      → ZerosFrom image limit (pc + 1) numbers.coefficients → lead.to < limit
      → IfSome (slice_get image.points pc) (λ point. Some lead ≡ edge_ahead limit pc point.instr branch)
      → IfSome (slice_get image.points pc) (λ point. i ≡ point.instr)
      → q.constant ≡ get_or numbers.steps lead.to 0 → q.coefficients ≡ get_or numbers.coefficients lead.to []
      → asked ≡ (if branch then asked_branching i i.opcode q else asked_along image i i.opcode row q)
      → IfSome (slice_get image.points pc) (λ point. AsksFor (edge_steps image limit pc point.instr branch numbers.steps) (Some asked))
  asks-some lead asked i row q numbers none within h there constant coefficients is =
      let found = read-ahead image limit pc branch lt lead h in
      let same : i ≡ found.0.instr = if_some (λ point. i ≡ point.instr) (slice_get image.points pc) found.0 found.1 there in
      let free : q.coefficients ≡ zeros = coefficients ∙ none.each lead.to (let later = found.4 in omega arith) within in
      let has : has_edge i branch ≡ true = ap (λ x. has_edge x branch) same ∙ found.5 in
      let asked_is : AsksFor (q.constant + 1 + call_steps image i) (Some asked) =
      subst (λ (a : Asked). AsksFor (q.constant + 1 + call_steps image i) (Some a)) (sym is) (by_branch branch has free) in
      let steps : edge_steps image limit pc found.0.instr branch numbers.steps ≡ get_or numbers.steps lead.to
      0 + 1 + call_steps image found.0.instr = rw (found.2, found.3) refl in
      let calls_it : call_steps image i ≡ call_steps image found.0.instr = ap (call_steps image) same in
      let number : q.constant + 1 + call_steps image i ≡ edge_steps image limit pc found.0.instr branch numbers.steps =
      omega (arith, steps, calls_it, constant) in
      let P : Option Point → Type 0 = λ o. IfSome o (λ point. AsksFor (edge_steps image limit pc point.instr branch numbers.steps) (Some asked)) in
      subst P (sym found.1) (subst (λ (n : ℕ). AsksFor n (Some asked)) number asked_is)
    where
      by_branch : (b : Bool) → has_edge i b ≡ true → q.coefficients ≡ zeros
          → AsksFor (q.constant + 1 + call_steps image i) (Some (if b then asked_branching i i.opcode q else asked_along image i i.opcode row q))
      by_branch true has free = asks-branching image i i.opcode q has free
      by_branch false has free = asks-along image i i.opcode row q free

-- Both edges of an instruction

module _ (image : Parts) (limit pc : ℕ) (steps : List ℕ) (i : Instr) (along branching : Option Asked) (coefficients : List ℕ) (first second value : ℕ)
    (lt : pc < length image.points) (there : IfSome (slice_get image.points pc) (λ point. i ≡ point.instr))
    (A : IfSome (slice_get image.points pc) (λ point. AsksFor (edge_steps image limit pc point.instr false steps) along))
    (B : IfSome (slice_get image.points pc) (λ point. AsksFor (edge_steps image limit pc point.instr true steps) branching))
    (joins : coefficients ≡ zip2 max (asked_coefficients along) (asked_coefficients branching))
    (owes : coefficients ≡ zeros → first ≡ asked_steps along) (owes_too : coefficients ≡ zeros → second ≡ asked_steps branching)
    (is : value ≡ max (return_steps i) (max first second)) where
  at_point : (point : Point) × (slice_get image.points pc ≡ Some point) × (coefficients ≡ zeros) × (value ≡ steps_at image limit pc point.instr steps)
  at_point =
      let found = item_at image.points pc lt in
      let same : i ≡ found.0.instr = if_some (λ point. i ≡ point.instr) (slice_get image.points pc) found.0 found.1 there in
      let a = if_some (λ point. AsksFor (edge_steps image limit pc point.instr false steps) along) (slice_get image.points pc) found.0 found.1 A in
      let b = if_some (λ point. AsksFor (edge_steps image limit pc point.instr true steps) branching) (slice_get image.points pc) found.0 found.1 B in
      let free : coefficients ≡ zeros = joins ∙ ap (λ (x : List ℕ). zip2 max x (asked_coefficients branching)) a.zero
      ∙ ap (λ (x : List ℕ). zip2 max zeros x) b.zero in
      let returning : return_steps i ≡ return_steps found.0.instr = ap return_steps same in
      let one : first ≡ edge_steps image limit pc found.0.instr false steps = owes free ∙ a.steps in
      let two : second ≡ edge_steps image limit pc found.0.instr true steps = owes_too free ∙ b.steps in
      let number : value ≡ steps_at image limit pc found.0.instr steps = is ∙ ap (λ n. max n (max first second)) returning
      ∙ ap (λ n. max (return_steps found.0.instr) (max n second)) one
      ∙ ap (λ n. max (return_steps found.0.instr) (max (edge_steps image limit pc found.0.instr false steps) n)) two in
      (found.0, found.1, free, number)

  pub found-some : (constant : ℕ) → value ≡ constant → IfSome (slice_get image.points pc)
      (λ point. HasSteps (steps_at image limit pc point.instr steps) (Some (record { constant = constant; coefficients = coefficients })))
  found-some constant same =
      let at = at_point in
      let P : Option Point → Type 0 = λ o. IfSome o (λ point. HasSteps (steps_at image limit pc point.instr steps)
      (Some (record { constant = constant; coefficients = coefficients }))) in
      subst P (sym at.1) (sym same ∙ at.3, at.2)

  pub found-none : most_steps < value → IfSome (slice_get image.points pc) (λ point. HasSteps (steps_at image limit pc point.instr steps) None)
  found-none past =
      let at = at_point in
      let P : Option Point → Type 0 = λ o. IfSome o (λ point. HasSteps (steps_at image limit pc point.instr steps) None) in
      subst P (sym at.1) (subst (λ (n : ℕ). most_steps < n) at.3 past)
