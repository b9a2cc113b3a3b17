-- How many steps the instruction at a pc takes.
use Rattle.std.proofs.Common.{◌≡◌, ℕ, ◌+◌, ◌<◌, true, false, length, Option, Some, None, slice_get, refl, sym, ap, ◌∙◌}
use Rattle.std.specs.Prelude.{IfSome}
use Rattle.geos_opcodes.specs.declared.opcode.Opcode.{Opcode}
use Rattle.geos_opcodes.specs.declared.opcode.Opcode.TheVariants.{Call}
use Rattle.geos_image.specs.declared.instr.Instr.{Instr}
use Rattle.geos_image.specs.declared.point.Point.{Point}
use Rattle.geos_image.specs.declared.routine.Routine.{Routine}
use Rattle.geos_image.specs.Parts.{Parts}
use Rattle.geos_verify.specs.Touched.{calls}
use Rattle.geos_verify.specs.Potentials.{budget_of}
use Rattle.geos_verify.proofs.Places.{item_at, if_some}
use Rattle.geos_counters.specs.Steps.{call_steps, taken_at}

no-call : (opcode : Opcode) → (opcode ≡ Call → ⊥) → calls opcode ≡ false
no-call Call other = absurd (other refl)
no-call _ other = refl

-- What is read at a pc

module _ (image : Parts) (pc : ℕ) (i : Instr) (lt : pc < length image.points)
    (there : IfSome (slice_get image.points pc) (λ point. i ≡ point.instr)) where
  -- it takes a step, and what a call takes beside it
  taken-is : (steps : ℕ) → steps ≡ 1 + call_steps image i → steps ≡ taken_at image pc
  taken-is steps is =
      let found = item_at image.points pc lt in
      let same : i ≡ found.0.instr = if_some (λ point. i ≡ point.instr) (slice_get image.points pc) found.0 found.1 there in
      let at : taken_at image pc ≡ 1 + call_steps image found.0.instr =
      ap (λ (o : Option Point). elim o [ None ↦ 0 | Some point ↦ 1 + call_steps image point.instr ]) found.1 in
      is ∙ ap (λ (x : Instr). 1 + call_steps image x) same ∙ sym at

  pub taken-call : (routine : Routine) → i.opcode ≡ Call → slice_get image.routines i.imm ≡ Some routine → 1 + routine.budget ≡ taken_at image pc
  taken-call routine is read =
      let calls_it : calls i.opcode ≡ true = ap calls is in
      let budget : budget_of image i.imm ≡ routine.budget = ap (λ (o : Option Routine). elim o [ None ↦ 0 | Some x ↦ x.budget ]) read in
      let steps : call_steps image i ≡ routine.budget = rw calls_it budget in
      taken-is (1 + routine.budget) (ap (λ (n : ℕ). 1 + n) (sym steps))

  pub taken-else : (i.opcode ≡ Call → ⊥) → 1 ≡ taken_at image pc
  taken-else other =
      let steps : call_steps image i ≡ 0 = rw (no-call i.opcode other) refl in
      taken-is 1 (ap (λ (n : ℕ). 1 + n) (sym steps))
