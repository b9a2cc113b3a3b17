-- Marks of targets: one more instruction.
use Rattle.std.proofs.Common.{◌≡◌, ◌<◌, ℕ, ◌+◌, Bool, true, false, Option, Some, None, List, length, slice_get, get_or, set, take, refl, sym, ap, subst, ◌∙◌, inl, inr, eq-eqb}
use Rattle.std.specs.Prelude.{◌||◌, IfSome}
use Rattle.std.proofs.lemmas.Bool.{cases_eq, ne_eqb}
use Rattle.std.proofs.lemmas.List.{get_or-set_same, get_or-set_other}
use Rattle.std.proofs.lemmas.List.Folds.{list_any_more}
use Rattle.geos_image.specs.declared.instr.Instr.{Instr}
use Rattle.geos_opcodes.specs.declared.opcode.Operand.{Operand}
use Rattle.geos_opcodes.specs.declared.opcode.Operand.TheVariants.{Unused, Word, Counter, Slot, Pointer, Number, Shift, Routine, Label}
use Rattle.geos_image.specs.Fields.{TargetFits}
use Rattle.geos_opcodes.specs.Facts.{operands_of}
use Rattle.geos_image.specs.declared.point.Point.{Point}
use Rattle.geos_listing.specs.Instrs.{target_if, target_of, is_at, is_target}
use Rattle.geos_listing.proofs.Limits.{item_at, get_or-at}

or-false : (b : Bool) → b ≡ (b || false)
or-false true = refl
or-false false = refl

or-true : (b : Bool) → true ≡ (b || true)
or-true true = refl
or-true false = refl

-- one more instruction, and where it may lead
is_target-more : (points : List Point) (k pc : ℕ) (i : Instr) (target : Option ℕ) → k < length points
    → IfSome (slice_get points k) (λ point. i ≡ point.instr) → target ≡ target_of i
    → is_target (take (k + 1) points) pc ≡ (is_target (take k points) pc || is_at pc target)
is_target-more points k pc i target lt there leads =
    let at = item_at points k lt in
    let same : i ≡ at.0.instr = rw at.1 at there in
    let here : get_or points k at.0 ≡ at.0 = get_or-at points k at.0 at.0 at.1 in
    list_any_more (λ (point : Point). is_at pc (target_of point.instr)) points k at.0 lt
    ∙ ap (λ (point : Point). is_target (take k points) pc || is_at pc (target_of point.instr)) here
    ∙ ap (λ (j : Instr). is_target (take k points) pc || is_at pc (target_of j)) (sym same)
    ∙ ap (λ (t : Option ℕ). is_target (take k points) pc || is_at pc t) (sym leads)

-- an instruction without a label
pub is_target-none : (points : List Point) (k pc : ℕ) (i : Instr) (mark : Bool) → k < length points
    → IfSome (slice_get points k) (λ point. i ≡ point.instr) → None ≡ target_of i
    → mark ≡ is_target (take k points) pc → mark ≡ is_target (take (k + 1) points) pc
is_target-none points k pc i mark lt there leads so_far =
    so_far ∙ or-false (is_target (take k points) pc) ∙ sym (is_target-more points k pc i None lt there leads)

-- an instruction whose label is marked
pub is_target-some : (points : List Point) (k pc : ℕ) (i : Instr) (target : ℕ) (marks : List Bool) → k < length points
    → IfSome (slice_get points k) (λ point. i ≡ point.instr) → Some target ≡ target_of i
    → target < length marks → get_or marks pc false ≡ is_target (take k points) pc
    → get_or (set marks target true) pc false ≡ is_target (take (k + 1) points) pc
is_target-some points k pc i target marks lt there leads within so_far =
    let before = is_target (take k points) pc in
    let more = is_target-more points k pc i (Some target) lt there leads in
    elim (cases_eq target pc) as (λ _. get_or (set marks target true) pc false ≡ is_target (take (k + 1) points) pc) [
      | inl same ↦ ap (λ at. get_or (set marks target true) at false) (sym same) ∙ get_or-set_same marks target true false within
          ∙ or-true before ∙ ap (λ b. before || b) (sym (eq-eqb target pc same)) ∙ sym more
      | inr other ↦ get_or-set_other marks target pc true false (λ same. other (sym same)) ∙ so_far
          ∙ or-false before ∙ ap (λ b. before || b) (sym (ne_eqb target pc other)) ∙ sym more
    ]

target_if-below : (operand : Operand) (n held target : ℕ) → Some target ≡ target_if operand held → (operand ≡ Label → held < n) → target < n
target_if-below Label n held target e fits = let same : held ≡ target = cc in subst (λ t. t < n) same (fits refl)
target_if-below Unused n held target e fits = absurd cc
target_if-below Word n held target e fits = absurd cc
target_if-below Counter n held target e fits = absurd cc
target_if-below Slot n held target e fits = absurd cc
target_if-below Pointer n held target e fits = absurd cc
target_if-below Number n held target e fits = absurd cc
target_if-below Shift n held target e fits = absurd cc
target_if-below Routine n held target e fits = absurd cc

-- a target is the pc of an instruction
pub target_of-below : (n : ℕ) (i : Instr) (target : ℕ) → Some target ≡ target_of i → TargetFits n i → target < n
target_of-below n i target e fits = target_if-below (operands_of i.opcode).target n i.target target e fits
