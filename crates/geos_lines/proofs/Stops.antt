-- The search for operands, one kind after another.
use Rattle.std.proofs.Common.{◌≡◌, ◌∙◌, ◌+◌, ◌<◌, ◌≤◌, ℕ, Bool, true, false, List, ◌∷◌, length, suc, drop, get_or, drop-cons, ap, subst, sym, inl, inr, arith}
use Rattle.std.specs.Prelude.{MatchBool}
use Rattle.std.proofs.lemmas.List.{drop_all}
use Rattle.geos_opcodes.specs.declared.fields.Field.{Field}
use Rattle.geos_opcodes.specs.declared.opcode.Opcode.{Opcode}
use Rattle.geos_opcodes.specs.declared.opcode.Operand.{Operand}
use Rattle.geos_opcodes.specs.Fields.{fields, is_written, operand_at}
use Rattle.geos_lines.specs.Forms.{IsOperand, StopsAt, StopsBehind, StopsHere, kinds_of}
use Rattle.geos_lines.specs.declared.instr_lines.Stop.{Stop}

at-true : (b : Bool) (P Q : Type 0) → b ≡ true → P → MatchBool b P Q
at-true true P Q e p = p
at-true false P Q e p = absurd cc

at-false : (b : Bool) (P Q : Type 0) → b ≡ false → Q → MatchBool b P Q
at-false true P Q e q = absurd cc
at-false false P Q e q = q

module _ (opcode : Opcode) (i : ℕ) (any : Field) (words : List (List ℕ)) (Ends : Stop → Type 0)
    (so_far : (stop : Stop) → StopsAt (kinds_of opcode (drop i fields)) words stop → Ends stop) where
  -- the kind of the next operand
  abbrev kind : Operand
  kind = operand_at opcode (get_or fields i any)

  abbrev others : List Operand
  others = kinds_of opcode (drop (i + 1) fields)

  next : i < length fields → kinds_of opcode (drop i fields) ≡ kind ∷ others
  next within =
      let one : suc i ≡ i + 1 = omega arith in
      ap (kinds_of opcode) (drop-cons fields i any within) ∙ ap (λ k. kind ∷ kinds_of opcode (drop k fields)) one

  goes-on : i < length fields → (stop : Stop) → StopsAt (kind ∷ others) words stop → Ends stop
  goes-on within stop stops = so_far stop (subst (λ kinds. StopsAt kinds words stop) (sym (next within)) stops)

  -- this field takes no word
  pub past-unused : i < length fields → is_written kind ≡ false → (stop : Stop) → StopsAt others words stop → Ends stop
  past-unused within unused stop stops = goes-on within stop (at-false (is_written kind) _ _ unused stops)

  -- a word is an operand of the expected kind
  pub past-operand : (behind : List (List ℕ)) → i < length fields → is_written kind ≡ true → IsOperand kind words behind
      → (stop : Stop) → StopsAt others behind stop → Ends stop
  past-operand behind within used is stop stops = goes-on within stop (at-true (is_written kind) _ _ used (inr (behind, is, stops)))

  -- a word is not
  pub stops-here : i < length fields → is_written kind ≡ true → (stop : Stop) → StopsHere kind words stop → Ends stop
  stops-here within used stop here = goes-on within stop (at-true (is_written kind) _ _ used (inl here))

  -- no more operands are expected
  pub stops-behind : length fields ≤ i → (stop : Stop) → StopsBehind words stop → Ends stop
  stops-behind past stop behind = so_far stop (subst (λ left. StopsAt (kinds_of opcode left) words stop) (sym (drop_all i fields past)) behind)
