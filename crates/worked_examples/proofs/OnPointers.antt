-- What each instruction through pointers does, on values that a wrong definition would show
-- itself at.
use Rattle.std.proofs.Common.{◌≡◌, refl, ℕ, List, [], ◌∷◌, Some, None}
use Rattle.geos_terms.specs.Chunks.{cost}
use Rattle.geos_terms.specs.Bytes.{word}
use Rattle.geos_opcodes.specs.declared.opcode.Opcode.TheVariants.{Ldb, Ldw, Stb, Stw, Ldxb, Ldxw, Stxb, Stxw, Ldcb, Ldcw, Stcb, Stcw, Movp, Copy, Plen}
use Rattle.geos_semantics.specs.State.{State}
use Rattle.geos_semantics.specs.Model.{step}
use Rattle.worked_examples.proofs.Images.{instr}
use Rattle.worked_examples.proofs.States.{willing, alone, with_first, with_second, leads, before, stepped, on, refused, with_w6, greatest, greatest_refused}

-- with other bytes in the first block's chunk; no pointer becomes stale by that
abbrev pub with_bytes : List ℕ → State
with_bytes bytes = record before { memory = with_first (Some bytes ∷ None ∷ []) }

-- w6 is 171 times 256 and 205; w2 is 2 and w3 is 3; the chunk has 4 bytes
pub record OnPointers : Type 0 where
  pub ldb : stepped (instr Ldb 6 0 0 3 0) ≡ with_w6 4 before
  pub ldw : stepped (instr Ldw 6 0 0 2 0) ≡ with_w6 1027 before
  pub stb : stepped (instr Stb 6 0 0 3 0) ≡ on (with_bytes (1 ∷ 2 ∷ 3 ∷ 205 ∷ []))
  pub stw : stepped (instr Stw 6 0 0 1 0) ≡ on (with_bytes (1 ∷ 205 ∷ 171 ∷ 4 ∷ []))
  pub ldxb : stepped (instr Ldxb 6 0 3 0 0) ≡ with_w6 4 before
  pub ldxw : stepped (instr Ldxw 6 0 2 0 0) ≡ with_w6 1027 before
  pub stxb : stepped (instr Stxb 6 0 3 0 0) ≡ on (with_bytes (1 ∷ 2 ∷ 3 ∷ 205 ∷ []))
  pub stxw : stepped (instr Stxw 6 0 2 0 0) ≡ on (with_bytes (1 ∷ 2 ∷ 205 ∷ 171 ∷ []))
  pub ldcb : stepped (instr Ldcb 6 0 3 0 7) ≡ with_w6 4 before
  pub ldcb_past_end : stepped (instr Ldcb 6 0 4 0 7) ≡ refused 14 before
  pub ldcw : stepped (instr Ldcw 6 0 2 0 7) ≡ with_w6 1027 before
  -- its second byte is past the end
  pub ldcw_past_end : stepped (instr Ldcw 6 0 3 0 7) ≡ refused 14 before
  -- its end is past the greatest word
  pub ldcw_far : step (alone (instr Ldcw 6 0 6 0 7)) willing greatest ≡ greatest_refused 14 before
  pub stcb : stepped (instr Stcb 6 0 3 0 7) ≡ on (with_bytes (1 ∷ 2 ∷ 3 ∷ 205 ∷ []))
  pub stcb_past_end : stepped (instr Stcb 6 0 4 0 7) ≡ refused 14 before
  pub stcw : stepped (instr Stcw 6 0 2 0 7) ≡ on (with_bytes (1 ∷ 2 ∷ 205 ∷ 171 ∷ []))
  pub stcw_past_end : stepped (instr Stcw 6 0 3 0 7) ≡ refused 14 before
  pub movp : stepped (instr Movp 3 2 0 0 0) ≡ on (record before { pointers = leads 0 1 4 ∷ leads 1 1 4 ∷ leads 2 2 2 ∷ leads 2 2 2 ∷ [] })
  pub copy : stepped (instr Copy 0 2 0 2 0) ≡ on (with_bytes (9 ∷ 8 ∷ 3 ∷ 4 ∷ []))
  pub copy_less : stepped (instr Copy 2 0 0 1 0) ≡ on (record before { memory = with_second (Some (1 ∷ 8 ∷ []) ∷ None ∷ []) })
  pub plen : stepped (instr Plen 6 2 0 0 0) ≡ with_w6 2 before

pub examples : OnPointers
unfolding cost word
examples = record {
  ldb = refl;
  ldw = refl;
  stb = refl;
  stw = refl;
  ldxb = refl;
  ldxw = refl;
  stxb = refl;
  stxw = refl;
  ldcb = refl;
  ldcb_past_end = refl;
  ldcw = refl;
  ldcw_past_end = refl;
  ldcw_far = refl;
  stcb = refl;
  stcb_past_end = refl;
  stcw = refl;
  stcw_past_end = refl;
  movp = refl;
  copy = refl;
  copy_less = refl;
  plen = refl;
}
