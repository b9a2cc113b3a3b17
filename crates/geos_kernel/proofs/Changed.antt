-- Where one slot changes.
use Rattle.std.proofs.Common.{◌≡◌, ◌≢◌, ℕ, ◌<◌, length, set, get_or, Option, None, ap, ◌∙◌, arith, inl}
use Rattle.std.proofs.lemmas.List.{get_or-set_same, get_or-set_other}
use Rattle.geos_terms.specs.declared.name.Name.{Name}
use Rattle.block_handles.specs.Change.{LockedStay}
use Rattle.block_handles.specs.Layout.{IsLaidOut}
use Rattle.block_handles.specs.Names.{IsHandle, slot_of}
use Rattle.block_handles.specs.Store.{Block, Store, block_at}
use Rattle.block_handles.proofs.Laws.{slot_of-small}
use Rattle.vm_blocks.specs.View.{VmState}
use Rattle.chunk_calls.specs.Others.{KeepsBut}

module _ (s t : Store) (name : Name) (c : Option Block) (blocks : t.blocks ≡ set s.blocks (slot_of name) c) where
  pub slot-own : IsLaidOut s → IsHandle name.h → block_at t (slot_of name) ≡ c
  slot-own laid q =
      let small : slot_of name < length s.blocks = omega (arith, slot_of-small name q, laid.slots) in
      ap (λ bs. get_or bs (slot_of name) None) blocks ∙ get_or-set_same s.blocks (slot_of name) c None small

  pub slot-other : (slot : ℕ) → slot ≢ slot_of name → block_at t slot ≡ block_at s slot
  slot-other slot ne = ap (λ bs. get_or bs slot None) blocks ∙ get_or-set_other s.blocks (slot_of name) slot c None ne

  -- every other block is as it was
  pub slot-keeps : {D : Type 0} (v : VmState D) → LockedStay s t (slot_of name) → IsLaidOut t → t.len ≡ s.len → KeepsBut v s t name
  slot-keeps v stay laid len = record { each = λ slot ne. inl (slot-other slot ne, λ some. stay slot ne some); laid = laid; len = len }
