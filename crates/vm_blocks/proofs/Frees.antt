-- Blocks of the file that are freed.
use Rattle.std.proofs.Common.{◌≡◌, ◌≢◌, ◌∙◌, ℕ, cond, None, sym, ap, subst, inl, inr}
use Rattle.std.specs.Prelude.{IsSomeAnd}
use Rattle.std.proofs.lemmas.Bool.{cases_eq, eq-eqb, ne_eqb}
use Rattle.block_handles.specs.Names.{IsHandle}
use Rattle.block_handles.specs.Store.{Store, block_at}
use Rattle.vm_file.specs.Device.{Medium}
use Rattle.vm_blocks.specs.declared.entries.Held.{Held}
use Rattle.vm_blocks.specs.View.{VmState, held_at, vm_slot, with_held}
use Rattle.vm_blocks.specs.Tied.{AreMapped, IsTied, TiedAt}
use Rattle.vm_blocks.specs.Bring.{Drops}
use Rattle.vm_blocks.specs.Blocks.{without_held}
use Rattle.vm_blocks.proofs.Slots.{slot-one}
use Rattle.vm_blocks.proofs.Table.{held-other, held-same, length-with}

-- a freed block is mapped no more, and what is still mapped is listed
module _ {D : Type 0} (v : VmState D) (h : ℕ) where
  abbrev w : VmState D
  w = without_held v h

  one-left : (P : Held → Type 0) (k : ℕ) → k ≢ h → IsSomeAnd (held_at v k) P → IsSomeAnd (held_at w k) P
  one-left P k ne some = subst (λ o. IsSomeAnd o P) (sym (held-other v.entries h k None ne)) some

  block-gone : v.map_block ≡ h → w.map_block ≡ 0
  block-gone same = ap (λ b. cond b 0 v.map_block) (eq-eqb v.map_block h same)

  block-left : v.map_block ≢ h → w.map_block ≡ v.map_block
  block-left ne = ap (λ b. cond b 0 v.map_block) (ne_eqb v.map_block h ne)

  abbrev no_item : ℕ × ℕ
  no_item = (0, 0)

  item-gone : v.map_item.0 ≡ h → w.map_item ≡ no_item
  item-gone same = ap (λ b. cond b no_item v.map_item) (eq-eqb v.map_item.0 h same)

  item-left : v.map_item.0 ≢ h → w.map_item ≡ v.map_item
  item-left ne = ap (λ b. cond b no_item v.map_item) (ne_eqb v.map_item.0 h ne)

  pub maps-less : AreMapped v → AreMapped w
  maps-less maps = record {
    block = λ some. elim (cases_eq v.map_block h) [
      | inl same ↦ absurd (some (block-gone same))
      | inr ne ↦ subst (λ k. IsSomeAnd (held_at w k) (λ e. e.uid ≢ 65280)) (sym (block-left ne))
          (one-left (λ e. e.uid ≢ 65280) v.map_block ne (maps.block (λ z. some (block-left ne ∙ z))))
    ];
    group = λ some. elim (cases_eq v.map_item.0 h) [
      | inl same ↦ absurd (some (ap (λ p. p.0) (item-gone same)))
      | inr ne ↦ subst (λ k. IsSomeAnd (held_at w k) (λ e. e.uid ≡ 65280)) (sym (ap (λ p. p.0) (item-left ne)))
          (one-left (λ e. e.uid ≡ 65280) v.map_item.0 ne (maps.group (λ z. some (ap (λ p. p.0) (item-left ne) ∙ z))))
    ];
    no_item = λ z. elim (cases_eq v.map_item.0 h) [
      | inl same ↦ ap (λ p. p.1) (item-gone same)
      | inr ne ↦ ap (λ p. p.1) (item-left ne) ∙ maps.no_item (sym (ap (λ p. p.0) (item-left ne)) ∙ z)
    ];
  }

-- without a block the others are tied
pub freed-tied : {D : Type 0} (medium : Medium D) (v : VmState D) (s t : Store) (h : ℕ) → IsHandle h → IsTied medium v s
    → Drops s t h → IsTied medium (without_held v h) t
freed-tied medium v s t h q tied drops = record {
  laid = drops.laid tied.laid;
  long = length-with v.entries h None ∙ tied.long;
  maps = maps-less v h tied.maps;
  each = λ k p. elim (cases_eq k h) [
    | inl same ↦ subst (λ j. TiedAt medium v.file j (held_at (with_held v h None) j) (block_at t (vm_slot j))) (sym same)
        (subst (TiedAt medium v.file h (held_at (with_held v h None) h)) (sym drops.gone)
        (subst (λ o. TiedAt medium v.file h o None) (sym (held-same v.entries h None q tied.long)) tt))
    | inr other ↦ subst (λ o. TiedAt medium v.file k o (block_at t (vm_slot k))) (sym (held-other v.entries h k None other))
        (subst (TiedAt medium v.file k (held_at v k)) (sym (drops.others (vm_slot k) (λ e. other (slot-one k h p q e)))) (tied.each k p))
  ];
}
