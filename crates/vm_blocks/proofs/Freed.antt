-- Blocks of the file that are freed, all of them or one.
use Rattle.std.proofs.Common.{◌≡◌, ◌≢◌, ◌∙◌, ℕ, ◌+◌, ◌<◌, length, length-set, set, None, refl, sym, ap, subst, arith, inl, inr}
use Rattle.std.specs.Prelude.{◌↔◌, Result, Ok, Err, OnOk, OnErr}
use Rattle.std.proofs.lemmas.Bool.{cases_eq, cases_lt}
use Rattle.std.proofs.lemmas.List.{get_or-set_other, get_or_past}
use Rattle.geos_terms.specs.declared.name.Name.{Name}
use Rattle.geos_terms.specs.Names.{vm}
use Rattle.block_handles.specs.declared.error.HandleError.{HandleError}
use Rattle.block_handles.specs.declared.error.HandleError.TheVariants.{BadHandle, Locked}
use Rattle.block_handles.specs.Change.{without}
use Rattle.block_handles.specs.Layout.{IsLaidOut}
use Rattle.block_handles.specs.Names.{IsHandle, slot_of}
use Rattle.block_handles.specs.Store.{Store, block_at, IsThere, locks_in, locks_of, place_of}
use Rattle.block_handles.proofs.Laws.{laid-without, with_block-same, with_block-other}
use Rattle.vm_blocks.specs.View.{vm_slot}
use Rattle.vm_blocks.specs.Bring.{Drops}
use Rattle.vm_blocks.specs.Listed.{NoneLocked}
use Rattle.vm_blocks.proofs.Slots.{slot-one, no-block}

-- a block that is there is gone without it
pub without-drops : (s : Store) (h : ℕ) → IsThere s (vm_slot h) → Drops s (without s (vm_slot h)) h
without-drops s h there =
    let slot : ℕ = vm_slot h in
    record {
      gone = elim (cases_lt slot (length s.blocks)) [
        | inl small ↦ with_block-same s slot None 0 small
        | inr past ↦ get_or_past (set s.blocks slot None) slot None (omega (arith, past, length-set s.blocks slot None))
      ];
      others = λ j ne. with_block-other s slot None 0 j ne;
      places = λ j ne. get_or-set_other s.places slot j 0 0 ne;
      laid = λ laid. laid-without s laid slot there;
      len = refl;
    }

-- what is not there is gone as it is
pub absent-drops : (s : Store) (h : ℕ) → (IsThere s (vm_slot h) → ⊥) → Drops s s h
absent-drops s h absent = record {
  gone = no-block (block_at s (vm_slot h)) absent;
  others = λ j ne. refl;
  places =
      λ j ne. refl;
  laid = λ laid. laid;
  len = refl;
}

-- freed where it is there, and not locked
pub free-drops : (old new : Store) (h : ℕ) (name : Name) (r : Result (Unit {0}) HandleError) → name ≡ vm h
    → OnOk r (IsThere old (slot_of name)) → OnOk r (new ≡ without old (slot_of name))
    → ((r ≡ Err BadHandle) ↔ (IsThere old (slot_of name) → ⊥)) → ((r ≡ Err Locked) ↔ (0 < locks_of old (slot_of name)))
    → OnErr r (new ≡ old) → locks_of old (vm_slot h) ≡ 0 → Drops old new h
free-drops old new h name r is there ok bad full err none = on r there ok bad.0 full.0 err
  where
    slot : slot_of name ≡ vm_slot h
    slot = ap slot_of is

    on : (q : Result (Unit {0}) HandleError) → OnOk q (IsThere old (slot_of name)) → OnOk q (new ≡ without old (slot_of name))
        → (q ≡ Err BadHandle → IsThere old (slot_of name) → ⊥) → (q ≡ Err Locked → 0 < locks_of old (slot_of name))
        → OnErr q (new ≡ old) → Drops old new h
    on (Ok done) there ok bad full err = subst (λ t. Drops old t h) (sym (ok ∙ ap (without old) slot))
        (without-drops old h (subst (IsThere old) slot there))
    on (Err BadHandle) there ok bad full err = subst (λ t. Drops old t h) (sym err)
        (absent-drops old h (λ t. bad refl (subst (IsThere old) (sym slot) t)))
    on (Err Locked) there ok bad full err = absurd (let some = full refl in let same = ap (locks_of old) slot in omega (arith, some, same, none))

-- the blocks of handles below one are gone, and every other block is as it was
pub record DropsTo (old new : Store) (n : ℕ) : Type 0 where
  pub none : (h : ℕ) → IsHandle h → h < n → block_at new (vm_slot h) ≡ None
  pub others : (slot : ℕ) → ((h : ℕ) → IsHandle h → h < n → slot ≢ vm_slot h) → block_at new slot ≡ block_at old slot
  pub places : (slot : ℕ) → ((h : ℕ) → IsHandle h → h < n → slot ≢ vm_slot h) → place_of new slot ≡ place_of old slot
  pub laid : IsLaidOut old → IsLaidOut new
  pub len : new.len ≡ old.len

pub drops-more : (a b c : Store) (n : ℕ) → IsHandle n → DropsTo a b n → Drops b c n → DropsTo a c (n + 1)
drops-more a b c n q first later = record {
  none = λ h p less. elim (cases_eq h n) [
    | inl same ↦ subst (λ k. block_at c (vm_slot k) ≡ None) (sym same) later.gone
    | inr other ↦ later.others (vm_slot h) (λ e. other (slot-one h n p q e)) ∙ first.none h p (omega (arith, less, other))
  ];
  others = λ slot free. later.others slot (free n q (omega arith)) ∙ first.others slot (λ h p less. free h p (omega (arith, less)));
  places = λ slot free. later.places slot (free n q (omega arith)) ∙ first.places slot (λ h p less. free h p (omega (arith, less)));
  laid = λ laid. later.laid (first.laid laid);
  len = later.len ∙ first.len;
}

-- a block that is not yet gone is locked as often as it was
pub still-free : (old now : Store) (n : ℕ) → IsHandle n → NoneLocked old → DropsTo old now n → locks_of now (vm_slot n) ≡ 0
still-free old now n q free drops = ap locks_in (drops.others (vm_slot n) (λ h p less e. let same = slot-one n h q p e in omega (arith, same, less)))
    ∙ free n q
