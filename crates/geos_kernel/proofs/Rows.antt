-- Rows of the call that makes a block, where the lowest handle is known.
use Rattle.std.proofs.Common.{◌≡◌, ℕ, true, Some, None, refl}
use Rattle.std.specs.Prelude.{Ok, Err}
use Rattle.geos_terms.specs.declared.name.Owner.TheVariants.{Mem}
use Rattle.geos_terms.specs.declared.refusal.Refusal.TheVariants.{NoHandle, NoRoom}
use Rattle.geos_terms.specs.Names.{mem}
use Rattle.geos_calls.specs.Memory.{Memory, new_heap, with_block, lowest_handle}
use Rattle.geos_calls.specs.Tight.{is_tight}
use Rattle.geos_calls.specs.Effects.{outcome, effect_of}
use Rattle.geos_calls.specs.Calls.{mnew}
use Rattle.geos_calls.proofs.Laws.{willing, cramped}

pub mnew-ok : (before after : Memory) (h : ℕ) → lowest_handle before Mem ≡ Some h
    → after ≡ with_block before (mem h) (Some (record { locks = 1; heap = new_heap })) → outcome (effect_of mnew willing before) ≡ (Ok h, after)
mnew-ok before after h low e = rw (low, e) refl

pub mnew-full : (before : Memory) → lowest_handle before Mem ≡ None → outcome (effect_of mnew willing before) ≡ (Err NoHandle, before)
mnew-full before none = rw none refl

pub mnew-tight : (before after : Memory) (h : ℕ) → lowest_handle before Mem ≡ Some h → is_tight before (mem h) 64 ≡ true
    → after ≡ before → outcome (effect_of mnew cramped before) ≡ (Err NoRoom, after)
mnew-tight before after h low tight e = rw (low, tight, e) refl
