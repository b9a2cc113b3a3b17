-- What two steps on one group keep of all other blocks.
use Rattle.std.proofs.Common.{◌≡◌, ◌≢◌, ◌∙◌, ℕ, ◌<◌, true, sym, inl, inr, subst}
use Rattle.block_handles.specs.Store.{Store, block_at, locks_in}
use Rattle.vm_blocks.specs.Bring.{Keeps, KeptOrGoes}
use Rattle.vm_blocks.specs.Room.{is_idle_in}
use Rattle.vm_blocks.specs.View.{VmState, held_at, vm_slot}

-- what two steps each preserve is preserved by both, if the table between them is the same under other handles
pub keeps-then : {D : Type 0} (v w : VmState D) (a b c : Store) (g : ℕ) → ((k : ℕ) → k ≢ g → held_at w k ≡ held_at v k)
    → Keeps v a b g → Keeps w b c g → Keeps v a c g
keeps-then {D} v w a b c g same first later = record {
  each = λ slot ne. on slot (first.each slot ne) (later.each slot ne);
  laid =
      later.laid;
  len = later.len ∙ first.len;
}
  where
    on : (slot : ℕ) → KeptOrGoes v a b g slot → KeptOrGoes w b c g slot → KeptOrGoes v a c g slot
    on slot (inl p) (inl q) = inl (q.0 ∙ p.0, λ some. q.1 (subst (λ o. 0 < locks_in o) (sym p.0) some) ∙ p.1 some)
    on slot (inr x) (inl q) = inr (record { h = x.h; handle = x.handle; slot_is = x.slot_is; other = x.other; idle = x.idle; gone = q.0 ∙ x.gone })
    on slot (inr x) (inr y) = inr (record { h = x.h; handle = x.handle; slot_is = x.slot_is; other = x.other; idle = x.idle; gone = y.gone })
    on slot (inl p) (inr y) =
        let here : block_at b (vm_slot y.h) ≡ block_at a (vm_slot y.h) = subst (λ i. block_at b i ≡ block_at a i) y.slot_is p.0 in
        let idle : is_idle_in (held_at v y.h) (block_at a (vm_slot y.h)) ≡ true =
        subst (λ e. is_idle_in e (block_at a (vm_slot y.h)) ≡ true) (same y.h y.other)
        (subst (λ o. is_idle_in (held_at w y.h) o ≡ true) here y.idle) in
        inr (record { h = y.h; handle = y.handle; slot_is = y.slot_is; other = y.other; idle = idle; gone = y.gone })
