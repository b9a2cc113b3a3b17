-- What may come from outside over some calls, and over others beside them.
use Rattle.std.proofs.Common.{◌≡◌, ℕ, arith, inl, inr}
use Rattle.std.specs.Prelude.{◌⊎◌}
use Rattle.geos_calls.specs.Effects.{Choice}
use Rattle.geos_kernel.specs.Kernel.{HasRisen, IsChosen, NeverFell}
use Rattle.geos_kernel.specs.View.{KernelState, failed_in}

-- Counts of failures, which stay or rise

rises-more : (a b c : ℕ) → HasRisen a b → (c ≡ b) ⊎ HasRisen b c → HasRisen a c
rises-more a b c (inl less) (inl same) = inl (omega (arith, less, same))
rises-more a b c (inl less) (inr (inl more)) = inl (omega (arith, less, more))
rises-more a b c (inr most) (inl same) = inr (omega (arith, most, same))
rises-more a b c (inr most) (inr (inl more)) = inr (omega (arith, most, more))
rises-more a b c first (inr (inr most)) = inr most

rises-later : (a b c : ℕ) → (b ≡ a) ⊎ HasRisen a b → HasRisen b c → HasRisen a c
rises-later a b c (inl same) (inl less) = inl (omega (arith, same, less))
rises-later a b c (inr (inl more)) (inl less) = inl (omega (arith, more, less))
rises-later a b c (inr (inr most)) (inl less) = inr (omega (arith, most, less))
rises-later a b c first (inr most) = inr most

stays-or-rises : (a b c : ℕ) → (b ≡ a) ⊎ HasRisen a b → (c ≡ b) ⊎ HasRisen b c → (c ≡ a) ⊎ HasRisen a c
stays-or-rises a b c (inl same) (inl still) = inl (omega (arith, same, still))
stays-or-rises a b c (inr risen) later = inr (rises-more a b c risen later)
stays-or-rises a b c first (inr risen) = inr (rises-later a b c first risen)

module _ (honest : Type 0) (old mid new : KernelState) where
  -- what may come from outside up to one kernel may come up to a later one
  pub chosen-before : (choice : Choice) → NeverFell honest mid new → IsChosen honest old mid choice → IsChosen honest old new choice
  chosen-before choice later chosen = record {
    given = chosen.given;
    device = λ g t. rises-more (failed_in old)
        (failed_in mid) (failed_in new) (chosen.device g t) (later g);
  }

  -- and what may come from one kernel on, from an earlier one on
  pub chosen-after : (choice : Choice) → NeverFell honest old mid → IsChosen honest mid new choice → IsChosen honest old new choice
  chosen-after choice before chosen = record {
    given = chosen.given;
    device = λ g t. rises-later (failed_in old)
        (failed_in mid) (failed_in new) (before g) (chosen.device g t);
  }

  -- the count of failures stays or rises over both of two stretches
  pub lasts-on : NeverFell honest old mid → NeverFell honest mid new → NeverFell honest old new
  lasts-on first later g = stays-or-rises (failed_in old) (failed_in mid) (failed_in new) (first g) (later g)
