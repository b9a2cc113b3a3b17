-- What is so of both ends of a choice.
use Rattle.std.proofs.Common.{◌≡◌, Option, Some, None, refl}

-- what is so of what nothing gives, and of what each thing gives, is so of what a thing gives, if there is one
pub elim_both : {A X : Type 0} (o : Option A) (none : X) (some : A → X) (P : X → Type 0) → (o ≡ None → P none)
    → ((x : A) → o ≡ Some x → P (some x)) → P (elim o [ None ↦ none | Some x ↦ some x ])
elim_both None none some P at_none at_some = at_none refl
elim_both (Some x) none some P at_none at_some = at_some x refl
