-- One more routine that is covered.
use Rattle.std.proofs.Common.{◌≡◌, ◌⊎◌, ℕ, zero, suc, Option, Some, List, [], ◌∷◌, ◌++◌, length, refl, ap, subst, inl, inr}
use Rattle.std.specs.Prelude.{slice_get, slice_index_or}
use Rattle.std.specs.Global.{Vec}
use Rattle.tkv_syntax.specs.declared.item.Item.{Item}
use Rattle.tkv_places.specs.declared.placed.Placed.{Placed}
use Rattle.tkv_names.specs.Seen.{MeansNamed, IfNamed, AreNamed}

at_end : (xs : List (Option ℕ)) (o : Option ℕ) (r index : ℕ) → slice_get (xs ++ (o ∷ [])) r ≡ Some (Some index)
    → (slice_get xs r ≡ Some (Some index)) ⊎ ((r ≡ length xs) × (o ≡ Some index))
at_end [] o zero index e = inr (refl, (let f : o ≡ Some index = cc in f))
at_end [] o (suc r) index e = absurd cc
at_end (x ∷ xs) o zero index e = inl e
at_end (x ∷ xs) o (suc r) index e = more (at_end xs o r index e)
  where
    more : (slice_get xs r ≡ Some (Some index)) ⊎ ((r ≡ length xs) × (o ≡ Some index))
        → (slice_get xs r ≡ Some (Some index)) ⊎ ((suc r ≡ suc (length xs)) × (o ≡ Some index))
    more (inl f) = inl f
    more (inr (p, q)) = inr (ap suc p, q)

pub noted : (text : List ℕ) (items : List Item) (placed : List (Vec Placed)) (named : List (Option ℕ)) (o : Option ℕ)
    → IfNamed text items placed (length named) o → AreNamed text items placed named → AreNamed text items placed (named ++ (o ∷ []))
noted text items placed named o one before r index body e there = by (at_end named o r index e)
  where
    by : (slice_get named r ≡ Some (Some index)) ⊎ ((r ≡ length named) × (o ≡ Some index)) → MeansNamed text items index body.items
    by (inl f) = before r index body f there
    by (inr (p, q)) = one index body q (subst (λ (k : ℕ). slice_get placed k ≡ Some body) p there)

pub got : {A : Type 0} (xs : List A) (r : ℕ) (y d : A) → slice_get xs r ≡ Some y → slice_index_or xs r d ≡ y
got [] r y d e = absurd cc
got (x ∷ xs) zero y d e = cc
got (x ∷ xs) (suc r) y d e = got xs r y d e
