-- What `open` finds is what the model has committed.
use Rattle.std.proofs.Common.{◌≡◌, ◌∙◌, ℕ, List, Ok, refl, ap, subst, inl, inr}
use Rattle.std.specs.Prelude.{◌⊎◌, MatchBool}
use Rattle.geos_calls.specs.VmFile.{Kept, Sure, Unsure}
use Rattle.geos_calls.specs.VmFile as model_file
use Rattle.vm_file.specs.Contents.{Pair, listed}
use Rattle.vm_file.specs.Device.{Medium}
use Rattle.vm_file.specs.Kept.{or_empty}
use Rattle.vm_file.specs.Reading.{found}
use Rattle.vm_file.specs.State.{FileState, Finds, IsOther, pair_of}
use Rattle.vm_blocks.specs.FileOf.{IsKeptOf}
use Rattle.vm_blocks.specs.Found.{OpensAs, OpensAsKept}
use Rattle.vm_blocks.specs.Matches.{IsPairOf, stored_pair}
use Rattle.vm_blocks.proofs.Matching.{pair-on}
use Rattle.vm_blocks.proofs.Stored.{pair-one}

module _ {D : Type 0} (medium : Medium D) (f : FileState D) (good : medium.honest f.device)
    (cur : listed (pair_of medium.image f).cur ≡ f.current) (saved : listed (pair_of medium.image f).saved ≡ f.saved) where
  abbrev pair : Pair
  pair = pair_of medium.image f

  -- where the device is medium.honest, its pair is the model's
  same-pair : (p : model_file.Pair) → IsPairOf (medium.honest f.device) f.current f.saved pair p → p ≡ stored_pair pair
  same-pair p is = pair-one f.current f.saved pair p cur saved
      (pair-on (medium.honest f.device) (Unit {0}) (λ u. good) f.current f.saved pair pair p (λ u. refl) is)

  pub opens-as-kept : (kept : Kept) (c : List ℕ) → IsKeptOf medium.image medium.honest f kept → Finds medium.image f c → OpensAsKept kept c
  opens-as-kept (Sure p) c k finds =
      let is = subst (λ b. MatchBool b (found c ≡ Ok pair) ((found c ≡ Ok pair) ⊎ ((q : Pair) × IsOther medium.image f q × (found c ≡ Ok q))))
      k.0 finds in
      (pair, is, same-pair p k.1)
  opens-as-kept (Unsure p q) c k finds =
      let either = subst (λ b. MatchBool b (found c ≡ Ok pair) ((found c ≡ Ok pair) ⊎ ((q : Pair) × IsOther medium.image f q × (found c ≡ Ok q))))
      k.0 finds in
      on either
    where
      on : (found c ≡ Ok pair) ⊎ ((r : Pair) × IsOther medium.image f r × (found c ≡ Ok r)) → OpensAs p c ⊎ OpensAs q c
      on (inl is) = inl (pair, is, same-pair p k.1)
      on (inr o) = inr (o.0, o.2, k.2 good ∙ ap (λ r. stored_pair (or_empty r)) o.1)
