-- What is known wherever control may go on.
use Rattle.std.proofs.Common.{◌≡◌, ◌⊎◌, ◌<◌, ℕ, zero, suc, ◌+◌, Bool, true, false, Option, Some, None, List, [], ◌∷◌, replicate, refl, sym, ap, ◌∙◌, subst, arith, inl, inr, ◌++◌}
use Rattle.std.specs.Prelude.{drop, slice_get, slice_set}
use Rattle.std.proofs.lemmas.Bool.{cases_eq}
use Rattle.tkv_syntax.specs.declared.item.Item.{Item}
use Rattle.tkv_places.specs.declared.placed.Placed.{Placed}
use Rattle.tkv_meaning.specs.Meaning.{Scope, On}
use Rattle.tkv_names.specs.declared.seen.Known.TheVariants as known
use Rattle.tkv_names.specs.declared.seen.Seen.{Seen}
use Rattle.tkv_names.specs.Named.{Env, Next, Says}
use Rattle.tkv_names.specs.Straight.{Straight}
use Rattle.tkv_names.specs.Seen.{Sound, Leads, Tied, AllSound, KeepsBelow}
use Rattle.tkv_names.proofs.Lists.{put_same, put_other}
use Rattle.tkv_names.proofs.Holding.{agrees_one, agrees_other}

module _ (text : List ℕ) (items : List Item) (placed : List Placed) where
  -- what is known in both of two cases
  abbrev pub met : Seen → List (Option ℕ) → Seen
  met one held = record one { held = held; first = known.Nothing; second = known.Nothing; third = known.Nothing; fourth = known.Nothing }

  pub leads_one : (one other : Seen) (held : List (Option ℕ)) → KeepsBelow text one.held other.held 8 held → Leads text items placed one (met one held)
  leads_one one other held keeps sound env vs x y tied straight = sound env vs x y (record {
    size = tied.size;
    held = agrees_one text one.held other.held held env x.words keeps tied.held;
    first = tt;
    second = tt;
    third = tt;
    fourth = tt;
  }) straight

  pub leads_other : (one other : Seen) (held : List (Option ℕ)) → KeepsBelow text one.held other.held 8 held → one.item ≡ other.item
      → one.placed ≡ other.placed → one.level ≡ other.level → Leads text items placed other (met one held)
  leads_other one other held keeps item spot level sound env vs x y tied straight = (
    got.0,
    got.1,
    subst (λ (k : ℕ). Says text (drop k items) Next env vs got.0) item got.2,
  )
    where
      got : (more : List ℕ) × (y.output ≡ x.output ++ more) × Says text (drop one.item items) Next env vs more
      got = sound env vs x y (record {
        size = tied.size;
        held = agrees_other text one.held other.held held env x.words keeps tied.held;
        first = tt;
        second = tt;
        third = tt;
        fourth = tt;
      }) (subst (λ (k : ℕ). Straight (drop k placed) one.level On x y) (sym spot)
          (subst (λ (d : ℕ). Straight (drop other.placed placed) d On x y) (sym level) straight))

  same_seen : (waiting : List (Option Seen)) (k j : ℕ) (old seen : Seen) → slice_get waiting k ≡ Some (Some old) → slice_get waiting j ≡ Some (Some seen)
      → j ≡ k → old ≡ seen
  same_seen waiting k j old seen at e same = let f : slice_get waiting k ≡ slice_get waiting j = cc in cc

  pub with_met : (waiting : List (Option Seen)) (k : ℕ) (old seen both : Seen) → slice_get waiting k ≡ Some (Some old) → Leads text items placed old both
      → Leads text items placed seen both → AllSound text items placed (slice_set waiting k (Some both))
      → AllSound text items placed waiting × Sound text items placed seen
  with_met waiting k old seen both at one other all = ((λ j s e. by j s e (cases_eq j k)), other sound)
    where
      sound : Sound text items placed both
      sound = all k both (put_same waiting k (Some old) (Some both) at)

      by : (j : ℕ) (s : Seen) → slice_get waiting j ≡ Some (Some s) → (j ≡ k) ⊎ (j ≡ k → ⊥) → Sound text items placed s
      by j s e (inl same) = subst (Sound text items placed) (same_seen waiting k j old s at e same) (one sound)
      by j s e (inr ne) = all j s (put_other waiting k j (Some both) ne ∙ e)

  nothing_there : (waiting : List (Option Seen)) (k j : ℕ) (s : Seen) → slice_get waiting k ≡ Some None → slice_get waiting j ≡ Some (Some s) → j ≡ k → ⊥
  nothing_there waiting k j s at e same = let f : slice_get waiting k ≡ slice_get waiting j = cc in cc

  pub with_new : (waiting : List (Option Seen)) (k : ℕ) (seen : Seen) → slice_get waiting k ≡ Some None
      → AllSound text items placed (slice_set waiting k (Some seen)) → AllSound text items placed waiting × Sound text items placed seen
  with_new waiting k seen at all = (
    (λ j s e. all j s (put_other waiting k j (Some seen) (nothing_there waiting k j s at e) ∙ e)),
    all k seen (put_same waiting k None (Some seen) at),
  )

  pub without : (waiting : List (Option Seen)) (k : ℕ) (seen : Seen) → slice_get waiting k ≡ Some (Some seen)
      → AllSound text items placed (slice_set waiting k None) × Sound text items placed seen → AllSound text items placed waiting
  without waiting k seen at (all, sound) j s e = by (cases_eq j k)
    where
      by : (j ≡ k) ⊎ (j ≡ k → ⊥) → Sound text items placed s
      by (inl same) = subst (Sound text items placed) (same_seen waiting k j seen s at e same) sound
      by (inr ne) = all j s (put_other waiting k j None ne ∙ e)
