-- An edge or entry that the search finds is one that it searched for.
use Rattle.std.proofs.Common.{◌≡◌, ◌<◌, ◌⊎◌, ℕ, Bool, true, false, not, Option, Some, None, length, slice_get, refl, ap, ◌∙◌, inl, inr}
use Rattle.std.specs.Prelude.{◌&&◌}
use Rattle.geos_explain.proofs.Below.{and_parts, KnownPlace, places, pointer_at, after, has_edge, Edge, end_in, IsFirstInto, IsInto, elim_both}
use Rattle.geos_explain.specs.declared.ways.Way.{Way}
use Rattle.geos_explain.specs.declared.ways.Way.TheVariants.{Entry, Along}
use Rattle.geos_explain.specs.declared.ways.Sought.{Sought}
use Rattle.geos_explain.specs.Led.{is_reached}
use Rattle.geos_explain.specs.Places.{Place, agrees, is_inside}
use Rattle.geos_explain.specs.Ways.{is_as, is_as_sought, is_sought}
use Rattle.geos_explain.specs.Lost.{IsOwn, NoWay, FindsWay, IsBringing, IsSought, IsWay}
use Rattle.geos_explain.proofs.Comes.{known-end, end-known}

-- an edge that satisfies the test of the search leads to the pc as required
pub edge-sought : (place : Place) (sought : Sought) (to : ℕ) (edge : Edge) → end_in place.image edge ≡ Some to → is_sought place sought edge ≡ true
    → IsSought place sought to (Along edge)
unfolding is_sought
edge-sought place sought to edge ends = elim_both (slice_get (places place.image) edge.from) false
    (λ (point : KnownPlace). is_inside place edge.from && is_as_sought place sought edge point)
    (λ b. b ≡ true → IsSought place sought to (Along edge)) (λ none is. absurd cc) (λ point e is. (
    let comes = agrees sought.reached (is_reached place.image edge.from) in
    let has = has_edge point.instr edge.branch in
    let known_there = is_as sought.known (pointer_at (after place.image edge.from point.row edge.branch) sought.p) in
    let first = and_parts (is_inside place edge.from) (comes && has && known_there) is in
    let last = and_parts (comes && has) known_there first.1 in
    let second = and_parts comes has last.0 in
    let end = known-end place.image edge point to e ends in
    (record { point = point; there = e; has = second.1; ends = end.1; is = last.1 }, second.0)))

-- an edge of the routine that leads to the pc as required satisfies the test of the search
sought-edge : (place : Place) (sought : Sought) (to : ℕ) (edge : Edge) → to < length place.image.points → IsOwn place (Along edge)
    → IsSought place sought to (Along edge) → IsInto place.image (λ edge end. is_sought place sought edge) to edge
unfolding is_sought
sought-edge place sought to edge low own is =
    let leads = is.0 in
    let point = leads.point in
    let has = has_edge point.instr edge.branch in
    let known_there = is_as sought.known (pointer_at (after place.image edge.from point.row edge.branch) sought.p) in
    record {
      ends = end-known place.image edge point to leads.there leads.has leads.ends low;
      is_counted =
          ap (λ (o : Option KnownPlace). elim o [ None ↦ false | Some q ↦ is_inside place edge.from && is_as_sought place sought edge q ]) leads.there
          ∙ ap (λ b. b && is_as_sought place sought edge point) own ∙ ap (λ b. b && has && known_there) is.1 ∙ ap (λ b. b && known_there) leads.has
          ∙ leads.is;
    }

-- if the search finds none, none exists
pub none-sought : (place : Place) (sought : Sought) (to : ℕ) → to < length place.image.points → (IsWay place sought.p sought.known Entry to → ⊥)
    → IsFirstInto place.image (λ edge end. is_sought place sought edge) to None → NoWay place (λ way. IsSought place sought to way)
none-sought place sought to low not_entry first Entry own is = not_entry is
none-sought place sought to low not_entry first (Along edge) own is =
    let found = first.first edge (sought-edge place sought to edge low own is) in
    let none = found.1 in
    absurd cc

-- what the search for a bringing edge or entry finds brings the pointer
pub found-bringing : (place : Place) (p to : ℕ) (o : Option Way)
    → FindsWay place (λ way. IsSought place (record { p = p; known = true; reached = is_reached place.image place.pc }) to way) o
    → FindsWay place (λ way. IsBringing place p to way) o
found-bringing place p to (Some Entry) found = (found, tt)
found-bringing place p to (Some (Along edge)) found = (found.0, found.1)
found-bringing place p to None none = by_way
  where
    by_way : NoWay place (λ way. IsBringing place p to way)
    by_way Entry own is = none Entry own is.0
    by_way (Along edge) own is = none (Along edge) own (is.0, is.1)

agrees-or : (wanted is : Bool) → (agrees wanted is ≡ true) ⊎ (agrees (not wanted) is ≡ true)
agrees-or true true = inl refl
agrees-or true false = inr refl
agrees-or false true = inr refl
agrees-or false false = inl refl

module _ (place : Place) (p to : ℕ) where
  abbrev LosingIn : Bool → Way → Type 0
  LosingIn reached way = IsSought place (record { p = p; known = false; reached = reached }) to way

  -- what the search for a losing edge or entry finds does not bring the pointer
  pub sought-losing : (reached : Bool) (way : Way) → LosingIn reached way → IsWay place p false way to
  sought-losing reached Entry found = found
  sought-losing reached (Along edge) found = found.0

  -- the search first looks at edges from where control comes, then at the others
  pub found-losing : (reached : Bool) (o : Option Way) → NoWay place (LosingIn reached) → FindsWay place (LosingIn (not reached)) o
      → FindsWay place (λ way. IsWay place p false way to) o
  found-losing reached (Some way) first found = sought-losing (not reached) way found
  found-losing reached None first none = by_way
    where
      by_way : NoWay place (λ way. IsWay place p false way to)
      by_way Entry own is = first Entry own is
      by_way (Along edge) own is = elim (agrees-or reached (is_reached place.image edge.from)) [
        | inl here ↦ first (Along edge) own (is, here)
        | inr elsewhere ↦ none (Along edge) own (is, elsewhere)
      ]
