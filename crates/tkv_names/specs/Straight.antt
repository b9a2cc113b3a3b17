-- What placed items do from one on, up to the end of the routine.
use Rattle.std.specs.Prelude.{◌⊎◌, ◌<◌, ℕ, suc, true, false, List, [], ◌∷◌}
use Rattle.geos_calls.specs.Effects.{Choice}
use Rattle.tkv_places.specs.declared.placed.Placed.{Placed}
use Rattle.tkv_places.specs.declared.placed.PlacedKind.{PlacedKind}
use Rattle.tkv_places.specs.declared.placed.PlacedKind.TheVariants as kind
use Rattle.tkv_meaning.specs.Meaning.{Scope, Way, On, Out, Drifts, Acts, outside}

-- any choice
abbrev pub Any : Choice → Type 0
Any choice = Unit {0}

-- what the items from one on do, if so many brackets are open and control comes to them, or leaves to the end of a block
abbrev pub Doing : Type 1
Doing = ℕ → Way → Scope → Scope → Type 0

-- what an item does, before the items that follow it. Of loops and locks it says nothing.
abbrev pub Goes : Placed → PlacedKind → Doing → Doing
Goes item kind.End rest (suc d) way x y = rest d (outside d way) x y
Goes item kind.Do rest d On x y = (m z : Scope) × Drifts Any x m
    × ((Acts Any item.instr m false z × rest d On z y) ⊎ ((item.to < d) × Acts Any item.instr m true z × rest d (Out item.to) z y))
Goes item kind.Leave rest d On x y = rest d (Out item.to) x y
Goes item kind.Block rest d On x y = rest (suc d) On x y
Goes item kind.Do rest d (Out l) x y = rest d (Out l) x y
Goes item kind.Leave rest d (Out l) x y = rest d (Out l) x y
Goes item _ rest d (Out l) x y = rest (suc d) (Out l) x y
Goes item _ rest d On x y = Unit {0}

-- what the items do, one after another, up to the end of the routine
abbrev pub Straight : List Placed → Doing
Straight [] d way x y = Drifts Any x y
Straight (item ∷ items) d way x y = Goes item item.kind (Straight items) d way x y
