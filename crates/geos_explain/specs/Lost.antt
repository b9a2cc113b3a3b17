-- What the explanation reports about a pointer that the row does not know: the edge that lost it, the join of paths
-- that lost it, that no instruction sets it, or that it leads into an empty slot.
use Rattle.std.specs.Prelude.{◌≡◌, ◌⊎◌, ℕ, Bool, true, false, if◌then◌else◌, nat_lt, List, [], ◌∷◌, Option, Some, None, IfSome, MatchOption, slice_get, slice_index_or}
use Rattle.geos_explain.specs.Below.{KnownPlace, places, Pointer, start_of, pointer_at, is_stale, after, has_edge, Edge, end_of, Has}
use Rattle.geos_explain.specs.declared.ways.Sought.{Sought}
use Rattle.geos_explain.specs.declared.ways.Way.{Way}
use Rattle.geos_explain.specs.declared.ways.Way.TheVariants.{Entry, Along}
use Rattle.geos_explain.specs.declared.finding.End.{End}
use Rattle.geos_explain.specs.declared.finding.End.TheVariants.{Unset, Unreached, Merged, Nowhere}
use Rattle.geos_explain.specs.declared.finding.Finding.{Finding}
use Rattle.geos_explain.specs.declared.finding.Loss.{Loss}
use Rattle.geos_explain.specs.declared.finding.Meeting.{Meeting}
use Rattle.geos_explain.specs.Led.{is_reached}
use Rattle.geos_explain.specs.Places.{Place, agrees, comes_alike, is_inside, place_of}
use Rattle.geos_explain.specs.Ways.{is_as, entry_pointer, empty_slot, behind, loses}
use Rattle.geos_explain.specs.declared.trace.FirstWays.{FirstWays}
use Rattle.geos_explain.specs.declared.trace.Trace.{Trace}
use Rattle.geos_explain.specs.declared.trace.Tracing.{Tracing}

-- an edge leads to a pc, and control takes it exactly if it reaches the place
pub record ComesTo (place : Place) (edge : Edge) (to : ℕ) : Type 0 where
  pub point : KnownPlace
  pub there : slice_get (places place.image) edge.from ≡ Some point
  pub alike : comes_alike place edge.from ≡ true
  pub has : has_edge point.instr edge.branch ≡ true
  pub ends : end_of edge point.instr ≡ to

-- the same, and after the edge the row does not know the pointer
pub record LacksBehind (place : Place) (p : ℕ) (edge : Edge) (to : ℕ) : Type 0 where
  pub comes : ComesTo place edge to
  pub stale : is_stale (pointer_at (after place.image edge.from comes.point.row edge.branch) p) ≡ true

-- a path leads from a pc to the place, and the row knows the pointer after none of its edges
abbrev pub LacksAlong : Place → ℕ → ℕ → List Edge → Type 0
LacksAlong place p pc [] = pc ≡ place.pc
LacksAlong place p pc (edge ∷ edges) = (edge.from ≡ pc) × ((to : ℕ) × LacksBehind place p edge to × LacksAlong place p to edges)

-- such a path leads from a pc to the place
abbrev pub LacksFrom : Place → ℕ → ℕ → Type 0
LacksFrom place p pc = (edges : List Edge) × LacksAlong place p pc edges

-- a path (the last edge first) brings a pointer to a pc: from the caller, from a row that knows it, or from an
-- instruction that sets it
abbrev pub Brings : Place → ℕ → List Edge → ℕ → Pointer → Type 0
Brings place p [] pc pointer = (pc ≡ start_of place.image.routines place.r) × (entry_pointer place.routine p ≡ Some pointer)
Brings place p (edge ∷ edges) pc pointer =
    (comes : ComesTo place edge pc) × ((hint : Option Pointer)
    × ((hint ≡ None) ⊎ ((before : Pointer) × (hint ≡ Some before) × Brings place p edges edge.from before))
    × (behind place.image (record { p = p; hint = hint }) edge comes.point ≡ Some pointer))

-- a hint is something that the pointer may be at a pc by some path, or nothing
abbrev pub IsHint : Place → ℕ → ℕ → Option Pointer → Type 0
IsHint place p pc hint = (hint ≡ None) ⊎ ((pointer : Pointer) × (hint ≡ Some pointer) × ((edges : List Edge) × Brings place p edges pc pointer))

-- the hint for a pointer at a pc
abbrev pub arrival : List (Option Pointer) → ℕ → Option Pointer
arrival arrivals pc = if nat_lt pc 4096 then slice_index_or arrivals pc None else None

-- the hint at each pc is what some path brings
abbrev pub AreHints : Place → ℕ → List (Option Pointer) → Type 0
AreHints place p arrivals = (pc : ℕ) → IsHint place p pc (arrival arrivals pc)

-- an edge loses the pointer, of which some path to the edge brings the hint. From the end of the edge a path leads to
-- the place that does not bring the pointer
pub record IsLost (place : Place) (p : ℕ) (loss : Loss) : Type 0 where
  pub to : ℕ
  pub comes : ComesTo place loss.edge to
  pub known : IsHint place p loss.edge.from loss.hint
  pub loses : loses place.image (record { p = p; hint = loss.hint }) loss.edge comes.point ≡ true
  pub way : LacksFrom place p to

-- an edge leads to a pc, and `known` says whether the row knows the pointer after the edge
pub record LeadsBy (place : Place) (p : ℕ) (known : Bool) (edge : Edge) (to : ℕ) : Type 0 where
  pub point : KnownPlace
  pub there : slice_get (places place.image) edge.from ≡ Some point
  pub has : has_edge point.instr edge.branch ≡ true
  pub ends : end_of edge point.instr ≡ to
  pub is : is_as known (pointer_at (after place.image edge.from point.row edge.branch) p) ≡ true

-- an edge, or the entry from the caller, leads to a pc, and `known` says whether it brings the pointer. The entry
-- leads to the first instruction of the routine
abbrev pub IsWay : Place → ℕ → Bool → Way → ℕ → Type 0
IsWay place p known Entry to = (to ≡ start_of place.image.routines place.r) × (is_as known (entry_pointer place.routine p) ≡ true)
IsWay place p known (Along edge) to = LeadsBy place p known edge to

-- control takes the edge exactly if it reaches the place; the entry from the caller always counts
abbrev pub IsAlike : Place → Way → Type 0
IsAlike place Entry = Unit {0}
IsAlike place (Along edge) = comes_alike place edge.from ≡ true

-- an edge or the entry is the one searched for: it brings the pointer or does not, and control reaches its origin or
-- does not
abbrev pub IsSought : Place → Sought → ℕ → Way → Type 0
IsSought place sought to Entry = IsWay place sought.p sought.known Entry to
IsSought place sought to (Along edge) =
    LeadsBy place sought.p sought.known edge to × (agrees sought.reached (is_reached place.image edge.from) ≡ true)

-- an edge or the entry brings the pointer to a pc, and control takes it exactly if it reaches the place
abbrev pub IsBringing : Place → ℕ → ℕ → Way → Type 0
IsBringing place p to way = IsWay place p true way to × IsAlike place way

-- the entry from the caller, or an edge from an instruction of the place's routine
abbrev pub IsOwn : Place → Way → Type 0
IsOwn place Entry = Unit {0}
IsOwn place (Along edge) = is_inside place edge.from ≡ true

-- the property holds for no such edge, and not for the entry
abbrev pub NoWay : Place → (Way → Type 0) → Type 0
NoWay place is = (way : Way) → IsOwn place way → is way → ⊥

-- the property holds for the edge or entry that was found; if none was found, it holds for none
abbrev pub FindsWay : Place → (Way → Type 0) → Option Way → Type 0
FindsWay place is found = MatchOption found (NoWay place is) is

-- at a join from which the pointer can be missing at the place, one edge that control takes brings the pointer and
-- another does not
pub record IsMeeting (place : Place) (p : ℕ) (m : Meeting) : Type 0 where
  pub way : LacksFrom place p m.to
  pub known : IsBringing place p m.to m.known
  pub lost : IsWay place p false m.lost m.to

-- the caller does not bring the pointer, and from the first instruction of the routine a path leads to the place that
-- does not bring it
pub record IsUnset (place : Place) (p : ℕ) : Type 0 where
  pub entry : is_stale (pointer_at place.routine.entry p) ≡ true
  pub way : LacksFrom place p (start_of place.image.routines place.r)

-- an edge leads to a pc, and after it the pointer leads into this slot, which is empty
pub record LeadsNowhere (place : Place) (p slot : ℕ) (edge : Edge) (to : ℕ) : Type 0 where
  pub point : KnownPlace
  pub there : slice_get (places place.image) edge.from ≡ Some point
  pub has : has_edge point.instr edge.branch ≡ true
  pub ends : end_of edge point.instr ≡ to
  pub empty : empty_slot (after place.image edge.from point.row edge.branch) p ≡ Some slot

-- an edge or the entry brings to a pc a pointer into this slot, which is empty. The entry leads to the first
-- instruction of the routine
abbrev pub BringsNowhere : Place → ℕ → Way → ℕ → ℕ → Type 0
BringsNowhere place p Entry slot to = (to ≡ start_of place.image.routines place.r) × (empty_slot place.routine.entry p ≡ Some slot)
BringsNowhere place p (Along edge) slot to = LeadsNowhere place p slot edge to

-- an edge or the entry brings the pointer into an empty slot, and from its end a path leads to the place that does
-- not bring the pointer
pub record IsNowhere (place : Place) (p : ℕ) (way : Way) (slot : ℕ) : Type 0 where
  pub to : ℕ
  pub comes : BringsNowhere place p way slot to
  pub lacks : LacksFrom place p to

-- control reaches a pc but not the place, or the place but not the pc, or no edge leads to the pc
abbrev pub IsUnreached : Place → ℕ → ℕ → Type 0
IsUnreached place p to = (comes_alike place to ≡ false) ⊎ NoWay place (λ way. IsAlike place way × ((known : Bool) × IsWay place p known way to))

-- an edge or the entry brings the pointer to a pc, and none leads there without it, but from there a path leads to
-- the place without it
pub record IsMerged (place : Place) (p to : ℕ) : Type 0 where
  pub known : Way
  pub brings : IsBringing place p to known
  pub all : NoWay place (λ way. IsWay place p false way to)
  pub way : LacksFrom place p to

-- the reason why the row does not know a pointer, if no instruction lost it
abbrev pub IsEnd : Place → ℕ → End → Type 0
IsEnd place p Unset = IsUnset place p
IsEnd place p (Unreached to) = IsUnreached place p to
IsEnd place p (Merged to) = IsMerged place p to
IsEnd place p (Nowhere way slot) = IsNowhere place p way slot

-- a finding about a pointer is true: the edge that it names lost the pointer, the edges that it names meet in a join,
-- and the reason that it names holds
pub record Holds (place : Place) (p : ℕ) (found : Finding) : Type 0 where
  pub lost : IfSome found.lost (λ loss. IsLost place p loss)
  pub meeting : IfSome found.meeting (λ m. IsMeeting place p m)
  pub end : IfSome found.end (λ end. IsEnd place p end)

-- every hint of a search that follows a pointer back is what some path brings
pub record CanFollow (tracing : Tracing) : Type 0 where
  pub hints : AreHints (place_of tracing.place.now) tracing.p tracing.arrivals

-- the edges to a pc from which the pointer can be missing: one that brings it and one that does not, if they exist
pub record AreWays (place : Place) (p : ℕ) (ways : FirstWays) : Type 0 where
  pub lacks : LacksFrom place p ways.to
  pub known : FindsWay place (λ way. IsBringing place p ways.to way) ways.known
  pub lost : FindsWay place (λ way. IsWay place p false way ways.to) ways.lost

-- no edge brings the pointer to the place, and control comes there along an edge that does not
pub record IsOpen (place : Place) (p : ℕ) : Type 0 where
  pub none : NoWay place (λ way. IsBringing place p place.pc way)
  pub edge : Edge
  pub lacks : IsWay place p false (Along edge) place.pc
  pub alike : comes_alike place edge.from ≡ true

-- a finding names nothing
abbrev pub NamesNothing : Finding → Type 0
NamesNothing found = (found.lost ≡ None) × (found.meeting ≡ None) × (found.end ≡ None)

-- a finding is true, and if it names nothing, the place is open
pub record IsFinding (place : Place) (p : ℕ) (found : Finding) : Type 0 where
  pub holds : Holds place p found
  pub none : NamesNothing found → IsOpen place p

-- the pointer can be missing from each pc that the search passed, and its result is a finding
pub record IsSound (place : Place) (p : ℕ) (trace : Trace) : Type 0 where
  pub passed : (pc : ℕ) → Has trace.passed pc → LacksFrom place p pc
  pub finds : IsFinding place p trace.finding
