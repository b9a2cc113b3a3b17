-- Causes for which no rows or no numbers of steps are found for a routine.
use Rattle.std.specs.Prelude.{◌≡◌, ℕ, ◌+◌, Bool, true, false, List, [], ◌∷◌, Option, Some, None, IfSome, nat_lt, slice_get, slice_index_or}
use Rattle.geos_image.specs.declared.row.Row.{Row}
use Rattle.geos_image.specs.declared.point.Point.{Point}
use Rattle.geos_image.specs.declared.routine.Routine.{Routine}
use Rattle.geos_image.specs.Parts.{Parts, start_of}
use Rattle.geos_verify.specs.Rows.{after, is_empty, slot_state}
use Rattle.geos_verify.specs.Touched.{calls}
use Rattle.geos_code.specs.Code.{IsPcOf}
use Rattle.geos_code.specs.Edges.{LeadsTo}
use Rattle.geos_rows.specs.Joins.{agree}
use Rattle.geos_flow.specs.declared.edge.Edge.{Edge}
use Rattle.geos_code.specs.declared.edges.Lead.{Lead}
use Rattle.geos_flow.specs.declared.apart.Emptied.{Emptied}
use Rattle.geos_flow.specs.declared.apart.Coming.{Coming}
use Rattle.geos_flow.specs.declared.apart.Apart.{Apart}

-- the edges, the last first, lead within routine r from where it begins with a row to a pc, and the row there
abbrev pub IsWay : Parts → ℕ → Row → List (ℕ × Bool) → ℕ → Row → Type 0
IsWay image r entry [] pc row = (pc ≡ start_of image.routines r) × (row ≡ entry)
IsWay image r entry (edge ∷ edges) pc row =
    (before : Row) × IsWay image r entry edges edge.0 before × LeadsTo image edge.0 edge.1 pc × IsPcOf image r pc
    × (row ≡ after image edge.0 before edge.1)

-- control comes to a pc of routine r with this row, on some edges from the start of the routine
pub record ComesFromStart (image : Parts) (r pc : ℕ) (row : Row) : Type 0 where
  pub routine : Routine
  pub there : slice_get image.routines r ≡ Some routine
  pub edges : List (ℕ × Bool)
  pub way : IsWay image r routine.entry edges pc row

-- control comes with this row along an edge
pub record ComesBy (image : Parts) (r : ℕ) (lead : Lead) (row : Row) : Type 0 where
  pub before : Row
  pub comes : ComesFromStart image r lead.edge.from before
  pub leads : LeadsTo image lead.edge.from lead.edge.branch lead.to
  pub stays : IsPcOf image r lead.to
  pub row_is : row ≡ after image lead.edge.from before lead.edge.branch

-- the routine begins at a pc with a row
pub record BeginsWith (image : Parts) (r pc : ℕ) (row : Row) : Type 0 where
  pub routine : Routine
  pub there : slice_get image.routines r ≡ Some routine
  pub start : pc ≡ start_of image.routines r
  pub row_is : row ≡ routine.entry

-- control comes to a pc along an edge, or there the routine begins
abbrev pub Comes : Parts → ℕ → ℕ → Option Edge → Row → Type 0
Comes image r to from row = elim from [ None ↦ BeginsWith image r to row | Some edge ↦ ComesBy image r (record { edge = edge; to = to }) row ]

-- Slots that a CALL leaves empty

-- a CALL of routine r calls a routine whose entry row has slot a empty, though slot a has a block before the CALL.
-- The finding `emptied` has the callee's name, and whether the callee comes before routine r.
pub record CallsBeside (image : Parts) (r a : ℕ) (before : Row) (emptied : Emptied) : Type 0 where
  pub held : is_empty emptied.state ≡ false
  pub state : slot_state before a ≡ emptied.state
  pub point : Point
  pub there : slice_get image.points emptied.at ≡ Some point
  pub calls : calls point.instr.opcode ≡ true
  pub callee : Routine
  pub called : slice_get image.routines point.instr.imm ≡ Some callee
  pub name : emptied.callee ≡ callee.name
  pub before_r : emptied.stands_before ≡ nat_lt point.instr.imm r
  pub unsaid : is_empty (slot_state callee.entry a) ≡ true

-- the edges, the last first, lead within routine r from a pc with a row to another, and slot a is empty at each place
abbrev pub StaysEmpty : Parts → ℕ → ℕ → ℕ → Row → List (ℕ × Bool) → ℕ → Row → Type 0
StaysEmpty image r a begin first [] pc row = (pc ≡ begin) × (row ≡ first) × (is_empty (slot_state row a) ≡ true)
StaysEmpty image r a begin first (edge ∷ edges) pc row =
    (before : Row) × StaysEmpty image r a begin first edges edge.0 before × LeadsTo image edge.0 edge.1 pc × IsPcOf image r pc
    × (row ≡ after image edge.0 before edge.1) × (is_empty (slot_state row a) ≡ true)

-- control comes to such a CALL of routine r. After the CALL slot a is empty, and it stays empty on a path to a pc
-- with this row.
pub record IsEmptied (image : Parts) (r a to : ℕ) (row : Row) (emptied : Emptied) : Type 0 where
  pub before : Row
  pub comes : ComesFromStart image r emptied.at before
  pub calls : CallsBeside image r a before emptied
  pub edges : List (ℕ × Bool)
  pub way : StaysEmpty image r a (emptied.at + 1) (after image emptied.at before false) edges to row

-- each slot for which a CALL is named is emptied by this CALL
abbrev pub AllEmptied : Parts → ℕ → ℕ → Row → List (Option Emptied) → Type 0
AllEmptied image r to row named = (a : ℕ) → IfSome (slice_index_or named a None) (IsEmptied image r a to row)

-- control comes to a pc in this way, and each CALL that is named leaves its slot empty on a path there
pub record IsComing (image : Parts) (r to : ℕ) (coming : Coming) : Type 0 where
  pub comes : Comes image r to coming.from coming.row
  pub emptied : AllEmptied image r to coming.row coming.emptied

-- control comes to a place of routine r on two paths, with slots that differ in more than marks
pub record AreApart (image : Parts) (r : ℕ) (apart : Apart) : Type 0 where
  pub first : IsComing image r apart.to apart.first
  pub second : IsComing image r apart.to apart.second
  pub differ : agree apart.first.row apart.second.row ≡ false

-- any two paths of control to a place of routine r have slots that differ in marks at most
abbrev pub MeetAlike : Parts → ℕ → Type 0
MeetAlike image r = (pc : ℕ) (row other : Row) → ComesFromStart image r pc row → ComesFromStart image r pc other → agree row other ≡ true
