-- What two rows have in common.
use Rattle.std.specs.Prelude.{◌≡◌, max, min, Bool, true, ◌&&◌, ◌==◌, if◌then◌else◌, Option, Some, None}
use Rattle.geos_image.specs.declared.row.Row.{Row}
use Rattle.geos_image.specs.declared.row.Pointer.{Pointer}
use Rattle.geos_image.specs.declared.row.SlotState.{SlotState}
use Rattle.geos_verify.specs.Lists.{all2, zip2}
use Rattle.geos_verify.specs.Rows.{slot_fits, fits}
use Rattle.geos_flow.specs.Slots.{slots_agree}

-- the state of a slot in both rows, without its mark if the two rows differ in it
abbrev pub slot_join : SlotState → SlotState → SlotState
slot_join x y = if slot_fits x y then y else x

-- the pointer with the lesser length if both lead into one slot, otherwise a stale pointer
abbrev pub pointer_join : Option Pointer → Option Pointer → Option Pointer
pointer_join None q = None
pointer_join (Some p) None = None
pointer_join (Some p) (Some q) = if p.slot == q.slot then Some (record { slot = p.slot; least = min p.least q.least }) else None

-- both rows know the pair
abbrev pub pair_join : Bool → Bool → Bool
pair_join a b = a && b

-- the slots of the rows differ in marks at most
abbrev pub agree : Row → Row → Bool
agree r s = all2 slots_agree r.slots s.slots

-- the strongest row that both rows imply, if their slots differ in marks at most
abbrev pub joined : Row → Row → Row
joined r s = record {
  bounds = zip2 max r.bounds s.bounds;
  slots = zip2 slot_join r.slots s.slots;
  pointers = zip2 pointer_join r.pointers s.pointers;
  pairs = zip2 pair_join r.pairs s.pairs;
}

-- the join of two rows; there is none if their slots differ in more than marks
abbrev pub join : Row → Row → Option Row
join r s = if agree r s then Some (joined r s) else None

-- both rows imply the third, and the third implies each row that both imply
pub record IsLeastAbove (r s above : Row) : Type 0 where
  pub left : fits r above ≡ true
  pub right : fits s above ≡ true
  pub least : (u : Row) → fits r u ≡ true → fits s u ≡ true → fits above u ≡ true

-- no row is implied by both
abbrev pub FitNothing : Row → Row → Type 0
FitNothing r s = (u : Row) → fits r u ≡ true → fits s u ≡ true → ⊥
