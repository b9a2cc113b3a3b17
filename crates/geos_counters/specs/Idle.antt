-- Ways round in a routine that no LOOP is on, or none that may pay.
use Rattle.std.specs.Prelude.{◌≡◌, ◌≤◌, ◌⊎◌, ℕ, Bool, ◌&&◌, List, [], ◌∷◌, ◌+◌, true, false, Some, slice_get}
use Rattle.geos_image.specs.declared.instr.Instr.{Instr}
use Rattle.geos_image.specs.declared.point.Point.{Point}
use Rattle.geos_image.specs.Parts.{Parts, start_of}
use Rattle.geos_verify.specs.Touched.{calls, touches}
use Rattle.geos_code.specs.Code.{IsPcOf, is_loop}
use Rattle.geos_code.specs.Edges.{LeadsTo}
use Rattle.geos_counters.specs.Trails.{IsTrail}

-- the instruction at a pc has an edge to one of routine r, and it is no LOOP's way to its target, for which a counter may pay
pub record LeadsUnpaid (image : Parts) (r pc : ℕ) (branch : Bool) (to : ℕ) : Type 0 where
  pub leads : LeadsTo image pc branch to
  pub stays : IsPcOf image r to
  pub unpaid : (point : Point) → slice_get image.points pc ≡ Some point → (branch && is_loop point.instr.opcode) ≡ false

-- such edges lead from a pc to another; each says whether it is the one to a target
abbrev pub IsUnpaidWay : Parts → ℕ → ℕ → List Bool → ℕ → Type 0
IsUnpaidWay image r from [] to = from ≡ to
IsUnpaidWay image r from (branch ∷ branches) to = (next : ℕ) × LeadsUnpaid image r from branch next × IsUnpaidWay image r next branches to

-- an instruction of routine r leads back, and control can come from there to it again within the routine, and a LOOP's
-- way to its target is never taken
pub record GoesRound (image : Parts) (r from to : ℕ) : Type 0 where
  pub leads : LeadsUnpaid image r from true to
  pub order : to ≤ from
  pub begins : IsPcOf image r from
  pub branches : List Bool
  pub way : IsUnpaidWay image r to branches from

-- LOOPs that may not pay

-- the instruction at a pc passes a test
abbrev pub PassesAt : Parts → ℕ → (Instr → Bool) → Type 0
PassesAt image pc test = (point : Point) × (slice_get image.points pc ≡ Some point) × (test point.instr ≡ true)

-- the instruction calls a routine that touches this counter
abbrev pub calls_touching : Parts → ℕ → Instr → Bool
calls_touching image k i = calls i.opcode && touches image k i.imm

-- after a pc of routine r control can come to another pc on a path on which nothing sets the counter, and no called
-- routine touches it
pub record IsKept (image : Parts) (r counter at to : ℕ) : Type 0 where
  pub behind : IsPcOf image r (at + 1)
  pub branches : List Bool
  pub trail : IsTrail image r (Some counter) (at + 1) branches to

-- a counter is at a pc of routine r, on some way, as it was where the routine begins
pub record IsUnset (image : Parts) (r counter pc : ℕ) : Type 0 where
  pub branches : List Bool
  pub trail : IsTrail image r (Some counter) (start_of image.routines r) branches pc

-- it is there as a call left it of a routine that touches it
pub record IsLeft (image : Parts) (r counter pc : ℕ) : Type 0 where
  pub at : ℕ
  pub here : IsPcOf image r at
  pub touches : PassesAt image at (calls_touching image counter)
  pub kept : IsKept image r counter at pc

-- it is there as something left it that is not a SETK of the routine, so that it may not pay there
abbrev pub MayNotPay : Parts → ℕ → ℕ → ℕ → Type 0
MayNotPay image r counter pc = IsUnset image r counter pc ⊎ IsLeft image r counter pc

-- the instruction at a pc has an edge to one of routine r; if it is a LOOP's way to its target, the counter may not pay
pub record LeadsIdle (image : Parts) (r pc : ℕ) (branch : Bool) (to : ℕ) : Type 0 where
  pub leads : LeadsTo image pc branch to
  pub stays : IsPcOf image r to
  pub idle : (branch && is_loop leads.point.instr.opcode) ≡ true → MayNotPay image r leads.point.instr.a pc

-- such edges lead from a pc to another; each says whether it is the one to a target
abbrev pub IsIdleWay : Parts → ℕ → ℕ → List Bool → ℕ → Type 0
IsIdleWay image r from [] to = from ≡ to
IsIdleWay image r from (branch ∷ branches) to = (next : ℕ) × LeadsIdle image r from branch next × IsIdleWay image r next branches to

-- the same for paths through places for which a predicate is true
abbrev pub IsIdleWayBy : Parts → ℕ → (ℕ → Type 0) → ℕ → List Bool → ℕ → Type 0
IsIdleWayBy image r place from [] to = from ≡ to
IsIdleWayBy image r place from (branch ∷ branches) to = (next : ℕ) × place from × LeadsIdle image r from branch next
    × IsIdleWayBy image r place next branches to

-- control can go round in routine r by such places, and no LOOP on the way may pay
pub record IsNeverPaidBy (image : Parts) (r : ℕ) (place : ℕ → Type 0) : Type 0 where
  pub from : ℕ
  pub begins : IsPcOf image r from
  pub here : place from
  pub branch : Bool
  pub next : ℕ
  pub first : LeadsIdle image r from branch next
  pub branches : List Bool
  pub way : IsIdleWayBy image r place next branches from

-- control can go round in routine r, and no LOOP on the way may pay
pub record IsNeverPaid (image : Parts) (r : ℕ) : Type 0 where
  pub from : ℕ
  pub begins : IsPcOf image r from
  pub branch : Bool
  pub next : ℕ
  pub first : LeadsIdle image r from branch next
  pub branches : List Bool
  pub way : IsIdleWay image r next branches from
