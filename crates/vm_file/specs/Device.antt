-- What the calls of a device may leave.
use Rattle.std.specs.Prelude.{◌≡◌, ◌⊎◌, ℕ, ◌+◌, ◌-◌, ◌^◌, ◌<◌, ◌≤◌, min, List, length, take, drop, Result, OnOk, OnErr}
use Rattle.vm_file.specs.declared.device.Disk.{Disk}

-- what reads of a device return in a state, and what a stop may leave: an image, a list of bytes
pub record Medium (D : Type 0) : Type 1 where
  -- the bytes that reads return
  pub image : D → List ℕ
  -- it returns what was last written to it, all its life
  pub honest : D → Type 0
  -- how often it has failed
  pub failed : D → ℕ
  -- a stop now may leave this image
  pub may_leave : D → List ℕ → Type 0
  -- a stop at some moment from the first state to the second may have left this image
  pub may_have_left : D → D → List ℕ → Type 0
  -- one call takes the first state to the second: a read from
  -- an offset on, with the bytes and the result that it returns
  pub reads : D → ℕ → List ℕ → Result (Unit {0}) Disk → D → Type 0
  -- a write of these bytes from an offset on
  pub writes : D → ℕ → List ℕ → Result (Unit {0}) Disk → D → Type 0
  -- a sync
  pub syncs : D → Result (Unit {0}) Disk → D → Type 0

-- the new image is the old one outside the n bytes from an offset on
pub record Touched (at n : ℕ) (old new : List ℕ) : Type 0 where
  pub long : length new ≡ length old
  pub before : take at new ≡ take at old
  pub behind : drop (at + n) new ≡ drop (at + n) old

-- an image that was possible, with any bytes in that range
abbrev pub AfterWrite : ℕ → ℕ → (List ℕ → Type 0) → List ℕ → Type 0
AfterWrite at n images c = (d : List ℕ) × images d × Touched at n d c

-- no other image is possible
abbrev pub Only : List ℕ → (List ℕ → Type 0) → Type 0
Only image images = (c : List ℕ) → images c → c ≡ image

-- from the old state on to the new one a stop leaves an image of these, besides what it may have left up to the old one
abbrev pub Passes : {D : Type 0} → (D → D → List ℕ → Type 0) → D → D → (List ℕ → Type 0) → Type 0
Passes {D} left old new images = (s : D) (c : List ℕ) → left s new c → left s old c ⊎ images c

-- one more, up to the greatest number
abbrev pub one_more : ℕ → ℕ
one_more n = min (n + 1) (2 ^ 64 - 1)

-- a failing call counts once, and no other call counts
pub record Counts {T E : Type 0} (before now : ℕ) (result : Result T E) : Type 0 where
  pub ok : OnOk result (now ≡ before)
  pub err : OnErr result (now ≡ one_more before)

-- one call failed at most, which counts once
abbrev pub FailedOnce : ℕ → ℕ → Type 0
FailedOnce before now = (now ≡ before) ⊎ (now ≡ one_more before)

-- a count of failures rose: at the greatest number it stays, and counts as risen
abbrev pub Rose : ℕ → ℕ → Type 0
Rose before now = (before < now) ⊎ (now ≡ 2 ^ 64 - 1)

-- two counts of failures together, up to the greatest number
abbrev pub all_failures : ℕ → ℕ → ℕ
all_failures inner own = min (inner + own) (2 ^ 64 - 1)

-- a device of which no call fails that lies within its length
pub record IsSteady {D : Type 0} (medium : Medium D) : Type 0 where
  pub reads : (old new : D) (at : ℕ) (bytes : List ℕ) (result : Result (Unit {0}) Disk) →
      medium.reads old at bytes result new → at + length bytes ≤ length (medium.image old) → OnErr result ⊥
  pub writes : (old new : D) (at : ℕ) (bytes : List ℕ) (result : Result (Unit {0}) Disk) →
      medium.writes old at bytes result new → at + length bytes ≤ length (medium.image old) → OnErr result ⊥
  pub syncs : (old new : D) (result : Result (Unit {0}) Disk) → medium.syncs old result new → OnErr result ⊥

-- the device did not fail between two states: its count of failures is unchanged
abbrev pub NoneFails : {D : Type 0} → Medium D → D → D → Type 0
NoneFails medium old new = IsSteady medium → medium.failed new ≡ medium.failed old
