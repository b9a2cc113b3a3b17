-- What a handle of C owns: what a box owns, or nothing if the handle is not live.
use Rattle.std.specs.Prelude.{ℕ}
use Prim.Native.Nat.{zero, suc}
use mir.Syntax.{Ty}
use base.Fml.{Fml, ftrue}
use denote.RattleType.{RattleType}
use denote.RawPtr.{Ptr}
use Rattle.std.specs.Box.Ownership.{box_owns}

-- F, or nothing if the number is 0
abbrev pub where_live : ℕ → Fml → Fml
where_live zero F = ftrue
where_live (suc n) F = F

-- a box with this value, if the number is not 0
abbrev pub held : ℕ → (Ty → Ptr → Fml) → (R : RattleType) → Ptr → R.Denot → Fml
held n token R p x = where_live n (box_owns token R p x)
