use Rattle.std.specs.Prelude.{◌≡◌, true, false}
use Rattle.geos_verify.specs.Places.{RowAt}
use Rattle.geos_verify.specs.Rules.{RefusesNone, names_empty_slot}
use Rattle.geos_verify.proofs.checked.refusal_in.Given as goal

-- no rule refuses before the pc, the row is what is known there, and it names no empty slot where that is known
abbrev pub invariant-loop-pc : goal.invariant-loop-pc
invariant-loop-pc l =
    RefusesNone l.body.image.now l.body.r l.body.routine.now l.body.start l.pc × RowAt l.body.image.now l.pc l.row
    × (l.names_none ≡ true → names_empty_slot l.row ≡ false)
