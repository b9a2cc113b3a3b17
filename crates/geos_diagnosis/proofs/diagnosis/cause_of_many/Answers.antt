use Rattle.std.proofs.Common.{inl, inr}
use Rattle.std.proofs.lemmas.Bool.{cases_lt}
use Rattle.geos_diagnosis.proofs.diagnosis.cause_of_many.Goals as goal

pub cause_ahead-requires-clause-ahead : goal.cause_ahead-requires-clause-ahead
cause_ahead-requires-clause-ahead c = λ pc within to i stays edge. elim (cases_lt pc to) [
  | inl ahead ↦ ahead
  | inr back ↦
      absurd (c.requires.loops (record { pc = pc; within = within; loops = inr (record { to = to; i = i; edge = edge; stays = stays; back = back }) }))
]
