-- The number is that of the image that the bytes encode.
use Rattle.std.proofs.Common.{refl, inl, inr, ⊎_elim, arith}
use Rattle.takhvoi.proofs.images.load_in.Goals as goal

pub returns-in-Ok-clause-loaded : goal.returns-in-Ok-clause-loaded
returns-in-Ok-clause-loaded c = (
  λ done. (c.in-Ok.checked, c.in-Ok.ensures.image, c.keep.ensures.lowest done, c.keep.ensures.stands done),
  ⊎_elim (λ done. inl done) (λ memory. inr (inl memory)) c.keep.ensures.own,
  record { kernel = refl; hosted = refl; images = c.keep.ensures.stay },
)

pub returns-in-Ok-clause-bad : goal.returns-in-Ok-clause-bad
returns-in-Ok-clause-bad c = λ bad. absurd (⊎_elim (λ is. omega (arith, bad, is)) (λ is. omega (arith, bad, is)) c.keep.ensures.own)

pub returns-in-Ok-clause-refused : goal.returns-in-Ok-clause-refused
returns-in-Ok-clause-refused c = λ refused. absurd (⊎_elim (λ is. omega (arith, refused, is)) (λ is. omega (arith, refused, is)) c.keep.ensures.own)
