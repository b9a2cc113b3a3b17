-- The image that is accepted is one of the text.
use Rattle.std.proofs.Common.{Result, Ok, Err}
use Rattle.std.specs.Prelude.{IfOk}
use Rattle.takhvoi.proofs.findings.of_text.Goals as goal

also-if-ok : {A E : Type 0} {P Q : A → Type 0} → (r : Result A E) → ((a : A) → P a → Q a) → IfOk r P → IfOk r Q
also-if-ok (Ok a) gives h = gives a h
also-if-ok (Err e) gives h = h

pub returns-in-Ok : goal.returns-in-Ok
returns-in-Ok c =
    also-if-ok c.of_assembled.result (λ findings checked none. (c.in-Ok.assembled.image, c.in-Ok.ensures.image, checked none))
    c.of_assembled.ensures
