-- What a span implies for its reference.
use Rattle.std.proofs.Common.{◌≡◌, ◌∙◌, ℕ, Result, Ok, Err, refl, ap, sym, subst}
use Rattle.std.specs.Prelude.{IfOk, OnErr}
use Rattle.geos_terms.specs.declared.refusal.Refusal.{Refusal}
use Rattle.geos_terms.specs.Refusals.{refusal_number}
use Rattle.geos_calls.specs.Effects.{Call, Reference}
use Rattle.geos_kernel.specs.declared.span.Span.{Span}
use Rattle.geos_kernel.specs.Kernel.{Calls, LeadsToSpan, StandsFor}
use Rattle.geos_kernel.specs.Spans.{Stands}
use Rattle.geos_kernel.specs.View.{KernelState}
use Rattle.takhvoi.specs.Answers.{IsStatus}

-- if a row returns the reference of a valid span, it refuses nothing, and what holds of each reference of the span
-- holds of this one
pub given-span : (s : KernelState) (span : Span) (given : Result Reference Refusal) (P : Reference → Type 0) → StandsFor s (Ok span) given
    → ((ref : Reference) → Stands s span ref → P ref) → IsStatus given 0 × IfOk given P
given-span s span (Ok ref) P stands holds = (refl, holds ref stands)
given-span s span (Err why) P stands holds = absurd stands

-- and none of its refusals came
pub given-no-refusal : (s : KernelState) (span : Span) (given : Result Reference Refusal) (P : Type 0) → StandsFor s (Ok span) given → OnErr given P
given-no-refusal s span (Ok ref) P stands = tt
given-no-refusal s span (Err why) P stands = absurd stands

-- and one that was refused tells the refusal's number
pub given-refused : (s : KernelState) (why : Refusal) (given : Result Reference Refusal) (status : ℕ) (P : Reference → Type 0)
    → StandsFor s (Err why) given → status ≡ refusal_number why → IsStatus given status × IfOk given P
given-refused s why (Err other) status P same is = (is ∙ ap refusal_number same, tt)
given-refused s why (Ok ref) status P same is = absurd same

-- a span that was given stands for a reference that the row gives
pub given-ok : (good : Type 0) (span : Span) (call : Call Reference) (old new : KernelState) → LeadsToSpan good call (Ok span) old new
    → (ref : Reference) × Calls good call (Ok ref) old new
given-ok good span call old new (Ok ref, calls, stands) = (ref, calls)
given-ok good span call old new (Err why, calls, stands) = absurd stands

-- and one that was refused was refused by the row
pub given-err : (good : Type 0) (why : Refusal) (call : Call Reference) (old new : KernelState) → LeadsToSpan good call (Err why) old new
    → Calls good call (Err why) old new
given-err good why call old new (Ok ref, calls, same) = absurd same
given-err good why call old new (Err other, calls, same) = subst (λ it. Calls good call (Err it) old new) (sym same) calls
