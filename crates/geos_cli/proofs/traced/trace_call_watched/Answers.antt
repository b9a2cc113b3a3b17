use Rattle.std.proofs.Common.{◌≡◌, ◌∙◌, ℕ, List, Option, Ok, Bor, ap, refl, sym}
use Rattle.std.specs.Prelude.{option_map}
use Rattle.geos_input.specs.declared.fault.ScriptFault.{ScriptFault}
use Rattle.geos_input.specs.declared.fault.ScriptFault.TheVariants.{TooLong, BadHex, BadImage, Rejected, BadScript, Read, Write, Memory}
use Rattle.geos_image.specs.Parts.{Parts}
use Rattle.geos_image.specs.Reading.{image_at}
use Rattle.geos_verify.specs.Rules.{Accepted}
use Rattle.geos_machine.specs.Traces.{Notes}
use Rattle.script_commands.specs.declared.call_fault.CallFault.{CallFault}
use Rattle.script_commands.specs.declared.call_fault.CallFault.TheVariants.{BadBlocks, BadWord, Script}
use Rattle.geos_cli.specs.declared.traced.TraceFault.TheVariants as trace_fault
use Rattle.script_commands.specs.Reading.{texts}
use Rattle.script_commands.specs.CallWords.{IsWhyNoCall}
use Rattle.geos_cli.specs.Script.{IsBadImage}
use Rattle.geos_cli.specs.Traced.{WhyNotTraced}
use Rattle.geos_cli.proofs.CallRuns.{asks}
use Rattle.geos_cli.proofs.traced.trace_call_watched.Goals as goal

module _ (bytes name : List ℕ) (words : List (List ℕ)) (only : Option (List ℕ)) where
  -- a bad image is a fault of the call
  bad-image : (fault : ScriptFault) → IsBadImage bytes fault → WhyNotTraced bytes name words only (trace_fault.Call (Script fault))
  bad-image TooLong bad = absurd bad
  bad-image (BadHex line) bad = absurd bad
  bad-image (BadImage at) bad = bad
  bad-image (Rejected pc rule) bad = bad
  bad-image (BadScript line) bad = absurd bad
  bad-image Read bad = absurd bad
  bad-image Write bad = absurd bad
  bad-image Memory bad = bad

  -- so is why words are no call of an image
  no-call : (image : Parts) (why : CallFault) → image_at bytes ≡ Ok image → Accepted image → IsWhyNoCall image name words why
      → WhyNotTraced bytes name words only (trace_fault.Call why)
  no-call image (BadWord at) read accepted is = (image, read, accepted, is)
  no-call image (BadBlocks n) read accepted is = (image, read, accepted, is)
  no-call image (Script fault) read accepted is = absurd is

pub returns-in-Err-clause-due : goal.returns-in-Err-clause-due
returns-in-Err-clause-due g c = bad-image c.args.call.now.image.now c.args.call.now.name.now (texts c.args.call.now.words.now)
    (option_map (λ (word : Bor (List ℕ)). word.now) c.args.call.now.only) c.in-Err.fault c.in-Err.ensures.bad

pub returns-in_default-clause-due : goal.returns-in_default-clause-due
returns-in_default-clause-due g c = no-call c.args.call.now.image.now c.args.call.now.name.now (texts c.args.call.now.words.now)
    (option_map (λ (word : Bor (List ℕ)). word.now) c.args.call.now.only) c.in-Ok.checked c.why_no_call.result
    c.in-Ok.ensures.image.0 c.in-Ok.ensures.image.1 c.why_no_call.ensures

pub returns-in-Ok-trace_lent-clause-ran : goal.returns-in-Ok-trace_lent-clause-ran
returns-in-Ok-trace_lent-clause-ran g c =
    let asked = asks _ _ _ _ _ c.in-Some.asked c.in-Ok.ensures.image c.call_on.ensures c.in-Some.is in
    let made = c.in-Ok-trace_lent.ensures.made in
    let first = made.first ∙ ap (λ (n : Notes). n.first) c.in-Ok-new.ensures in
    let end = made.end ∙ ap (λ (n : Notes). n.end) c.in-Ok-new.ensures in
    record {
      call = c.in-Some.asked;
      asks = asked;
      routine = refl;
      stretch = sym c.stretch_of.ensures ∙ c.in-Some-stretch_of.is ∙ rw (first, end) refl;
      room = made.most ∙ ap (λ (n : Notes). n.most) c.in-Ok-new.ensures;
      ran = c.in-Ok-trace_lent.ensures.ran;
    }

pub returns-in-Err-trace_lent-clause-ran : goal.returns-in-Err-trace_lent-clause-ran
returns-in-Err-trace_lent-clause-ran g c =
    let asked = asks _ _ _ _ _ c.in-Some.asked c.in-Ok.ensures.image c.call_on.ensures c.in-Some.is in
    record { image = c.in-Ok.checked; call = c.in-Some.asked; asks = asked; refused = c.in-Err-trace_lent.ensures.refused }
