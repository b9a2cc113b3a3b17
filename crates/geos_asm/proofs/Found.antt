-- What is found for the skeleton of a text's code is found for the text.
use Rattle.std.proofs.Common.{◌≡◌, ◌<◌, ◌∙◌, ℕ, true, false, List, Some, length, Ok, refl, ap, subst, slice_get}
use Rattle.std.proofs.Math.ListN.{get_or}
use Rattle.std.proofs.lemmas.List.{length-map}
use Rattle.std.proofs.lemmas.Option.{slice_get_read}
use Rattle.geos_image.specs.Parts.{Parts}
use Rattle.geos_image.specs.Keys.{keyed_of}
use Rattle.geos_image.specs.Legal.{is_formed}
use Rattle.geos_source.specs.declared.progress.TextRoutine.{TextRoutine}
use Rattle.geos_source.specs.Texts.{Code, code_of}
use Rattle.geos_source.specs.Skeletons.{routine_of, skeleton}
use Rattle.geos_source.proofs.SkeletonLaws.{skeleton-code}
use Rattle.geos_code.specs.Code.{SameCode}
use Rattle.geos_rows.specs.Reached.{AllHoldWhereReached}
use Rattle.geos_infer.specs.Theorem.{FindsWhatThereIs, NoneIsAccepted, NothingHoldsIn}
use Rattle.loop_causes.specs.Causes.{Holds, tells_of_slots}
use Rattle.geos_infer.specs.Findings.{Stops}
use Rattle.geos_asm.specs.Assembling.{TellsOf}
use Rattle.geos_rows.specs.Why.{MeetAlike}
use Rattle.geos_infer.proofs.Keyed.{keyed-code, found-keyed, all-hold-keyed}
use Rattle.geos_flow.specs.declared.cause.Cause.{Cause}
use Rattle.geos_infer.specs.declared.finding.Finding.{Finding}
use Rattle.geos_asm.specs.Assembling.{IsAssembled, RunsIfAnyDoes, HasNoRows, IsCauseIn}

-- what is assembled of a text is so in version 2 too
pub assembled_keyed : (text : List ℕ) (image : Parts) → is_formed true image ≡ true → IsAssembled text image → IsAssembled text (keyed_of image)
assembled_keyed text image formed A = record {
  code = A.code;
  read = A.read;
  has = record { routines = A.has.routines; instrs = keyed-code image ∙ A.has.instrs };
  rows = all-hold-keyed image formed A.rows;
  found = found-keyed (skeleton A.code) image A.found;
}

-- and may run there, if any image may
pub runs_if_any : (text : List ℕ) (image : Parts) → IsAssembled text image → RunsIfAnyDoes text (keyed_of image)
runs_if_any text image A = record { code = A.code; read = A.read; found = found-keyed (skeleton A.code) image A.found }

-- what has the skeleton's code has the code of the text
pub assembled : (text : List ℕ) (code : Code) (blank image : Parts) → code_of text ≡ Ok code → blank ≡ skeleton code
    → SameCode blank image → AllHoldWhereReached image → FindsWhatThereIs blank image → IsAssembled text image
assembled text code blank image read is same rows found =
    let same_code = subst (λ (b : Parts). SameCode b image) is same in
    record {
      code = code;
      read = read;
      has = record { routines = same_code.routines; instrs = same_code.instrs ∙ skeleton-code code };
      rows =
          rows;
      found = subst (λ (b : Parts). FindsWhatThereIs b image) is found;
    }

-- the routine that is read is one of the code
routine-there : (code : Code) (blank : Parts) (r at : ℕ) (routine : TextRoutine) → blank ≡ skeleton code → r < length blank.routines → at ≡ r
    → routine ≡ get_or code.routines at routine → slice_get code.routines r ≡ Some routine
routine-there code blank r at routine is within same here =
    slice_get_read code.routines (length blank.routines) r routine
    (ap (λ (b : Parts). length b.routines) is ∙ length-map code.routines routine_of) within
    (subst (λ (k : ℕ). routine ≡ get_or code.routines k routine) same here)

-- a routine of the code begins at its line
pub no_rows : (text : List ℕ) (code : Code) (blank : Parts) (r at : ℕ) (routine : TextRoutine) → code_of text ≡ Ok code
    → blank ≡ skeleton code → r < length blank.routines → at ≡ r → routine ≡ get_or code.routines at routine
    → NoneIsAccepted blank → NothingHoldsIn blank r → HasNoRows text routine.line
no_rows text code blank r at routine read is within same here none stuck = record {
  code = code;
  read = read;
  begins = record { r = r; routine = routine; there = routine-there code blank r at routine is within same here; line_is = refl };
  none = subst NoneIsAccepted is none;
  stuck = subst (λ (b : Parts). NothingHoldsIn b r) is stuck;
}

-- a cause that holds of the routine where the skeleton's search stops, and tells of what stops it, is one of the text
pub caused : (text : List ℕ) (code : Code) (blank : Parts) (finding : Finding) (at : ℕ) (routine : TextRoutine) (cause : Cause)
    → code_of text ≡ Ok code → blank ≡ skeleton code → Stops blank finding → at ≡ finding.routine
    → routine ≡ get_or code.routines at routine → Holds blank finding.routine cause
    → (tells_of_slots cause ≡ false → MeetAlike blank finding.routine) → TellsOf finding.obstacle cause
    → IsCauseIn text routine.line cause code.instrs
caused text code blank finding at routine cause read is S same here holds slots tells =
    let r = finding.routine in
    record {
      of = record {
        code = code;
        read = read;
        begins = record { r = r; routine = routine; there = routine-there code blank r at routine is S.within same here; line_is = refl };
        holds = subst (λ (b : Parts). Holds b r cause) is holds;
        slots = λ e. subst (λ (b : Parts). MeetAlike b r) is (slots e);
        finding = finding;
        stops = subst (λ (b : Parts). Stops b finding) is S;
        there = refl;
        tells = tells;
      };
      are = refl;
    }
