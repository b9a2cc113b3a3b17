use Rattle.std.proofs.Common.{subst, sym}
use Rattle.geos_infer.specs.Findings.{IsWhyNone}
use Rattle.geos_asm.specs.Assembling.{IsAssembled, RunsIfAnyDoes}
use Rattle.geos_asm.proofs.Found.{assembled, assembled_keyed, runs_if_any, no_rows, caused}
use Rattle.geos_asm.proofs.cause.assemble_or_tell.Goals as goal

pub returns-in-Ok-clause-image : goal.returns-in-Ok-clause-image
returns-in-Ok-clause-image c =
    let text = c.args.text.now in
    let whole = c.in-Ok.whole in
    let found = c.in-Ok.ensures.found in
    let made = assembled text _ c.in_ok-blank.blank whole c.in_ok-parsed.ensures.parsed c.in_ok-blank.ensures found.code found.rows
    found.what_there_is in
    subst (IsAssembled text) (sym c.into_keyed.ensures.value) (assembled_keyed text whole c.into_keyed.ensures.formed made)

pub returns-in-Ok-clause-accepted : goal.returns-in-Ok-clause-accepted
returns-in-Ok-clause-accepted c =
    let text = c.args.text.now in
    let whole = c.in-Ok.whole in
    let found = c.in-Ok.ensures.found in
    let made = assembled text _ c.in_ok-blank.blank whole c.in_ok-parsed.ensures.parsed c.in_ok-blank.ensures found.code found.rows
    found.what_there_is in
    subst (RunsIfAnyDoes text) (sym c.into_keyed.ensures.value) (runs_if_any text whole made)

pub cause_of-cause-requires : goal.cause_of-cause-requires
cause_of-cause-requires c = subst (IsWhyNone c.in_ok-blank.blank) c.in-Err-Stopped.field-0-is c.in-Err-Stopped.ensures.why

pub returns-in_ok-cause-in-Err-Stopped-clause-why : goal.returns-in_ok-cause-in-Err-Stopped-clause-why
returns-in_ok-cause-in-Err-Stopped-clause-why c =
    let text = c.args.text.now in
    let blank = c.in_ok-blank.blank in
    let finding = c.in-Err-Stopped.finding in
    let S = subst (IsWhyNone blank) c.in-Err-Stopped.field-0-is c.in-Err-Stopped.ensures.why in
    let cause = c.in_ok-cause-in-Err-Stopped.ensures in (
      no_rows text _ blank finding.routine c.from.result _ c.in_ok-parsed.ensures.parsed c.in_ok-blank.ensures S.within c.from.ensures
          c.index-routine.ensures S.none S.stuck,
      caused text _ blank finding c.from.result _ _ c.in_ok-parsed.ensures.parsed c.in_ok-blank.ensures S c.from.ensures
          c.index-routine.ensures cause.holds cause.slots cause.tells,
      c.in_ok-parsed.ensures.lines,
    )
