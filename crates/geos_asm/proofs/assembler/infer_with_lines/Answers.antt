use Rattle.std.proofs.Common.{subst}
use Rattle.geos_infer.specs.Theorem.{NamesRoutine}
use Rattle.geos_asm.proofs.Found.{assembled, no_rows}
use Rattle.geos_asm.proofs.assembler.infer_with_lines.Goals as goal

pub returns-in-Ok-clause-whole : goal.returns-in-Ok-clause-whole
returns-in-Ok-clause-whole c = assembled c.args.text.now _ c.in_ok-blank.blank c.in-Ok.whole c.in_ok-parsed.ensures.parsed
    c.in_ok-blank.ensures c.in-Ok.ensures.code c.in-Ok.ensures.rows c.in-Ok.ensures.found

pub returns-in-Err-NoRows-clause-fault : goal.returns-in-Err-NoRows-clause-fault
returns-in-Err-NoRows-clause-fault c = no_rows c.args.text.now _ c.in_ok-blank.blank c.in-Err-NoRows.r c.from.result
    _ c.in_ok-parsed.ensures.parsed c.in_ok-blank.ensures
    (subst (NamesRoutine c.in_ok-blank.blank) c.in-Err-NoRows.field-0-is c.in-Err-NoRows.ensures.within) c.from.ensures
    c.index-routine.ensures (c.in-Err-NoRows.ensures.none c.in-Err-NoRows.r c.in-Err-NoRows.field-0-is)
    (c.in-Err-NoRows.ensures.stuck c.in-Err-NoRows.r c.in-Err-NoRows.field-0-is)
