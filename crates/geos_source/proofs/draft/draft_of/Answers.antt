use Rattle.std.proofs.Common.{◌≡◌, ◌∙◌, ◌≤◌, ◌<◌, ◌+◌, ◌++◌, length, None, sym, ap, arith}
use Rattle.std.specs.Str.Lines.{lines}
use Rattle.geos_text.specs.Words.{most_bytes}
use Rattle.geos_source.specs.declared.progress.Progress.{Progress}
use Rattle.geos_source.specs.InstrLines.{has_instr, instr_lines_from}
use Rattle.geos_source.specs.Readings.{names_of}
use Rattle.geos_source.specs.Texts.{Draft, take_lines}
use Rattle.geos_source.specs.Views.{draft_in}
use Rattle.geos_source.proofs.Quiet.{take_line-quiet}
use Rattle.geos_source.proofs.Counted.{one-more}
use Rattle.geos_source.proofs.draft.draft_of.Goals as goal

pub loop-rest-preserved : goal.loop-rest-preserved
loop-rest-preserved c =
    let names = names_of c.args.declared.now.names in
    let n = c.loop-rest.number in
    let line = c.first_line.result.0.now in
    let rest = lines c.first_line.result.1.now in
    let old = c.loop-rest.draft in
    let new = c.take_line.new.self in
    let some : 0 < length c.loop-rest.rest.now = grind (arith, c.loop-rest-test.true, c.loop-rest-test.ensures, c.is_empty.ensures) in
    let split = c.first_line.ensures.line some in
    let less = c.first_line.ensures.less some in
    let said = c.in_ok-take_line.ensures.said in
    let so_far = c.loop-rest.invariant in (
      omega (arith, so_far.0, less),
      so_far.1 ∙ ap (λ ls. take_lines names (n + 1) ls (draft_in old)) split ∙ ap (take_lines names (n + 1 + 1) rest) (sym said),
      λ short quiet.
          let quiet_before = take_line-quiet names (n + 1) line (draft_in old) (sym (ap (λ (d : Draft). d.progress.fault) said) ∙ quiet) in
          let low : n + 1 ≤ most_bytes = omega (arith, so_far.0, less, short) in
          so_far.2 short quiet_before ∙ ap (λ ls. old.lines.items ++ instr_lines_from (n + 1) ls) split
          ∙ one-more (has_instr line) (n + 1) old.lines.items (instr_lines_from (n + 1 + 1) rest) new.lines.items
          (c.in_ok-take_line.ensures.lines low quiet),
    )
