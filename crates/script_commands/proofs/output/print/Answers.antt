use Rattle.std.proofs.Common.{rules, ◌≡◌, get_or, subst}
use Rattle.std.specs.Prelude.{decimal}
use Rattle.geos_input.specs.Counted.{AppendsPart}
use Rattle.std.specs.Io.KnownBytes.{Appends}
use Rattle.script_commands.proofs.Parts.{IfErr-any, part-digits, part-line-feed}
use Rattle.script_commands.proofs.output.print.Goals as goal

pub returns-in_err-write-clause-part : goal.returns-in_err-write-clause-part
returns-in_err-write-clause-part g c =
    let words = c.args.words.now in
    let k = c.loop-word.word-index in
    let digits : c.as_bytes.result.now ≡ decimal (get_or words k 0) = search rules in
    IfErr-any _ (part-digits _ _ _ words k c.loop-word-test.true c.loop-word.invariant.0 (subst (AppendsPart _ _) digits c.in_err-write.ensures.part))

pub returns-in_err-write-2-clause-part : goal.returns-in_err-write-2-clause-part
returns-in_err-write-2-clause-part g c =
    let words = c.args.words.now in
    let k = c.loop-word.word-index in
    let digits : c.as_bytes.result.now ≡ decimal (get_or words k 0) = search rules in
    IfErr-any _ (part-line-feed _ _ _ _ words k c.loop-word-test.true c.loop-word.invariant.0
    (subst (Appends _ _) digits c.in_ok-write.ensures.ok) c.in_err-write-2.ensures.part)
