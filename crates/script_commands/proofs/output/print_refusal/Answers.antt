use Rattle.std.proofs.Common.{rules, ◌≡◌, [], ◌∷◌, subst}
use Rattle.std.specs.Prelude.{codes, decimal}
use Rattle.std.specs.Io.KnownBytes.{Appends}
use Rattle.geos_terms.specs.Refusals.{refusal_number}
use Rattle.geos_input.specs.Counted.{AppendsPart}
use Rattle.script_commands.proofs.Parts.{IfErr-any, IfErr-map, part-between, part-first, part-last}
use Rattle.script_commands.proofs.output.print_refusal.Goals as goal

pub returns-in_err-write-clause-part : goal.returns-in_err-write-clause-part
returns-in_err-write-clause-part g c = IfErr-any _ (part-first _ _ (codes "refused ") _ c.in_err-write.ensures.part)

pub returns-in_err-write-2-clause-part : goal.returns-in_err-write-2-clause-part
returns-in_err-write-2-clause-part g c =
    let digits : c.as_bytes.result.now ≡ decimal (refusal_number c.args.refusal) = search rules in
    IfErr-any _ (part-between _ _ _ (codes "refused ") (decimal (refusal_number c.args.refusal)) (10 ∷ []) c.in_ok-write.ensures.ok (subst (AppendsPart _ _) digits c.in_err-write-2.ensures.part))

pub returns-clause-part : goal.returns-clause-part
returns-clause-part g c =
    let digits : c.as_bytes.result.now ≡ decimal (refusal_number c.args.refusal) = search rules in
    IfErr-map c.write-3.result (part-last _ _ _ _ (codes "refused ") (decimal (refusal_number c.args.refusal)) (10 ∷ []) c.in_ok-write.ensures.ok (subst (Appends _ _) digits c.in_ok-write-2.ensures.ok)) c.write-3.ensures.part
