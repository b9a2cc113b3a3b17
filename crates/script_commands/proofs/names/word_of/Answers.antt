use Rattle.std.proofs.Common.{◌≡◌, ◌-◌, ℕ, suc, true, Option, None, drop, sym, ◌∙◌, subst, arith}
use Rattle.std.specs.Prelude.{bytes_eq}
use Rattle.script_commands.specs.declared.kept.Kept.{Kept}
use Rattle.script_commands.specs.Names.{names_of, word_behind}
use Rattle.script_commands.proofs.KeptNames.{last-under}
use Rattle.script_commands.proofs.names.word_of.Goals as goal

pub returns-then-is_under : goal.returns-then-is_under
returns-then-is_under c =
    let name = c.args.name.now in
    let ks = c.args.names.now in
    let behind : c.loop-at.at ≡ suc (c.loop-at.at - 1) = omega (arith, c.loop-at-test.true) in
    sym (last-under name ks (c.loop-at.at - 1) c.index-names-at-then-is_under.result c.index-names-at.result
    (omega (arith, c.loop-at.auto.at, c.loop-at-test.true))
    (subst (λ (n : ℕ). (found : Option ℕ) → word_behind found name (names_of (drop n ks)) ≡ found) behind c.loop-at.invariant)
    (subst (λ (k : Kept). bytes_eq k.name.now name ≡ true) c.index-names-at.is (sym c.is_under.ensures ∙ c.if-is_under.true)) None)
