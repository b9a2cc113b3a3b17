-- Scripts that write no name run as they do without names.
use Rattle.std.proofs.Common.{◌≡◌, ℕ, ◌+◌, Bool, true, false, List, [], ◌∷◌, Some, refl, sym, ap, ◌∙◌, subst}
use Rattle.std.specs.Prelude.{option_map}
use Rattle.std.specs.List.{AllByRecursion, cons_option}
use Rattle.std.specs.Str.Lines.{lines}
use Rattle.std.proofs.lemmas.List.Elements.{recursion_from_All}
use Rattle.vm_file.specs.Device.{Medium}
use Rattle.geos_kernel.specs.View.{KernelOn}
use Rattle.geos_image.specs.Parts.{Parts}
use Rattle.geos_text.specs.Words.{is_empty, without_comment, words}
use Rattle.script_commands.specs.declared.form.Form.{Form}
use Rattle.geos_cli.specs.declared.script.Mode.{Mode}
use Rattle.script_commands.proofs.PlainLines.{plain-command, says-nothing}
use Rattle.geos_cli.specs.InForm.{RunsInForm}
use Rattle.script_commands.specs.Names.{Names, Said, first_put_out, names_behind, said_from}
use Rattle.script_commands.specs.Plain.{WritesNone}
use Rattle.geos_cli.specs.Plain.{PlainScriptsRun}
use Rattle.script_commands.specs.Lines.{command_of, commands_from, on_line, said}
use Rattle.geos_cli.specs.WithNames.{RunsLines}

module _ {D : Type 0} (medium : Medium D) (form : Form) (mode : Mode) (image : Parts) where
  -- lines that say something, counted from n on, run as the commands of all, from any names on
  abbrev More : Names → KernelOn D → ℕ → List (List ℕ) → Type 0
  More left later n all =
      (ns : Names) (k : KernelOn D) (t : List ℕ) → RunsLines medium form mode image (said_from n all) ns k left later t
      → RunsInForm medium form mode image (commands_from image n all) k later t

  plain-lines : (names left : Names) (n : ℕ) (all : List (List ℕ)) → AllByRecursion (λ line. WritesNone (said line)) all
      → (kernel later : KernelOn D) (text : List ℕ) → RunsLines medium form mode image (said_from n all) names kernel left later text
      → RunsInForm medium form mode image (commands_from image n all) kernel later text
  plain-lines names left n [] h kernel later text (l, same, none) = (same, none)
  plain-lines names left n (line ∷ all) (own, others) kernel later text runs =
      go (is_empty (said line)) refl (λ ns k t r. plain-lines ns left (n + 1) all others k later t r)
    where
      rest : List Said
      rest = said_from (n + 1) all

      -- the line runs, then the lines after it
      step : More left later (n + 1) all
          → RunsLines medium form mode image (record { number = n; words = said line } ∷ rest) names kernel left later text
          → RunsInForm medium form mode image (commands_from image n (line ∷ all)) kernel later text
      step more (c, between, plain, behind, result, named, ran, goes, others_ran, written) =
          let says : command_of image (said line) ≡ Some c = sym (plain-command image names (without_comment line) own) ∙ named in
          let here : commands_from image n (line ∷ all) ≡ on_line n c ∷ commands_from image (n + 1) all =
          ap (λ o. cons_option (option_map (on_line n) o) (commands_from image (n + 1) all)) says in
          subst (λ cs. RunsInForm medium form mode image cs kernel later text) (sym here) (
            between,
            plain,
            behind,
            result,
            ran,
            goes,
            more (names_behind names (said line) (first_put_out plain)) between behind others_ran,
            written,
          )

      go : (e : Bool) → is_empty (said line) ≡ e → More left later (n + 1) all
          → RunsInForm medium form mode image (commands_from image n (line ∷ all)) kernel later text
      go true e more =
          let skipped : said_from n (line ∷ all) ≡ rest = rw e refl in
          let none : commands_from image n (line ∷ all) ≡ commands_from image (n + 1) all =
          ap (λ o. cons_option (option_map (on_line n) o) (commands_from image (n + 1) all)) (says-nothing image (said line) e) in
          subst (λ cs. RunsInForm medium form mode image cs kernel later text) (sym none)
          (more names kernel text (subst (λ ss. RunsLines medium form mode image ss names kernel left later text) skipped runs))
      go false e more =
          let kept : said_from n (line ∷ all) ≡ record { number = n; words = said line } ∷ rest = rw e refl in
          step more (subst (λ ss. RunsLines medium form mode image ss names kernel left later text) kept runs)

pub plain-runs : {D : Type 0} (medium : Medium D) → PlainScriptsRun medium
plain-runs medium form mode image script kernel later left text plain runs =
    plain-lines medium form mode image [] left 1 (lines script) (recursion_from_All (λ line. WritesNone (said line)) (lines script) plain)
    kernel later text runs
