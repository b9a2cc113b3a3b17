-- What a stop leaves at any moment of commands or lines that were carried out one after another.
use Rattle.std.proofs.Common.{◌≡◌, ◌<◌, ◌+◌, ℕ, List, [], ◌∷◌, ◌++◌, length, take, drop, get_or, refl, sym, ap, ◌∙◌, subst, inl, inr, append_assoc, append-nil, take-append-drop}
use Rattle.std.specs.Prelude.{◌↔◌, Option, Some, None, Result, Err}
use Rattle.vm_file.specs.Device.{Medium}
use Rattle.geos_terms.specs.declared.refusal.Refusal.{Refusal}
use Rattle.geos_calls.specs.VmFile.{Kept, VmFile}
use Rattle.geos_kernel.specs.View.{KernelOn, IsFileOf}
use Rattle.geos_kernel.proofs.Chosen.{lasts-on}
use Rattle.geos_image.specs.Parts.{Parts}
use Rattle.geos_machine.specs.Runs.{OpensAsOneOf, Throughout}
use Rattle.script_commands.specs.declared.form.Form.{Form}
use Rattle.script_commands.specs.declared.command.Command.{Command}
use Rattle.script_commands.specs.declared.command.Numbered.{Numbered}
use Rattle.script_commands.specs.Names.{Names, Said, command_in, first_put_out, names_behind}
use Rattle.geos_cli.specs.declared.script.Mode.{Mode}
use Rattle.geos_cli.specs.declared.script.Mode.TheVariants.{Lenient}
use Rattle.geos_cli.specs.declared.script.RefusedCommand.{RefusedCommand}
use Rattle.geos_cli.specs.InForm.{EndsAt, LeadsPart, LeadsTo, RunsPlainly}
use Rattle.geos_cli.specs.Script.{Allows, Does, GoesOn, IsAllowed, Leads, Prints, RanCommand, Stage, stage_of}
use Rattle.geos_cli.specs.WithNames.{DoesLines, LeadsLines}
use Rattle.geos_cli.proofs.CommandsRun.{leads-alike, one-left, one-right, ran-alike, ran-more, ran-none, ran-refused, throughout-then}

-- a stop before the first command leaves what the file keeps
abbrev pub Started : {D : Type 0} → Medium D → KernelOn D → Type 0
Started medium kernel = (f : VmFile) → IsFileOf (medium.honest kernel.device) kernel.core f → medium.honest kernel.device
    → Throughout medium kernel.device kernel.device (OpensAsOneOf (f.kept ∷ []))

-- Commands

-- in lenient mode the script continues after each command
prints-lenient : (mode : Mode) (allows : Allows) (image : Parts) (commands : List Numbered) (before after : Stage) (text : List ℕ) (keeps : List Kept)
    → Prints mode allows image commands before after text keeps → Prints Lenient allows image commands before after text keeps
prints-lenient mode allows image [] before after text keeps none = none
prints-lenient mode allows image (here ∷ commands) before after text keeps (between, shown, others, own, rest, result, does, goes, more, e, k) =
    (between, shown, others, own, rest, result, does, tt, prints-lenient mode allows image commands between after others rest more, e, k)

module _ {D : Type 0} (medium : Medium D) (image : Parts) where
  pub leads-none : (mode : Mode) (kernel : KernelOn D) → Started medium kernel → LeadsTo medium mode image [] None kernel kernel
  leads-none mode kernel started =
      let ran = ran-none mode (medium.honest kernel.device) (Throughout medium kernel.device kernel.device) image kernel.core None started in
      (ran.0, ran.1)

  leads-lenient : (mode : Mode) (commands : List Numbered) (kernel later : KernelOn D) → LeadsTo medium mode image commands None kernel later
      → LeadsTo medium Lenient image commands None kernel later
  leads-lenient mode commands kernel later (plain, leads) = (
    plain,
    λ f tied.
        let l = leads f tied in
        record {
          file = l.file;
          tied = l.tied;
          lasts = l.lasts;
          keeps = l.keeps;
          does = (
            l.does.0,
            prints-lenient mode (IsAllowed (medium.honest kernel.device)) image commands (stage_of kernel.core f)
                (stage_of later.core l.file) plain l.does.0 l.does.1,
            l.does.2,
          );
          stops = l.stops;
        },
  )

  module _ (commands : List Numbered) (k : ℕ) (default : Numbered) (kernel mid later : KernelOn D) (in_range : k < length commands)
      (alike : medium.honest mid.device ↔ medium.honest kernel.device) where
    abbrev here : Command
    here = (get_or commands k default).command

    -- the command at k, as it ran plainly, where the first kernel's device is as honest
    plainly : (result : Result (Unit {0}) Refusal) (plain : List ℕ) → RunsPlainly medium image here result mid later plain
        → RanCommand (medium.honest kernel.device) (Throughout medium mid.device later.device) image here result mid.core later.core None None
    plainly result plain (text, leads, appends) =
        ran-alike (medium.honest mid.device) (medium.honest kernel.device) alike (Throughout medium mid.device later.device) image here
        mid.core later.core result None None (text, leads, tt)

    -- one more was carried out
    pub leads-more : (mode : Mode) (result : Result (Unit {0}) Refusal) → GoesOn mode result → (plain : List ℕ)
        → LeadsTo medium mode image (take k commands) None kernel mid → RunsPlainly medium image here result mid later plain
        → LeadsTo medium mode image (take (k + 1) commands) None kernel later
    leads-more mode result goes plain (text, leads) runs =
        let ran = ran-more mode (medium.honest kernel.device) (Throughout medium kernel.device mid.device) (Throughout medium mid.device later.device)
        (Throughout medium kernel.device later.device) (throughout-then medium kernel.device mid.device later.device) image commands k default
        kernel.core mid.core later.core None None None in_range result goes (text, leads, tt) (plainly result plain runs) in
        (ran.0, ran.1)

    -- and refused
    pub leads-refused : (mode : Mode) (refused : RefusedCommand) → refused.line ≡ (get_or commands k default).line
        → (result : Result (Unit {0}) Refusal) → result ≡ Err refused.refusal → (plain : List ℕ)
        → LeadsTo medium mode image (take k commands) None kernel mid → RunsPlainly medium image here result mid later plain
        → LeadsTo medium mode image commands (Some refused) kernel later
    leads-refused mode refused at result is plain (text, leads) runs =
        let ran = ran-refused mode (medium.honest kernel.device) (Throughout medium kernel.device mid.device)
        (Throughout medium mid.device later.device) (Throughout medium kernel.device later.device)
        (throughout-then medium kernel.device mid.device later.device) image commands k default kernel.core mid.core later.core
        None None None in_range refused at result is (text, leads, tt) (plainly result plain runs) in
        (ran.0, ran.1)

    -- or it was not begun, or not shown whole
    pub leads-part : (mode : Mode) (form : Form) (part : List ℕ) → LeadsTo medium mode image (take k commands) None kernel mid
        → EndsAt medium form image here mid later part → LeadsPart medium image commands kernel later
    leads-part mode form part leads (inl (same, none)) =
        subst (λ last. LeadsPart medium image commands kernel last) (sym same)
        (take k commands, drop k commands, sym (take-append-drop k commands), leads-lenient mode (take k commands) kernel mid leads)
    leads-part mode form part leads (inr (result, plain, rest, runs, shown)) = (
      take (k + 1) commands,
      drop (k + 1) commands,
      sym (take-append-drop (k + 1) commands),
      leads-more Lenient result tt plain (leads-lenient mode (take k commands) kernel mid leads) runs,
    )

-- Lines

-- one more line runs its command where the others ended
does-more : (allows : Allows) (image : Parts) (lines : List Said) (names mid : Names) (before between after : Stage) (keeps own : List Kept)
    (last : Said) (command : Command) (result : Result (Unit {0}) Refusal) (plain : List ℕ)
    → DoesLines allows image lines names mid before between keeps → command_in image mid last.words ≡ Some command
    → Does allows image command result between after plain own
    → DoesLines allows image (lines ++ last ∷ []) names (names_behind mid last.words (first_put_out plain)) before after (keeps ++ own)
does-more allows image [] names mid before between after keeps own last command result plain (alike, same, none) named does = (
  command,
  after,
  plain,
  own,
  [],
  result,
  subst (λ n. command_in image n last.words ≡ Some command) alike named,
  subst (λ stage. Does allows image command result stage after plain own) same does,
  (ap (λ n. names_behind n last.words (first_put_out plain)) alike, refl, refl),
  ap (λ ks. ks ++ own) none ∙ sym (append-nil own),
)
does-more allows image (first ∷ lines) names mid before between after keeps own last command result plain
    (mine, next, put, kept, more_kept, came, said, first_does, rest, k) named does = (
      mine,
      next,
      put,
      kept,
      more_kept ++ own,
      came,
      said,
      first_does,
      does-more allows image lines _ mid next between after more_kept own last command result plain rest named does,
      ap (λ ks. ks ++ own) k ∙ append_assoc kept more_kept own,
    )

module _ {D : Type 0} (medium : Medium D) (image : Parts) (kernel : KernelOn D) where
  pub lines-none : Started medium kernel → LeadsLines medium image [] [] kernel kernel
  lines-none started f tied = record {
    file = f;
    tied = tied;
    lasts = λ g. inl refl;
    keeps = f.kept ∷ [];
    does = ([], (refl, refl, refl), refl);
    stops = started f tied;
  }

  -- one more was carried out
  pub lines-more : (lines : List Said) (names : Names) (between later : KernelOn D) → medium.honest between.device ↔ medium.honest kernel.device
      → (last : Said) (command : Command) (result : Result (Unit {0}) Refusal) (plain : List ℕ)
      → LeadsLines medium image lines names kernel between → command_in image names last.words ≡ Some command
      → RunsPlainly medium image command result between later plain
      → LeadsLines medium image (lines ++ last ∷ []) (names_behind names last.words (first_put_out plain)) kernel later
  lines-more lines names between later alike last command result plain leads named (text, runs, appends) f tied =
      let honest = medium.honest kernel.device in
      let earlier = leads f tied in
      let kept = earlier.does.0 in
      let does : Leads (medium.honest between.device) (Throughout medium between.device later.device) between.core later.core
      (λ before after keeps. Does (IsAllowed (medium.honest between.device)) image command result before after plain keeps) =
      subst (λ t. Leads (medium.honest between.device) (Throughout medium between.device later.device) between.core later.core
      (λ before after keeps. Does (IsAllowed (medium.honest between.device)) image command result before after t keeps)) (sym appends) runs in
      let own = leads-alike (medium.honest between.device) honest alike (Throughout medium between.device later.device) image command
      between.core later.core result plain does earlier.file earlier.tied in
      record {
        file = own.file;
        tied = own.tied;
        lasts = lasts-on honest kernel.core between.core later.core earlier.lasts own.lasts;
        keeps = f.kept ∷ (kept ++ own.keeps);
        does = (
          kept ++ own.keeps,
          does-more (IsAllowed honest) image lines [] names (stage_of kernel.core f) (stage_of between.core earlier.file)
              (stage_of later.core own.file) kept own.keeps last command result plain earlier.does.1 named own.does,
          refl,
        );
        stops = λ h. throughout-then medium kernel.device between.device later.device h (OpensAsOneOf earlier.keeps) (OpensAsOneOf own.keeps)
            (OpensAsOneOf (f.kept ∷ (kept ++ own.keeps)))
            (λ x o. one-left (f.kept ∷ kept) own.keeps x (subst (λ ks. OpensAsOneOf ks x) earlier.does.2 o))
            (λ x o. one-right (f.kept ∷ kept) own.keeps x o)
            (earlier.stops h) (own.stops h);
      }
