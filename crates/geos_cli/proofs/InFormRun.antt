-- Commands whose outputs are printed in a form, one after another.
use Rattle.std.proofs.Common.{◌≡◌, ◌<◌, ◌≤◌, ◌+◌, ℕ, suc, List, [], ◌∷◌, ◌++◌, length, take, drop, get_or, refl, sym, ap, ◌∙◌, subst, inl, inr, append_assoc, append-nil, take-append-drop, drop-cons}
use Rattle.std.specs.Prelude.{◌⊎◌, ◌↔◌, Option, Some, None, Result, Ok, Err, IfErr}
use Rattle.std.specs.Io.KnownBytes.{Appends, Keeps}
use Rattle.std.proofs.KnownBytes.{Appends-kept, Appends-nil, Appends-trans}
use Rattle.std.proofs.lemmas.List.{take_more, take_all}
use Rattle.vm_file.specs.Device.{Medium}
use Rattle.geos_terms.specs.declared.refusal.Refusal.{Refusal}
use Rattle.geos_kernel.specs.View.{KernelOn}
use Rattle.geos_image.specs.Parts.{Parts}
use Rattle.geos_machine.specs.Runs.{Throughout}
use Rattle.geos_input.specs.declared.fault.ScriptFault.{ScriptFault}
use Rattle.geos_input.specs.declared.fault.ScriptFault.TheVariants.{TooLong, BadHex, BadImage, Rejected, BadScript, Read, Write, Memory}
use Rattle.geos_input.specs.Counted.{AppendsPart}
use Rattle.script_commands.specs.declared.form.Form.{Form}
use Rattle.script_commands.specs.declared.command.Command.{Command}
use Rattle.geos_cli.specs.declared.script.Mode.{Mode}
use Rattle.geos_cli.specs.declared.script.Mode.TheVariants.{Strict}
use Rattle.script_commands.specs.declared.command.Numbered.{Numbered}
use Rattle.geos_cli.specs.declared.script.RefusedCommand.{RefusedCommand}
use Rattle.script_commands.specs.Forms.{shown_in}
use Rattle.geos_cli.specs.InForm.{RunsPlainly, RanShown, StoppedNext, StoppedShown, RunsInForm, RefusesInForm, RanInForm, StoppedInForm, RanScriptInForm, StoppedScriptInForm, Leaves}
use Rattle.std.specs.Str.Lines.{lines}
use Rattle.geos_text.specs.Words.{most_bytes}
use Rattle.script_commands.specs.Lines.{commands_of, IsBadLine}
use Rattle.geos_cli.specs.Script.{Loads, GoesOn, RanCommand, StoppedCommand, IsBadImage}
use Rattle.geos_cli.specs.WithNames.{RanNoting}
use Rattle.geos_cli.proofs.WholeRuns.{Started, leads-more, leads-none, leads-part, leads-refused}

-- a command that was stopped while it printed into memory was carried out all the same
pub stopped-plainly : {D : Type 0} (medium : Medium D) (form : Form) (image : Parts) (command : Command)
    (kernel later : KernelOn D) (a b : Option (List ℕ)) (c : Option (List ℕ))
    → StoppedCommand (medium.honest kernel.device) (Throughout medium kernel.device later.device) image command kernel.core later.core b c
    → StoppedShown medium form image command kernel later a a
stopped-plainly medium form image command kernel later a b c (part, rest, result, some, leads, appends) =
    (result, part ++ rest, [], shown_in form image command (part ++ rest), (part ++ rest, leads, refl), refl, Appends-nil a)

-- a command ran, and printed into nothing so far; the text is that in the form
module _ {D : Type 0} (medium : Medium D) (form : Form) (image : Parts) (command : Command) (result : Result (Unit {0}) Refusal)
    (kernel later : KernelOn D)
    (first plain text : List ℕ) (a b : Option (List ℕ)) (empty : first ≡ []) (is : text ≡ shown_in form image command plain)
    (ran : RanCommand (medium.honest kernel.device) (Throughout medium kernel.device later.device) image command
    result kernel.core later.core (Some first) (Some plain)) where
  runs : RunsPlainly medium image command result kernel later plain
  runs = subst (λ f. RanCommand (medium.honest kernel.device) (Throughout medium kernel.device later.device) image
      command result kernel.core later.core (Some f) (Some plain)) empty ran

  -- a writer got it
  pub shown-all : Appends a b text → RanShown medium form image command result kernel later a b
  shown-all appends = (plain, runs, subst (Appends a b) is appends)

  -- or a part of it
  pub shown-part : AppendsPart a b text → StoppedShown medium form image command kernel later a b
  shown-part (part, rest, e, some, appends) = (result, plain, part, rest, runs, sym is ∙ e, appends)

  -- or nothing
  pub shown-none : StoppedShown medium form image command kernel later a a
  shown-none = (result, plain, [], shown_in form image command plain, runs, refl, Appends-nil a)

-- a flush before a command keeps what a writer got
module _ {D : Type 0} (medium : Medium D) (form : Form) (image : Parts) (command : Command) (kernel later : KernelOn D)
    (a b c : Option (List ℕ)) (kept : Keeps a b) where
  behind-flush : (text : List ℕ) → Appends b c text → Appends a c text
  behind-flush text appends = Appends-trans a b c [] text (Appends-kept a a b [] (Appends-nil a) kept) appends

  -- so the command is what it got more
  pub noted-behind : (result : Result (Unit {0}) Refusal) (word : Option ℕ) → RanNoting medium form image command result word kernel later b c
      → RanNoting medium form image command result word kernel later a c
  noted-behind result word (plain, runs, put, appends) = (plain, runs, put, behind-flush (shown_in form image command plain) appends)

  -- or a beginning of it
  pub stopped-behind : StoppedShown medium form image command kernel later b c → StoppedNext medium form image command kernel later a c
  stopped-behind (result, plain, part, rest, runs, parts, appends) = (part, inr (result, plain, rest, runs, parts), behind-flush part appends)

-- where it fails, the command is not begun
pub not-begun : {D : Type 0} (medium : Medium D) (form : Form) (image : Parts) (command : Command) (kernel : KernelOn D)
    (a b : Option (List ℕ)) → Keeps a b → StoppedNext medium form image command kernel kernel a b
not-begun medium form image command kernel a b kept = ([], inl (refl, refl), Appends-kept a a b [] (Appends-nil a) kept)

module _ {D : Type 0} (medium : Medium D) (form : Form) (image : Parts) where
  -- one more command runs after the others
  pub runs-more : (mode : Mode) (commands : List Numbered) (kernel between later : KernelOn D) (text : List ℕ)
      (last : Numbered) (result : Result (Unit {0}) Refusal) (plain : List ℕ)
      → RunsInForm medium form mode image commands kernel between text → RunsPlainly medium image last.command result between later plain
      → GoesOn mode result
      → RunsInForm medium form mode image (commands ++ last ∷ []) kernel later (text ++ shown_in form image last.command plain)
  runs-more mode [] kernel between later text last result plain (same, none) runs goes =
      let shown = shown_in form image last.command plain in (
        later,
        plain,
        [],
        result,
        subst (λ k. RunsPlainly medium image last.command result k later plain) same runs,
        goes,
        (refl, refl),
        ap (λ t. t ++ shown) none ∙ sym (append-nil shown),
      )
  runs-more mode (first ∷ commands) kernel between later text last result plain (next, own, others, came, runs_first, went, rest, e) runs goes =
      let shown = shown_in form image last.command plain in (
        next,
        own,
        others ++ shown,
        came,
        runs_first,
        went,
        runs-more mode commands next between later others last result plain rest runs goes,
        ap (λ t. t ++ shown) e ∙ append_assoc (shown_in form image first.command own) others shown,
      )

  -- before the first command
  pub none-ran : (mode : Mode) (kernel : KernelOn D) (a : Option (List ℕ)) → Started medium kernel
      → RanInForm medium form mode image [] None kernel kernel a a
  none-ran mode kernel a started = ([], (refl, refl), Appends-nil a, leads-none medium image mode kernel started)

  module _ (mode : Mode) (commands : List Numbered) (k : ℕ) (kernel between : KernelOn D) (a b : Option (List ℕ)) where
    -- after the last command, all have run
    pub all-ran : length commands ≤ k → RanInForm medium form mode image (take k commands) None kernel between a b
        → RanInForm medium form mode image commands None kernel between a b
    all-ran past ran = subst (λ cs. RanInForm medium form mode image cs None kernel between a b) (take_all k commands past) ran

    module _ (default : Numbered) (later : KernelOn D) (c : Option (List ℕ)) (in_range : k < length commands)
        (alike : medium.honest between.device ↔ medium.honest kernel.device) where
      abbrev here : Numbered
      here = get_or commands k default

      -- the commands are those before index k, the one at k, and those after it
      split : commands ≡ take k commands ++ (here ∷ drop (suc k) commands)
      split = sym (take-append-drop k commands) ∙ ap (λ cs. take k commands ++ cs) (drop-cons commands k default in_range)

      -- one more command ran, and the script continues
      pub more-ran : (result : Result (Unit {0}) Refusal) → GoesOn mode result
          → RanInForm medium form mode image (take k commands) None kernel between a b
          → RanShown medium form image here.command result between later b c
          → RanInForm medium form mode image (take (k + 1) commands) None kernel later a c
      more-ran result goes (text, runs, appends, leads) (plain, own, shows) =
          let all = runs-more mode (take k commands) kernel between later text here result plain runs own goes in (
            text ++ shown_in form image here.command plain,
            rw (take_more commands k default in_range) all,
            Appends-trans a b c text (shown_in form image here.command plain) appends shows,
            leads-more medium image commands k default kernel between later in_range alike mode result goes plain leads own,
          )

      -- it was refused, and the script does not go on
      pub refused-ran : (refused : RefusedCommand) → mode ≡ Strict → refused.line ≡ here.line → (result : Result (Unit {0}) Refusal)
          → result ≡ Err refused.refusal
          → RanInForm medium form mode image (take k commands) None kernel between a b
          → RanShown medium form image here.command result between later b c
          → RanInForm medium form mode image commands (Some refused) kernel later a c
      refused-ran refused strict at result is (text, runs, appends, leads) (plain, own, shows) =
          let ends : RefusesInForm medium form mode image commands refused kernel later (text ++ shown_in form image here.command plain) = record {
            done = take k commands;
            last = here;
            others = drop (suc k) commands;
            in_order = split;
            line = at;
            between = between;
            earlier = text;
            plain = plain;
            runs = runs;
            refuses = subst (λ r. RunsPlainly medium image here.command r between later plain) is own;
            written = refl;
          } in (
            text ++ shown_in form image here.command plain,
            (strict, ends),
            Appends-trans a b c text (shown_in form image here.command plain) appends shows,
            leads-refused medium image commands k default kernel between later in_range alike mode refused at result is plain leads own,
          )

      -- it was not begun, or the writer failed, or memory was refused, while it was printed
      pub stopped-at : RanInForm medium form mode image (take k commands) None kernel between a b
          → StoppedNext medium form image here.command between later b c
          → StoppedInForm medium form mode image commands kernel later a c
      stopped-at (text, runs, appends, leads) (part, ends, shows) = (
        text ++ part,
        record {
          done = take k commands;
          next = here;
          others = drop (suc k) commands;
          in_order = split;
          between = between;
          earlier = text;
          part = part;
          runs = runs;
          ends = ends;
          written = refl;
        },
        Appends-trans a b c text part appends shows,
        leads-part medium image commands k default kernel between later in_range alike mode form part leads ends,
      )

-- the commands of a script on an image that was loaded
module _ {D : Type 0} (medium : Medium D) (form : Form) (mode : Mode) (bytes script : List ℕ) (image : Parts)
    (kernel later : KernelOn D) (a b : Option (List ℕ))
    (short : length script ≤ most_bytes) (loads : Loads bytes (lines script) image) (items : List Numbered)
    (all : items ≡ commands_of image (lines script)) where
  pub script-ran : (refused : Option RefusedCommand) → RanInForm medium form mode image items refused kernel later a b
      → RanScriptInForm medium form mode bytes script refused kernel later a b
  script-ran refused ran = (image, short, loads, subst (λ cs. RanInForm medium form mode image cs refused kernel later a b) all ran)

  pub script-stopped : StoppedInForm medium form mode image items kernel later a b → StoppedScriptInForm medium form mode bytes script kernel later a b
  script-stopped stopped = (image, short, loads, subst (λ cs. StoppedInForm medium form mode image cs kernel later a b) all stopped)

-- what is left at a fault

pub leaves-kept : (bytes : List ℕ) (fault : ScriptFault) (kept stopped : Type 0) → IsBadImage bytes fault → kept → Leaves fault kept stopped
leaves-kept bytes (BadImage at) kept stopped bad k = k
leaves-kept bytes (Rejected pc rule) kept stopped bad k = k
leaves-kept bytes Memory kept stopped bad k = inl k
leaves-kept bytes TooLong kept stopped bad k = k
leaves-kept bytes (BadHex line) kept stopped bad k = k
leaves-kept bytes (BadScript line) kept stopped bad k = k
leaves-kept bytes Read kept stopped bad k = k
leaves-kept bytes Write kept stopped bad k = absurd bad

pub leaves-bad_line : (image : Parts) (ls : List (List ℕ)) (fault : ScriptFault) (kept stopped : Type 0)
    → IsBadLine image ls fault → kept → Leaves fault kept stopped
leaves-bad_line image ls (BadScript line) kept stopped bad k = k
leaves-bad_line image ls Memory kept stopped bad k = inl k
leaves-bad_line image ls (BadImage at) kept stopped bad k = k
leaves-bad_line image ls (Rejected pc rule) kept stopped bad k = k
leaves-bad_line image ls TooLong kept stopped bad k = k
leaves-bad_line image ls (BadHex line) kept stopped bad k = k
leaves-bad_line image ls Read kept stopped bad k = k
leaves-bad_line image ls Write kept stopped bad k = absurd bad

pub leaves-stopped : (fault : ScriptFault) (kept stopped : Type 0) → (fault ≡ Write) ⊎ (fault ≡ Memory) → stopped → Leaves fault kept stopped
leaves-stopped fault kept stopped (inl is) s = subst (λ f. Leaves f kept stopped) (sym is) s
leaves-stopped fault kept stopped (inr is) s = subst (λ f. Leaves f kept stopped) (sym is) (inr s)

-- so it is of each fault of commands
pub fault-leaves : {A : Type 0} (result : Result A ScriptFault) (kept stopped whole : Type 0) → (stopped → whole)
    → IfErr result (λ fault. (fault ≡ Write) ⊎ (fault ≡ Memory))
    → IfErr result (λ _. stopped) → IfErr result (λ fault. Leaves fault kept whole)
fault-leaves (Ok x) kept stopped whole m which s = tt
fault-leaves (Err e) kept stopped whole m which s = leaves-stopped e kept whole which (m s)
