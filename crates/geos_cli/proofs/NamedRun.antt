-- Lines with names, carried out one after another.
use Rattle.std.proofs.Common.{◌≡◌, ◌<◌, ◌≤◌, ◌+◌, ℕ, suc, List, [], ◌∷◌, ◌++◌, length, map, take, drop, get_or, refl, sym, ap, ◌∙◌, subst, inl, inr, append_assoc, append-nil, take-append-drop, drop-cons}
use Rattle.std.specs.Prelude.{◌↔◌, Bool, true, false, if◌then◌else◌, Option, Some, None, option_and_then, Result, Err, IfSome}
use Rattle.std.specs.Io.KnownBytes.{Appends}
use Rattle.std.proofs.KnownBytes.{Appends-nil, Appends-trans}
use Rattle.std.proofs.lemmas.List.{map-append, take_more, take_all}
use Rattle.vm_file.specs.Device.{Medium}
use Rattle.geos_terms.specs.declared.refusal.Refusal.{Refusal}
use Rattle.geos_kernel.specs.View.{KernelOn}
use Rattle.geos_image.specs.Parts.{Parts}
use Rattle.geos_machine.specs.Runs.{Throughout}
use Rattle.geos_text.specs.Words.{words}
use Rattle.geos_input.specs.declared.fault.ScriptFault.{ScriptFault}
use Rattle.geos_input.specs.declared.fault.ScriptFault.TheVariants.{TooLong, BadHex, BadImage, Rejected, BadScript, Read, Write, Memory}
use Rattle.script_commands.specs.declared.form.Form.{Form}
use Rattle.script_commands.specs.declared.named_lines.Line.{Line}
use Rattle.script_commands.specs.declared.kept.Kept.{Kept}
use Rattle.script_commands.specs.declared.command.Command.{Command}
use Rattle.geos_cli.specs.declared.script.Mode.{Mode}
use Rattle.geos_cli.specs.declared.script.Mode.TheVariants.{Strict}
use Rattle.geos_cli.specs.declared.script.RefusedCommand.{RefusedCommand}
use Rattle.geos_cli.specs.declared.with_names.EarlyEnd.{EarlyEnd}
use Rattle.geos_cli.specs.declared.with_names.EarlyEnd.TheVariants.{Refused, BadLine}
use Rattle.script_commands.specs.Forms.{shown_in}
use Rattle.geos_cli.specs.InForm.{EndsAt, Leaves, RanShown, RunsPlainly, StoppedNext}
use Rattle.script_commands.specs.Names.{Names, Said, command_in, first_put_out, if_kept, in_place, lines_said, may_keep, names_behind, names_of, said_by}
use Rattle.geos_cli.specs.Script.{GoesOn, RanCommand}
use Rattle.script_commands.specs.Lines.{IsAdmitted, command_of}
use Rattle.geos_cli.specs.WithNames.{ComesTo, IsBadNamed, LeadsFirst, LeadsLines, LoadsNamed, RanLines, RanNamedScript, RanNoting, RunsLines, StoppedLines, StoppedNamedScript}
use Rattle.geos_cli.proofs.WholeRuns.{Started, lines-more, lines-none}
use Rattle.script_commands.proofs.Commands.{command_of-admitted}

-- a command ran, and its output buffer was empty before. A writer got the output in the form, and this is the first
-- word that it printed
pub noted : {D : Type 0} (medium : Medium D) (form : Form) (image : Parts) (command : Command) (result : Result (Unit {0}) Refusal)
    (kernel later : KernelOn D)
    (first plain text : List ℕ) (a b : Option (List ℕ)) (word : Option ℕ) → first ≡ [] → text ≡ shown_in form image command plain
    → word ≡ first_put_out plain
    → RanCommand (medium.honest kernel.device) (Throughout medium kernel.device later.device) image command result
    kernel.core later.core (Some first) (Some plain)
    → Appends a b text → RanNoting medium form image command result word kernel later a b
noted medium form image command result kernel later first plain text a b word empty is put ran appends = (
  plain,
  subst (λ f. RanCommand (medium.honest kernel.device) (Throughout medium kernel.device later.device) image command
      result kernel.core later.core (Some f) (Some plain)) empty ran,
  put,
  subst (Appends a b) is appends,
)

-- the word aside, it was shown
pub shown-of : {D : Type 0} (medium : Medium D) (form : Form) (image : Parts) (command : Command)
    (result : Result (Unit {0}) Refusal) (word : Option ℕ) (kernel later : KernelOn D) (a b : Option (List ℕ))
    → RanNoting medium form image command result word kernel later a b → RanShown medium form image command result kernel later a b
shown-of medium form image command result word kernel later a b (plain, runs, put, appends) = (plain, runs, appends)

admitted-if : (image : Parts) (c : Command) (b : Bool) → IsAdmitted image c → IfSome (if b then Some c else None) (IsAdmitted image)
admitted-if image c true h = h
admitted-if image c false h = tt

if_kept-admitted : (image : Parts) (ws : List (List ℕ)) (o : Option Command) → IfSome o (IsAdmitted image)
    → IfSome (option_and_then (if_kept ws) o) (IsAdmitted image)
if_kept-admitted image ws None h = tt
if_kept-admitted image ws (Some c) h = admitted-if image c (may_keep ws c) h

-- the command of a line with names may run
pub command_in-admitted : (image : Parts) (names : Names) (ws : List (List ℕ)) → IfSome (command_in image names ws) (IsAdmitted image)
command_in-admitted image names ws = if_kept-admitted image ws _ (placed-admitted (in_place names ws))
  where
    placed-admitted : (o : Option (List ℕ)) → IfSome (option_and_then (λ line. command_of image (words line)) o) (IsAdmitted image)
    placed-admitted None = tt
    placed-admitted (Some line) = command_of-admitted image (words line)

-- what the names that the program keeps say of a line
pub named-in : (image : Parts) (items others : List Kept) (ws : List (List ℕ)) (o c : Option Command) → others ≡ items
    → o ≡ command_in image (names_of others) ws → o ≡ c
    → command_in image (names_of items) ws ≡ c
named-in image items others ws o c same e is = ap (λ ks. command_in image (names_of ks) ws) (sym same) ∙ sym e ∙ is

pub admitted-named : (image : Parts) (names : Names) (ws : List (List ℕ)) (c : Command) → command_in image names ws ≡ Some c → IsAdmitted image c
admitted-named image names ws c e = subst (λ o. IfSome o (IsAdmitted image)) e (command_in-admitted image names ws)

-- the default for an index beyond the end of a list
abbrev pub any_line : Line
any_line = record { number = 0; text = record { ref_ptr = (0, 0); now = [] } }

module _ {D : Type 0} (medium : Medium D) (form : Form) (mode : Mode) (image : Parts) where
  -- lines ran from no name on to these names, and a writer got their text
  abbrev pub RanSoFar : List Said → Names → KernelOn D → KernelOn D → Option (List ℕ) → Option (List ℕ) → Type 0
  RanSoFar lines names kernel later a b = (text : List ℕ) × RunsLines medium form mode image lines [] kernel names later text × Appends a b text
      × LeadsLines medium image lines names kernel later

  -- one more line runs after the others
  pub runs-more : (lines : List Said) (names mid : Names) (kernel between later : KernelOn D) (text : List ℕ)
      (last : Said) (command : Command) (result : Result (Unit {0}) Refusal) (plain : List ℕ)
      → RunsLines medium form mode image lines names kernel mid between text → command_in image mid last.words ≡ Some command
      → RunsPlainly medium image command result between later plain → GoesOn mode result
      → RunsLines medium form mode image (lines ++ last ∷ []) names kernel (names_behind mid last.words (first_put_out plain)) later
      (text ++ shown_in form image command plain)
  runs-more [] names mid kernel between later text last command result plain (alike, same, none) said runs goes =
      let shown = shown_in form image command plain in (
        command,
        later,
        plain,
        [],
        result,
        subst (λ n. command_in image n last.words ≡ Some command) alike said,
        subst (λ k. RunsPlainly medium image command result k later plain) same runs,
        goes,
        (ap (λ n. names_behind n last.words (first_put_out plain)) alike, refl, refl),
        ap (λ t. t ++ shown) none ∙ sym (append-nil shown),
      )
  runs-more (first ∷ lines) names mid kernel between later text last command result plain
      (own, next, put, others, came, named, runs_first, went, rest, e) said runs goes =
      let shown = shown_in form image command plain in (
        own,
        next,
        put,
        others ++ shown,
        came,
        named,
        runs_first,
        went,
        runs-more lines _ mid next between later others last command result plain rest said runs goes,
        ap (λ t. t ++ shown) e ∙ append_assoc (shown_in form image own put) others shown,
      )

  -- before the first line
  pub none-ran : (kernel : KernelOn D) (a : Option (List ℕ)) → Started medium kernel → RanSoFar [] [] kernel kernel a a
  none-ran kernel a started = ([], (refl, refl, refl), Appends-nil a, lines-none medium image kernel started)

  module _ (lines : List Line) (k : ℕ) (names : Names) (kernel between : KernelOn D) (a b : Option (List ℕ))
      (so_far : RanSoFar (map said_by (take k lines)) names kernel between a b) where
    -- after the last line, all have run
    pub all-ran : length lines ≤ k → RanLines medium form mode image (map said_by lines) None kernel between a b
    all-ran past =
        let whole = subst (λ ls. RanSoFar (map said_by ls) names kernel between a b) (take_all k lines past) so_far in
        (whole.0, (names, whole.1), whole.2, (names, whole.3))

    module _ (default : Line) (in_range : k < length lines) where
      abbrev here : Said
      here = said_by (get_or lines k default)

      -- the one at k is next
      comes : ComesTo medium form mode image (map said_by lines) kernel names between so_far.0 here
      comes = record {
        done = map said_by (take k lines);
        others = map said_by (drop (suc k) lines);
        in_order = ap (map said_by) (sym (take-append-drop k lines) ∙ ap (λ ls. take k lines ++ ls) (drop-cons lines k default in_range))
            ∙ map-append said_by (take k lines) (get_or lines k default ∷ drop (suc k) lines);
        runs = so_far.1;
      }

      -- those before it were carried out
      begun : LeadsFirst medium image (map said_by lines) kernel between
      unfolding comes
      begun = (names, map said_by (take k lines), here ∷ map said_by (drop (suc k) lines), comes.in_order, so_far.3)

      -- it is no command
      pub ended-badly : (n : ℕ) → n ≡ here.number → command_in image names here.words ≡ None
          → RanLines medium form mode image (map said_by lines) (Some (BadLine n)) kernel between a b
      ended-badly n at none = (so_far.0, (names, here, comes, at, none), so_far.2, begun)

      -- it was not begun
      pub not-begun : StoppedLines medium form mode image (map said_by lines) kernel between a b
      not-begun = (
        so_far.0,
        record {
          names = names;
          between = between;
          earlier = so_far.0;
          next = here;
          comes = comes;
          part = [];
          ends =
              inl (refl, refl);
          written = sym (append-nil so_far.0);
        },
        so_far.2,
        begun,
      )

      module _ (command : Command) (named : command_in image names here.words ≡ Some command) (later : KernelOn D) (c : Option (List ℕ))
          (alike : medium.honest between.device ↔ medium.honest kernel.device) where
        -- the line ran after the others
        with-this : (result : Result (Unit {0}) Refusal) (plain : List ℕ) → RunsPlainly medium image command result between later plain
            → LeadsLines medium image (map said_by (take k lines) ++ here ∷ []) (names_behind names here.words (first_put_out plain)) kernel later
        with-this result plain own = lines-more medium image kernel (map said_by (take k lines)) names between later alike here command result plain
            so_far.3 named own

        and-this : (result : Result (Unit {0}) Refusal) (plain : List ℕ) → RunsPlainly medium image command result between later plain
            → LeadsFirst medium image (map said_by lines) kernel later
        unfolding comes
        and-this result plain own = (
          names_behind names here.words (first_put_out plain),
          map said_by (take k lines) ++ here ∷ [],
          map said_by (drop (suc k) lines),
          comes.in_order ∙ sym (append_assoc (map said_by (take k lines)) (here ∷ []) (map said_by (drop (suc k) lines))),
          with-this result plain own,
        )

        -- or not begun
        as-far : (part : List ℕ) → EndsAt medium form image command between later part → LeadsFirst medium image (map said_by lines) kernel later
        as-far part (inl (same, none)) = subst (λ last. LeadsFirst medium image (map said_by lines) kernel last) (sym same) begun
        as-far part (inr (result, plain, rest, runs, shown)) = and-this result plain runs

        -- the line ran, and the script continues
        pub more-ran : (result : Result (Unit {0}) Refusal) (word : Option ℕ) → GoesOn mode result
            → RanNoting medium form image command result word between later b c
            → RanSoFar (map said_by (take (k + 1) lines)) (names_behind names here.words word) kernel later a c
        more-ran result word goes (plain, own, put, shows) =
            let all = runs-more (map said_by (take k lines)) [] names kernel between later so_far.0 here command
            result plain so_far.1 named own goes in
            let same : map said_by (take (k + 1) lines) ≡ map said_by (take k lines) ++ here ∷ [] =
            ap (map said_by) (take_more lines k default in_range) ∙ map-append said_by (take k lines) (get_or lines k default ∷ []) in (
              so_far.0 ++ shown_in form image command plain,
              subst (λ w. RunsLines medium form mode image (map said_by (take (k + 1) lines)) [] kernel
                  (names_behind names here.words w) later (so_far.0 ++ shown_in form image command plain)) (sym put)
                  (subst (λ ls. RunsLines medium form mode image ls [] kernel (names_behind names here.words (first_put_out plain)) later
                  (so_far.0 ++ shown_in form image command plain)) (sym same) all),
              Appends-trans a b c so_far.0 (shown_in form image command plain) so_far.2 shows,
              subst (λ w. LeadsLines medium image (map said_by (take (k + 1) lines)) (names_behind names here.words w) kernel later) (sym put)
                  (subst (λ ls. LeadsLines medium image ls (names_behind names here.words (first_put_out plain)) kernel later) (sym same)
                  (with-this result plain own)),
            )

        -- it was refused, and the script does not go on
        pub refused-ran : (refused : RefusedCommand) → mode ≡ Strict → refused.line ≡ here.number
            → (result : Result (Unit {0}) Refusal) (word : Option ℕ) → result ≡ Err refused.refusal
            → RanNoting medium form image command result word between later b c
            → RanLines medium form mode image (map said_by lines) (Some (Refused refused)) kernel later a c
        refused-ran refused strict at result word is (plain, own, put, shows) = (
          so_far.0 ++ shown_in form image command plain,
          (
            strict,
            record {
              names = names;
              between = between;
              earlier = so_far.0;
              next = here;
              comes = comes;
              line = at;
              command = command;
              named = named;
              plain = plain;
              refuses = subst (λ r. RunsPlainly medium image command r between later plain) is own;
              written = refl;
            },
          ),
          Appends-trans a b c so_far.0 (shown_in form image command plain) so_far.2 shows,
          and-this result plain own,
        )

        -- it was not begun, or the writer failed, or memory was refused, while it was printed
        pub stopped-at : StoppedNext medium form image command between later b c
            → StoppedLines medium form mode image (map said_by lines) kernel later a c
        stopped-at (part, ends, shows) = (
          so_far.0 ++ part,
          record {
            names = names;
            between = between;
            earlier = so_far.0;
            next = here;
            comes = comes;
            part = part;
            ends = inr (command, named, ends);
            written = refl;
          },
          Appends-trans a b c so_far.0 part so_far.2 shows,
          as-far part ends,
        )

        -- an allocation was refused after the line
        pub stopped-behind : (result : Result (Unit {0}) Refusal) (word : Option ℕ)
            → RanNoting medium form image command result word between later b c
            → StoppedLines medium form mode image (map said_by lines) kernel later a c
        stopped-behind result word (plain, own, put, shows) =
            let shown = shown_in form image command plain in
            stopped-at (shown, inr (result, plain, [], own, sym (append-nil shown)), shows)

-- the lines of a script on an image that was loaded
module _ {D : Type 0} (medium : Medium D) (form : Form) (mode : Mode) (bytes script : List ℕ) (image : Parts)
    (kernel later : KernelOn D) (a b : Option (List ℕ))
    (loads : LoadsNamed bytes script image) (items : List Said) (all : items ≡ lines_said script) where
  pub script-ran : (end : Option EarlyEnd) → RanLines medium form mode image items end kernel later a b
      → RanNamedScript medium form mode bytes script end kernel later a b
  script-ran end ran = (image, loads, subst (λ ls. RanLines medium form mode image ls end kernel later a b) all ran)

  pub script-stopped : StoppedLines medium form mode image items kernel later a b → StoppedNamedScript medium form mode bytes script kernel later a b
  script-stopped stopped = (image, loads, subst (λ ls. StoppedLines medium form mode image ls kernel later a b) all stopped)

-- what is left at a fault of the lines
pub leaves-bad_named : (image : Parts) (script : List ℕ) (fault : ScriptFault) (kept stopped : Type 0)
    → IsBadNamed image script fault → kept → Leaves fault kept stopped
leaves-bad_named image script (BadScript line) kept stopped bad k = k
leaves-bad_named image script Memory kept stopped bad k = inl k
leaves-bad_named image script (BadImage at) kept stopped bad k = k
leaves-bad_named image script (Rejected pc rule) kept stopped bad k = k
leaves-bad_named image script TooLong kept stopped bad k = k
leaves-bad_named image script (BadHex line) kept stopped bad k = k
leaves-bad_named image script Read kept stopped bad k = k
leaves-bad_named image script Write kept stopped bad k = absurd bad
