-- Lines and scripts that write no name.
use Rattle.std.proofs.Common.{◌≡◌, ℕ, ◌+◌, Bool, true, false, ◌||◌, ◌&&◌, List, [], ◌∷◌, ◌++◌, Option, Some, None, refl, sym, ap, ◌∙◌}
use Rattle.std.specs.Prelude.{◌==◌, is_none, option_map, option_and_then, if◌then◌else◌}
use Rattle.std.specs.List.{AllByRecursion, position_from}
use Rattle.std.specs.Str.Lines.{lines}
use Rattle.std.proofs.lemmas.Bool.{eqb-true}
use Rattle.std.proofs.lemmas.List.Elements.{recursion_from_All}
use Rattle.geos_image.specs.Parts.{Parts}
use Rattle.geos_text.specs.Words.{is_empty, without_comment, words}
use Rattle.script_commands.specs.declared.command.Command.{Command}
use Rattle.script_commands.specs.declared.command.Command.TheVariants as command
use Rattle.script_commands.proofs.SpacedWords.{spaced, spaced-again}
use Rattle.script_commands.specs.Names.{Names, begins_name, behind_arrow, command_in, first_bad_in, if_kept, in_place, is_arrow, is_bad_in, names_behind, number_in_place, said_from, word_in_place, writes_name}
use Rattle.script_commands.specs.Plain.{PlainLinesSay, PlainScriptsAreBad, WritesNone}
use Rattle.script_commands.specs.Lines.{command_of, is_bad, said}

none-of : (a b c : Bool) → (a || b || c) ≡ false → (a ≡ false) × (b ≡ false) × (c ≡ false)
none-of false false false e = (refl, refl, refl)
none-of true b c e = absurd cc
none-of false true c e = absurd cc
none-of false false true e = absurd cc

-- a word without `$` in front is as it is
plain-number : (names : Names) (w : List ℕ) → begins_name w ≡ false → number_in_place names w ≡ Some w
plain-number names [] e = refl
plain-number names (b ∷ name) e = rw e refl

-- a word that writes no name is as it is
plain-word : (names : Names) (w : List ℕ) → writes_name w ≡ false → word_in_place names w ≡ Some w
plain-word names [] e = refl
plain-word names (b ∷ rest) e = go (b == 64) refl
  where
    parts : ((b == 36) ≡ false) × ((b == 64 && begins_name rest) ≡ false) × (is_arrow (b ∷ rest) ≡ false)
    parts = none-of (b == 36) (b == 64 && begins_name rest) (is_arrow (b ∷ rest)) e

    go : (at : Bool) → (b == 64) ≡ at → word_in_place names (b ∷ rest) ≡ Some (b ∷ rest)
    go true is =
        let none : begins_name rest ≡ false = sym (ap (λ v. v && begins_name rest) is) ∙ parts.1 in
        let here : word_in_place names (b ∷ rest) ≡ option_map (λ number. 64 ∷ number) (number_in_place names rest) = rw is refl in
        here ∙ ap (option_map (λ number. 64 ∷ number)) (plain-number names rest none) ∙ ap (λ c. Some (c ∷ rest)) (sym (eqb-true b 64 is))
    go false is =
        let here : word_in_place names (b ∷ rest) ≡ number_in_place names (b ∷ rest) = rw is refl in
        here ∙ plain-number names (b ∷ rest) parts.0

plain-arrow : (w : List ℕ) → writes_name w ≡ false → is_arrow w ≡ false
plain-arrow [] e = refl
plain-arrow (b ∷ rest) e = (none-of (b == 36) (b == 64 && begins_name rest) (is_arrow (b ∷ rest)) e).2

-- so are all words of a line
plain-place : (names : Names) (ws : List (List ℕ)) → AllByRecursion (λ w. writes_name w ≡ false) ws → in_place names ws ≡ Some (spaced ws)
plain-place names [] h = refl
plain-place names (w ∷ ws) (own, others) =
    let here : in_place names (w ∷ ws) ≡ option_and_then (λ v. option_map (λ rest. 32 ∷ v ++ rest) (in_place names ws)) (word_in_place names w) =
    rw (plain-arrow w own) refl in
    here ∙ ap (λ o. option_and_then (λ v. option_map (λ rest. 32 ∷ v ++ rest) (in_place names ws)) o) (plain-word names w own)
    ∙ ap (option_map (λ rest. 32 ∷ w ++ rest)) (plain-place names ws others)

plain-behind : (ws : List (List ℕ)) → AllByRecursion (λ w. writes_name w ≡ false) ws → behind_arrow ws ≡ None
plain-behind [] h = refl
plain-behind (w ∷ ws) (own, others) =
    let here : behind_arrow (w ∷ ws) ≡ behind_arrow ws = rw (plain-arrow w own) refl in
    here ∙ plain-behind ws others

-- a command may be on a line without `->`
if_kept-plain : (ws : List (List ℕ)) (o : Option Command) → behind_arrow ws ≡ None → option_and_then (if_kept ws) o ≡ o
if_kept-plain ws None e = refl
if_kept-plain ws (Some (command.Call call)) e = rw e refl
if_kept-plain ws (Some (command.Commit how)) e = rw e refl

-- the command of a line that writes no name
pub plain-command : PlainLinesSay
plain-command image names line none =
    let ws = words line in
    let each = recursion_from_All (λ w. writes_name w ≡ false) ws none in
    ap (λ o. option_and_then (if_kept ws) (option_and_then (λ text. command_of image (words text)) o)) (plain-place names ws each)
    ∙ if_kept-plain ws (command_of image (words (spaced ws))) (plain-behind ws each)
    ∙ ap (command_of image) (spaced-again line)

or-false : (b : Bool) → (b || false) ≡ b
or-false true = refl
or-false false = refl

-- such a line keeps no word, and is bad where it is no command
plain-bad_in : (image : Parts) (names : Names) (line : List ℕ) → WritesNone (words line)
    → is_bad_in image names (words line) ≡ is_none (command_of image (words line))
plain-bad_in image names line none =
    let ws = words line in
    let behind = plain-behind ws (recursion_from_All (λ w. writes_name w ≡ false) ws none) in
    let keeps_none : is_bad_in image names ws ≡ (is_none (command_in image names ws) || false) = rw behind refl in
    keeps_none ∙ or-false (is_none (command_in image names ws)) ∙ ap is_none (plain-command image names line none)

-- a line that says nothing is no command
pub says-nothing : (image : Parts) (ws : List (List ℕ)) → is_empty ws ≡ true → command_of image ws ≡ None
says-nothing image [] e = refl
says-nothing image (w ∷ ws) e = absurd cc

-- the first bad line of those that say something is that of all
plain-first : (image : Parts) (names : Names) (n : ℕ) (all : List (List ℕ)) → AllByRecursion (λ line. WritesNone (said line)) all
    → first_bad_in image names (said_from n all) ≡ position_from (is_bad image) n all
plain-first image names n [] h = refl
plain-first image names n (line ∷ all) (own, others) = go (is_empty (said line)) refl (λ ns. plain-first image ns (n + 1) all others)
  where
    next : Option ℕ
    next = position_from (is_bad image) (n + 1) all

    same : is_bad_in image names (said line) ≡ is_none (command_of image (said line))
    same = plain-bad_in image names (without_comment line) own

    go : (e : Bool) → is_empty (said line) ≡ e → ((ns : Names) → first_bad_in image ns (said_from (n + 1) all) ≡ next)
        → first_bad_in image names (said_from n (line ∷ all)) ≡ position_from (is_bad image) n (line ∷ all)
    go true e more =
        let skipped : said_from n (line ∷ all) ≡ said_from (n + 1) all = rw e refl in
        let good : is_bad image line ≡ false = rw e refl in
        let passed : position_from (is_bad image) n (line ∷ all) ≡ next = rw good refl in
        ap (first_bad_in image names) skipped ∙ more names ∙ sym passed
    go false e more =
        let kept : said_from n (line ∷ all) ≡ record { number = n; words = said line } ∷ said_from (n + 1) all = rw e refl in
        let alike : is_bad image line ≡ is_bad_in image names (said line) = rw e (sym same) in
        let here : position_from (is_bad image) n (line ∷ all) ≡ (if is_bad_in image names (said line) then Some n else next) = rw (sym alike) refl in
        ap (first_bad_in image names) kept
        ∙ ap (λ o. if is_bad_in image names (said line) then Some n else o)
        (more (names_behind names (said line) (Some 0)))
        ∙ sym here

pub plain-first_bad : PlainScriptsAreBad
plain-first_bad image script plain = plain-first image [] 1 (lines script) (recursion_from_All (λ line. WritesNone (said line)) (lines script) plain)
