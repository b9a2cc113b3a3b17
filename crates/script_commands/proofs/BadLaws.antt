-- The first of all bad lines is the first bad line.
use Rattle.std.proofs.Common.{◌≡◌, ◌∙◌, ◌+◌, ℕ, Bool, true, false, ◌&&◌, ◌||◌, if◌then◌else◌, List, [], ◌∷◌, length, Option, Some, None, refl, sym, ap}
use Rattle.std.specs.Prelude.{nat_le, is_none, is_some}
use Rattle.std.specs.List.{position_from}
use Rattle.std.proofs.Common.{append-nil}
use Rattle.geos_image.specs.Parts.{Parts}
use Rattle.script_commands.specs.Lines.{is_bad}
use Rattle.script_commands.specs.Names.{Names, Said, command_in, first_bad_in, is_bad_in, kept_name, most_kept, names_behind}
use Rattle.script_commands.specs.BadLines.{bad_behind, bad_from, first_of, names_kept}

first-if : (bad : Bool) (n : ℕ) (others : List ℕ) (later : Option ℕ) → first_of others ≡ later
    → first_of (if bad then n ∷ others else others) ≡ (if bad then Some n else later)
first-if true n others later e = refl
first-if false n others later e = e

pub first-bad : (image : Parts) (n : ℕ) (lines : List (List ℕ)) → first_of (bad_from image n lines) ≡ position_from (is_bad image) n lines
first-bad image n [] = refl
first-bad image n (line ∷ lines) =
    first-if (is_bad image line) n (bad_from image (n + 1) lines) (position_from (is_bad image) (n + 1) lines) (first-bad image (n + 1) lines)

kept-one : (names : Names) (ws : List (List ℕ)) (name : Option (List ℕ)) (none many : Bool) → name ≡ kept_name ws
    → (none || (is_some name && many)) ≡ false → (if many then names else names_behind names ws (Some 0)) ≡ names_behind names ws (Some 0)
kept-one names ws name none false same good = refl
kept-one names ws None none true same good = rw (sym same) (sym (append-nil names))
kept-one names ws (Some name) true true same good = absurd cc
kept-one names ws (Some name) false true same good = absurd cc

kept-same : (image : Parts) (names : Names) (ws : List (List ℕ)) → is_bad_in image names ws ≡ false
    → names_kept names ws ≡ names_behind names ws (Some 0)
kept-same image names ws good = kept-one names ws (kept_name ws) (is_none (command_in image names ws)) (nat_le most_kept (length names)) refl good

first-else : (bad : Bool) (n : ℕ) (others : List ℕ) (later : Option ℕ) → (bad ≡ false → first_of others ≡ later)
    → first_of (if bad then n ∷ others else others) ≡ (if bad then Some n else later)
first-else true n others later e = refl
first-else false n others later e = e refl

pub first-bad-in : (image : Parts) (names : Names) (lines : List Said) → first_of (bad_behind image names lines) ≡ first_bad_in image names lines
first-bad-in image names [] = refl
first-bad-in image names (line ∷ lines) =
    first-else (is_bad_in image names line.words) line.number (bad_behind image (names_kept names line.words) lines)
    (first_bad_in image (names_behind names line.words (Some 0)) lines)
    (λ good. first-bad-in image (names_kept names line.words) lines ∙ ap (λ k. first_bad_in image k lines) (kept-same image names line.words good))
