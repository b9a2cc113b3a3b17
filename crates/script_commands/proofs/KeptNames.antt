-- The word that a name stands for, where names are gone through from the last one on.
use Rattle.std.proofs.Common.{◌≡◌, ◌<◌, ℕ, zero, suc, Bool, true, List, [], ◌∷◌, Option, length, drop, ◌∙◌, ap, arith}
use Rattle.std.specs.Prelude.{bytes_eq, if◌then◌else◌, slice_index_or}
use Rattle.script_commands.specs.declared.kept.Kept.{Kept}
use Rattle.script_commands.specs.Names.{names_of, word_behind}

-- the search finds the word of a name if no later name is the same
pub last-under : (name : List ℕ) (ks : List Kept) (n : ℕ) (d e : Kept) → n < length ks
    → ((found : Option ℕ) → word_behind found name (names_of (drop (suc n) ks)) ≡ found)
    → bytes_eq (slice_index_or ks n e).name.now name ≡ true
    → (found : Option ℕ) → word_behind found name (names_of ks) ≡ (slice_index_or ks n d).word
last-under name [] n d e lt none is found = absurd (omega (arith, lt))
last-under name (k ∷ ks) zero d e lt none is found =
    none (if bytes_eq k.name.now name then k.word else found)
    ∙ ap (λ (b : Bool). if b then k.word else found) is
last-under name (k ∷ ks) (suc n) d e lt none is found =
    last-under name ks n d e (omega (arith, lt)) none is (if bytes_eq k.name.now name then k.word else found)
