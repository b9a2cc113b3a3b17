-- The words of a call, and what its routine borrows.
use Rattle.std.proofs.Common.{◌≡◌, ◌<◌, ◌+◌, ◌∙◌, ℕ, Bool, true, false, List, length, take, Some, refl, sym, ap, subst, arith}
use Rattle.std.specs.Prelude.{nat_lt, slice_get}
use Rattle.std.specs.Borrow.{Bor}
use Rattle.std.proofs.lemmas.List.{length-map, take-map}
use Rattle.geos_image.specs.declared.routine.Routine.{Routine}
use Rattle.geos_image.specs.Parts.{Parts}
use Rattle.geos_verify.specs.Entry.{entry_slots}
use Rattle.script_commands.specs.Lines.{before_blocks}
use Rattle.script_commands.specs.Reading.{texts}
use Rattle.script_commands.proofs.Registers.{before-taken}

-- what a routine's entry row says of slots
pub entry-of : (image : Parts) (r : ℕ) (routine : Routine) → slice_get image.routines r ≡ Some routine → routine.entry.slots ≡ entry_slots image r
entry-of image r routine e = rw (e, entry_slots) refl

-- as many texts as words
pub length-texts : (words : List (Bor (List ℕ))) → length (texts words) ≡ length words
length-texts words = length-map words (λ word. word.now)

-- the numbers before blocks are still followed by none if only the first k are taken
pub taken-texts : (k : ℕ) (numbers : List (Bor (List ℕ))) (ws : List (List ℕ)) → before_blocks ws ≡ texts numbers
    → before_blocks (texts (take k numbers)) ≡ take k (texts numbers)
taken-texts k numbers ws e =
    ap before_blocks (sym (take-map (λ word. word.now) k numbers)) ∙ ap (λ ns. before_blocks (take k ns)) (sym e) ∙ before-taken k ws
    ∙ ap (take k) e

-- what holds below a number, and at it
pub below-more : (P : ℕ → Type 0) (n : ℕ) → ((k : ℕ) → k < n → P k) → P n → (k : ℕ) → k < n + 1 → P k
below-more P n below here k lt = go (nat_lt k n) refl
  where
    go : (b : Bool) → nat_lt k n ≡ b → P k
    go true e = below k (grind (arith, e))
    go false e = let same : n ≡ k = grind (arith, e, lt) in subst P same here
