-- The line that begins a routine is read back.
use Rattle.std.proofs.Common.{◌≡◌, ◌∙◌, ◌<◌, ◌^◌, ℕ, Bool, true, false, List, [], ◌∷◌, ◌++◌, length, Some, None, Ok, refl, sym, ap, append_assoc, arith}
use Rattle.std.specs.Prelude.{codes, decimal}
use Rattle.std.specs.List.{list_all}
use Rattle.std.proofs.lemmas.Bool.{and_from}
use Rattle.std.proofs.lemmas.List.{append-nil}
use Rattle.geos_image.specs.declared.routine.Routine.{Routine}
use Rattle.geos_image.specs.Legal.{is_name}
use Rattle.geos_image.specs.Open.{open_row}
use Rattle.geos_listing.specs.Instrs.{name_of as name_text}
use Rattle.geos_listing.specs.Listing.{public_text, routine_line}
use Rattle.geos_source.specs.Names.{label_of}
use Rattle.geos_source.specs.Lines.{said, parted}
use Rattle.geos_source.specs.Headers.{with_budget, published, header}
use Rattle.round_trip.proofs.Spaced.{is_word, spaced, said-spaced}
use Rattle.round_trip.proofs.NumbersAgain.{numbered-again, decimal-word}
use Rattle.round_trip.proofs.NamesAgain.{name_of-again, name-word}
use Rattle.round_trip.proofs.InstrLines.{parted-statement}

-- the words after a routine's name
abbrev pub budget_words : Bool → ℕ → List (List ℕ)
budget_words false budget = codes "budget" ∷ decimal budget ∷ []
budget_words true budget = codes "public" ∷ codes "budget" ∷ decimal budget ∷ []

-- the words after `routine`
abbrev pub head_words : Routine → List (List ℕ)
head_words r = name_text r ∷ budget_words r.public r.budget

-- the line of a routine, without its end
abbrev pub head_text : Routine → List ℕ
head_text r = codes "routine" ++ spaced (head_words r)

behind-name : (name : List ℕ) (public : Bool) (budget : ℕ) → name ++ public_text public ++ codes " budget " ++ decimal budget ≡ name ++ spaced (budget_words public budget)
behind-name name false budget =
    let end : decimal budget ≡ decimal budget ++ [] = sym (append-nil (decimal budget)) in
    ap (λ (t : List ℕ). t ++ codes " budget " ++ decimal budget) (append-nil name)
    ∙ append_assoc name (codes " budget ") (decimal budget)
    ∙ ap (λ (t : List ℕ). name ++ (codes " budget " ++ t)) end
behind-name name true budget =
    let end : decimal budget ≡ decimal budget ++ [] = sym (append-nil (decimal budget)) in
    append_assoc (name ++ codes " public") (codes " budget ") (decimal budget)
    ∙ append_assoc name (codes " public") (codes " budget " ++ decimal budget)
    ∙ ap (λ (t : List ℕ). name ++ (codes " public" ++ (codes " budget " ++ t))) end

-- a routine's line is written of those words
pub head-written : (r : Routine) → routine_line r ≡ head_text r ++ codes "\n"
head-written r = ap (λ (t : List ℕ). (codes "routine " ++ t) ++ codes "\n") (behind-name (name_text r) r.public r.budget)

budget-words : (public : Bool) (budget : ℕ) → budget < 2 ^ 32 → list_all is_word (budget_words public budget) ≡ true
budget-words false budget long = and_from (is_word (decimal budget)) true (decimal-word budget (omega (arith, long))) refl
budget-words true budget long = and_from (is_word (decimal budget)) true (decimal-word budget (omega (arith, long))) refl

-- the words after `routine` are words
pub head-words : (r : Routine) → is_name r.name ≡ true → length r.name ≡ 16 → r.budget < 2 ^ 32 → list_all is_word (head_words r) ≡ true
head-words r legal long budget =
    and_from (is_word (name_text r)) (list_all is_word (budget_words r.public r.budget)) (name-word r.name legal long)
    (budget-words r.public r.budget budget)

routine-no_label : label_of (codes "routine") ≡ None
unfolding label_of
routine-no_label = refl

-- it says `routine` and those words
pub head-said : (r : Routine) → is_name r.name ≡ true → length r.name ≡ 16 → r.budget < 2 ^ 32
    → parted (said (head_text r)) ≡ record { labels = []; statement = codes "routine" ∷ head_words r }
head-said r legal long budget =
    ap parted (said-spaced (codes "routine") (head_words r) refl (head-words r legal long budget)) ∙ parted-statement (codes "routine") (head_words r) routine-no_label

-- a routine that has no instructions so far, with open rows
abbrev pub begun_as : Routine → Routine
begun_as r = record { name = r.name; public = r.public; count = 0; budget = r.budget; entry = open_row; exit = open_row }

head-read : (name : List ℕ) (public : Bool) (budget : ℕ) → budget < 2 ^ 32
    → published (Some name) (budget_words public budget) ≡ with_budget name public (Ok budget)
head-read name false budget long = ap (with_budget name false) (numbered-again 4294967295 budget (omega (arith, long)) (omega (arith, long)))
head-read name true budget long = ap (with_budget name true) (numbered-again 4294967295 budget (omega (arith, long)) (omega (arith, long)))

-- and these words begin the routine
pub header-again : (r : Routine) → is_name r.name ≡ true → length r.name ≡ 16 → r.budget < 2 ^ 32 → header (head_words r) ≡ Ok (begun_as r)
unfolding header
header-again r legal long budget =
    ap (λ found. published found (budget_words r.public r.budget)) (name_of-again r.name legal long) ∙ head-read r.name r.public r.budget budget
