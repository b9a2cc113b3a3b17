-- No line is found exactly if the text has no fault.
use Rattle.std.proofs.Common.{◌≡◌, ◌∙◌, ◌+◌, ◌≤◌, ◌↔◌, ℕ, List, [], ◌∷◌, ◌++◌, length, map, Option, Some, None, refl, sym, ap, arith, inl, inr, length-append}
use Rattle.std.proofs.lemmas.Bool.{cases_lt}
use Rattle.std.proofs.lemmas.List.{length-map, nil_from_length}
use Rattle.geos_source.specs.declared.fault.Why.{Why}
use Rattle.geos_source.specs.declared.fault.BadLine.{BadLine}
use Rattle.geos_source.specs.Faults.{first, at_line}
use Rattle.geos_source.specs.Tallies.{first_in, fault_in}
use Rattle.geos_source.specs.Texts.{fault_of}
use Rattle.geos_source.proofs.Quiet.{first-none, at_line-none}
use Rattle.geos_lines.specs.Faulty.{AreFaultyLinesOf, IsFound, all_faults, faults_from, listed}
use Rattle.geos_lines.specs.declared.faulty.FaultyLine.{FaultyLine}

-- if no line is found, there are no faults
none-of-none : (all : List BadLine) (lines : List FaultyLine) (more : ℕ) → IsFound all lines more → lines ≡ [] → all ≡ []
none-of-none all lines more found none =
    let empty : length lines ≡ 0 = ap length none in
    let no_more : more ≤ 0 = elim (cases_lt 0 more) [ inl some ↦ absurd (omega (arith, found.full some, empty)) | inr less ↦ less ] in
    let no_others : found.others ≡ [] = nil_from_length found.others (omega (arith, found.so_many, no_more)) in
    found.in_order ∙ ap (λ ls. map (λ (line : FaultyLine). line.fault) ls ++ found.others) none ∙ no_others

-- and if there are no faults, no line is found
no-lines : (all : List BadLine) (lines : List FaultyLine) (more : ℕ) → IsFound all lines more → all ≡ [] → lines ≡ []
no-lines all lines more found none =
    let fault : FaultyLine → BadLine = λ l. l.fault in
    let long = length-append (map fault lines) found.others in
    let each = length-map lines fault in
    let empty : length (map fault lines ++ found.others) ≡ 0 = ap length (sym found.in_order ∙ none) in
    nil_from_length lines (omega (arith, long, each, empty))

none-in : (n : ℕ) (whys : List (Option Why)) → faults_from n whys ≡ [] → first_in n whys ≡ None
none-in n [] e = refl
none-in n (None ∷ whys) e = none-in (n + 1) whys e
none-in n (Some why ∷ whys) e = absurd cc

in-none : (n : ℕ) (whys : List (Option Why)) → first_in n whys ≡ None → faults_from n whys ≡ []
in-none n [] e = refl
in-none n (None ∷ whys) e = in-none (n + 1) whys e
in-none n (Some why ∷ whys) e =
    absurd (let no = at_line-none n (Some why) (first-none (at_line n (Some why)) (first_in (n + 1) whys) e).0 in cc)

none-first : (rest : Option BadLine) (whys : List (Option Why)) → listed rest ++ faults_from 1 whys ≡ [] → first (first_in 1 whys) rest ≡ None
none-first None whys e = ap (λ f. first f None) (none-in 1 whys e)
none-first (Some fault) whys e = absurd cc

first-of-none : (rest : Option BadLine) (whys : List (Option Why)) → first (first_in 1 whys) rest ≡ None → listed rest ++ faults_from 1 whys ≡ []
first-of-none None whys e = in-none 1 whys (first-none (first_in 1 whys) None e).0
first-of-none (Some fault) whys e = absurd (let no = (first-none (first_in 1 whys) (Some fault) e).1 in cc)

-- no line is found exactly if the reader of texts returns no fault
pub found-silent : (text : List ℕ) (lines : List FaultyLine) (more : ℕ) → AreFaultyLinesOf text lines more → (lines ≡ []) ↔ (fault_of text ≡ None)
unfolding fault_in
found-silent text lines more (faults, named, found) = (
  λ none. sym named ∙ none-first faults.rest faults.lines.items (none-of-none (all_faults faults) lines more found none),
  λ reads. no-lines (all_faults faults) lines more found (first-of-none faults.rest faults.lines.items (named ∙ reads)),
)
