-- The line of a label says that label.
use Rattle.std.proofs.Common.{◌≡◌, ◌∙◌, ◌<◌, ℕ, ◌-◌, true, cond, ◌==◌, List, [], ◌∷◌, ◌++◌, length, take, get_or, None, refl, sym, ap, append_assoc, arith}
use Rattle.std.specs.Prelude.{codes}
use Rattle.std.specs.List.{list_all}
use Rattle.std.proofs.Math.Seq.{get_or-append_seam, take-append_seam}
use Rattle.std.proofs.lemmas.Bool.{and_from}
use Rattle.std.proofs.lemmas.List.{append-nil, length_push}
use Rattle.std.proofs.lemmas.List.Folds.{list_all-append}
use Rattle.geos_listing.specs.Instrs.{label_of as label_text}
use Rattle.geos_source.specs.Names.{name_of, label_of}
use Rattle.geos_source.specs.Lines.{said, parted, behind_label}
use Rattle.round_trip.proofs.Spaced.{is_said, is_inner, is_word, line-said, said-spaced}
use Rattle.round_trip.proofs.NamesAgain.{label_name, label-again, label-word}

-- the line of a label, without its end
abbrev pub label_line_text : ℕ → List ℕ
label_line_text pc = label_text pc ++ codes ":"

-- a word followed by a colon is the label of this word
label_of-word : (word : List ℕ) → label_of (word ++ codes ":") ≡ name_of word
unfolding label_of
label_of-word word =
    let front : length (word ++ 58 ∷ []) - 1 ≡ length word = omega (arith, length_push word 58) in
    ap (λ n. cond (get_or (word ++ 58 ∷ []) n 0 == 58) (name_of (take n (word ++ 58 ∷ []))) None) front
    ∙ ap (λ b. cond (b == 58) (name_of (take (length word) (word ++ 58 ∷ []))) None) (get_or-append_seam word 58 [] 0)
    ∙ ap name_of (take-append_seam word (58 ∷ []))

label_line-word : (pc : ℕ) → pc < 4096 → is_word (label_line_text pc) ≡ true
label_line-word pc lt =
    list_all-append is_inner (label_text pc) (58 ∷ []) ∙ and_from (list_all is_inner (label_text pc)) true (label-word pc lt) refl

-- it ends no line and begins no comment
pub label_line-said : (pc : ℕ) → pc < 4096 → list_all is_said (label_line_text pc) ≡ true
label_line-said pc lt =
    ap (list_all is_said) (sym (append-nil (label_line_text pc))) ∙ line-said (label_line_text pc) [] (label_line-word pc lt) refl

-- it says the label's name
pub label-said : (pc : ℕ) → pc < 4096 → parted (said (label_line_text pc)) ≡ record { labels = label_name pc ∷ []; statement = [] }
label-said pc lt =
    let word = label_line_text pc in
    ap (λ (line : List ℕ). parted (said line)) (sym (append-nil word))
    ∙ ap parted (said-spaced word [] (label_line-word pc lt) refl)
    ∙ ap (λ found. behind_label found word [] (parted [])) (label_of-word (label_text pc) ∙ label-again pc lt)

-- the line as it is written
pub label_line-written : (pc : ℕ) → label_text pc ++ codes ":\n" ≡ label_line_text pc ++ codes "\n"
label_line-written pc = sym (append_assoc (label_text pc) (codes ":") (codes "\n"))
