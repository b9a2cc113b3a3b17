-- The listing of an image is lines, each with its end.
use Rattle.std.proofs.Common.{◌≡◌, ◌∙◌, ◌<◌, ◌≤◌, ℕ, ◌+◌, Bool, true, false, cond, List, [], ◌∷◌, ◌++◌, length, Some, slice_get, refl, sym, ap, arith}
use Rattle.std.specs.Prelude.{codes}
use Rattle.std.specs.List.{list_all}
use Rattle.std.specs.Option.{option_map_or}
use Rattle.std.specs.Str.Lines.{lines}
use Rattle.std.proofs.lemmas.Bool.{and_from}
use Rattle.std.proofs.lemmas.List.Folds.{list_all-append}
use Rattle.geos_image.specs.declared.row.Row.{Row}
use Rattle.geos_image.specs.declared.routine.Routine.{Routine}
use Rattle.geos_image.specs.declared.point.Point.{Point}
use Rattle.geos_image.specs.Parts.{Parts, start_of}
use Rattle.geos_image.proofs.Starts.{start_of-end}
use Rattle.geos_listing.specs.Rows.{texts_below, row_line}
use Rattle.geos_listing.specs.Instrs.{is_target, label_of as label_text, label_line, instr_line}
use Rattle.geos_listing.specs.Listing.{place_text, routine_text, listing}
use Rattle.geos_listing.proofs.Limits.{item_at}
use Rattle.geos_opcodes.specs.Facts.{word_of}
use Rattle.geos_text.specs.Words.{is_empty}
use Rattle.round_trip.proofs.Spaced.{is_said, is_word, line-said}
use Rattle.round_trip.proofs.InstrLines.{instr_text, instr_line-text, operands-words, word_of-is}
use Rattle.round_trip.proofs.OperandsAgain.{operand_words}
use Rattle.round_trip.proofs.HeadsAgain.{head_words, head_text, head-written, head-words}
use Rattle.round_trip.proofs.RowsAgain.{words_below as lines_below, row_words, IsSound}
use Rattle.round_trip.proofs.RowLines.{row_text, row-words, row_line-text}
use Rattle.round_trip.proofs.LabelLines.{label_line_text, label_line-said, label_line-written}
use Rattle.round_trip.proofs.Ended.{ended, ended-append, one_ended, texts-ended, all_below, lines-ended}
use Rattle.round_trip.proofs.ListedFacts.{IsListed, Facts}

-- the line of a label, where there is one
abbrev pub label_lines : Bool → ℕ → List (List ℕ)
label_lines is pc = cond is (label_line_text pc ∷ []) []

-- the line of the instruction at a pc
abbrev pub instr_lines : Parts → ℕ → List (List ℕ)
instr_lines image pc = option_map_or (λ (point : Point). instr_text image.routines point.instr ∷ []) (slice_get image.points pc) []

-- the lines of the instruction at a pc
abbrev pub place_lines : Parts → ℕ → List (List ℕ)
place_lines image pc = label_lines (is_target image.points pc) pc ++ instr_lines image pc

-- the line of a row, unless it is open
abbrev pub row_lines : List ℕ → Row → List (List ℕ)
row_lines word row = cond (is_empty (row_words row)) [] (row_text word row ∷ [])

-- the lines of a routine
abbrev pub routine_lines : Parts → ℕ → Routine → List (List ℕ)
routine_lines image start r =
    (head_text r ∷ []) ++ row_lines (codes "in") r.entry ++ row_lines (codes "out") r.exit ++ lines_below r.count (λ k. place_lines image (start + k))

-- the lines of the routine at an index
abbrev pub lines_at : Parts → ℕ → List (List ℕ)
lines_at image n = option_map_or (routine_lines image (start_of image.routines n)) (slice_get image.routines n) []

-- the lines of the listing
abbrev pub listing_lines : Parts → List (List ℕ)
listing_lines image = lines_below (length image.routines) (lines_at image)

-- ---- how they are written

label_line-ended : (is : Bool) (pc : ℕ) → cond is (label_text pc ++ codes ":\n") [] ≡ ended (label_lines is pc)
label_line-ended false pc = refl
label_line-ended true pc = label_line-written pc ∙ one_ended (label_line_text pc)

row_line-ended : (word : List ℕ) (row : Row) → IsSound row → row_line word row ≡ ended (row_lines word row)
row_line-ended word row sound = row_line-text word row sound ∙ unless_open (is_empty (row_words row)) (row_text word row)
  where
    unless_open : (none : Bool) (text : List ℕ) → cond none [] (text ++ codes "\n") ≡ ended (cond none [] (text ∷ []))
    unless_open true text = refl
    unless_open false text = one_ended text

place-ended : (image : Parts) (pc : ℕ) → pc < length image.points → place_text image pc ≡ ended (place_lines image pc)
place-ended image pc lt =
    let at = item_at image.points pc lt in
    let point = at.0 in
    let label = label_line image.points pc in
    let front = label_lines (is_target image.points pc) pc in
    ap (λ o. label ++ option_map_or (λ (p : Point). instr_line image.routines p.instr) o []) at.1
    ∙ ap (λ (t : List ℕ). t ++ instr_line image.routines point.instr) (label_line-ended (is_target image.points pc) pc)
    ∙ ap (λ (t : List ℕ). ended front ++ t) (instr_line-text image.routines point.instr ∙ one_ended (instr_text image.routines point.instr))
    ∙ sym (ended-append front (instr_text image.routines point.instr ∷ []))
    ∙ ap (λ o. ended (front ++ option_map_or (λ (p : Point). instr_text image.routines p.instr ∷ []) o [])) (sym at.1)

routine-ended : (image : Parts) (start : ℕ) (r : Routine) → IsListed r → start + r.count ≤ length image.points
    → routine_text image start r ≡ ended (routine_lines image start r)
routine-ended image start r is room =
    let head = head_text r ∷ [] in
    let entry = row_lines (codes "in") r.entry in
    let exit = row_lines (codes "out") r.exit in
    let places = lines_below r.count (λ k. place_lines image (start + k)) in
    let place_texts = texts_below r.count (λ k. place_text image (start + k)) in
    let exit_text = row_line (codes "out") r.exit in
    ap (λ (t : List ℕ). t ++ row_line (codes "in") r.entry ++ exit_text ++ place_texts) (head-written r ∙ one_ended (head_text r))
    ∙ ap (λ (t : List ℕ). ended head ++ t ++ exit_text ++ place_texts) (row_line-ended (codes "in") r.entry is.entry)
    ∙ ap (λ (t : List ℕ). ended head ++ ended entry ++ t ++ place_texts) (row_line-ended (codes "out") r.exit is.exit)
    ∙ ap (λ (t : List ℕ). ended head ++ ended entry ++ ended exit ++ t)
    (texts-ended r.count (λ k. place_text image (start + k)) (λ k. place_lines image (start + k))
    (λ k lt. place-ended image (start + k) (omega (arith, lt, room))))
    ∙ ap (λ (t : List ℕ). t ++ ended exit ++ ended places) (sym (ended-append head entry))
    ∙ ap (λ (t : List ℕ). t ++ ended places) (sym (ended-append (head ++ entry) exit))
    ∙ sym (ended-append (head ++ entry ++ exit) places)

-- a routine's instructions are among those of the image
pub room : (image : Parts) → Facts image → (n : ℕ) (r : Routine) → slice_get image.routines n ≡ Some r
    → start_of image.routines n + r.count ≤ length image.points
room image known n r e = omega (arith, start_of-end image.routines n r e, known.sums)

-- the listing is those lines, each with its end
pub listing-ended : (image : Parts) → Facts image → listing image ≡ ended (listing_lines image)
listing-ended image known =
    texts-ended (length image.routines) (λ n. option_map_or (routine_text image (start_of image.routines n)) (slice_get image.routines n) [])
    (lines_at image) (λ n lt.
    let at = item_at image.routines n lt in
    let start = start_of image.routines n in
    ap (λ o. option_map_or (routine_text image start) o []) at.1
    ∙ routine-ended image start at.0 (known.routine n at.0 at.1) (room image known n at.0 at.1)
    ∙ ap (λ o. ended (option_map_or (routine_lines image start) o [])) (sym at.1))

-- ---- no line has an end in it

abbrev are_said : List (List ℕ) → Bool
are_said ls = list_all (list_all is_said) ls

said-both : (front back : List (List ℕ)) → are_said front ≡ true → are_said back ≡ true → are_said (front ++ back) ≡ true
said-both front back p q = list_all-append (list_all is_said) front back ∙ and_from (are_said front) (are_said back) p q

said-one : (line : List ℕ) → list_all is_said line ≡ true → are_said (line ∷ []) ≡ true
said-one line h = and_from (list_all is_said line) true h refl

said-label : (is : Bool) (pc : ℕ) → pc < 4096 → are_said (label_lines is pc) ≡ true
said-label false pc lt = refl
said-label true pc lt = said-one (label_line_text pc) (label_line-said pc lt)

said-row : (none : Bool) (word : List ℕ) (row : Row) → is_word word ≡ true → IsSound row → are_said (cond none [] (row_text word row ∷ [])) ≡ true
said-row true word row is sound = refl
said-row false word row is sound = said-one (row_text word row) (line-said word (row_words row) is (row-words row sound))

said-place : (image : Parts) (pc : ℕ) → Facts image → pc < length image.points → are_said (place_lines image pc) ≡ true
said-place image pc known lt =
    let at = item_at image.points pc lt in
    let i = at.0.instr in
    let words = operands-words (length image.points) image.routines i known.named known.short (known.instr pc at.0 at.1) in
    let line : list_all is_said (instr_text image.routines i) ≡ true = line-said (word_of i.opcode)
    (operand_words image.routines i) (word_of-is i.opcode).word words in
    let front = label_lines (is_target image.points pc) pc in
    ap (λ o. are_said (front ++ option_map_or (λ (p : Point). instr_text image.routines p.instr ∷ []) o [])) at.1
    ∙ said-both front (instr_text image.routines i ∷ []) (said-label (is_target image.points pc) pc (omega (arith, lt, known.short)))
    (said-one (instr_text image.routines i) line)

said-routine : (image : Parts) (start : ℕ) (r : Routine) → Facts image → IsListed r → start + r.count ≤ length image.points
    → are_said (routine_lines image start r) ≡ true
said-routine image start r known is within =
    let head = head_text r ∷ [] in
    let entry = row_lines (codes "in") r.entry in
    let exit = row_lines (codes "out") r.exit in
    let places = lines_below r.count (λ k. place_lines image (start + k)) in
    let a = said-one (head_text r) (line-said (codes "routine") (head_words r) refl (head-words r is.name is.long is.budget)) in
    let b = said-row (is_empty (row_words r.entry)) (codes "in") r.entry refl is.entry in
    let c = said-row (is_empty (row_words r.exit)) (codes "out") r.exit refl is.exit in
    let d = all_below r.count (λ k. place_lines image (start + k)) (λ k lt. said-place image (start + k) known (omega (arith, lt, within))) in
    said-both (head ++ entry ++ exit) places (said-both (head ++ entry) exit (said-both head entry a b) c) d

listing-said : (image : Parts) → Facts image → are_said (listing_lines image) ≡ true
listing-said image known =
    all_below (length image.routines) (lines_at image) (λ n lt.
    let at = item_at image.routines n lt in
    let start = start_of image.routines n in
    ap (λ o. are_said (option_map_or (routine_lines image start) o [])) at.1
    ∙ said-routine image start at.0 known (known.routine n at.0 at.1) (room image known n at.0 at.1))

-- the lines of the listing
pub listing-lines : (image : Parts) → Facts image → lines (listing image) ≡ listing_lines image
listing-lines image known = ap lines (listing-ended image known) ∙ lines-ended (listing_lines image) (listing-said image known)
