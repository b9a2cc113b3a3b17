-- The lines of a listing are few and short enough for a text.
use Rattle.std.proofs.Common.{◌≡◌, ◌∙◌, ◌<◌, ◌≤◌, ◌^◌, ℕ, zero, suc, ◌+◌, ◌*◌, Bool, true, false, cond, ◌==◌, List, [], ◌∷◌, ◌++◌, length, slice_index, Option, Some, None, sym, ap, subst, arith}
use Rattle.std.specs.Prelude.{codes, decimal, slice_index_or}
use Rattle.std.specs.Option.{option_map_or}
use Rattle.std.proofs.lemmas.Fmt.{length-decimal-le}
use Rattle.std.proofs.lemmas.List.{length-append}
use Rattle.geos_image.specs.declared.row.Row.{Row}
use Rattle.geos_image.specs.declared.row.Pointer.{Pointer}
use Rattle.geos_image.specs.declared.row.SlotState.{SlotState}
use Rattle.geos_image.specs.declared.row.SlotState.TheVariants.{Empty, Mem, Vm, Db}
use Rattle.geos_image.specs.declared.routine.Routine.{Routine}
use Rattle.geos_image.specs.declared.point.Point.{Point}
use Rattle.geos_image.specs.Parts.{Parts, start_of}
use Rattle.geos_image.specs.Ranges.{PointerFits}
use Rattle.geos_image.proofs.Starts.{start_of-next, start_of-all}
use Rattle.geos_listing.specs.Rows.{pair_slots}
use Rattle.geos_listing.specs.Instrs.{name_of as name_text, is_target}
use Rattle.geos_listing.specs.Listing.{listing}
use Rattle.geos_listing.proofs.Limits.{item_at}
use Rattle.geos_text.specs.Words.{is_empty}
use Rattle.round_trip.proofs.Spaced.{spaced}
use Rattle.round_trip.proofs.ItemsAgain.{bound_word}
use Rattle.round_trip.proofs.RowsAgain.{words_below as lines_below, spaced-append, slot_words, pointer_words, pair_words, bounds_of, slots_of, pointers_of, pairs_of, row_words, IsSound}
use Rattle.round_trip.proofs.RowLines.{row_text}
use Rattle.round_trip.proofs.InstrLines.{instr_text}
use Rattle.round_trip.proofs.HeadsAgain.{head_text, budget_words}
use Rattle.round_trip.proofs.LabelLines.{label_line_text}
use Rattle.round_trip.proofs.Ended.{ended, ended-append}
use Rattle.round_trip.proofs.ListedFacts.{IsListed, Facts}
use Rattle.round_trip.proofs.ListingLines.{label_lines, place_lines, row_lines, routine_lines, lines_at, room, listing-ended}
use Rattle.round_trip.proofs.ListingLength.{name-short, instr-short, label-short}

-- ---- rows

words-short : (n : ℕ) (words : ℕ → List (List ℕ)) → ((k : ℕ) → k < n → length (spaced (words k)) ≤ 16)
    → length (spaced (lines_below n words)) ≤ n * 16
words-short zero words each = omega arith
words-short (suc n) words each =
    let ih = words-short n words (λ k lt. each k (omega (arith, lt))) in
    let here = each n (omega arith) in
    let parts = ap length (spaced-append (lines_below n words) (words n)) in
    let sum = length-append (spaced (lines_below n words)) (spaced (words n)) in
    omega (arith, ih, here, parts, sum)

bound-short : (i bound : ℕ) (greatest : Bool) → bound < 2 ^ 16 → length (spaced (cond greatest [] (bound_word i bound ∷ []))) ≤ 16
bound-short i bound true lt = omega arith
bound-short i bound false lt =
    let d = length-decimal-le 5 bound (omega arith) (omega (arith, lt)) (omega (arith, lt)) in
    let sum = length-append (decimal bound) [] in
    omega (arith, d, sum)

slot-short : (i : ℕ) (state : SlotState) → length (spaced (slot_words i state)) ≤ 16
slot-short i Empty = omega arith
slot-short i Mem = omega arith
slot-short i (Vm true true) = omega arith
slot-short i (Vm true false) = omega arith
slot-short i (Vm false true) = omega arith
slot-short i (Vm false false) = omega arith
slot-short i (Db true) = omega arith
slot-short i (Db false) = omega arith

pointer-short : (i : ℕ) (pointer : Option Pointer) → PointerFits pointer → length (spaced (pointer_words i pointer)) ≤ 16
pointer-short i None fits = omega arith
pointer-short i (Some p) fits =
    let d = length-decimal-le 5 p.least (omega arith) (omega (arith, fits)) (omega (arith, fits)) in
    let sum = length-append (decimal p.least) [] in
    omega (arith, d, sum)

pair-short : (pair : ℕ × ℕ) (is : Bool) → length (spaced (pair_words pair is)) ≤ 16
pair-short pair false = omega arith
pair-short pair true = omega arith

row-short : (row : Row) → IsSound row → length (spaced (row_words row)) ≤ 352
row-short row sound =
    let a = lines_below 8 (bounds_of row) in
    let b = lines_below 4 (slots_of row) in
    let c = lines_below 4 (pointers_of row) in
    let d = lines_below 6 (pairs_of row) in
    let sa = words-short 8 (bounds_of row) (λ i lt. bound-short i (slice_index row.bounds i) (slice_index row.bounds i == 65535)
    (sound.bound i lt)) in
    let sb = words-short 4 (slots_of row) (λ i lt. slot-short i (slice_index_or row.slots i Empty)) in
    let sc = words-short 4 (pointers_of row) (λ i lt. pointer-short i (slice_index_or row.pointers i None) (sound.least i lt)) in
    let sd = words-short 6 (pairs_of row) (λ k lt. pair-short (slice_index_or pair_slots k (0, 0)) (slice_index_or row.pairs k false)) in
    let e1 = ap length (spaced-append (a ++ b ++ c) d) ∙ length-append (spaced (a ++ b ++ c)) (spaced d) in
    let e2 = ap length (spaced-append (a ++ b) c) ∙ length-append (spaced (a ++ b)) (spaced c) in
    let e3 = ap length (spaced-append a b) ∙ length-append (spaced a) (spaced b) in
    omega (arith, sa, sb, sc, sd, e1, e2, e3)

-- ---- lines with their ends

one-short : (line : List ℕ) → length (ended (line ∷ [])) ≡ length line + 1
one-short line =
    let a = length-append (line ++ codes "\n") [] in
    let b = length-append line (codes "\n") in
    omega (arith, a, b)

both-short : (front back : List (List ℕ)) → length (ended (front ++ back)) ≡ length (ended front) + length (ended back)
both-short front back = ap length (ended-append front back) ∙ length-append (ended front) (ended back)

row_lines-short : (none : Bool) (word : List ℕ) (row : Row) → length word ≤ 3 → IsSound row
    → length (ended (cond none [] (row_text word row ∷ []))) ≤ 356
row_lines-short true word row short sound = omega arith
row_lines-short false word row short sound =
    let words = row-short row sound in
    let sum = length-append word (spaced (row_words row)) in
    let line = one-short (row_text word row) in
    omega (arith, words, sum, line, short)

label_lines-short : (is : Bool) (pc : ℕ) → pc < 4096 → length (ended (label_lines is pc)) ≤ 7
label_lines-short false pc lt = omega arith
label_lines-short true pc lt =
    let line = one-short (label_line_text pc) in
    let short = label-short pc lt in
    omega (arith, line, short)

place-short : (image : Parts) (pc : ℕ) → Facts image → pc < length image.points → length (ended (place_lines image pc)) ≤ 128
place-short image pc facts lt =
    let at = item_at image.points pc lt in
    let front = label_lines (is_target image.points pc) pc in
    let most = facts.short in
    let label = label_lines-short (is_target image.points pc) pc (omega (arith, lt, most)) in
    let line = one-short (instr_text image.routines at.0.instr) in
    let short = instr-short image facts pc at.0 at.1 in
    let sum = both-short front (instr_text image.routines at.0.instr ∷ []) in
    let all : length (ended (front ++ instr_text image.routines at.0.instr ∷ [])) ≤ 128 = omega (arith, label, line, short, sum) in
    subst (λ o. length (ended (front ++ option_map_or (λ (p : Point). instr_text image.routines p.instr ∷ []) o [])) ≤ 128) (sym at.1) all

places-short : (image : Parts) (start count : ℕ) → Facts image → start + count ≤ length image.points
    → length (ended (lines_below count (λ k. place_lines image (start + k)))) ≤ count * 128
places-short image start zero facts within = omega arith
places-short image start (suc count) facts within =
    let ih = places-short image start count facts (omega (arith, within)) in
    let here = place-short image (start + count) facts (omega (arith, within)) in
    let sum = both-short (lines_below count (λ k. place_lines image (start + k))) (place_lines image (start + count)) in
    omega (arith, ih, here, sum)

budget-short : (public : Bool) (budget : ℕ) → budget < 2 ^ 32 → length (spaced (budget_words public budget)) ≤ 25
budget-short false budget lt =
    let d = length-decimal-le 10 budget (omega arith) (omega (arith, lt)) (omega (arith, lt)) in
    let sum = length-append (decimal budget) [] in
    omega (arith, d, sum)
budget-short true budget lt =
    let d = length-decimal-le 10 budget (omega arith) (omega (arith, lt)) (omega (arith, lt)) in
    let sum = length-append (decimal budget) [] in
    omega (arith, d, sum)

routine-short : (image : Parts) (start : ℕ) (r : Routine) → Facts image → IsListed r → start + r.count ≤ length image.points
    → length (ended (routine_lines image start r)) ≤ 1024 + r.count * 128
routine-short image start r facts is within =
    let head = head_text r ∷ [] in
    let entry = row_lines (codes "in") r.entry in
    let exit = row_lines (codes "out") r.exit in
    let places = lines_below r.count (λ k. place_lines image (start + k)) in
    let name = name-short r is.long in
    let budget = budget-short r.public r.budget is.budget in
    let words = length-append (name_text r) (spaced (budget_words r.public r.budget)) in
    let line = one-short (head_text r) in
    let a = row_lines-short (is_empty (row_words r.entry)) (codes "in") r.entry (omega arith) is.entry in
    let b = row_lines-short (is_empty (row_words r.exit)) (codes "out") r.exit (omega arith) is.exit in
    let c = places-short image start r.count facts within in
    let e1 = both-short (head ++ entry ++ exit) places in
    let e2 = both-short (head ++ entry) exit in
    let e3 = both-short head entry in
    omega (arith, name, budget, words, line, a, b, c, e1, e2, e3)

routines-short : (image : Parts) (n : ℕ) → Facts image → n ≤ length image.routines
    → length (ended (lines_below n (lines_at image))) ≤ n * 1024 + start_of image.routines n * 128
routines-short image zero facts le = omega arith
routines-short image (suc n) facts le =
    let at = item_at image.routines n (omega (arith, le)) in
    let start = start_of image.routines n in
    let ih = routines-short image n facts (omega (arith, le)) in
    let here = subst (λ o. length (ended (option_map_or (routine_lines image start) o [])) ≤ 1024 + at.0.count * 128)
    (sym at.1) (routine-short image start at.0 facts (facts.routine n at.0 at.1) (room image facts n at.0 at.1)) in
    let next = start_of-next image.routines n at.0 at.1 in
    let sum = both-short (lines_below n (lines_at image)) (lines_at image n) in
    omega (arith, ih, here, next, sum)

-- the listing is not too long for a text
pub listing-short : (image : Parts) → Facts image → length (listing image) ≤ 1048576
listing-short image facts =
    let n = length image.routines in
    let all = routines-short image n facts (omega arith) in
    let end : start_of image.routines n ≡ length image.points = start_of-all image.routines n (omega arith) ∙ facts.sums in
    let same = ap length (listing-ended image facts) in
    let few = facts.few in
    let short = facts.short in
    omega (arith, all, end, same, few, short)
