-- What the lines of a listing declare.
use Rattle.std.proofs.Common.{◌≡◌, ◌∙◌, ◌<◌, ◌≤◌, ℕ, zero, suc, ◌+◌, min, Bool, true, false, cond, ◌||◌, nat_lt, List, [], ◌∷◌, ◌++◌, length, Some, None, slice_get, refl, sym, ap, subst, arith}
use Rattle.std.specs.Prelude.{codes, bytes_eq}
use Rattle.std.specs.Option.{option_map_or}
use Rattle.std.specs.List.{list_any}
use Rattle.std.proofs.lemmas.Bool.{eq-eqb, ltb-true, ltb-false}
use Rattle.geos_image.specs.declared.row.Row.{Row}
use Rattle.geos_image.specs.declared.routine.Routine.{Routine}
use Rattle.geos_opcodes.specs.Facts.{limit, word_of}
use Rattle.geos_image.specs.declared.point.Point.{Point}
use Rattle.geos_image.specs.Parts.{Parts, start_of}
use Rattle.geos_image.proofs.Instrs.{is_below}
use Rattle.geos_image.proofs.Starts.{start_of-next, start_of-all}
use Rattle.geos_listing.specs.Instrs.{name_of as name_text, is_target, is_at, target_of, target_if}
use Rattle.geos_listing.proofs.Limits.{item_at}
use Rattle.geos_text.specs.Words.{is_empty}
use Rattle.geos_source.specs.Faults.{first, at_line}
use Rattle.geos_source.specs.Names.{Table, Names, name_of, meant, defined, with_name}
use Rattle.geos_source.specs.Declarations.{Declared, nothing, twice, with_label, with_labels, with_routine_name, one_more_routine, one_more_instr, is_row_word, with_statement, with_line, with_lines, declared}
use Rattle.geos_source.proofs.Quiet.{declared_by}
use Rattle.round_trip.proofs.NamesAgain.{label_name, label-again, name_of-again}
use Rattle.round_trip.proofs.OperandsAgain.{operand_words, StandsFor, HasLabel}
use Rattle.round_trip.proofs.InstrLines.{instr_text, instr-said, word_of-is}
use Rattle.round_trip.proofs.HeadsAgain.{head_text, head-said}
use Rattle.round_trip.proofs.RowsAgain.{words_below as lines_below, row_words, IsSound}
use Rattle.round_trip.proofs.RowLines.{row_text, row-said, IsRowWord, in-is, out-is}
use Rattle.round_trip.proofs.LabelLines.{label_line_text, label-said}
use Rattle.round_trip.proofs.ListedFacts.{IsListed, Facts}
use Rattle.round_trip.proofs.ListingLines.{label_lines, instr_lines, place_lines, row_lines, routine_lines, lines_at, listing_lines, room}
use Rattle.round_trip.proofs.NamesBelow.{table_below, Apart, unknown, known, labels-apart, apart-sym}

-- the name of the routine at an index
abbrev pub name_at : Parts → ℕ → List ℕ
name_at image n = option_map_or (λ (r : Routine). r.name) (slice_get image.routines n) []

abbrev pub each_one : ℕ → Bool
each_one n = true

-- what so many routines and places of the image declare
abbrev pub state : Parts → ℕ → ℕ → Declared
state image n pc =
    record {
      routines = n;
      instrs = pc;
      names = record {
        labels = table_below label_name (is_target image.points) pc;
        routines =
            table_below (name_at image) each_one n;
      };
      fault = None;
    }

-- ---- one line

lines-both : (n : ℕ) (front back : List (List ℕ)) (d : Declared) → with_lines n (front ++ back) d ≡ with_lines
    (n + length front) back (with_lines n front d)
lines-both n [] back d = let same : n ≡ n + 0 = omega arith in ap (λ m. with_lines m back d) same
lines-both n (line ∷ front) back d =
    let same : n + 1 + length front ≡ n + length (line ∷ front) = omega arith in
    lines-both (n + 1) front back (with_line n line d) ∙ ap (λ m. with_lines m back (with_lines (n + 1) front (with_line n line d))) same

-- lines make one state of another, whatever their numbers
abbrev Makes : List (List ℕ) → Declared → Declared → Type 0
Makes ls d e = (n : ℕ) → with_lines n ls d ≡ e

both : (front back : List (List ℕ)) (d e f : Declared) → Makes front d e → Makes back e f → Makes (front ++ back) d f
both front back d e f one two n = lines-both n front back d ∙ ap (with_lines (n + length front) back) (one n) ∙ two (n + length front)

head-line : (n : ℕ) (r : Routine) (d : Declared) → IsListed r → with_line n (head_text r) d ≡ one_more_routine (with_routine_name n (Some r.name) d)
unfolding with_line
head-line n r d is =
    ap (λ p. with_statement n p.statement (with_labels n p.labels d)) (head-said r is.name is.long is.budget)
    ∙ ap (λ name. one_more_routine (with_routine_name n name d)) (name_of-again r.name is.name is.long)

row-line : (n : ℕ) (word : List ℕ) (row : Row) (d : Declared) → IsRowWord word → bytes_eq word (codes "routine") ≡ false → is_row_word word ≡ true → IsSound row → with_line n (row_text word row) d ≡ d
unfolding with_line
row-line n word row d is no_routine is_row sound =
    ap (λ p. with_statement n p.statement (with_labels n p.labels d)) (row-said word row is sound)
    ∙ ap (λ b. cond b (declared_by true false false n (row_words row) d) (cond (is_row_word word) d (one_more_instr d))) no_routine
    ∙ ap (λ b. cond b d (one_more_instr d)) is_row

instr-line : (n : ℕ) (image : Parts) (pc : ℕ) (point : Point) (d : Declared) → Facts image → slice_get image.points pc ≡ Some point
    → with_line n (instr_text image.routines point.instr) d ≡ one_more_instr d
unfolding with_line
instr-line n image pc point d facts e =
    let word = word_of point.instr.opcode in
    let words = operand_words image.routines point.instr in
    let is = word_of-is point.instr.opcode in
    ap (λ p. with_statement n p.statement (with_labels n p.labels d))
    (instr-said (length image.points) image.routines point.instr facts.named facts.short (facts.instr pc point e))
    ∙ ap (λ b. declared_by b (bytes_eq word (codes "in")) (bytes_eq word (codes "out")) n words d) is.no_routine
    ∙ ap (λ b. declared_by false b (bytes_eq word (codes "out")) n words d) is.no_in
    ∙ ap (λ b. declared_by false false b n words d) is.no_out

label-line : (n pc : ℕ) (d : Declared) → pc < 4096 → with_line n (label_line_text pc) d ≡ with_label n (label_name pc) d
unfolding with_line
label-line n pc d lt = ap (λ p. with_statement n p.statement (with_labels n p.labels d)) (label-said pc lt)

-- ---- places

-- the state with an instruction's label, if it has one
abbrev labelled : Parts → Bool → ℕ → ℕ → Table → Declared
labelled image is n pc table =
    record {
      routines = n;
      instrs = pc;
      names = record {
        labels = cond is (with_name table (label_name pc) pc) table;
        routines =
            table_below (name_at image) each_one n;
      };
      fault = None;
    }

label-makes : (image : Parts) (is : Bool) (n pc : ℕ) (table : Table) → pc < 4096 → table (label_name pc) ≡ None
    → Makes (label_lines is pc) (labelled image false n pc table) (labelled image is n pc table)
label-makes image false n pc table lt new k = refl
label-makes image true n pc table lt new k =
    label-line k pc (labelled image false n pc table) lt
    ∙ ap (λ old. record (labelled image true n pc table) { fault = first None (at_line k (twice old)) }) new

instr-makes : (image : Parts) (is : Bool) (n pc : ℕ) (table : Table) → Facts image → pc < length image.points
    → Makes (instr_lines image pc) (labelled image is n pc table) (record (labelled image is n pc table) { instrs = suc pc })
instr-makes image is n pc table facts lt k =
    let at = item_at image.points pc lt in
    let before = labelled image is n pc table in
    let more : min (pc + 1) 4096 ≡ suc pc = omega (arith, lt, facts.short) in
    ap (λ o. with_lines k (option_map_or (λ (p : Point). instr_text image.routines p.instr ∷ []) o []) before) at.1
    ∙ instr-line k image pc at.0 before facts at.1
    ∙ ap (λ m. record before { instrs = m }) more

place-makes : (image : Parts) (n pc : ℕ) → Facts image → pc < length image.points
    → Makes (place_lines image pc) (state image n pc) (state image n (suc pc))
place-makes image n pc facts lt =
    let is = is_target image.points pc in
    let table = table_below label_name (is_target image.points) pc in
    let new = unknown label_name (is_target image.points) (length image.points) pc pc (labels-apart (length image.points) facts.short)
    (omega arith) lt in
    both (label_lines is pc) (instr_lines image pc) (state image n pc) (labelled image is n pc table) (state image n (suc pc))
    (label-makes image is n pc table (omega (arith, lt, facts.short)) new) (instr-makes image is n pc table facts lt)

places-make : (image : Parts) (n start count : ℕ) → Facts image → start + count ≤ length image.points
    → Makes (lines_below count (λ k. place_lines image (start + k))) (state image n start) (state image n (start + count))
places-make image n start zero facts room k = let same : start ≡ start + 0 = omega arith in ap (state image n) same
places-make image n start (suc count) facts room k =
    let same : suc (start + count) ≡ start + suc count = omega arith in
    both (lines_below count (λ j. place_lines image (start + j))) (place_lines image (start + count)) (state image n start)
    (state image n (start + count)) (state image n (suc (start + count)))
    (places-make image n start count facts (omega (arith, room))) (place-makes image n (start + count) facts (omega (arith, room))) k
    ∙ ap (state image n) same

-- ---- routines

apart_by : (image : Parts) (i j : ℕ) (x y : Routine) (less : Bool) → nat_lt i j ≡ less → (i ≡ j → ⊥) → Facts image
    → slice_get image.routines i ≡ Some x → slice_get image.routines j ≡ Some y
    → bytes_eq x.name y.name ≡ false
apart_by image i j x y true e differ facts f g = facts.apart i j x y (ltb-true i j e) f g
apart_by image i j x y false e differ facts f g =
    let le = ltb-false i j e in
    let after : j < i = omega (arith, le, differ) in
    apart-sym y.name x.name (facts.apart j i y x after g f)

names-apart : (image : Parts) → Facts image → Apart (name_at image) (length image.routines)
names-apart image facts i j lt below differ =
    let x = item_at image.routines i lt in
    let y = item_at image.routines j below in
    ap (λ o. bytes_eq (option_map_or (λ (r : Routine). r.name) o []) (name_at image j)) x.1
    ∙ ap (λ o. bytes_eq x.0.name (option_map_or (λ (r : Routine). r.name) o [])) y.1
    ∙ apart_by image i j x.0 y.0 (nat_lt i j) refl differ facts x.1 y.1

name_at-is : (image : Parts) (n : ℕ) (r : Routine) → slice_get image.routines n ≡ Some r → name_at image n ≡ r.name
name_at-is image n r e = ap (λ o. option_map_or (λ (x : Routine). x.name) o []) e

row-makes : (none : Bool) (word : List ℕ) (row : Row) (d : Declared) → IsRowWord word → bytes_eq word (codes "routine") ≡ false → is_row_word word ≡ true → IsSound row
    → Makes (cond none [] (row_text word row ∷ [])) d d
row-makes true word row d is no_routine is_row sound k = refl
row-makes false word row d is no_routine is_row sound k = row-line k word row d is no_routine is_row sound

-- the name that a routine's line declares
abbrev begun : Parts → ℕ → ℕ → List ℕ → Declared
begun image n pc name =
    record {
      routines = suc n;
      instrs = pc;
      names =
          record { labels = table_below label_name (is_target image.points) pc; routines = with_name (table_below (name_at image) each_one n) name n };
      fault = None;
    }

head-makes : (image : Parts) (n pc : ℕ) (r : Routine) → Facts image → slice_get image.routines n ≡ Some r → n < length image.routines
    → Makes (head_text r ∷ []) (state image n pc) (state image (suc n) pc)
head-makes image n pc r facts e lt k =
    let before = state image n pc in
    let table = table_below (name_at image) each_one n in
    let name : name_at image n ≡ r.name = name_at-is image n r e in
    let new : table r.name ≡ None = ap table (sym name) ∙ unknown (name_at image) each_one (length image.routines) n n
    (names-apart image facts) (omega arith) lt in
    let more : min (n + 1) 32 ≡ suc n = omega (arith, lt, facts.few) in
    head-line k r before (facts.routine n r e)
    ∙ ap (λ old. record (begun image n pc r.name) { routines = min (n + 1) 32; fault = first None (at_line k (twice old)) }) new
    ∙ ap (λ m. record (begun image n pc r.name) { routines = m }) more
    ∙ ap (begun image n pc) (sym name)

routine-makes : (image : Parts) (n start : ℕ) (r : Routine) → Facts image → slice_get image.routines n ≡ Some r
    → n < length image.routines → start + r.count ≤ length image.points
    → Makes (routine_lines image start r) (state image n start) (state image (suc n) (start + r.count))
routine-makes image n start r facts e lt within =
    let is = facts.routine n r e in
    let head = head_text r ∷ [] in
    let entry = row_lines (codes "in") r.entry in
    let exit = row_lines (codes "out") r.exit in
    let before = state image n start in
    let begins = state image (suc n) start in
    let a = head-makes image n start r facts e lt in
    let b = row-makes (is_empty (row_words r.entry)) (codes "in") r.entry begins in-is refl refl is.entry in
    let c = row-makes (is_empty (row_words r.exit)) (codes "out") r.exit begins out-is refl refl is.exit in
    both (head ++ entry ++ exit) (lines_below r.count (λ k. place_lines image (start + k))) before begins (state image (suc n) (start + r.count))
    (both (head ++ entry) exit before begins begins (both head entry before begins begins a b) c)
    (places-make image (suc n) start r.count facts within)

routines-make : (image : Parts) (n : ℕ) → Facts image → n ≤ length image.routines
    → Makes (lines_below n (lines_at image)) nothing (state image n (start_of image.routines n))
routines-make image zero facts le k = refl
routines-make image (suc n) facts le k =
    let at = item_at image.routines n (omega (arith, le)) in
    let start = start_of image.routines n in
    let here : Makes (lines_at image n) (state image n start) (state image (suc n) (start_of image.routines (suc n))) =
    λ k. ap (λ o. with_lines k (option_map_or (routine_lines image start) o []) (state image n start)) at.1
    ∙ routine-makes image n start at.0 facts at.1 (omega (arith, le)) (room image facts n at.0 at.1) k
    ∙ ap (state image (suc n)) (sym (start_of-next image.routines n at.0 at.1)) in
    both (lines_below n (lines_at image)) (lines_at image n) nothing (state image n start)
    (state image (suc n) (start_of image.routines (suc n))) (routines-make image n facts (omega (arith, le))) here k

-- the listing declares its labels and its routines' names, each once
pub listing-declared : (image : Parts) → Facts image → declared (listing_lines image) ≡ state image (length image.routines) (length image.points)
listing-declared image facts =
    routines-make image (length image.routines) facts (omega arith) 1
    ∙ ap (state image (length image.routines)) (start_of-all image.routines (length image.routines) (omega arith) ∙ facts.sums)

-- ---- what the names stand for

-- a pc with a label
abbrev pub IsLabel : Parts → ℕ → Type 0
IsLabel image pc = (is_target image.points pc ≡ true) × (pc < length image.points)

-- the names of the listing
abbrev pub names_in : Parts → Names
names_in image = (state image (length image.routines) (length image.points)).names

pub names-stand : (image : Parts) → Facts image → StandsFor image.routines (IsLabel image) (names_in image)
names-stand image facts =
    let routines = (names_in image).routines in
    let labels = (names_in image).labels in
    let most = length image.routines in
    let short = length image.points in
    record {
      routine = λ n lt.
          let at = item_at image.routines n lt in
          let is = facts.routine n at.0 at.1 in
          ap (λ o. meant routines (name_of (option_map_or name_text o []))) at.1
          ∙ ap (meant routines) (name_of-again at.0.name is.name is.long)
          ∙ ap (λ name. defined (routines name)) (sym (name_at-is image n at.0 at.1))
          ∙ ap defined (known (name_at image) each_one most most n (names-apart image facts) lt (omega arith) refl);
      label = λ pc is.
          ap (meant labels) (label-again pc (omega (arith, is.1, facts.short)))
          ∙ ap defined (known label_name (is_target image.points) short short pc (labels-apart short facts.short) is.1 (omega arith) is.0);
    }

any_at : {A : Type 0} (test : A → Bool) (xs : List A) (k : ℕ) (x : A) → slice_get xs k ≡ Some x → test x ≡ true → list_any test xs ≡ true
any_at test [] k x e h = absurd cc
any_at test (y ∷ xs) zero x e h = let same : y ≡ x = cc in ap (λ v. test v || list_any test xs) same ∙ ap (λ b. b || list_any test xs) h
any_at test (y ∷ xs) (suc k) x e h = or_later (test y) (list_any test xs) (any_at test xs k x e h)
  where
    or_later : (a b : Bool) → b ≡ true → (a || b) ≡ true
    or_later true b e = refl
    or_later false b e = e

-- the label that an instruction leads to is one
pub has_label : (image : Parts) (pc : ℕ) (point : Point) → Facts image → slice_get image.points pc ≡ Some point → HasLabel (IsLabel image) point.instr
has_label image pc point facts e is =
    let i = point.instr in
    let below = (is_below (length image.routines) (length image.points) i (facts.instr pc point e)).target in
    let leads : is_at i.target (target_of i) ≡ true = ap (λ kind. is_at i.target (target_if kind i.target)) is ∙ eq-eqb i.target i.target refl in
    let within : i.target < length image.points = subst (λ kind. i.target < limit (length image.routines) (length image.points) kind) is below in
    (any_at (λ (p : Point). is_at i.target (target_of p.instr)) image.points pc point e leads, within)
