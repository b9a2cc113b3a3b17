-- What the lines of a listing say, line by line.
use Rattle.std.proofs.Common.{◌≡◌, ◌∙◌, ◌<◌, ◌≤◌, ℕ, zero, suc, ◌+◌, min, Bool, true, false, cond, not, List, [], ◌∷◌, ◌++◌, length, map, take, Option, Some, None, Ok, slice_get, refl, ap, leb-true, arith}
use Rattle.std.specs.Prelude.{codes, bytes_eq, nat_le}
use Rattle.std.specs.Option.{option_map_or}
use Rattle.geos_image.specs.declared.instr.Instr.{Instr}
use Rattle.geos_image.specs.declared.row.Row.{Row}
use Rattle.geos_image.specs.declared.routine.Routine.{Routine}
use Rattle.geos_image.specs.Open.{open_row}
use Rattle.geos_image.specs.declared.point.Point.{Point}
use Rattle.geos_image.specs.Parts.{Parts, instrs_of}
use Rattle.geos_listing.specs.Instrs.{is_target}
use Rattle.geos_listing.proofs.Limits.{item_at}
use Rattle.geos_opcodes.specs.Facts.{word_of}
use Rattle.geos_text.specs.Words.{is_empty}
use Rattle.geos_source.specs.declared.fault.Why.TheVariants.{TooMany}
use Rattle.geos_source.specs.declared.progress.TextRoutine.{TextRoutine}
use Rattle.geos_source.specs.Faults.{least}
use Rattle.geos_source.specs.Texts.{Draft, is_full, outside, in_body, close, begin, drop_labels, take_in, take_out, with_instr, with_instr_at, take_instr, take_labels, take_statement, take_line, take_lines}
use Rattle.geos_source.proofs.Quiet.{taken_by}
use Rattle.geos_source.proofs.PartNames.{TextPart, head, body, in_body-is}
use Rattle.round_trip.proofs.OperandsAgain.{operand_words, instruction-again}
use Rattle.round_trip.proofs.InstrLines.{instr_text, instr-said, word_of-is}
use Rattle.round_trip.proofs.HeadsAgain.{head_text, head-said, begun_as, header-again}
use Rattle.round_trip.proofs.RowsAgain.{words_below as lines_below, row_words, IsSound, row_of-again}
use Rattle.round_trip.proofs.RowLines.{row_text, row-said, in-is, out-is, open-again}
use Rattle.round_trip.proofs.LabelLines.{label_line_text, label-said}
use Rattle.round_trip.proofs.ListedFacts.{IsListed, Facts}
use Rattle.round_trip.proofs.ListingLines.{label_lines, instr_lines, place_lines}
use Rattle.round_trip.proofs.Declaring.{IsLabel, names_in, names-stand, has_label}

-- a routine has begun, no label waits, and there is no fault
abbrev pub drafted : List TextRoutine → List Instr → TextPart → ℕ → Routine → Draft
drafted routines code part line r =
    record {
      routines = routines;
      code = code;
      progress =
          record { part = part; current = Some (record { line = line; routine = r }); waiting = None; fault = None };
    }

-- the same where a label may wait
abbrev awaited : List TextRoutine → List Instr → TextPart → ℕ → Routine → Option ℕ → Draft
awaited routines code part line r waiting =
    record {
      routines = routines;
      code = code;
      progress =
          record { part = part; current = Some (record { line = line; routine = r }); waiting = waiting; fault = None };
    }

module _ (image : Parts) (facts : Facts image) where
  pub takes-both : (n : ℕ) (front back : List (List ℕ)) (t : Draft) → take_lines (names_in image) n (front ++ back)
      t ≡ take_lines (names_in image) (n + length front) back (take_lines (names_in image) n front t)
  takes-both n [] back t = let same : n ≡ n + 0 = omega arith in ap (λ m. take_lines (names_in image) m back t) same
  takes-both n (line ∷ front) back t =
      let names = names_in image in
      let same : n + 1 + length front ≡ n + length (line ∷ front) = omega arith in
      takes-both (n + 1) front back (take_line names n line t)
      ∙ ap (λ m. take_lines names m back (take_lines names (n + 1) front (take_line names n line t))) same

  -- lines make one draft of another, whatever their numbers
  abbrev pub Takes : List (List ℕ) → Draft → Draft → Type 0
  Takes ls t u = (n : ℕ) → take_lines (names_in image) n ls t ≡ u

  pub one_by_one : (front back : List (List ℕ)) (t u v : Draft) → Takes front t u → Takes back u v → Takes (front ++ back) t v
  one_by_one front back t u v one two n = takes-both n front back t ∙ ap (take_lines (names_in image) (n + length front) back) (one n)
      ∙ two (n + length front)

  -- ---- instructions

  not_full : (code : List Instr) (at_most : Bool) → nat_le 4096 (length code) ≡ at_most → length code < 4096 → cond at_most (Some TooMany) None ≡ None
  not_full code false e lt = refl
  not_full code true e lt = let more = leb-true 4096 (length code) e in absurd (omega (arith, more, lt))

  instr-taken : (n pc : ℕ) (point : Point) (routines : List TextRoutine) (code : List Instr) (part : TextPart)
      (line : ℕ) (r : Routine) (waiting : Option ℕ)
      → slice_get image.points pc ≡ Some point → outside part ≡ None → length code < 4096
      → take_line (names_in image) n (instr_text image.routines point.instr) (awaited routines code part line r waiting)
      ≡ drafted routines (code ++ point.instr ∷ []) (in_body part) line (record r { count = min (r.count + 1) 4096 })
  unfolding take_line
  instr-taken n pc point routines code part line r waiting e inside room =
      let names = names_in image in
      let t = awaited routines code part line r waiting in
      let i = point.instr in
      let word = word_of i.opcode in
      let words = operand_words image.routines i in
      let is = word_of-is i.opcode in
      let legal = facts.instr pc point e in
      let full : is_full code ≡ None = not_full code (nat_le 4096 (length code)) refl room in
      ap (λ p. take_statement names n p.statement (record t { progress = take_labels n (not (is_empty p.labels)) t.progress }))
      (instr-said (length image.points) image.routines i facts.named facts.short legal)
      ∙ ap (λ b. taken_by b (bytes_eq word (codes "in")) (bytes_eq word (codes "out")) names n word words t) is.no_routine
      ∙ ap (λ b. taken_by false b (bytes_eq word (codes "out")) names n word words t) is.no_in
      ∙ ap (λ b. taken_by false false b names n word words t) is.no_out
      ∙ ap (λ read. take_instr n read t) (instruction-again (length image.points) image.routines (IsLabel image) names i
      (names-stand image facts) legal (has_label image pc point facts e))
      ∙ ap (λ why. record {
        routines = routines;
        code = with_instr (Ok i) (least why (outside part)) code;
        progress =
            with_instr_at n (least why (outside part)) t.progress;
      }) full
      ∙ ap (λ why. record { routines = routines; code = with_instr (Ok i) why code; progress = with_instr_at n why t.progress }) inside

  label-taken : (n pc : ℕ) (routines : List TextRoutine) (code : List Instr) (part : TextPart) (line : ℕ) (r : Routine) → pc < 4096
      → take_line (names_in image) n (label_line_text pc) (drafted routines code part line r) ≡ awaited routines code part line r (Some n)
  unfolding take_line
  label-taken n pc routines code part line r lt =
      let t = drafted routines code part line r in
      ap (λ p. take_statement (names_in image) n p.statement (record t { progress = take_labels n (not (is_empty p.labels)) t.progress }))
      (label-said pc lt)

  instr-there : (n pc : ℕ) (point : Point) (t : Draft) → slice_get image.points pc ≡ Some point
      → take_lines (names_in image) n (instr_lines image pc) t ≡ take_line (names_in image) n (instr_text image.routines point.instr) t
  instr-there n pc point t e = ap (λ o. take_lines (names_in image) n (option_map_or (λ (p : Point). instr_text image.routines p.instr ∷ []) o []) t)
      e

  place-taken : (is : Bool) (pc : ℕ) (point : Point) (routines : List TextRoutine) (code : List Instr) (part : TextPart) (line : ℕ) (r : Routine)
      → slice_get image.points pc ≡ Some point → pc < 4096 → outside part ≡ None → length code < 4096
      → Takes (label_lines is pc ++ instr_lines image pc) (drafted routines code part line r)
      (drafted routines (code ++ point.instr ∷ []) (in_body part) line (record r { count = min (r.count + 1) 4096 }))
  place-taken false pc point routines code part line r e lt inside room n =
      instr-there n pc point (drafted routines code part line r) e ∙ instr-taken n pc point routines code part line r None e inside room
  place-taken true pc point routines code part line r e lt inside room n =
      ap (take_lines (names_in image) (n + 1) (instr_lines image pc)) (label-taken n pc routines code part line r lt)
      ∙ instr-there (n + 1) pc point (awaited routines code part line r (Some n)) e
      ∙ instr-taken (n + 1) pc point routines code part line r (Some n) e inside room

  -- which part of a routine comes after k of its instructions
  abbrev pub part_behind : TextPart → ℕ → TextPart
  part_behind part zero = part
  part_behind part (suc k) = body

  inside_behind : (part : TextPart) (k : ℕ) → outside part ≡ None → outside (part_behind part k) ≡ None
  inside_behind part zero e = e
  inside_behind part (suc k) e = refl

  one_more : (xs : List Point) (k : ℕ) (x : Point) → slice_get xs k ≡ Some x
      → take k (instrs_of xs) ++ x.instr ∷ [] ≡ take (suc k) (instrs_of xs)
  one_more [] k x e = absurd cc
  one_more (y ∷ xs) zero x e = let same : x ≡ y = cc in ap (λ (p : Point). p.instr ∷ []) same
  one_more (y ∷ xs) (suc k) x e = ap (λ (is : List Instr). y.instr ∷ is) (one_more xs k x e)

  so_many : (xs : List Point) (k : ℕ) (x : Point) → slice_get xs k ≡ Some x → length (take k (instrs_of xs)) ≡ k
  so_many [] k x e = absurd cc
  so_many (y ∷ xs) zero x e = refl
  so_many (y ∷ xs) (suc k) x e = ap suc (so_many xs k x e)

  -- the draft after k instructions of a routine
  abbrev pub behind : List TextRoutine → TextPart → ℕ → Routine → ℕ → ℕ → Draft
  behind routines part line r start k = drafted routines (take (start + k) (instrs_of image.points)) (part_behind part k) line (record r { count = k })

  pub places-taken : (routines : List TextRoutine) (part : TextPart) (line : ℕ) (r : Routine) (start count : ℕ)
      → outside part ≡ None → start + count ≤ length image.points
      → Takes (lines_below count (λ k. place_lines image (start + k))) (behind routines part line r start 0) (behind routines part line r start count)
  places-taken routines part line r start zero inside within n = refl
  places-taken routines part line r start (suc count) inside within n =
      let pc = start + count in
      let at = item_at image.points pc (omega (arith, within)) in
      let is = is_target image.points pc in
      let short = facts.short in
      let there = inside_behind part count inside in
      let long = so_many image.points pc at.0 at.1 in
      let next : suc pc ≡ start + suc count = omega arith in
      let more : min (count + 1) 4096 ≡ suc count = omega (arith, within, short) in
      let before = behind routines part line r start count in
      let made = drafted routines (take pc (instrs_of image.points) ++ at.0.instr ∷ []) (in_body (part_behind part count)) line
      (record r { count = min (count + 1) 4096 }) in
      one_by_one (lines_below count (λ k. place_lines image (start + k))) (place_lines image pc) (behind routines part line r start 0) before made
      (places-taken routines part line r start count inside (omega (arith, within)))
      (place-taken is pc at.0 routines (take pc (instrs_of image.points)) (part_behind part count) line (record r { count = count }) at.1
      (omega (arith, within, short)) there (omega (arith, long, within, short))) n
      ∙ ap (λ code. drafted routines code (in_body (part_behind part count)) line (record r { count = min (count + 1) 4096 }))
      (one_more image.points pc at.0 at.1 ∙ ap (λ m. take m (instrs_of image.points)) next)
      ∙ ap (λ p. drafted routines (take (start + suc count) (instrs_of image.points)) p line (record r { count = min (count + 1) 4096 }))
      (in_body-is (part_behind part count) there)
      ∙ ap (λ m. drafted routines (take (start + suc count) (instrs_of image.points)) body line (record r { count = m })) more

  -- ---- rows

  in-taken : (n : ℕ) (row : Row) (routines : List TextRoutine) (code : List Instr) (begun : ℕ) (has_out : Bool) (line : ℕ) (r : Routine) → IsSound row
      → take_line (names_in image) n (row_text (codes "in") row) (drafted routines code (head begun false has_out) line r) ≡ drafted routines code (head begun true has_out) line (record r { entry = row })
  unfolding take_line
  in-taken n row routines code begun has_out line r sound =
      let t = drafted routines code (head begun false has_out) line r in
      ap (λ p. take_statement (names_in image) n p.statement (record t { progress = take_labels n (not (is_empty p.labels)) t.progress })) (row-said (codes "in") row in-is sound)
      ∙ ap (λ read. record t { progress = take_in n read (drop_labels t.progress) }) (row_of-again row sound)

  out-taken : (n : ℕ) (row : Row) (routines : List TextRoutine) (code : List Instr) (begun : ℕ) (has_in : Bool) (line : ℕ) (r : Routine) → IsSound row
      → take_line (names_in image) n (row_text (codes "out") row) (drafted routines code (head begun has_in false) line r) ≡ drafted routines code (head begun has_in true) line (record r { exit = row })
  unfolding take_line
  out-taken n row routines code begun has_in line r sound =
      let t = drafted routines code (head begun has_in false) line r in
      ap (λ p. take_statement (names_in image) n p.statement (record t { progress = take_labels n (not (is_empty p.labels)) t.progress })) (row-said (codes "out") row out-is sound)
      ∙ ap (λ read. record t { progress = take_out n read (drop_labels t.progress) }) (row_of-again row sound)

  no_words : (words : List (List ℕ)) → is_empty words ≡ true → words ≡ []
  no_words [] e = refl
  no_words (word ∷ words) e = absurd cc

  pub entry-taken : (none : Bool) (row : Row) (routines : List TextRoutine) (code : List Instr) (begun : ℕ) (has_out : Bool) (line : ℕ) (r : Routine)
      → is_empty (row_words row) ≡ none → IsSound row → r.entry ≡ open_row
      → Takes (cond none [] (row_text (codes "in") row ∷ [])) (drafted routines code (head begun false has_out) line r) (drafted routines code (head begun (not none) has_out) line (record r { entry = row }))
  entry-taken true row routines code begun has_out line r e sound blank n =
      ap (λ entry. drafted routines code (head begun false has_out) line (record r { entry = entry }))
      (blank ∙ open-again row sound (no_words (row_words row) e))
  entry-taken false row routines code begun has_out line r e sound blank n = in-taken n row routines code begun has_out line r sound

  pub exit-taken : (none : Bool) (row : Row) (routines : List TextRoutine) (code : List Instr) (begun : ℕ) (has_in : Bool) (line : ℕ) (r : Routine)
      → is_empty (row_words row) ≡ none → IsSound row → r.exit ≡ open_row
      → Takes (cond none [] (row_text (codes "out") row ∷ [])) (drafted routines code (head begun has_in false) line r) (drafted routines code (head begun has_in (not none)) line (record r { exit = row }))
  exit-taken true row routines code begun has_in line r e sound blank n =
      ap (λ exit. drafted routines code (head begun has_in false) line (record r { exit = exit }))
      (blank ∙ open-again row sound (no_words (row_words row) e))
  exit-taken false row routines code begun has_in line r e sound blank n = out-taken n row routines code begun has_in line r sound

  -- ---- the line of a routine

  pub head-taken : (n : ℕ) (r : Routine) (t : Draft) → IsListed r → take_line (names_in image) n (head_text r) t ≡ begin n (Ok (begun_as r)) (close t)
  unfolding take_line
  head-taken n r t is =
      ap (λ p. take_statement (names_in image) n p.statement (record t { progress = take_labels n (not (is_empty p.labels)) t.progress }))
      (head-said r is.name is.long is.budget)
      ∙ ap (λ read. begin n read (close t)) (header-again r is.name is.long is.budget)
