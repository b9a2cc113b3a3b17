-- No image is accepted where more steps are taken on some way than a potential can say, and words are as much as they may be in each.
use Rattle.std.proofs.Common.{◌≡◌, ◌≤◌, ◌<◌, ℕ, ◌+◌, Bool, List, length, map, Option, Some, None, slice_get, refl, sym, ap, ◌∙◌, subst, arith}
use Rattle.std.specs.Prelude.{option_map}
use Rattle.std.proofs.lemmas.Option.{same_Some, none-some, slice_get-map, get_or_from_slice_get}
use Rattle.geos_image.specs.declared.row.Row.{Row}
use Rattle.geos_image.specs.declared.routine.Routine.{Routine}
use Rattle.geos_image.specs.Parts.{Parts, start_of}
use Rattle.geos_verify.specs.declared.place.Place.{Place as Known}
use Rattle.geos_verify.specs.Places.{places}
use Rattle.geos_verify.specs.Rows.{bound}
use Rattle.geos_verify.proofs.Places.{item_at}
use Rattle.geos_verify.proofs.RowsFit.{fits-refl, fits-trans}
use Rattle.geos_verify.specs.Potentials.{dot}
use Rattle.geos_code.specs.Code.{IsPcOf, edge_row}
use Rattle.geos_code.specs.Known.{row_of, known_at, clean}
use Rattle.geos_counters.specs.Counters.{zeros}
use Rattle.geos_rows.specs.Reached.{EdgeFits, FitWhereReached, AreAtMostAny}
use Rattle.geos_rows.specs.Solutions.{RowsHoldIn}
use Rattle.geos_infer.specs.Refusals.{NoneIsAcceptedPast}
use Rattle.loop_causes.specs.Taken.{StepsPass, WordsPass, word_at}
use Rattle.geos_potentials.specs.Accepted.{HasAccepted}
use Rattle.geos_potentials.proofs.Asks.{zero-at}
use Rattle.geos_code.proofs.Cleaning.{clean-least}
use Rattle.geos_code.proofs.Ends.{edge-mono}
use Rattle.geos_rows.proofs.Reaching.{reached-within}
use Rattle.geos_infer.proofs.Refused.{dot-zeros, instr-paid, way-value, begins-in}
use Rattle.geos_potentials.proofs.Accepted.{point-of, four-at}
use Rattle.geos_rows.proofs.Strong.{least-bound}
use Rattle.geos_infer.proofs.Wanted.{row_at, rows-wanted}

abbrev known_row : Known → Option Row
known_row place = Some place.row

-- The rows of an image that is accepted

module _ (image : Parts) (has : HasAccepted image) (r : ℕ) (routine : Routine) (there : slice_get has.other.routines r ≡ Some routine)
    (some : start_of image.routines r < start_of image.routines (r + 1)) where
  abbrev accepted : List (Option Row)
  accepted = map known_row (places has.other)

  rows-hold : RowsHoldIn image r (map row_at (places has.other))
  rows-hold = rows-wanted image has.other has.same has.checked r routine
      (subst (λ (routines : List Routine). slice_get routines r ≡ Some routine) has.same.routines there)

  known-here : (pc : ℕ) (point : Known) → slice_get (places has.other) pc ≡ Some point → known_at accepted pc ≡ Some point.row
  known-here pc point at = get_or_from_slice_get accepted pc (Some point.row) None
      (slice_get-map known_row (places has.other) pc ∙ ap (option_map known_row) at)

  row-here : (pc : ℕ) (point : Known) → slice_get (places has.other) pc ≡ Some point → slice_get (map row_at (places has.other)) pc ≡ Some point.row
  row-here pc point at = slice_get-map row_at (places has.other) pc ∙ ap (option_map row_at) at

  -- the row after an edge fits the one where it leads
  edge-fits : (pc : ℕ) (branch : Bool) → IsPcOf image r pc → EdgeFits image r accepted pc branch
  edge-fits pc branch within = λ to i row edge inside e.
      let here = point-of image has r routine there pc within in
      let next = point-of image has r routine there to inside in
      let same : here.0.row ≡ row = same_Some here.0.row row (sym (known-here pc here.0 here.1.read) ∙ e) in
      let at = subst (λ (x : Row). slice_get (map row_at (places has.other)) pc ≡ Some x) same (row-here pc here.0 here.1.read) in
      let cleaned = (clean-least row).least row (fits-refl row) (rows-hold.clean pc row within at) in
      record {
        known_row = next.0.row;
        read = known-here to next.0 next.1.read;
        fits = fits-trans (edge_row image i branch (clean row)) (edge_row image i branch row) next.0.row
            (edge-mono image i branch (clean row) row cleaned)
            (rows-hold.edges pc to branch i row next.0.row within edge at (row-here to next.0 next.1.read));
      }

  -- they hold wherever control reaches
  accepted-fit : FitWhereReached image r accepted
  accepted-fit = record {
    entry = λ first is.
        let begins : IsPcOf image r (start_of image.routines r) = record { above = omega arith; below = some } in
        let point = point-of image has r routine there (start_of image.routines r) begins in
        record {
          known_row = point.0.row;
          read = known-here (start_of image.routines r) point.0 point.1.read;
          fits = rows-hold.entry first point.0.row is (row-here (start_of image.routines r) point.0 point.1.read);
        };
    edges = λ pc branch reached. edge-fits pc branch (reached-within image r some reached.edges pc reached.lead);
    there = λ pc reached.
        let point = point-of image has r routine there pc (reached-within image r some reached.edges pc reached.lead) in
        (point.0.row, known-here pc point.0 point.1.read);
  }

  -- by rows that none that hold are stronger than, words are no more
  word-most : (rows : List (Option Row)) → AreAtMostAny image r rows → (pc : ℕ) (point : Known) → IsPcOf image r pc
      → slice_get (places has.other) pc ≡ Some point → (word : ℕ) → word_at rows pc word ≤ bound point.row word
  word-most rows least pc point within at word = by_row (known_at rows pc) refl
    where
      by_row : (o : Option Row) → known_at rows pc ≡ o → elim o [ None ↦ 0 | Some row ↦ bound row word ] ≤ bound point.row word
      by_row None e = omega arith
      by_row (Some row) e =
          let more = least-bound accepted pc row word (least accepted accepted-fit pc row within e).1 in
          let same = known-here pc point at in
          subst (λ (o : Option Row). bound row word ≤ bound (row_of o) word) same more

-- Ways

-- where no row is known, none that hold are stronger
pub words-none : (image : Parts) (r : ℕ) → StepsPass image r → WordsPass image r
words-none image r passes = (passes.0, (λ known F pc row within e. absurd (none-some row (sym (passes.1 pc) ∙ e))), passes.2)

pub none-accepted-past : NoneIsAcceptedPast
none-accepted-past image r lt words has =
    let rows = words.0 in
    let past = words.2 in
    let there = item_at has.other.routines r (subst (λ (routines : List Routine). r < length routines) (sym has.same.routines) lt) in
    let begins = begins-in image has r there.0 there.1 rows (record { pc = past.from; counters = zeros }) past.end
    past.places past.before past.way past.ends in
    let above = begins.above in
    let below = begins.below in
    let most = word-most image has r there.0 there.1 (omega arith) rows words.1 in
    let first = point-of image has r there.0 there.1 past.from begins in
    let last = way-value image has r there.0 there.1 rows most (record { pc = past.from; counters = zeros }) past.end past.places
    past.before first.0 first.1 past.way in
    let paid = instr-paid image has r there.0 there.1 past.end.pc last.0 last.1 in
    let none : dot first.0.potential.coefficients zeros ≡ 0 = dot-zeros first.0.potential.coefficients zeros zero-at in
    let long = (four-at image has r there.0 there.1 past.from first.0 first.1.read).constant in
    let before = last.2 in
    let more = past.past in
    absurd (omega arith)
