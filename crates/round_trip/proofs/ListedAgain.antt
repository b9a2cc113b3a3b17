-- The text that lists an image has its code.
use Rattle.std.proofs.Common.{◌≡◌, ◌∙◌, ◌<◌, ◌≤◌, ℕ, zero, suc, ◌+◌, Bool, true, false, cond, not, List, [], ◌∷◌, ◌++◌, length, map, take, Some, None, Result, Ok, Err, Vec, slice_get, refl, sym, ap, subst, leb-true, arith}
use Rattle.std.specs.Prelude.{codes, nat_le, IfOk, OnOk}
use Rattle.std.specs.List.{All}
use Rattle.std.specs.Option.{option_map_or}
use Rattle.std.proofs.lemmas.Bool.{le-ltb}
use Rattle.std.proofs.lemmas.List.{length-map, length-take, take_all}
use Rattle.geos_image.specs.declared.routine.Routine.{Routine}
use Rattle.geos_image.specs.Legal.{is_image}
use Rattle.geos_image.specs.Ranges.{RoutineFits}
use Rattle.geos_image.specs.declared.point.Point.{Point}
use Rattle.geos_image.specs.Parts.{Parts, instrs_of, start_of}
use Rattle.geos_image.proofs.Starts.{start_of-next, start_of-all}
use Rattle.geos_listing.specs.Listing.{listing}
use Rattle.geos_listing.proofs.Limits.{item_at}
use Rattle.geos_text.specs.Words.{is_empty}
use Rattle.geos_source.specs.declared.fault.Why.TheVariants.{TooMany}
use Rattle.geos_source.specs.declared.progress.TextRoutine.{TextRoutine}
use Rattle.geos_source.specs.Skeletons.{routine_of}
use Rattle.geos_source.specs.Faults.{first, at_line}
use Rattle.geos_source.specs.Declarations.{declared}
use Rattle.geos_source.specs.Texts.{Draft, blank, no_room, close, begin, begun_by, unfilled, without_routine, too_long, draft_of, take_lines}
use Rattle.geos_source.proofs.PartNames.{TextPart, head, body}
use Rattle.geos_source.proofs.Pushed.{routines-push}
use Rattle.geos_source.proofs.TextLaws.{fault_by, code_of-found}
use Rattle.geos_source.specs.Coded.{IsTextOf}
use Rattle.round_trip.proofs.HeadsAgain.{begun_as}
use Rattle.round_trip.proofs.RowsAgain.{words_below as lines_below, row_words}
use Rattle.round_trip.proofs.ListedFacts.{Facts, facts}
use Rattle.round_trip.proofs.ListingLines.{row_lines, place_lines, routine_lines, lines_at, listing_lines, room, listing-lines}
use Rattle.round_trip.proofs.Declaring.{state, names_in, listing-declared}
use Rattle.round_trip.proofs.ListingShort.{listing-short}
use Rattle.round_trip.proofs.Drafting.{drafted, takes-both, one_by_one, part_behind, behind, places-taken, entry-taken, exit-taken, head-taken}

-- the draft between routines, of which so many are complete
record Between (image : Parts) (n : ℕ) (t : Draft) : Type 0 where
  routines : map routine_of (close t).routines ≡ take n image.routines
  code : t.code ≡ take (start_of image.routines n) (instrs_of image.points)
  fault : (close t).progress.fault ≡ None
  placed : 0 < n → without_routine t.progress.part ≡ None

room_left : (routines : List TextRoutine) (full : Bool) → nat_le 32 (length routines) ≡ full → length routines < 32
    → cond full (Some TooMany) None ≡ None
room_left routines false e lt = refl
room_left routines true e lt = let more = leb-true 32 (length routines) e in absurd (omega (arith, more, lt))

next_taken : {A : Type 0} (xs : List A) (k : ℕ) (x : A) → slice_get xs k ≡ Some x → take k xs ++ x ∷ [] ≡ take (suc k) xs
next_taken [] k x e = absurd cc
next_taken (y ∷ xs) zero x e = let same : x ≡ y = cc in ap (λ z. z ∷ []) same
next_taken (y ∷ xs) (suc k) x e = ap (λ zs. y ∷ zs) (next_taken xs k x e)

module _ (image : Parts) (known : Facts image) where
  complete : (n : ℕ) (t : Draft) → Between image n t → n ≤ length image.routines → length (close t).routines ≡ n
  complete n t b le =
      let mapped = length-map (close t).routines routine_of in
      let took = length-take n image.routines in
      let same = ap length b.routines in
      omega (arith, mapped, took, same, le)

  -- a routine begins after the routines before it
  begins : (m n : ℕ) (r : Routine) (t : Draft) → Between image n t → n < length image.routines
      → begin m (Ok (begun_as r)) (close t) ≡ drafted (close t).routines (take (start_of image.routines n + 0) (instrs_of image.points))
      (head m false false) m (begun_as r)
  begins m n r t b lt =
      let rs = (close t).routines in
      let F = (close t).progress.fault in
      let done = complete n t b (omega (arith, lt)) in
      let few = known.few in
      let left : no_room rs ≡ None = room_left rs (nat_le 32 (length rs)) refl (omega (arith, done, lt, few)) in
      let start = start_of image.routines n in
      let same : start ≡ start + 0 = omega arith in
      ap (λ why. record {
        routines = rs;
        code = t.code;
        progress =
            record { part = head m false false; current = begun_by m (Ok (begun_as r)) why; waiting = None; fault = first F (at_line m why) };
      }) left
      ∙ ap (λ f. record {
        routines = rs;
        code = t.code;
        progress =
            record { part = head m false false; current = Some (record { line = m; routine = begun_as r }); waiting = None; fault = first f None };
      })
      b.fault
      ∙ ap (λ code. drafted rs code (head m false false) m (begun_as r)) (b.code ∙ ap (λ k. take k (instrs_of image.points)) same)

  filled : (part : TextPart) (count : ℕ) → 0 < count → part_behind image known part count ≡ body
  filled part zero some = absurd (omega (arith, some))
  filled part (suc count) some = refl

  -- the routine is complete after its lines
  ends : (n m : ℕ) (r : Routine) (routines : List TextRoutine) (part : TextPart) → slice_get image.routines n ≡ Some r
      → 0 < r.count → map routine_of routines ≡ take n image.routines
      → Between image (suc n) (behind image known routines part m r (start_of image.routines n) r.count)
  ends n m r routines part e some before =
      let full = filled part r.count some in
      record {
        routines = routines-push routines (record { line = m; routine = r }) ∙ ap (λ (front : List Routine). front ++ r ∷ []) before
            ∙ next_taken image.routines n r e;
        code = ap (λ k. take k (instrs_of image.points)) (sym (start_of-next image.routines n r e));
        fault = ap unfilled full;
        placed = λ lt. ap without_routine full;
      }

  routine-taken : (m n : ℕ) (r : Routine) (t : Draft) → slice_get image.routines n ≡ Some r → n < length image.routines → Between image n t
      → Between image (suc n) (take_lines (names_in image) m (routine_lines image (start_of image.routines n) r) t)
  routine-taken m n r t e lt b =
      let is = known.routine n r e in
      let rs = (close t).routines in
      let start = start_of image.routines n in
      let code = take (start + 0) (instrs_of image.points) in
      let entry = row_lines (codes "in") r.entry in
      let exit = row_lines (codes "out") r.exit in
      let places = lines_below r.count (λ k. place_lines image (start + k)) in
      let none_in = is_empty (row_words r.entry) in
      let none_out = is_empty (row_words r.exit) in
      let with_in : Routine = record (begun_as r) { entry = r.entry } in
      let with_out : Routine = record with_in { exit = r.exit } in
      let part = head m (not none_in) (not none_out) in
      let one = drafted rs code (head m false false) m (begun_as r) in
      let two = drafted rs code (head m (not none_in) false) m with_in in
      let three = drafted rs code part m with_out in
      let last = behind image known rs part m r start r.count in
      let rows = one_by_one image known entry exit one two three
      (entry-taken image known none_in r.entry rs code m false m (begun_as r) refl is.entry refl)
      (exit-taken image known none_out r.exit rs code m (not none_in) m with_in refl is.exit refl) in
      let all = one_by_one image known (entry ++ exit) places one three last rows
      (places-taken image known rs part m r start r.count refl (room image known n r e)) in
      let made = ap (take_lines (names_in image) (m + 1) (entry ++ exit ++ places)) (head-taken image known m r t is ∙ begins m n r t b lt)
      ∙ all (m + 1) in
      subst (Between image (suc n)) (sym made) (ends n m r rs part e is.some b.routines)

  routines-taken : (n : ℕ) → n ≤ length image.routines → Between image n (take_lines (names_in image) 1 (lines_below n (lines_at image)) blank)
  routines-taken zero le = record { routines = refl; code = refl; fault = refl; placed = λ lt. absurd (omega (arith, lt)) }
  routines-taken (suc n) le =
      let front = lines_below n (lines_at image) in
      let at = item_at image.routines n (omega (arith, le)) in
      let t = take_lines (names_in image) 1 front blank in
      let m = 1 + length front in
      let made = takes-both image known 1 front (lines_at image n) blank
      ∙ ap (λ o. take_lines (names_in image) m (option_map_or (routine_lines image (start_of image.routines n)) o []) t) at.1 in
      subst (Between image (suc n)) (sym made) (routine-taken m n at.0 t at.1 (omega (arith, le)) (routines-taken n (omega (arith, le))))

  all_instrs : take (start_of image.routines (length image.routines)) (instrs_of image.points) ≡ instrs_of image.points
  all_instrs =
      let end : start_of image.routines (length image.routines) ≡ length image.points = start_of-all image.routines
      (length image.routines) (omega arith) ∙ known.sums in
      let many = length-map image.points (λ (point : Point). point.instr) in
      take_all (start_of image.routines (length image.routines)) (instrs_of image.points) (omega (arith, end, many))

-- the text that lists an image has its code
pub list-again : (image : Parts) → is_image image ≡ true → All RoutineFits image.routines → IsTextOf image (listing image)
list-again image legal fits =
    let known = facts image legal fits in
    let text = listing image in
    let names = names_in image in
    let n = length image.routines in
    let b = routines-taken image known n (omega arith) in
    let d = state image n (length image.points) in
    let draft = draft_of names (listing_lines image) in
    let are = listing-lines image known in
    let fits_text : too_long text ≡ None = ap (λ t. cond t (Some (record { line = 1; why = TooMany })) None)
    (le-ltb 1048576 (length text) (listing-short image known)) in
    let rest = first draft.progress.fault (without_routine draft.progress.part) in
    let no_fault : fault_by text d draft ≡ None =
    ap (λ o. first (first o None) rest) fits_text ∙ ap (λ o. first o (without_routine draft.progress.part)) b.fault ∙ b.placed known.some in
    record {
      code = record { routines = draft.routines; instrs = draft.code };
      read = code_of-found text d draft None (sym (ap declared are ∙ listing-declared image known)) (sym (ap (draft_of names) are)) (sym no_fault);
      has = record {
        routines = sym (b.routines ∙ take_all n image.routines (omega arith));
        instrs = sym (b.code ∙ all_instrs image known);
      };
    }

-- so it is where a text is answered
pub listed-again : {A E : Type 0} (image : Parts) (answer : Result (Vec ℕ A) E) → is_image image ≡ true
    → IfOk answer (λ text. text.items ≡ listing image)
    → OnOk answer (All RoutineFits image.routines) → IfOk answer (λ text. IsTextOf image text.items)
listed-again image (Ok text) legal is fits = subst (IsTextOf image) (sym is) (list-again image legal fits)
listed-again image (Err e) legal is fits = tt
