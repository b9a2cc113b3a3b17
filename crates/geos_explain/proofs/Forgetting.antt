-- The call that `forgetting_call` returns forgets the item.
use Rattle.std.proofs.Common.{◌≡◌, ◌+◌, ◌≤◌, ℕ, zero, suc, Bool, true, false, not, Option, Some, None, slice_get, refl, subst, arith}
use Rattle.std.specs.Prelude.{◌&&◌}
use Rattle.geos_explain.proofs.Below.{and_parts, cond_both, not-true, KnownPlace, places, start_of, after, has_edge, Edge, Back, end_of, elim_both}
use Rattle.geos_explain.specs.declared.forgotten.Item.{Item}
use Rattle.geos_explain.specs.Forgotten.{knows, comes_lacked, stays_lacked, is_lacked_from, forgets_item, forgets_at, IsLackedFrom, IsForgottenBy, WhatIsSaidOfCallsHolds, moves, moves_at, if_round, IsMovedRound, WhatIsSaidOfRoundsHolds}
use Rattle.geos_explain.specs.Places.{Place, comes_alike, last_of}
use Rattle.geos_explain.specs.Since.{IsInside}
use Rattle.geos_explain.specs.Ways.{forgets}
use Rattle.geos_explain.proofs.Leads.{leads-is}
use Rattle.geos_explain.proofs.Holding.{inside-at}

module _ (place : Place) (item : Item) where
  lacked-from : (to pc : ℕ) → is_lacked_from place item to pc ≡ true → IsLackedFrom place item pc to
  lacked-from to pc is = (leads-is place.image Back (λ edge end. stays_lacked place item edge) to pc).0 is

  forgets-forgotten : (from : ℕ) → IsInside place from → forgets_at place item from ≡ true → IsForgottenBy place item from
  unfolding forgets_at
  forgets-forgotten from inside_here =
      elim_both (slice_get (places place.image) from) false (λ (point : KnownPlace). forgets_item place item from point)
      (λ b. b ≡ true → IsForgottenBy place item from) (λ none is. absurd cc) (λ point e is. (
      let edge : Edge = record { from = from; branch = false } in
      let last = and_parts (forgets point.instr.opcode && knows point.row item && comes_lacked place item edge point)
      (not (knows (after place.image from point.row false) item)) is in
      let second = and_parts (forgets point.instr.opcode && knows point.row item) (comes_lacked place item edge point) last.0 in
      let first = and_parts (forgets point.instr.opcode) (knows point.row item) second.0 in
      let end = end_of edge point.instr in
      let alike = comes_alike place from in
      let has = and_parts (is_lacked_from place item place.pc end && alike) (has_edge point.instr false) second.1 in
      let comes = and_parts (is_lacked_from place item place.pc end) alike has.0 in
      record {
        inside = inside_here;
        next = end;
        comes = record { point = point; there = e; alike = comes.1; has = has.1; ends = refl };
        calls = first.0;
        known = first.1;
        lost = not-true (knows (after place.image from point.row false) item) last.1;
        way = lacked-from place.pc end comes.0;
      }))

  moves-round : (w from : ℕ) → is_lacked_from place item from place.pc ≡ true → moves_at place item w from ≡ true
      → IsMovedRound place item w from
  unfolding moves_at
  moves-round w from round =
      let here = is_lacked_from place item place.pc from in
      elim_both (slice_get (places place.image) from) false (λ (point : KnownPlace). here && moves point.instr point.instr.opcode w)
      (λ b. b ≡ true → IsMovedRound place item w from) (λ none is. absurd cc) (λ point e is. (
      let tests = and_parts here (moves point.instr point.instr.opcode w) is in
      record {
        point = point;
        there = e;
        does = tests.1;
        there_to = lacked-from place.pc from tests.0;
        back = lacked-from from place.pc round;
      }))

-- if `last_of` returns an instruction of the routine, the predicate holds for it
last-of : (place : Place) (is : ℕ → Bool) (from n : ℕ) → n ≤ place.routine.count → last_of place is n ≡ Some from
    → (is from ≡ true) × IsInside place from
unfolding last_of
last-of place is from zero short = λ none. absurd cc
last-of place is from (suc n) short =
    let pc : ℕ = start_of place.image.routines place.r + n in
    cond_both (is pc) (Some pc) (last_of place is n) (λ o. o ≡ Some from → (is from ≡ true) × IsInside place from)
    (λ here same. (let is_from : pc ≡ from = cc in
    (subst (λ k. is k ≡ true) is_from here, subst (IsInside place) is_from (inside-at place 0 n (omega arith)))))
    (λ not_so. last-of place is from n (omega arith))

pub said_of_calls : WhatIsSaidOfCallsHolds
said_of_calls place item from said =
    let found = last-of place (forgets_at place item) from place.routine.count (omega arith) said in
    forgets-forgotten place item from found.1 found.0

pub said_of_rounds : WhatIsSaidOfRoundsHolds
said_of_rounds place item w from = by_last (last_of place (moves_at place item w) place.routine.count) refl
  where
    by_last : (last : Option ℕ) → last_of place (moves_at place item w) place.routine.count ≡ last
        → if_round place item last ≡ Some from → IsMovedRound place item w from
    by_last None e none = absurd cc
    by_last (Some found) e said =
        let is = last-of place (moves_at place item w) found place.routine.count (omega arith) e in
        cond_both (is_lacked_from place item found place.pc) (Some found) None (λ o. o ≡ Some from → IsMovedRound place item w from)
        (λ round same. (let is_from : found ≡ from = cc in
        subst (IsMovedRound place item w) is_from (moves-round place item w found round is.0)))
        (λ not_so none. absurd cc) said
