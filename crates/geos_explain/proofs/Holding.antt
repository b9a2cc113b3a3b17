-- The report about a locked slot is true and complete.
use Rattle.std.proofs.Common.{◌≡◌, ◌+◌, ◌-◌, ◌<◌, ◌≤◌, ℕ, zero, suc, Bool, true, false, not, cond, Some, slice_get, refl, sym, ◌∙◌, subst, inl, inr, arith, Option, None, ap}
use Rattle.std.specs.Prelude.{◌&&◌, ◌↔◌, nat_le, nat_lt, IfSome, is_some}
use Rattle.geos_explain.proofs.Below.{and_parts, and_from, or_cases, or_left, or_right, not-true, not_from_false, cases_lt, le-leb, leb-true, lt-ltb, ltb-true, KnownPlace, places, start_of, after, has_edge, Edge, Back, end_of, elim_both}
use Rattle.geos_explain.specs.declared.since.Since.{Since}
use Rattle.geos_explain.specs.Places.{Place, comes_alike}
use Rattle.geos_explain.specs.Since.{holds, keeps_along, leads_held, leads_on, stays_held, is_held_from, fills_at, named_of, also, since_entry, since_below, IsInside, IsHeldFrom, IsSince, IsSinceEntry, WhatIsSaidOfSlotsHolds}
use Rattle.geos_explain.proofs.Leads.{leads-is}

module _ (place : Place) (a : ℕ) where
  abbrev start : ℕ
  start = start_of place.image.routines place.r

  pub inside-at : (k : ℕ) → k < place.routine.count → IsInside place (start + k)
  inside-at k short =
      let below : start + k < start + place.routine.count = omega arith in
      and_from (nat_le start (start + k)) (nat_lt (start + k) (start + place.routine.count)) (le-leb start (start + k) (omega arith))
      (lt-ltb (start + k) (start + place.routine.count) below)

  abbrev edge_at : ℕ → Bool → Edge
  edge_at from branch = record { from = from; branch = branch }

  -- the report about the caller and the first n instructions of the routine is true and complete
  record Said (n : ℕ) (entry : Bool) (from : Option ℕ) (again : Bool) : Type 0 where
    by_caller : (entry ≡ true) ↔ IsSinceEntry place a
    named : IfSome from (λ k. IsSince place a k)
    before : IfSome from (λ k. k < start + n)
    more : again ≡ true → (k other : ℕ) × (from ≡ Some k) × IsSince place a other × ((other ≡ k) → ⊥)
    once : again ≡ false → (k : ℕ) → k < n → IsSince place a (start + k) → from ≡ Some (start + k)

  abbrev SaidOf : ℕ → Since → Type 0
  SaidOf n since = Said n since.entry since.from since.again

  -- one of two instructions is named
  two-said : (n last : ℕ) (entry : Bool) (b : Bool) → (entry ≡ true) ↔ IsSinceEntry place a → last < start + n → IsSince place a last
      → IsSince place a (start + n) → Said (suc n) entry (Some (cond b (start + n) last)) true
  two-said n last entry true caller less was here = record {
    by_caller = caller;
    named = here;
    before = omega arith;
    more = λ so. (start + n, last, refl, was, λ same. omega (arith, same, less));
    once = λ wrong. absurd cc;
  }
  two-said n last entry false caller less was here = record {
    by_caller = caller;
    named = was;
    before = omega arith;
    more = λ so. (last, start + n, refl, here, λ same. omega (arith, same, less));
    once = λ wrong. absurd cc;
  }

  -- adds an instruction that locked the slot
  more-said : (n : ℕ) (entry : Bool) (from : Option ℕ) (again : Bool) → Said n entry from again → IsSince place a (start + n)
      → Said (suc n) entry (Some (named_of place.pc from (start + n))) (is_some from)
  more-said n entry None true said here = let wrong = (said.more refl).2 in absurd cc
  more-said n entry None false said here = record {
    by_caller = said.by_caller;
    named = here;
    before = omega arith;
    more = λ so. absurd cc;
    once = λ single k less since. elim (cases_lt k n) [
      | inl within ↦ (let wrong = said.once refl k within since in absurd cc)
      | inr past ↦ (let same : n ≡ k = omega arith in ap (λ m. Some (start + m)) same)
    ];
  }
  more-said n entry (Some last) again said here = two-said n last entry (nat_lt (start + n) place.pc) said.by_caller said.before said.named here

  -- adds an instruction that did not lock the slot
  no-more : (n : ℕ) (entry : Bool) (from : Option ℕ) (again : Bool) → Said n entry from again → (IsSince place a (start + n) → ⊥)
      → Said (suc n) entry from again
  no-more n entry from again said none = record {
    by_caller = said.by_caller;
    named = said.named;
    before = further from said.before;
    more = said.more;
    once = λ single k less since. elim (cases_lt k n) [
      | inl within ↦ said.once single k within since
      | inr past ↦ (let same : k ≡ n = omega arith in absurd (none (subst (λ m. IsSince place a (start + m)) same since)))
    ];
  }
    where
      further : (from : Option ℕ) → IfSome from (λ k. k < start + n) → IfSome from (λ k. k < start + suc n)
      further None less = tt
      further (Some k) less = omega (arith, less)

  also-said : (since : Since) (n : ℕ) (here : Bool) → SaidOf n since → (here ≡ true → IsSince place a (start + n))
      → (IsSince place a (start + n) → here ≡ true) → SaidOf (suc n) (also place.pc since (start + n) here)
  also-said since n true said is all = more-said n since.entry since.from since.again said (is refl)
  also-said since n false said is all = no-more n since.entry since.from since.again said (λ so. (let wrong = all so in absurd cc))

  held-from : (pc : ℕ) → (is_held_from place a pc ≡ true) ↔ IsHeldFrom place a pc
  held-from pc = leads-is place.image Back (λ edge end. stays_held place a edge) place.pc pc

  edge-since : (from : ℕ) (point : KnownPlace) → IsInside place from → slice_get (places place.image) from ≡ Some point
      → holds point.row a ≡ false → (branch : Bool) → leads_held place a (edge_at from branch) point ≡ true → IsSince place a from
  edge-since from point inside there empty branch is =
      let to = end_of (edge_at from branch) point.instr in
      let alike = comes_alike place from in
      let has = has_edge point.instr branch in
      let behind = holds (after place.image from point.row branch) a in
      let first = and_parts (is_held_from place a to) (alike && has && behind) is in
      let last = and_parts (alike && has) behind first.1 in
      let second = and_parts alike has last.0 in
      record {
        inside = inside;
        branch = branch;
        to = to;
        comes = record { point = point; there = there; alike = second.0; has = second.1; ends = refl };
        empty = empty;
        held = last.1;
        way = (held-from to).0 first.0;
      }

  fills-since : (from : ℕ) → IsInside place from → fills_at place a from ≡ true → IsSince place a from
  unfolding fills_at
  fills-since from inside = elim_both (slice_get (places place.image) from) false
      (λ (point : KnownPlace). not (holds point.row a) && leads_on place a from point) (λ b. b ≡ true → IsSince place a from)
      (λ none is. absurd cc)
      (λ point there is. (let tests = and_parts (not (holds point.row a)) (leads_on place a from point) is in
      let since = edge-since from point inside there (not-true (holds point.row a) tests.0) in
      elim (or_cases (leads_held place a (edge_at from false) point)
      (leads_held place a (edge_at from true) point) tests.1) [
        | inl along ↦ since false along
        | inr aside ↦ since true aside
      ]))

  fills-all : (from : ℕ) → IsSince place a from → fills_at place a from ≡ true
  unfolding fills_at
  fills-all from since = rw (since.comes.there, fills_at)
      (and_from (not (holds point.row a)) (leads_on place a from point) (not_from_false (holds point.row a) since.empty) (on since.branch refl))
    where
      point : KnownPlace
      point = since.comes.point

      leads : (branch : Bool) → since.branch ≡ branch → leads_held place a (edge_at from branch) point ≡ true
      leads branch is = subst (λ b. leads_held place a (edge_at from b) point ≡ true) is
          (and_from (is_held_from place a (end_of (edge_at from since.branch) point.instr)) (keeps_along place a (edge_at from since.branch) point)
          ((held-from (end_of (edge_at from since.branch) point.instr)).1 (subst (λ k. IsHeldFrom place a k) (sym since.comes.ends) since.way))
          (and_from (comes_alike place from && has_edge point.instr since.branch) (holds (after place.image from point.row since.branch) a)
          (and_from (comes_alike place from) (has_edge point.instr since.branch) since.comes.alike since.comes.has) since.held))

      on : (branch : Bool) → since.branch ≡ branch → leads_on place a from point ≡ true
      on false is = or_left _ (leads_held place a (edge_at from true) point) (leads false is)
      on true is = or_right (leads_held place a (edge_at from false) point) _ (leads true is)

  entry-said : Said zero (since_entry place a) None false
  entry-said =
      let held = holds place.routine.entry a in
      record {
        by_caller = (
          λ is. (let tests = and_parts held (is_held_from place a start) is in record { held = tests.0; way = (held-from start).0 tests.1 }),
          λ since. and_from held (is_held_from place a start) since.held ((held-from start).1 since.way),
        );
        named = tt;
        before = tt;
        more = λ so. absurd cc;
        once = λ single k less since. absurd (omega (arith, less));
      }

  below-said : (n : ℕ) → n ≤ place.routine.count → SaidOf n (since_below place a n)
  unfolding since_below
  below-said zero short = entry-said
  below-said (suc n) short = also-said (since_below place a n) n (fills_at place a (start + n)) (below-said n (omega arith))
      (fills-since (start + n) (inside-at n (omega arith))) (fills-all (start + n))

  -- each is one of the routine's
  nth : (from : ℕ) → IsSince place a from → (k : ℕ) × (k < place.routine.count) × (start + k ≡ from)
  nth from since =
      let parts = and_parts (nat_le start from) (nat_lt from (start + place.routine.count)) since.inside in
      let above = leb-true start from parts.0 in
      let below = ltb-true from (start + place.routine.count) parts.1 in
      (from - start, omega (arith, above, below), omega (arith, above, below))

pub said_of_slots : WhatIsSaidOfSlotsHolds
said_of_slots place a =
    let said = below-said place a place.routine.count (omega arith) in
    record {
      entry = said.by_caller;
      from = said.named;
      again = said.more;
      once = λ single other since. (let n = nth place a other since in
          said.once single n.0 n.1 (subst (λ m. IsSince place a m) (sym n.2) since) ∙ ap (λ m. Some m) n.2);
    }
