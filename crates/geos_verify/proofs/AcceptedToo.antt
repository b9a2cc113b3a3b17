-- An accepted image is accepted in version 2 too.
use Rattle.std.proofs.Common.{◌≡◌, ◌<◌, ◌≤◌, ◌+◌, ◌*◌, ℕ, zero, suc, Bool, true, false, List, [], ◌∷◌, Option, Some, None, length, take, drop, slice_get, slice_index, refl, sym, ap, subst, ◌∙◌, arith}
use Rattle.std.specs.Prelude.{◌&&◌, ◌||◌, ◌==◌, not, nat_le, slice_set}
use Rattle.std.specs.List.{list_any}
use Rattle.std.proofs.lemmas.Bool.{and_parts, or_parts, not-false, le-leb, leb-true, eqb-true}
use Rattle.std.proofs.lemmas.List.{drop-map}
use Rattle.geos_opcodes.specs.declared.opcode.Opcode.{Opcode}
use Rattle.geos_opcodes.specs.declared.opcode.Opcode.TheVariants.{Setkw, Call}
use Rattle.geos_image.specs.declared.instr.Instr.{Instr}
use Rattle.geos_image.specs.declared.row.Row.{Row}
use Rattle.geos_image.specs.declared.potential.Potential.{Potential}
use Rattle.geos_image.specs.declared.routine.Routine.{Routine}
use Rattle.geos_image.specs.declared.point.Point.{Point}
use Rattle.geos_image.specs.Parts.{Parts, instrs_of, start_of}
use Rattle.geos_image.specs.Keys.{key_flags, falls_through, branches, gives, kept_rows, keyed_of}
use Rattle.geos_image.proofs.Kept.{kept-instrs, kept-length, keyed-legal, keyed-same}
use Rattle.geos_verify.specs.Lists.{all2}
use Rattle.geos_verify.specs.declared.place.Place.{Place}
use Rattle.geos_verify.specs.Places.{places}
use Rattle.geos_verify.specs.Rows.{fits, bound, at_point, may_enter, may_leave}
use Rattle.geos_verify.specs.Rules.{HasPoint, IsAcceptable, Accepted, refusal, returns, entry_misfits, call_misfits, edge_unpaid, unpaid_along, unpaid_branching}
use Rattle.geos_verify.specs.Touched.{counts, calls, points_of, touches_here, touches_within, touched_by}
use Rattle.geos_verify.specs.Potentials.{pays_branching, is_paid, asked_along, are_spent, pays_along}
use Rattle.geos_verify.specs.Kept.{KeptIsAccepted}
use Rattle.geos_verify.proofs.Noted.{and-false}
use Rattle.geos_verify.proofs.Places.{found-within, item_at, places-length}
use Rattle.geos_verify.proofs.Pairwise.{both}
use Rattle.geos_verify.proofs.RowsAfter.{bound-mono}
use Rattle.geos_verify.proofs.Passing.{may_stand-mono, neither, not-both, true-not}
use Rattle.geos_verify.proofs.KeyedPlaces.{start-given}
use Rattle.geos_verify.proofs.KeyedRows.{CleanAs, clean-as, passes, stands, edges-pass}

any-instr : (g : Instr → Bool) (points : List Point) → list_any (λ point. g point.instr) points ≡ list_any g (instrs_of points)
any-instr g [] = refl
any-instr g (point ∷ points) = ap (λ (b : Bool). g point.instr || b) (any-instr g points)

take-instrs : (n : ℕ) (points : List Point) → instrs_of (take n points) ≡ take n (instrs_of points)
take-instrs zero points = refl
take-instrs (suc n) [] = refl
take-instrs (suc n) (point ∷ points) = ap (λ (is : List Instr). point.instr ∷ is) (take-instrs n points)

any-same : (g : Instr → Bool) (flags : List Bool) (points : List Point) (start count : ℕ)
    → list_any (λ point. g point.instr) (take count (drop start (kept_rows flags points))) ≡ list_any (λ point. g point.instr)
    (take count (drop start points))
any-same g flags points start count =
    let f = λ (point : Point). point.instr in
    any-instr g (take count (drop start (kept_rows flags points)))
    ∙ ap (list_any g) (take-instrs count (drop start (kept_rows flags points))
    ∙ ap (take count) (sym (drop-map f start (kept_rows flags points)) ∙ ap (drop start) (kept-instrs flags points) ∙ drop-map f start points)
    ∙ sym (take-instrs count (drop start points)))
    ∙ sym (any-instr g (take count (drop start points)))

of-same : (image : Parts) (g : Instr → Bool) (r : ℕ) → list_any (λ point. g point.instr) (points_of (keyed_of image) r) ≡ list_any
    (λ point. g point.instr) (points_of image r)
of-same image g r = go (slice_get image.routines r) refl
  where
    go : (o : Option Routine) → slice_get image.routines r ≡ o → list_any (λ point. g point.instr)
        (points_of (keyed_of image) r) ≡ list_any (λ point. g point.instr) (points_of image r)
    go None e = rw (e, points_of) refl
    go (Some routine) e = rw (e, points_of) (any-same g (key_flags image.routines (instrs_of image.points)) image.points
        (start_of image.routines r) routine.count)

any-ext : (f g : Instr → Bool) (points : List Point) → ((i : Instr) → f i ≡ g i)
    → list_any (λ point. f point.instr) points ≡ list_any (λ point. g point.instr) points
any-ext f g [] e = refl
any-ext f g (point ∷ points) e = rw (e point.instr, any-ext f g points e) refl

-- a routine touches the same counters
here-same : (image : Parts) (k depth : ℕ) → ((c : ℕ) → touches_within depth (keyed_of image) k c ≡ touches_within depth image k c)
    → (i : Instr) → touches_here (touches_within depth (keyed_of image) k) k i ≡ touches_here (touches_within depth image k) k i
here-same image k depth same i = ap (λ (b : Bool). (counts i.opcode && i.a == k) || (calls i.opcode && b)) (same i.imm)

within-same : (image : Parts) (k depth r : ℕ) → touches_within depth (keyed_of image) k r ≡ touches_within depth image k r
within-same image k zero r = refl
within-same image k (suc depth) r =
    any-ext (touches_here (touches_within depth (keyed_of image) k) k) (touches_here (touches_within depth image k) k)
    (points_of (keyed_of image) r) (here-same image k depth (λ c. within-same image k depth c))
    ∙ of-same image (touches_here (touches_within depth image k) k) r

touched-same : (image : Parts) (r : ℕ) → touched_by (keyed_of image) r ≡ touched_by image r
touched-same image r =
    let n = length image.routines in
    rw (within-same image 0 n r, within-same image 1 n r, within-same image 2 n r, within-same image 3 n r) refl

times-le : (c a b : ℕ) → a ≤ b → c * a ≤ c * b
times-le zero a b h = omega arith
times-le (suc c) a b h = let ih = times-le c a b h in omega (arith, ih, h)

-- an edge that is paid for with the weaker row before it is also paid for with the stronger row
pays-same : (image : Parts) (i : Instr) (opcode : Opcode) (R W : Row) (p q : Potential) → fits R W ≡ true
    → pays_along image i opcode W p q ≡ true → pays_along (keyed_of image) i opcode R p q ≡ true
pays-same image i Call R W p q f h = subst (λ (ts : List Bool). (is_paid (asked_along image i Call W q) p && are_spent ts q) ≡ true)
    (sym (touched-same image i.imm)) h
pays-same image i Setkw R W p q f h =
    let more = slice_index q.coefficients i.a in
    let least = bound-mono R W i.b f in
    let parts = and_parts (nat_le (q.constant + 1 + more * bound W i.b) p.constant) (all2 nat_le (slice_set q.coefficients i.a 0) p.coefficients) h in
    let asked = leb-true (q.constant + 1 + more * bound W i.b) p.constant parts.0 in
    let price : more * bound R i.b ≤ more * bound W i.b = times-le more (bound R i.b) (bound W i.b) least in
    both (nat_le (q.constant + 1 + more * bound R i.b) p.constant) (all2 nat_le (slice_set q.coefficients i.a 0) p.coefficients)
    (le-leb _ _ (omega (arith, asked, price))) parts.1
pays-same image i _ R W p q f h = h

-- potentials are the same
paid-there : (image : Parts) (to : ℕ) (old new : Potential → Bool) → ((q : Potential) → old q ≡ true → new q ≡ true)
    → at_point image to (λ q. old q.potential) ≡ true → at_point (keyed_of image) to (λ q. new q.potential) ≡ true
paid-there image to old new step h = go (key_flags image.routines (instrs_of image.points)) image.points to h
  where
    go : (flags : List Bool) (points : List Point) (to : ℕ) → elim (slice_get points to) [ None ↦ true | Some q ↦ old q.potential ] ≡ true
        → elim (slice_get (kept_rows flags points) to) [ None ↦ true | Some q ↦ new q.potential ] ≡ true
    go flags [] to h = refl
    go [] (point ∷ points) zero h = step point.potential h
    go [] (point ∷ points) (suc to) h = go [] points to h
    go (flag ∷ flags) (point ∷ points) zero h = step point.potential h
    go (flag ∷ flags) (point ∷ points) (suc to) h = go flags points to h

module _ (image : Parts) (checked : IsAcceptable image) (all : image.keyed ≡ false) (r : ℕ) (routine : Routine)
    (pc : ℕ) (p : Place) (has : HasPoint image r routine pc p) where
  abbrev start : ℕ
  start = start_of image.routines r

  abbrev i : Instr
  i = p.instr

  -- no rule refuses a place that knows as much
  refuses-none : (C : CleanAs image checked all r routine pc p) → refusal (keyed_of image) r routine start pc (record p { row = C.known.row }) ≡ None
  unfolding entry_misfits call_misfits edge_unpaid unpaid_along unpaid_branching
  refuses-none C =
      let K = C.known in
      let R = K.row in
      let pass = passes image checked all r routine pc p has in
      let stand = may_stand-mono image r routine i R p.row K.fit (stands image checked all r routine pc p has) in
      let entry : entry_misfits routine start pc R ≡ false = not-both (pc == start)
      (not (fits routine.entry R) || (routine.public && not (may_enter routine.entry && may_leave routine.entry routine.exit))) (λ here.
      let at = eqb-true pc start here in
      let given = start-given image checked.0 all r routine p has.there (ap (slice_get (places image)) (sym at) ∙ has.read) in
      subst (λ (x : Row). (not (fits routine.entry x) ||
      (routine.public && not (may_enter routine.entry && may_leave routine.entry routine.exit))) ≡ false)
      (sym (K.same (subst (λ k. gives (keyed_of image) k ≡ true) (sym at) given))) (and-false (pc == start) _ pass.entry here)) in
      let call : call_misfits (keyed_of image) r i R ≡ false = stand.call in
      let edges = edges-pass image checked all r routine pc p has C in
      let paid = or_parts _ (returns i.opcode && p.potential.constant == 0) pass.paid in
      let pays = or_parts (falls_through i.opcode && not (at_point image (pc + 1) (λ q. pays_along image i i.opcode p.row p.potential q.potential)))
      _ paid.0 in
      let along : (falls_through i.opcode && not
      (at_point (keyed_of image) (pc + 1) (λ q. pays_along (keyed_of image) i i.opcode R p.potential q.potential))) ≡ false =
      not-both (falls_through i.opcode) _
      (λ falls. true-not _ (paid-there image (pc + 1) (λ q. pays_along image i i.opcode p.row p.potential q)
      (λ q. pays_along (keyed_of image) i i.opcode R p.potential q) (λ q h. pays-same image i i.opcode R p.row p.potential q K.fit h)
      (not-false _ (and-false (falls_through i.opcode) _ pays.0 falls)))) in
      let branching : (branches i.opcode && not
      (at_point (keyed_of image) i.target (λ q. pays_branching i i.opcode p.potential q.potential))) ≡ false =
      not-both (branches i.opcode) _
      (λ branch. true-not _ (paid-there image i.target (λ q. pays_branching i i.opcode p.potential q)
      (λ q. pays_branching i i.opcode p.potential q) (λ q h. h) (not-false _ (and-false (branches i.opcode) _ pays.1 branch)))) in
      let unpaid : edge_unpaid (keyed_of image) pc i R p.potential ≡ false = neither _ (returns i.opcode && p.potential.constant == 0)
      (neither _ _ along branching) paid.1 in
      rw (
        pass.stays,
        C.clean.clean,
        entry,
        stand.fresh,
        stand.within,
        stand.marked,
        stand.unheld,
        stand.held,
        stand.freed,
        call,
        stand.exit,
        edges,
        unpaid,
        pass.budget,
      ) refl

  same-place : (x y : Place) → Some x ≡ Some y → x ≡ y
  same-place x y e = cc

  -- which is the place there
  refuses-there : (C : CleanAs image checked all r routine pc p) (q : Place) → slice_get (places (keyed_of image)) pc ≡ Some q
      → refusal (keyed_of image) r routine start pc q ≡ None
  refuses-there C q read =
      let made : Place = record p { row = C.known.row } in
      subst (λ (x : Place). refusal (keyed_of image) r routine start pc x ≡ None) (same-place made q (sym C.known.there ∙ read)) (refuses-none C)

-- so no rule refuses at any place
accepted-whole : (image : Parts) → IsAcceptable image → image.keyed ≡ false → Accepted (keyed_of image)
accepted-whole image checked all r pc routine q has_q =
    let keyed = keyed_of image in
    let lt : pc < length image.points = omega (
      arith,
      found-within (places keyed) pc q has_q.read,
      places-length keyed,
      kept-length (key_flags image.routines (instrs_of image.points)) image.points,
    ) in
    let found = item_at (places image) pc (omega (arith, lt, places-length image)) in
    let has : HasPoint image r routine pc found.0 = record { there = has_q.there; within = has_q.within; read = found.1 } in
    refuses-there image checked all r routine pc found.0 has (clean-as image checked all r routine pc found.0 has) q has_q.read

pub accepted_too : KeptIsAccepted
accepted_too image checked = (keyed-legal image checked.0, by_version image.keyed refl)
  where
    by_version : (b : Bool) → image.keyed ≡ b → Accepted (keyed_of image)
    by_version true e = subst Accepted (sym (keyed-same image checked.0 e)) checked.1
    by_version false e = accepted-whole image checked e
